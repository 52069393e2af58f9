-- Wordings of 'It gets there' that look right and are false, each with a list of events that shows it: what each condition is there for.
use Rattle.std.specs.Prelude.{◌≡◌, refl, true, List, [], ◌∷◌, map, ℕ, ◌-◌, ◌<◌, ◌≤◌, length, get_or, replicate, set, take}
use Rattle.std.proofs.Common.{ap, arith}
use Rattle.numbers.specs.Every.{Every, none, more}
use Rattle.table.specs.Table.{rate}
use Rattle.event.specs.Event.{event, bytes_of, event_in}
use Rattle.event.specs.Kinds as Kind
use Rattle.motion.specs.Motion.{run_ticks}
use Rattle.rules.specs.Commands.{commands}
use Rattle.rules.specs.Rank.{Source, backup, bus, tool, hand, target_of}
use Rattle.damper.specs.declared.Drive.{Drive}
use Rattle.damper.specs.Record.{drive, last, no_run}
use Rattle.damper.specs.WellFormed.{well_formed}
use Rattle.damper.specs.Tick.{ruling_source}
use Rattle.damper.specs.Step.{step_of}
use Rattle.history.specs.Readings.{is_tick}
use Rattle.arrival.specs.Arrival.{tick_source, tick_target, Ruled, drives_found, after, RuledForK, tick_accepted, rate_written}
use Rattle.arrival.specs.Theorem.{drive_settles}
use Rattle.arrival.specs.Witnesses.{computation, ticks_found, writes_found, standing, rated, tick_bytes, write, setpoint, damaged, hand_on, percent, each_ruled, ruled_targets}

-- an equation of numbers
infix 4 ◌≡ℕ◌
abbrev ◌≡ℕ◌ : ℕ → ℕ → Type 0
m ≡ℕ n = m ≡ n

-- conditions of a drive, a list, a source and a target
abbrev Conditions : Type 1
Conditions = Drive → List (List ℕ) → Source → ℕ → Type 0

-- on these, every well-formed drive stands at the target after the list
abbrev Arrives : Conditions → Type 0
Arrives On = (d : Drive) (l : List (List ℕ)) (c : Source) (t : ℕ) → well_formed d ≡ true → On d l c t → (after step_of d l).position ≡ t

-- The conditions as they are.
abbrev Asked : Conditions
Asked d l c t = (d.position < 256) × RuledForK step_of tick_accepted rate_written d c t l

pub asked_is_right : Arrives Asked
asked_is_right d l c t w a = (drive_settles d w a.0 c t l a.1).0

-- which do not hold of a list that shows another wording to be false
abbrev Unmet : Drive → List (List ℕ) → Source → ℕ → Type 0
Unmet d l c t = RuledForK step_of tick_accepted rate_written d c t l → ⊥

-- One tick fewer than K.
abbrev OneFewer : Conditions
OneFewer d l c t =
    (d.position < 256) × Every (Ruled c t) (ticks_found d l) × (writes_found d l ≡ []) × (run_ticks (rate d.params) - 1 ≤ length (ticks_found d l))

-- Rate 5, whose K is 51, from 0 to 255: 50 ticks reach 250.
abbrev fifty : List (List ℕ)
fifty = setpoint 255 ∷ replicate 50 tick_bytes

pub one_fewer_is_wrong : (Arrives OneFewer → ⊥) × Unmet (standing 0 (rated 5)) fifty bus 255
unfolding computation
one_fewer_is_wrong = (
  λ f.
      let reached : 250 ≡ℕ 255 = f (standing 0 (rated 5)) fifty bus 255 refl (omega arith, each_ruled bus 255 _ refl refl, refl, omega arith) in
      absurd (omega arith),
  λ r. let short : 51 ≤ 50 = r.enough in absurd (omega arith),
)

-- Rate may be written, and K is that of the Rate at first.
abbrev WrittenFirst : Conditions
WrittenFirst d l c t = (d.position < 256) × Every (Ruled c t) (ticks_found d l) × (run_ticks (rate d.params) ≤ length (ticks_found d l))

-- Rate 255, whose K is 1; then Rate 1, and a tick.
abbrev rate_lowered : List (List ℕ)
rate_lowered = setpoint 255 ∷ write 203 1 ∷ tick_bytes ∷ []

pub written_first_is_wrong : (Arrives WrittenFirst → ⊥) × Unmet (standing 0 (rated 255)) rate_lowered bus 255
unfolding computation
written_first_is_wrong = (
  λ f.
      let reached : 1 ≡ℕ 255 = f (standing 0 (rated 255)) rate_lowered bus 255 refl (omega arith, each_ruled bus 255 _ refl refl, omega arith) in
      absurd (omega arith),
  λ r. let writes : 1 ≡ℕ 0 = ap length r.unwritten in absurd (omega arith),
)

-- Rate may be written, and K is that of the Rate at last.
abbrev WrittenLast : Conditions
WrittenLast d l c t = (d.position < 256) × Every (Ruled c t) (ticks_found d l) × (run_ticks (rate (after step_of d l).params) ≤ length (ticks_found d l))

-- Rate 1, whose K is 255, and a tick; then Rate 255.
abbrev rate_raised : List (List ℕ)
rate_raised = setpoint 255 ∷ tick_bytes ∷ write 203 255 ∷ []

pub written_last_is_wrong : (Arrives WrittenLast → ⊥) × Unmet (standing 0 (rated 1)) rate_raised bus 255
unfolding computation
written_last_is_wrong = (
  λ f.
      let reached : 1 ≡ℕ 255 = f (standing 0 (rated 1)) rate_raised bus 255 refl (omega arith, each_ruled bus 255 _ refl refl, omega arith) in
      absurd (omega arith),
  λ r. let short : 255 ≤ 1 = r.enough in absurd (omega arith),
)

-- The source is asked for at each tick, the target at the first alone.
abbrev FirstTarget : Conditions
FirstTarget d l c t =
    (d.position < 256)
    × (map tick_source (ticks_found d l) ≡ replicate (length (ticks_found d l)) c)
    × Every (Ruled c t) (take 1 (ticks_found d l))
    × (writes_found d l ≡ [])
    × (run_ticks (rate d.params) ≤ length (ticks_found d l))

-- The hand at 255 at one tick, at 0 at two more.
abbrev hand_turned : List (List ℕ)
hand_turned = hand_on 255 ∷ tick_bytes ∷ hand_on 0 ∷ tick_bytes ∷ tick_bytes ∷ []

pub first_target_is_wrong : (Arrives FirstTarget → ⊥) × Unmet (standing 0 (rated 100)) hand_turned hand 255
unfolding computation
first_target_is_wrong = (
  λ f.
      let reached : 0 ≡ℕ 255 =
      f (standing 0 (rated 100)) hand_turned hand 255 refl (omega arith, refl, each_ruled hand 255 _ refl refl, refl, omega arith) in
      absurd (omega arith),
  λ r.
      let targets : ◌≡◌ {A = List ℕ} (255 ∷ 0 ∷ 0 ∷ []) (255 ∷ 255 ∷ 255 ∷ []) = ruled_targets r.ruled in
      let second : 0 ≡ℕ 255 = ap (λ (ts : List ℕ). get_or ts 1 0) targets in
      absurd (omega arith),
)

-- Source and target are those of the record as it stands before the tick, whose first step is not done.
abbrev RuledBefore : Source → ℕ → Drive → Type 0
RuledBefore c t d = (ruling_source d ≡ c) × (target_of d.commands d.run.kind d.position d.params (ruling_source d) ≡ t)

abbrev BeforeFirstStep : Conditions
BeforeFirstStep d l c t =
    (d.position < 256) × Every (RuledBefore c t) (ticks_found d l) × (writes_found d l ≡ []) × (run_ticks (rate d.params) ≤ length (ticks_found d l))

-- Timeout 3, and a setpoint whose age is 1, 2 and 3 before three ticks: at the last of them it is 4, and backup rules.
abbrev aging : Drive
aging = drive 0 (set (rated 100) 7 3) (commands 0 0 0 0 0 0 1 255) 1 no_run 0 (last 0 0 0) 0 0

pub before_first_step_is_wrong : (Arrives BeforeFirstStep → ⊥) × Unmet aging (replicate 3 tick_bytes) bus 255
unfolding computation
before_first_step_is_wrong = (
  λ f.
      let reached : 100 ≡ℕ 255 =
      f aging (replicate 3 tick_bytes) bus 255 refl
      (omega arith, more (refl, refl) (more (refl, refl) (more (refl, refl) none)), refl, omega arith) in
      absurd (omega arith),
  λ r.
      let targets : ◌≡◌ {A = List ℕ} (255 ∷ 255 ∷ 0 ∷ []) (255 ∷ 255 ∷ 255 ∷ []) = ruled_targets r.ruled in
      let third : 0 ≡ℕ 255 = ap (λ (ts : List ℕ). get_or ts 2 0) targets in
      absurd (omega arith),
)

-- Refused ticks count as ticks.
abbrev RefusedCount : Conditions
RefusedCount d l c t =
    (d.position < 256)
    × Every (Ruled c t) (ticks_found d l)
    × (writes_found d l ≡ [])
    × (run_ticks (rate d.params) ≤ length (drives_found step_of (λ e s. is_tick (event_in s)) d l))

-- One tick and two damaged ones.
abbrev two_damaged : List (List ℕ)
two_damaged = setpoint 255 ∷ tick_bytes ∷ damaged ∷ damaged ∷ []

pub refused_count_is_wrong : (Arrives RefusedCount → ⊥) × Unmet (standing 0 (rated 100)) two_damaged bus 255
unfolding computation
refused_count_is_wrong = (
  λ f.
      let reached : 100 ≡ℕ 255 = f (standing 0 (rated 100)) two_damaged bus 255 refl (omega arith, each_ruled bus 255 _ refl refl, refl, omega arith) in
      absurd (omega arith),
  λ r. let short : 3 ≤ 1 = r.enough in absurd (omega arith),
)

-- From any number as a position, and not from one of a byte.
abbrev AnyNumber : Conditions
AnyNumber d l c t = RuledForK step_of tick_accepted rate_written d c t l

-- From 1000 toward 0 by a tick of Rate 255.
pub any_number_is_wrong : Arrives AnyNumber → ⊥
unfolding computation
any_number_is_wrong f =
    let reached : 745 ≡ℕ 0 =
    f (standing 1000 (rated 255)) (tick_bytes ∷ []) backup 0 refl
    record { ruled = each_ruled backup 0 _ refl refl; unwritten = refl; enough = omega arith } in
    absurd (omega arith)

-- The drive stays while the source rules, whatever its target becomes.
abbrev SourceStays : Type 0
SourceStays =
    (d : Drive) (l : List (List ℕ)) (c : Source) (t : ℕ) → well_formed d ≡ true → Ruled c t d → d.position ≡ t
    → map tick_source (ticks_found d l) ≡ replicate (length (ticks_found d l)) c → (after step_of d l).position ≡ t

-- The hand at 180, where the drive stands, and then at 0.
pub source_stays_is_wrong : SourceStays → ⊥
unfolding computation
source_stays_is_wrong f =
    let reached : 80 ≡ℕ 180 =
    f (drive 180 (rated 100) (commands 0 0 1 180 0 0 0 0) 0 no_run 0 (last 0 0 0) 0 0) (hand_on 0 ∷ tick_bytes ∷ []) hand 180 refl
    record { source = refl; target = refl } refl refl in
    absurd (omega arith)

-- That one source rules is no condition of arriving: here bus, hand and tool have the same target at one tick each.
abbrev three : List (List ℕ)
three = setpoint 255 ∷ tick_bytes ∷ hand_on 255 ∷ tick_bytes ∷ bytes_of (event Kind.hand 0 0 0) ∷ percent 100 Kind.override ∷ tick_bytes ∷ []

pub sources_may_change : (map tick_source (ticks_found (standing 0 (rated 100)) three) ≡ bus ∷ hand ∷ tool ∷ [])
    × (map tick_target (ticks_found (standing 0 (rated 100)) three) ≡ replicate 3 255)
    × ((after step_of (standing 0 (rated 100)) three).position ≡ 255)
unfolding computation
sources_may_change = (refl, refl, refl)
