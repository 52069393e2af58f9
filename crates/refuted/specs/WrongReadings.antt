-- Readings of the list of events that look right and are wrong: each differs in one thing from the one of the crate `history`, and a short
-- list of event records shows it. What document 01 reads off that list is written out as a number.
use Rattle.std.specs.Prelude.{◌≡◌, refl, Bool, true, not, ◌&&◌, ◌||◌, List, [], ◌∷◌, ℕ, ◌*◌, ◌/◌, ltb, eqb, length}
use Rattle.std.proofs.Common.{sym, eqb-true}
use Rattle.std.proofs.lemmas.Bool.{false≢true, eqb-false, not-true}
use Rattle.numbers.specs.Numbers.{pick, on, bit}
use Rattle.numbers.specs.Laws.{and_left, and_right}
use Rattle.table.specs.Table as Table
use Rattle.event.specs.declared.Event.{Event}
use Rattle.event.specs.Kinds as Kind
use Rattle.event.specs.Event.{event, event_in, value_of}
use Rattle.motion.specs.Motion.{run_ticks}
use Rattle.rules.specs.Rank.{Source, backup, bus, source_at, active_byte, ruling_rank}
use Rattle.history.specs.Readings as R
use Rattle.history.specs.Claim as C
use Rattle.history.specs.Claim.{Moment, Trace}
use Rattle.refuted.specs.Events.{tick, bad_tick, setpoint, normal_write, other_property, override, calibration, restart, min_rep_time, timeout, rate}
use Rattle.refuted.specs.Closed.{computation, Each, each}
use Rattle.refuted.specs.Wrong as W
use Rattle.refuted.specs.Sentences.{waiting, At, latest_law}

-- "Bus is active if there is a setpoint and no more than Timeout ticks followed it": if fewer than Timeout did
abbrev bus_below_timeout : List Event → Bool
bus_below_timeout h = on (R.setpoint_in h) && ltb (R.setpoint_age h) (Table.timeout (R.parameters h))

-- "the tool's being command 1 or 2": command 0 counts too, and ends the override
abbrev tool_of_any : List Event → ℕ
tool_of_any h = R.value_in 0 (λ e. bit (eqb e.c Kind.override) 1) (R.latest (λ e. eqb e.kind Kind.lte_setpoint) (R.current h))

-- "after the last restart": the override looks past it
abbrev tool_past_restarts : List Event → ℕ
tool_past_restarts h = R.value_in 0 (λ e. bit (eqb e.c Kind.override) 1) (R.latest R.is_tool h)

-- "Percent p becomes position": the percent of a normal write is rounded down, not to the nearest position
abbrev setpoint_down : List Event → ℕ
setpoint_down h =
    R.value_in 0 (λ e. pick (eqb e.kind Kind.setpoint) e.a (255 * e.b / 100)) (R.latest R.is_setpoint (R.current h))

-- "Parameters and position look at the whole list, past every restart": a restart gives the parameters their fresh values
abbrev rate_since_restart : List Event → ℕ
rate_since_restart h = R.value_in 5 value_of (R.latest (R.is_write 203) (R.current h))

-- "K taken from the Rate at that start": from the Rate now
abbrev run_under : List ℕ → R.Found → ℕ
run_under q R.nothing = 0
run_under q (R.found after x before) =
    pick (not (R.ended after) && ltb (R.ticks after) (run_ticks (Table.rate q))) (R.started_by x (R.parameters before)) 0

abbrev run_by_rate_now : List Event → ℕ
run_by_rate_now h = run_under (R.parameters h) (R.latest R.is_start h)

-- "accepted ones only": every record counts
abbrev history_of_all : List Event → List (List ℕ) → List Event
history_of_all h [] = h
history_of_all h (s ∷ ss) = history_of_all (event_in s ∷ h) ss

-- "accepted ones only": a setpoint that is refused counts
abbrev history_with_setpoints : List Event → List (List ℕ) → List Event
history_with_setpoints h [] = h
history_with_setpoints h (s ∷ ss) =
    history_with_setpoints (pick (eqb (R.judgement h s) 0 || R.is_setpoint (event_in s)) (event_in s ∷ h) h) ss

-- what is read off the accepted events of a list of records
abbrev off : (List Event → ℕ) → List (List ℕ) → ℕ
off f l = f (R.history_of l)

-- a wrong reading, the right one, a list of event records, and what document 01 reads off it
pub record Row : Type 0 where
  pub wrong : List (List ℕ) → ℕ
  pub right : List (List ℕ) → ℕ
  pub list : List (List ℕ)
  pub said : ℕ

abbrev pub row : (List (List ℕ) → ℕ) → (List (List ℕ) → ℕ) → List (List ℕ) → ℕ → Row
row w r l n = record { wrong = w; right = r; list = l; said = n }

abbrev pub table : List Row
table =
    -- Timeout 1, a setpoint, a tick: one tick followed it, the bus is active
    row (off (λ h. bit (bus_below_timeout h) 1)) (off (λ h. bit (R.bus_in h) 1)) (timeout 1 ∷ setpoint 128 ∷ tick ∷ []) 1
    -- an override, a normal write: the tool is on
    ∷ row (off tool_of_any) (off R.tool_in) (override 100 ∷ normal_write 0 ∷ []) 1
    -- an override, a restart: the tool is off
    ∷ row (off tool_past_restarts) (off R.tool_in) (override 100 ∷ restart ∷ []) 0
    -- a normal write of 1 %: the setpoint is 3 (document 02, W-202)
    ∷ row (off setpoint_down) (off R.setpoint_value) (normal_write 1 ∷ []) 3
    -- Rate 255, a restart: Rate is 255
    ∷ row (off rate_since_restart) (off (λ h. Table.rate (R.parameters h))) (rate 255 ∷ restart ∷ []) 255
    -- Rate 255, whose K is 1, a calibration, a tick, Rate 5, whose K is 51: no run is active
    ∷ row (off run_by_rate_now) (off R.run_in) (rate 255 ∷ calibration ∷ tick ∷ rate 5 ∷ []) 0
    -- a tick that is refused by 5: no event was accepted
    ∷ row (λ l. length (history_of_all [] l)) (off length) (bad_tick ∷ []) 0
    -- a normal write to property 52 in DamperMode 1, refused by 9: there is no setpoint
    ∷ row (λ l. R.setpoint_in (history_with_setpoints [] l)) (off R.setpoint_in) (other_property 50 ∷ []) 0
    ∷ []

-- the right reading gives what document 01 says, the wrong one does not
abbrev pub Refuted : Row → Type 0
Refuted r = (r.right r.list ≡ r.said) × (r.wrong r.list ≡ r.said → ⊥)

pub refuted : Each Refuted table
unfolding computation
refuted =
    each Refuted (λ r. eqb (r.right r.list) r.said && not (eqb (r.wrong r.list) r.said))
    (λ r q.
    let right = eqb (r.right r.list) r.said in
    (eqb-true _ _ (and_left right _ q), eqb-false _ _ (not-true _ (and_right right _ q))))
    table
    refl

-- The source that rules as the list stands, no tick to come being counted: with one counted, backup rules after a tick at Timeout.
abbrev source_to_come : List Event → Source
source_to_come h = source_at (ruling_rank (active_byte (R.commands_in h) (R.run_in h) (R.bus_in (event Kind.tick 0 0 0 ∷ h))))

pub ruling_to_come : (let h = R.history_of (timeout 1 ∷ setpoint 128 ∷ tick ∷ []) in (R.ruling_source_in h ≡ bus) × (source_to_come h ≡ backup))
unfolding computation
ruling_to_come = (refl, refl)

-- Document 02, W-204: a hall may hold a report back that is due. Two wrong wordings for a drive of a hall: what is due is sent; the sentence
-- about waiting holds where a report is due.
abbrev DueIsSent : Moment → Trace → Type 0
DueIsSent m t = C.accepted_as R.is_tick m t ≡ true → C.due_in m t ≡ true → C.reports m ≡ true

abbrev WaitingWhereDue : Moment → Trace → Type 0
WaitingWhereDue m t = C.due_in m t ≡ true → C.Waiting m t

-- MinRepTime 1 and a tick, whose report is held back
abbrev held_back : Trace
held_back = C.trace_of W.never_reports (min_rep_time 1 ∷ tick ∷ [])

pub held_back_lem : (At C.OnlyDue held_back × (At DueIsSent held_back → ⊥)) × (At C.WaitingUndue held_back × (At WaitingWhereDue held_back → ⊥))
unfolding computation
held_back_lem = (
  (λ accepted sent. refl, λ h. false≢true (h refl refl)),
  (λ e. absurd (false≢true (sym e)), λ h. latest_law (waiting 1) held_back refl (h refl)),
)
