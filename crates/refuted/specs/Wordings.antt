-- Wordings of the claim's sentences that look right and are false of the proved drive: each differs from the claim's own in one
-- operand, and is refuted by a list of event records.
use Rattle.std.specs.Prelude.{◌≡◌, refl, true, not, List, [], ◌∷◌, ℕ, ◌+◌, ◌-◌, leb, get_or}
use Rattle.numbers.specs.Numbers.{pick, distance}
use Rattle.table.specs.Table as Table
use Rattle.event.specs.declared.Event.{Event}
use Rattle.event.specs.Event.{event_in}
use Rattle.motion.specs.Motion.{to_position}
use Rattle.rules.specs.Rank.{active_byte, ruling_rank, targets}
use Rattle.rules.specs.Report.{changed, status}
use Rattle.damper.specs.Step.{step_of}
use Rattle.history.specs.Readings.{is_tick, commands_in, parameters, bus_in, run_in, target_from, position_in, status_in}
use Rattle.history.specs.Claim as C
use Rattle.history.specs.Claim.{Trace, trace_of}
use Rattle.refuted.specs.Events.{tick, bad_tick, setpoint, calibration, restart, act_pos_cov, min_rep_time, timeout, rate}
use Rattle.refuted.specs.Closed.{computation, Each, all, each}
use Rattle.refuted.specs.Sentences.{Sentence, spacing, waiting, move, content, due, broken_in, Wording, spaced, waits, moves, gives, times, WordingOf, after, wait_of, differs_by, wrong, wording_law, At, test_at, at_law}

-- the ticks of a row, refused or not
abbrev ticks_or_refused : Trace → Trace → ℕ
ticks_or_refused [] old = 0
ticks_or_refused (m ∷ new) old = let n = ticks_or_refused new old in pick (is_tick (event_in m.bytes)) (n + 1) n

-- the parameters as at the last report
abbrev at_report : Trace → List ℕ
at_report [] = parameters []
at_report (m ∷ t) = pick (C.reports m) (C.in_force m t) (at_report t)

-- the target of the highest commander, the bus without the present tick
abbrev target_before : ℕ → Event → List Event → ℕ
target_before p t h =
    get_or (targets (commands_in h) (run_in h) p (parameters h)) (ruling_rank (active_byte (commands_in h) (run_in h) (bus_in h))) 0

-- the ticks after the latest report, past restarts
abbrev since_report : Trace → ℕ
since_report [] = 0
since_report (m ∷ t) = let n = since_report t in pick (C.reports m) 0 (pick (C.accepted_as is_tick m t) (n + 1) n)

-- a wording, and a list of event records at whose last one it does not hold
pub record Row : Type 0 where
  pub wording : Wording
  pub list : List (List ℕ)

abbrev pub row : Wording → List (List ℕ) → Row
row w l = record { wording = w; list = l }

abbrev pub table : List Row
table =
    -- reports are further apart than MinRepTime; MinRepTime 1, a tick, a setpoint, a tick
    row (spaced (λ n. n + 1) 1) (min_rep_time 1 ∷ tick ∷ setpoint 128 ∷ tick ∷ [])
    -- a wait is one tick less than MinRepTime; MinRepTime 2, a tick
    ∷ row (waits C.ticks_in (λ now old. Table.min_rep_time (after now) - 1) differs_by 1) (min_rep_time 2 ∷ tick ∷ [])
    -- a wait is MinRepTime as in force before its first tick; MinRepTime 2, a tick, MinRepTime 3600, a tick
    ∷ row (waits C.ticks_in (λ now old. Table.min_rep_time (after old)) differs_by 3) (min_rep_time 2 ∷ tick ∷ min_rep_time 3600 ∷ tick ∷ [])
    -- ActPosCOV is that in force at the last report; MinRepTime 1, a setpoint, a tick, ActPosCOV 100, another setpoint, a tick
    ∷ row (waits C.ticks_in wait_of (λ now a b. changed (Table.act_pos_cov (at_report now)) a b) 1)
    (min_rep_time 1 ∷ setpoint 5 ∷ tick ∷ act_pos_cov 100 ∷ setpoint 10 ∷ tick ∷ [])
    -- ActPosCOV less one percent is a difference; MinRepTime 1, ActPosCOV 2, a setpoint, a tick, another setpoint, a tick
    ∷ row (waits C.ticks_in wait_of (λ now a b. changed (Table.act_pos_cov (after now) - 1) a b) 1)
    (min_rep_time 1 ∷ act_pos_cov 2 ∷ setpoint 5 ∷ tick ∷ setpoint 10 ∷ tick ∷ [])
    -- ActPosCOV as a position is a difference; MinRepTime 1, ActPosCOV 2, a setpoint, a tick, another setpoint, a tick
    ∷ row (waits C.ticks_in wait_of (λ now a b. leb (to_position (Table.act_pos_cov (after now))) (distance a b)) 1)
    (min_rep_time 1 ∷ act_pos_cov 2 ∷ setpoint 5 ∷ tick ∷ setpoint 10 ∷ tick ∷ [])
    -- refused ticks count in a wait; MinRepTime 2, a refused tick, a tick
    ∷ row (waits ticks_or_refused wait_of differs_by 2) (min_rep_time 2 ∷ bad_tick ∷ tick ∷ [])
    -- the damper moves by Rate and one; a setpoint, a tick
    ∷ row (moves (λ r. r + 1) target_from) (setpoint 128 ∷ tick ∷ [])
    -- the bus is active by the ticks before the present one; Timeout 1, a setpoint, two ticks
    ∷ row (moves (λ r. r) target_before) (timeout 1 ∷ setpoint 128 ∷ tick ∷ tick ∷ [])
    -- a report gives the position that its tick found; MinRepTime 1, a setpoint, a tick
    ∷ row (gives (λ now before. position_in before) (λ now before. status_in now)) (min_rep_time 1 ∷ setpoint 128 ∷ tick ∷ [])
    -- in its status the run is active by the ticks before the present one; Rate 255, MinRepTime 1, a calibration, a tick
    ∷ row (gives (λ now before. position_in now) (λ now before. status (commands_in now) (run_in before) (bus_in now)))
    (rate 255 ∷ min_rep_time 1 ∷ calibration ∷ tick ∷ [])
    -- a report is due by the ticks after the latest report, past restarts; MinRepTime 2, a tick, a restart, a tick
    ∷ row (times since_report) (min_rep_time 2 ∷ tick ∷ restart ∷ tick ∷ [])
    ∷ []

-- No wording of the table holds of the proved drive at the last record of its list.
abbrev pub Refuted : Row → Type 0
Refuted r = At (WordingOf r.wording) (trace_of step_of r.list) → ⊥

pub refuted : Each Refuted table
unfolding computation
refuted =
    each Refuted (λ r. test_at (wrong r.wording) (trace_of step_of r.list))
    (λ r. at_law (WordingOf r.wording) (wrong r.wording) (wording_law r.wording) (trace_of step_of r.list))
    table
    refl

-- the claim's own sentence of the same family
abbrev pub claimed : Wording → Sentence
claimed (spaced apart n) = spacing n
claimed (waits count wait differ n) = waiting n
claimed (moves far target) = move
claimed (gives place status) = content
claimed (times count) = due

-- On the same lists its test is not set.
pub right : all (λ (r : Row). not (broken_in (claimed r.wording) (trace_of step_of r.list))) table ≡ true
unfolding computation
right = refl
