-- That spacing, waiting and due are not empty: lists on which the right drive meets all that they suppose.
use Rattle.std.specs.Prelude.{◌≡◌, refl, true, false, List, [], ◌∷◌, ◌++◌, ℕ, replicate}
use Rattle.numbers.specs.Counts.{none, more}
use Rattle.table.specs.Table as Table
use Rattle.rules.specs.Report.{sent, changed}
use Rattle.answer.specs.declared.Answer.{Answer}
use Rattle.answer.specs.declared.Answer.TheVariants.{Done, Tick, Report}
use Rattle.damper.specs.Step.{step_of}
use Rattle.history.specs.Readings.{is_tick, position_in, status_in}
use Rattle.history.specs.Log.{entry, log_in}
use Rattle.history.specs.Claim.{Moment, Trace, accepted, accepted_as, reports, ticks_in, Quiet, last_report, due_in, in_force, trace_of, log_of}
use Rattle.refuted.specs.Events.{tick, setpoint, min_rep_time}
use Rattle.refuted.specs.Closed.{computation}

abbrev pub moment : List ℕ → Answer → ℕ → Moment
moment s a p = record { bytes = s; answer = a; position = p }

-- MinRepTime in force at a record
abbrev pub wait : Moment → Trace → ℕ
wait m t = Table.min_rep_time (in_force m t)

-- MinRepTime 2, two ticks, a setpoint, two ticks: the second tick and the last one report
abbrev pub twice : List (List ℕ)
twice = min_rep_time 2 ∷ tick ∷ tick ∷ setpoint 255 ∷ tick ∷ tick ∷ []

-- `Spacing`: two reports, exactly MinRepTime ticks apart
pub two_reports : (m : Moment) × (between : Trace) × (x : Moment) × (old : Trace) × (trace_of step_of twice ≡ m ∷ (between ++ (x ∷ old)))
    × (reports x ≡ true) × (reports m ≡ true) × (ticks_in (m ∷ between) (x ∷ old) ≡ wait m (between ++ (x ∷ old)))
unfolding computation
two_reports = (
  moment tick (Report 10 1 1 0) 10,
  moment tick (Tick 5 1 1) 5 ∷ moment (setpoint 255) Done 0 ∷ [],
  moment tick (Report 0 0 0 32) 0,
  moment tick (Tick 0 0 0) 0 ∷ moment (min_rep_time 2) Done 0 ∷ [],
  refl,
  refl,
  refl,
  refl,
)

-- `Waiting`, and `Due` of a tick that is not due: MinRepTime 2 and four ticks, the second one reports, and the last two are a row
-- without report, since nothing differs from the last report
pub silent_wait : (m : Moment) × (t row old : Trace) × (trace_of step_of (min_rep_time 2 ∷ replicate 4 tick) ≡ m ∷ t) × (m ∷ t ≡ row ++ old)
    × (accepted_as is_tick m t ≡ true) × (ticks_in row old ≡ wait m t) × Quiet old row
    × ((p : ℕ) × (last_report (m ∷ t) ≡ sent p (status_in (accepted (m ∷ t))))
    × (changed (Table.act_pos_cov (in_force m t)) (position_in (accepted (m ∷ t))) p ≡ false))
    × (due_in m t ≡ false)
unfolding computation
silent_wait =
    let silent = moment tick (Tick 0 0 0) 0 in
    let old = moment tick (Report 0 0 0 32) 0 ∷ silent ∷ moment (min_rep_time 2) Done 0 ∷ [] in
    (silent, silent ∷ old, silent ∷ silent ∷ [], old, refl, refl, refl, refl, more refl refl (more refl refl none), (0, refl, refl), refl)

-- A wait that ends in a report, and `Due` of a tick that is due: MinRepTime 2 and two ticks, the last one reports.
pub reported_wait : (m : Moment) × (row old : Trace) × (trace_of step_of (min_rep_time 2 ∷ replicate 2 tick) ≡ m ∷ (row ++ old))
    × (accepted_as is_tick m (row ++ old) ≡ true) × (ticks_in (m ∷ row) old ≡ wait m (row ++ old)) × Quiet old row × (reports m ≡ true)
    × (due_in m (row ++ old) ≡ true)
unfolding computation
reported_wait = (
  moment tick (Report 0 0 0 32) 0,
  moment tick (Tick 0 0 0) 0 ∷ [],
  moment (min_rep_time 2) Done 0 ∷ [],
  refl,
  refl,
  refl,
  more refl refl none,
  refl,
  refl,
)

-- The log, as the list decides it and as the drive sends it: the third record reports position 0, the sixth one position 10.
pub log : (log_in twice ≡ entry 3 0 32 ∷ entry 6 10 0 ∷ []) × (log_of step_of twice ≡ entry 3 0 32 ∷ entry 6 10 0 ∷ [])
unfolding computation
log = (refl, refl)
