-- Demand 3 as a claim about a trace. From the trace come only the answers, which may be reports, and the damper's positions;
-- what is accepted, in force or active, the target, the position and the status that a tick leaves are read off the list.
use Rattle.std.specs.Prelude.{◌≡◌, Bool, true, false, ◌&&◌, List, [], ◌∷◌, ◌++◌, ℕ, ◌+◌, ◌≤◌, min, eqb}
use Rattle.numbers.specs.Numbers.{pick, distance}
use Rattle.numbers.specs.Counts as Counts
use Rattle.table.specs.Table.{min_rep_time, act_pos_cov, rate}
use Rattle.event.specs.declared.Event.{Event}
use Rattle.event.specs.Event.{event_in}
use Rattle.rules.specs.Report.{changed, Sent, silent, sent, report_due}
use Rattle.answer.specs.declared.Answer.{Answer}
use Rattle.answer.specs.declared.Answer.TheVariants.{No, Done, Par, At, Tick, Report}
use Rattle.damper.specs.declared.Outcome.{Outcome}
use Rattle.damper.specs.Record.{fresh_drive}
use Rattle.damper.specs.Carry.{Step, outcomes}
use Rattle.answer.specs.Answer.{number_of, is_report}
use Rattle.history.specs.Log.{Entry, entry}
use Rattle.history.specs.Readings.{is_tick, is_restart, parameters, target_from, position_in, status_in, judgement}

-- one record of the list: its bytes, the answer that it got and the damper's position after it
pub record Moment : Type 0 where
  pub bytes : List ℕ
  pub answer : Answer
  pub position : ℕ

abbrev pub moment_of : List ℕ → Outcome → Moment
moment_of s o = record { bytes = s; answer = o.answer; position = o.drive.position }

-- a trace, the latest record first
abbrev pub Trace : Type 0
Trace = List Moment

-- the accepted events of a trace, by the list's own judgement, the latest first
unfoldable pub accepted : Trace → List Event
accepted [] = []
accepted (m ∷ t) =
    let h = accepted t in
    pick (eqb (judgement h m.bytes) 0) (event_in m.bytes ∷ h) h

-- whether the record after the trace `t` is an accepted event that `p` holds of
abbrev pub accepted_as : (Event → Bool) → Moment → Trace → Bool
accepted_as p m t = eqb (judgement (accepted t) m.bytes) 0 && p (event_in m.bytes)

-- the position before the next record: "position starts at 0"
abbrev pub position_after : Trace → ℕ
position_after [] = 0
position_after (m ∷ t) = m.position

-- what an answer reports, if anything: position and status
abbrev pub report_in : Answer → Sent
report_in (No n) = silent
report_in Done = silent
report_in (Par v) = silent
report_in (At p c s) = silent
report_in (Tick p r m) = silent
report_in (Report p r m s) = sent p s

abbrev pub reports : Moment → Bool
reports m = is_report m.answer

-- "Only accepted ticks count": the accepted ticks among the records of `new`, which came after the trace `old`
abbrev pub ticks_in : Trace → Trace → ℕ
ticks_in new old = Counts.ticks_in (accepted_as is_tick) new old

-- no accepted restart and no report among the records of `new`, which came after the trace `old`
abbrev pub Quiet : Trace → Trace → Type 0
Quiet old new = Counts.Quiet (λ m t. reports m) (accepted_as is_restart) old new

-- the last report since the last restart
abbrev pub or_earlier : Sent → Sent → Sent
or_earlier silent x = x
or_earlier (sent p s) x = sent p s

unfoldable pub last_report : Trace → Sent
last_report [] = silent
last_report (m ∷ t) = pick (accepted_as is_restart m t) silent (or_earlier (report_in m.answer) (last_report t))

-- the parameters in force at a record, "as read here"
abbrev pub in_force : Moment → Trace → List ℕ
in_force m t = parameters (accepted (m ∷ t))

-- The sentences of demand 3, each at one record `m`, which came after the trace `t`.

-- "Two spontaneous reports are never fewer ticks apart than the MinRepTime in force at the later one", `m` being the later one
abbrev pub Spacing : Moment → Trace → Type 0
Spacing m t = (between : Trace) (x : Moment) (old : Trace) → t ≡ between ++ (x ∷ old) → reports x ≡ true → reports m ≡ true
    → min_rep_time (in_force m t) ≤ ticks_in (m ∷ between) (x ∷ old)

-- "MinRepTime ticks in a row, as in force at the last of them, never pass without restart and without report when that last tick
-- leaves a position that differs from the last one reported by ActPosCOV or more, or a status other than the last one reported":
-- where they do pass, `m` being the last one, there is a last report, and neither differs from it
abbrev pub Waiting : Moment → Trace → Type 0
Waiting m t = (row old : Trace) → m ∷ t ≡ row ++ old → accepted_as is_tick m t ≡ true → ticks_in row old ≡ min_rep_time (in_force m t) → Quiet old row
    → (p : ℕ) × (last_report (m ∷ t) ≡ sent p (status_in (accepted (m ∷ t))))
    × (changed (act_pos_cov (in_force m t)) (position_in (accepted (m ∷ t))) p ≡ false)

-- "Each tick moves the damper by Rate or the distance, the smaller, toward the target of the highest commander which the list
-- makes active then": so far does it move, and so much less is left to the target
abbrev pub Move : Moment → Trace → Type 0
Move m t = accepted_as is_tick m t ≡ true
    → (let before = position_after t in
    let target = target_from before (event_in m.bytes) (accepted t) in
    let step = min (rate (in_force m t)) (distance before target) in
    (distance before m.position ≡ step) × (distance m.position target + step ≡ distance before target))

-- "after every event that position is the one read here"
abbrev pub Position : Moment → Trace → Type 0
Position m t = m.position ≡ position_in (accepted (m ∷ t))

-- "Each report gives exactly the position and status that its tick leaves."
abbrev pub Content : Moment → Trace → Type 0
Content m t = reports m ≡ true → report_in m.answer ≡ sent (position_in (accepted (m ∷ t))) (status_in (accepted (m ∷ t)))

-- "No other event moves the damper or sends a spontaneous report."
abbrev pub Others : Moment → Trace → Type 0
Others m t = accepted_as is_tick m t ≡ false → (m.position ≡ position_after t) × (reports m ≡ false)

-- Ours, from step 4: a tick reports just where it is due by the ticks after the latest report or restart, or from the beginning on,
-- itself counted, by the position and the status that it leaves, and by the last report since the last restart.
abbrev pub since : Trace → ℕ
since t = Counts.since (accepted_as is_tick) (λ m t. reports m) (accepted_as is_restart) t

-- step 4 read off the list, at a tick
abbrev pub due_in : Moment → Trace → Bool
due_in m t = report_due (in_force m t) (since t + 1) (position_in (accepted (m ∷ t))) (status_in (accepted (m ∷ t))) (last_report t)

abbrev pub Due : Moment → Trace → Type 0
Due m t = accepted_as is_tick m t ≡ true → reports m ≡ due_in m t

-- each answer refuses by exactly the number of the list's own judgement, 0 if accepted
abbrev pub Refusal : Moment → Trace → Type 0
Refusal m t = number_of m.answer ≡ judgement (accepted t) m.bytes

-- refusal 1 never occurs (which follows from the sentence before)
abbrev pub Formed : Moment → Trace → Type 0
Formed m t = number_of m.answer ≡ 1 → ⊥

pub record Holds (m : Moment) (t : Trace) : Type 0 where
  pub spacing : Spacing m t
  pub waiting : Waiting m t
  pub move : Move m t
  pub position : Position m t
  pub content : Content m t
  pub others : Others m t
  pub due : Due m t
  pub refusal : Refusal m t
  pub formed : Formed m t

-- The claim about a whole trace: the sentences hold at each of its records.
abbrev pub Claim : Trace → Type 0
Claim [] = Unit {0}
Claim (m ∷ t) = Holds m t × Claim t

-- The sentences for a drive of a hall, whose reports may be held back (document 02, W-204): those about spacing, moves, position, content,
-- other events and refusals as they are, and of step 4 one direction.

-- a tick reports only if step 4 would
abbrev pub OnlyDue : Moment → Trace → Type 0
OnlyDue m t = accepted_as is_tick m t ≡ true → reports m ≡ true → due_in m t ≡ true

-- where step 4 would not report, the sentence about waiting holds
abbrev pub WaitingUndue : Moment → Trace → Type 0
WaitingUndue m t = due_in m t ≡ false → Waiting m t

pub record HallHolds (m : Moment) (t : Trace) : Type 0 where
  pub spacing : Spacing m t
  pub waiting : WaitingUndue m t
  pub move : Move m t
  pub position : Position m t
  pub content : Content m t
  pub others : Others m t
  pub only : OnlyDue m t
  pub refusal : Refusal m t
  pub formed : Formed m t

-- The claim about a whole trace of such a drive.
abbrev pub HallClaim : Trace → Type 0
HallClaim [] = Unit {0}
HallClaim (m ∷ t) = HallHolds m t × HallClaim t

-- the trace of a list of records and of what they gave, after the trace `t`
unfoldable pub trace_on : Trace → List (List ℕ) → List Outcome → Trace
trace_on t [] os = t
trace_on t (s ∷ ss) [] = t
trace_on t (s ∷ ss) (o ∷ os) = trace_on (moment_of s o ∷ t) ss os

-- "The first event record goes to a fresh drive", whose step is `step`
abbrev pub trace_of : Step → List (List ℕ) → Trace
trace_of step l = trace_on [] l (outcomes step fresh_drive l)

-- the reports among what a list of records gave, `n` records having come before: numbers of the records, and what the answers say
abbrev pub entries_of : ℕ → Sent → List Entry → List Entry
entries_of n silent es = es
entries_of n (sent p s) es = entry n p s ∷ es

unfoldable pub reports_from : ℕ → List Outcome → List Entry
reports_from n [] = []
reports_from n (o ∷ os) = entries_of (n + 1) (report_in o.answer) (reports_from (n + 1) os)

-- the log of a drive that was fresh at first
abbrev pub log_of : Step → List (List ℕ) → List Entry
log_of step l = reports_from 0 (outcomes step fresh_drive l)
