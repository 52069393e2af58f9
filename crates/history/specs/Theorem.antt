-- Demand 3: for every list of event records, the trace of a drive that was fresh at first meets the claim.
use Rattle.std.specs.Prelude.{◌≡◌, refl, List, [], ◌∷◌, ℕ, ◌+◌, ◌≤◌, eqb, length}
use Rattle.std.proofs.Common.{sym, ◌∙◌, arith, zero-add, eqb-true}
use Rattle.std.proofs.lemmas.Bool.{eqb-false}
use Rattle.numbers.specs.Laws.{cases, and_left}
use Rattle.numbers.specs.Counts as Counts
use Rattle.table.specs.Table.{min_rep_time}
use Rattle.damper.specs.declared.Drive.{Drive}
use Rattle.damper.specs.declared.Outcome.{Outcome}
use Rattle.damper.specs.Record.{fresh_drive}
use Rattle.damper.specs.Step.{refusal_of, step_of}
use Rattle.damper.specs.Carry.{Step, outcomes, drive_after}
use Rattle.damper.specs.CarryLaws.{outcomes_length}
use Rattle.invariant.specs.Effects as F
use Rattle.invariant.specs.Kept as K
use Rattle.history.specs.Readings as R
use Rattle.history.specs.RunLaws.{left_in}
use Rattle.history.specs.Claim as C
use Rattle.history.specs.Claim.{moment_of}
use Rattle.history.specs.Waits.{spacing, waiting_undue, waiting}
use Rattle.history.specs.Facts.{Good, Facts, good_time, judged, facts_refused, facts_accepted, due_sent}

-- the list's own judgement is the drive's
refused_by : (d : Drive) (t : C.Trace) (s : List ℕ) → Good d t → refusal_of d s ≡ R.judgement (C.accepted t) s
refused_by d t s g = F.refusal_wf d s g.wf ∙ judged d t s g

pub facts : (d : Drive) (t : C.Trace) (s : List ℕ) → Good d t → Facts d t s (step_of d s)
facts d t s g =
    cases (eqb (R.judgement (C.accepted t) s) 0)
    (λ q. let j = eqb-true _ 0 q in rw (F.step_accepted d s (refused_by d t s g ∙ j)) (facts_accepted d t s g j))
    (λ q.
    let j = eqb-false _ 0 q in
    rw (F.step_refused d s (λ z. j (sym (refused_by d t s g) ∙ z)), refused_by d t s g) (facts_refused d t s g j))

-- what is due is sent
pub due_sends : (d : Drive) (t : C.Trace) (s : List ℕ) → Good d t → C.Due (moment_of s (step_of d s)) t
due_sends d t s g p =
    let j = eqb-true _ 0 (and_left (eqb (R.judgement (C.accepted t) s) 0) _ p) in
    rw (F.step_accepted d s (refused_by d t s g ∙ j)) (due_sent d t s g j p)

module _ (d : Drive) (t : C.Trace) (s : List ℕ) (o : Outcome) (f : Facts d t s o) where
  time_pos : 1 ≤ min_rep_time (C.in_force (moment_of s o) t)
  time_pos = good_time o.drive (moment_of s o ∷ t) f.good

  -- whatever the outcome of a record, be it of a step or of a hall tick
  pub hall_holds : C.HallHolds (moment_of s o) t
  hall_holds =
      record {
        spacing = spacing (moment_of s o) t f.only f.others;
        waiting = waiting_undue (moment_of s o) t time_pos;
        move = f.move;
        position = f.good.position;
        content = f.content;
        others = f.others;
        only = f.only;
        refusal = f.refusal;
        formed = f.formed;
      }

  -- where what is due is sent
  pub holds : C.Due (moment_of s o) t → C.Holds (moment_of s o) t
  holds q =
      let h = hall_holds in
      record {
        spacing = h.spacing;
        waiting = waiting (moment_of s o) t q time_pos;
        move = h.move;
        position = h.position;
        content = h.content;
        others = h.others;
        due = q;
        refusal = h.refusal;
        formed = h.formed;
      }

claims : (l : List (List ℕ)) (d : Drive) (t : C.Trace) → Good d t → C.Claim t → C.Claim (C.trace_on t l (outcomes step_of d l))
unfolding outcomes C.trace_on
claims [] d t g c = c
claims (s ∷ ss) d t g c =
    let f = facts d t s g in
    let o = step_of d s in
    claims ss o.drive (moment_of s o ∷ t) f.good (holds d t s o f (due_sends d t s g), c)

-- the drive that a list leaves agrees with the list
goods : (l : List (List ℕ)) (d : Drive) (t : C.Trace) → Good d t → Good (drive_after d (outcomes step_of d l)) (C.trace_on t l (outcomes step_of d l))
unfolding outcomes drive_after C.trace_on
goods [] d t g = g
goods (s ∷ ss) d t g = let o = step_of d s in goods ss o.drive (moment_of s o ∷ t) (facts d t s g).good

pub fresh_good : Good fresh_drive []
unfolding C.accepted Counts.since C.last_report R.parameters R.parameter_in R.latest R.current R.fault_in R.forcing_in R.hand_in R.hand_value R.tool_in R.tool_value R.setpoint_in R.setpoint_value R.setpoint_age R.run_in left_in R.position_in
fresh_good =
    record {
      wf = K.wf_fresh;
      agrees = record { params = refl; commands = refl; age = refl; run = refl };
      position = refl;
      trace = refl;
      since = refl;
      last = refl;
    }

-- A trace grows by as many records as the list has, each having its outcome.
pub trace_length : (l : List (List ℕ)) (os : List Outcome) (t : C.Trace) → length os ≡ length l → length (C.trace_on t l os) ≡ length t + length l
unfolding C.trace_on
trace_length [] os t e = omega arith
trace_length (s ∷ l) [] t e = absurd (omega arith)
trace_length (s ∷ l) (o ∷ os) t e = trace_length l os (moment_of s o ∷ t) (omega arith) ∙ omega arith

-- The trace of a drive that was fresh at first has as many records as the list.
pub trace_whole : (step : Step) (l : List (List ℕ)) → length (C.trace_of step l) ≡ length l
trace_whole step l = trace_length l _ [] (outcomes_length step fresh_drive l) ∙ zero-add (length l)

-- For every list of lists of numbers, however long each may be, the drive's trace meets the claim.
pub demand_3 : (l : List (List ℕ)) → C.Claim (C.trace_of step_of l)
demand_3 l = claims l fresh_drive [] fresh_good tt

pub good_after : (l : List (List ℕ)) → Good (drive_after fresh_drive (outcomes step_of fresh_drive l)) (C.trace_of step_of l)
good_after l = goods l fresh_drive [] fresh_good
