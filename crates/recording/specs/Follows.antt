-- The audit and the trace that it was carried over: what it keeps is what is read off that trace, and what document 01's drive makes of the
-- next record, with the reports that were heard, is what the claim reads there.
use Rattle.std.specs.Prelude.{◌≡◌, Bool, true, false, ◌&&◌, ◌||◌, ℕ, ◌+◌, min, eqb}
use Rattle.std.proofs.Math.Path.{refl, sym}
use Rattle.std.proofs.Common.{◌∙◌, arith}
use Rattle.std.proofs.lemmas.Bool.{false≢true}
use mathlib.Core.List.{List, [], ◌∷◌}
use borrow.Author.Tests.{eqb-true}
use Rattle.numbers.specs.Numbers.{pick, next}
use Rattle.numbers.specs.Laws.{cases, and_left, and_right}
use Rattle.numbers.specs.Counts as Counts
use Rattle.table.specs.Table.{rate}
use Rattle.event.specs.Event.{event_in, record_refusal, kind_in}
use Rattle.event.specs.Laws.{record_passed}
use Rattle.motion.specs.Motion.{toward}
use Rattle.rules.specs.Report.{sent}
use Rattle.rules.specs.RefusalLaws.{refusal_passed}
use Rattle.answer.specs.declared.Answer.{Answer}
use Rattle.answer.specs.declared.Answer.TheVariants.{No, Done, Par, At, Tick, Report}
use Rattle.answer.specs.Answer.{number_of, is_report}
use Rattle.damper.specs.declared.Drive.{Drive}
use Rattle.damper.specs.declared.Last.{Last}
use Rattle.damper.specs.Record.{last, with_position}
use Rattle.damper.specs.WellFormed.{well_formed, last_fits}
use Rattle.damper.specs.Tick.{aged, target_at, advance}
use Rattle.damper.specs.Step.{refusal_of, step_of}
use Rattle.invariant.specs.Effects as F
use Rattle.invariant.specs.Kept as K
use Rattle.history.specs.Readings as R
use Rattle.history.specs.ReadLaws.{parameters_other}
use Rattle.history.specs.Claim as C
use Rattle.history.specs.Claim.{moment_of}
use Rattle.history.specs.Waits.{silent_in}
use Rattle.history.specs.Agree.{Agrees, bus_next}
use Rattle.history.specs.Facts.{Good, Facts, last_of, last_law, judged}
use Rattle.history.specs.Theorem.{facts, fresh_good, due_sends}
use Rattle.audit.specs.declared.Audit.{Audit}
use Rattle.audit.specs.declared.Met.{Met}
use Rattle.audit.specs.declared.Said.{Said}
use Rattle.audit.specs.Audit.{fresh_audit, said_in, met_by, followed}
use Rattle.recording.specs.Recording.{Heard, shown_in, heard_as}
use Rattle.recording.specs.Counts.{apart}
use Rattle.recording.specs.Told.{apart_in}

-- the audit has followed the trace
pub record Follows (a : Audit) (t : C.Trace) : Type 0 where
  pub wf : well_formed a.drive ≡ true
  pub agrees : Agrees a.drive (C.accepted t)
  pub position : a.drive.position ≡ R.position_in (C.accepted t)
  pub since : a.drive.since ≡ min (C.since t) 65535
  pub last : last_of a.drive.last ≡ C.last_report t
  pub seen : a.seen ≡ C.position_after t
  pub apart : a.apart ≡ apart_in t

-- a fresh audit has followed the empty one
pub fresh_follows : Follows fresh_audit []
unfolding apart
fresh_follows =
    let g = fresh_good in
    record { wf = g.wf; agrees = g.agrees; position = g.position; since = g.since; last = g.last; seen = refl; apart = refl }

-- what an answer says is what the claim reads in its record
pub record Says (y : Said) (x : C.Moment) : Type 0 where
  pub number : y.number ≡ number_of x.answer
  pub position : y.position ≡ x.position
  pub reports : y.reports ≡ C.reports x
  pub sent : C.reports x ≡ true → C.report_in x.answer ≡ sent y.position y.status

-- of an answer after the position `p`
pub says : (s : List ℕ) (p : ℕ) (y : Answer) → Says (said_in p y) record { bytes = s; answer = y; position = shown_in p y }
says s p (No n) = record { number = refl; position = refl; reports = refl; sent = λ e. absurd (false≢true e) }
says s p Done = record { number = refl; position = refl; reports = refl; sent = λ e. absurd (false≢true e) }
says s p (Par v) = record { number = refl; position = refl; reports = refl; sent = λ e. absurd (false≢true e) }
says s p (At q c v) = record { number = refl; position = refl; reports = refl; sent = λ e. absurd (false≢true e) }
says s p (Tick q r m) = record { number = refl; position = refl; reports = refl; sent = λ e. absurd (false≢true e) }
says s p (Report q r m v) = record { number = refl; position = refl; reports = refl; sent = λ e. refl }

-- A trace with `p` for its latest position: the claim's readings of the list, of reports and of time do not look at it.
abbrev placed : ℕ → C.Trace → C.Trace
placed p [] = []
placed p (m ∷ t) = record { bytes = m.bytes; answer = m.answer; position = p } ∷ t

module _ (p : ℕ) where
  placed_accepted : (t : C.Trace) → C.accepted (placed p t) ≡ C.accepted t
  unfolding C.accepted
  placed_accepted [] = refl
  placed_accepted (m ∷ t) = refl

  placed_since : (t : C.Trace) → C.since (placed p t) ≡ C.since t
  unfolding Counts.since
  placed_since [] = refl
  placed_since (m ∷ t) = refl

  placed_last : (t : C.Trace) → C.last_report (placed p t) ≡ C.last_report t
  unfolding C.last_report
  placed_last [] = refl
  placed_last (m ∷ t) = refl

  placed_position : (t : C.Trace) → p ≡ R.position_in (C.accepted t) → C.position_after (placed p t) ≡ p
  unfolding C.accepted R.position_in
  placed_position [] e = sym e
  placed_position (m ∷ t) e = refl

-- what document 01's drive makes of the record `x` is what is read after the trace `t`
pub record Meets (m : Met) (x : C.Moment) (t : C.Trace) : Type 0 where
  pub wf : well_formed m.drive ≡ true
  pub agrees : Agrees m.drive (C.accepted (x ∷ t))
  pub position : m.drive.position ≡ R.position_in (C.accepted (x ∷ t))
  pub number : m.number ≡ R.judgement (C.accepted t) x.bytes
  pub tick : m.tick ≡ C.accepted_as R.is_tick x t
  pub restart : m.restart ≡ C.accepted_as R.is_restart x t
  pub due : C.accepted_as R.is_tick x t ≡ true → m.reports ≡ C.due_in x t
  pub moved : C.accepted_as R.is_tick x t ≡ true
      → m.moved ≡ toward (C.position_after t) (R.target_from (C.position_after t) (event_in x.bytes) (C.accepted t)) (rate (C.in_force x t))

-- One record after a trace that the audit has followed.
module _ (a : Audit) (t : C.Trace) (f : Follows a t) (x : Heard) where
  abbrev d : Drive
  d = a.drive

  abbrev s : List ℕ
  s = x.bytes

  abbrev m : C.Moment
  m = heard_as t x

  abbrev own : C.Trace
  own = placed d.position t

  -- the audit's drive is one of that trace, its own position in the place of the one that was shown, so that history's facts are about it
  good : Good d own
  good =
      record {
        wf = f.wf;
        agrees = rw (placed_accepted d.position t) f.agrees;
        position = rw (placed_accepted d.position t) f.position;
        trace = placed_position d.position t f.position;
        since = rw (placed_since d.position t) f.since;
        last = rw (placed_last d.position t) f.last;
      }

  its : Facts d own s (step_of d s)
  its = facts d own s good

  -- what is accepted depends on the bytes alone
  same_accepted : C.accepted (moment_of s (step_of d s) ∷ own) ≡ C.accepted (m ∷ t)
  unfolding C.accepted
  same_accepted = rw (placed_accepted d.position t)

  -- the refusal is the list's own
  number_read : (said_in 0 (step_of d s).answer).number ≡ R.judgement (C.accepted t) s
  number_read = (says s 0 (step_of d s).answer).number ∙ its.refusal ∙ rw (placed_accepted d.position t)

  -- a record that the list accepts is none that 2 to 8 refuse
  passes : R.judgement (C.accepted t) s ≡ 0 → record_refusal s ≡ 0
  unfolding R.judgement
  passes j = (refusal_passed s _ _ _ _ _ j).0

  -- so an accepted record has the kind that the audit looks at
  kind_read : (k : ℕ)
      → eqb (said_in 0 (step_of d s).answer).number 0 && eqb (kind_in s) k ≡ eqb (R.judgement (C.accepted t) s) 0 && eqb (event_in s).kind k
  kind_read k =
      rw number_read
      (cases (eqb (R.judgement (C.accepted t) s) 0)
      (λ j. rw (passes (eqb-true _ 0 j)))
      (λ j. rw j))

  -- the drive reports at a tick just where the list and the reports heard make it due
  due_read : C.accepted_as R.is_tick m t ≡ true → is_report (step_of d s).answer ≡ C.due_in m t
  due_read k =
      due_sends d own s good (rw (placed_accepted d.position t) k)
      ∙ rw (same_accepted, placed_since d.position t, placed_last d.position t)

  -- the move from the position that was last shown
  moved_read : C.accepted_as R.is_tick m t ≡ true
      → (advance (with_position d a.seen)).drive.position
      ≡ toward (C.position_after t) (R.target_from (C.position_after t) (event_in s) (C.accepted t)) (rate (C.in_force m t))
  unfolding aged target_at R.target_from R.rank_at C.accepted
  moved_read k =
      let j : R.judgement (C.accepted t) s ≡ 0 = eqb-true _ 0 (and_left (eqb (R.judgement (C.accepted t) s) 0) _ k) in
      let e : (event_in s).kind ≡ 1 = eqb-true (event_in s).kind 1 (and_right (eqb (R.judgement (C.accepted t) s) 0) _ k) in
      let r : refusal_of d s ≡ 0 = F.refusal_wf d s f.wf ∙ judged d own s good ∙ rw (placed_accepted d.position t) j in
      let w = rw (F.step_accepted d s r) at (K.wf_step d s f.wf) in
      let b = bus_next d (C.accepted t) f.wf f.agrees f.position (event_in s) (record_passed s (passes j)).1 w e in
      F.advance_position (with_position d a.seen)
      ∙ rw (j, parameters_other (event_in s) (C.accepted t) (rw e), b)
      (rw (f.seen, f.agrees.commands, f.agrees.run, f.agrees.params))

  -- the audit holds the record against what is read there
  pub meets : Meets (met_by a s) m t
  unfolding met_by
  meets =
      record {
        wf = its.good.wf;
        agrees = rw same_accepted at its.good.agrees;
        position = its.good.position ∙ rw same_accepted;
        number = number_read;
        tick = kind_read 1;
        restart = kind_read 9;
        due = λ k. (says s 0 (step_of d s).answer).reports ∙ due_read k;
        moved = moved_read;
      }

  -- and hears what was answered
  pub heard_says : Says (said_in a.seen x.answer) m
  heard_says = rw f.seen (says s (C.position_after t) x.answer)

-- since after a report or a restart, a tick or neither, capped and not
since_heard : (z k : Bool) (a n : ℕ) → a ≡ min n 65535 → pick z 0 (pick k (next a) a) ≡ min (pick z 0 (pick k (n + 1) n)) 65535
since_heard true k a n e = refl
since_heard false true a n e = omega arith
since_heard false false a n e = e

-- a last report that was heard is well formed where the one before it is
last_fits_lem : (r q : Bool) (p s : ℕ) (l : Last) → last_fits l ≡ true → last_fits (pick r (last 0 0 0) (pick q (last 1 p s) l)) ≡ true
unfolding last_fits
last_fits_lem true q p s l h = refl
last_fits_lem false true p s l h = refl
last_fits_lem false false p s l h = h

module _ (a : Audit) (t : C.Trace) (f : Follows a t) (x : C.Moment) (m : Met) (g : Meets m x t) (y : Said) (z : Says y x) where
  -- the audit goes on following
  pub follows_on : Follows (followed a m y) (x ∷ t)
  unfolding followed Counts.since C.last_report apart
  follows_on =
      let restart = C.accepted_as R.is_restart x t in
      let p = K.parts m.drive g.wf in
      record {
        wf =
            K.whole _
            record {
              params = p.params;
              order = p.order;
              commands = p.commands;
              last = last_fits_lem m.restart y.reports _ _ _ (K.parts a.drive f.wf).last;
              run = p.run;
            };
        agrees = record { params = g.agrees.params; commands = g.agrees.commands; age = g.agrees.age; run = g.agrees.run };
        position = g.position;
        since = rw (z.reports, g.restart, g.tick) (since_heard (C.reports x || restart) (C.accepted_as R.is_tick x t) _ _ f.since);
        last =
            rw (z.reports, g.restart)
            (last_law restart (C.reports x) _ _ a.drive.last _ _ z.sent (silent_in x.answer) f.last);
        seen = z.position;
        apart = rw (z.reports, g.tick, f.apart);
      }
