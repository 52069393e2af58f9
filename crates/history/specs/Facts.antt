-- What one record does to a drive that agrees with the list so far, refused or accepted.
use Rattle.std.proofs.Math.Path.{◌≡◌, sym}
use Rattle.std.specs.Prelude.{refl, Bool, not, ◌&&◌, ◌||◌, List, ◌∷◌, ℕ, ◌+◌, ◌<◌, ◌≤◌, min, leb, length}
use Rattle.std.proofs.Common.{ap, ◌∙◌, arith}
use Rattle.std.proofs.Math.Bool.{true, false}
use Rattle.std.proofs.lemmas.Bool.{false≢true}
use Rattle.std.proofs.Math.Dec.{eqb}
use borrow.Author.Tests.{leb-true, leb-false, le-leb, lt-leb, eqb-true, ne_eqb}
use Rattle.numbers.specs.Numbers.{pick, on, next}
use Rattle.numbers.specs.Laws.{cases, and_left, and_right}
use Rattle.numbers.specs.Counts as Counts
use Rattle.table.specs.Table.{rows, row_at, all_in, min_rep_time, act_pos_cov, rep_per}
use Rattle.table.specs.Laws.{range_at, bounds}
use Rattle.event.specs.declared.Event.{Event}
use Rattle.event.specs.Event.{event_in, bad_mark, bad_kind, unused_set, bad_a, bad_command, bad_percent, data_refusal, record_refusal}
use Rattle.event.specs.Laws.{admitted, record_passed}
use Rattle.motion.specs.Laws.{move_distance, move_left}
use Rattle.rules.specs.Report.{Sent, silent, sent, differs, report_due}
use Rattle.rules.specs.Refusal.{wrong_property, outside_table, low_above_high, rate_in_run, run_forbidden, state_refusal, refusal}
use Rattle.rules.specs.RefusalLaws.{refusal_passed}
use Rattle.answer.specs.declared.Answer.TheVariants.{No}
use Rattle.damper.specs.declared.Last.{Last}
use Rattle.damper.specs.declared.Drive.{Drive}
use Rattle.damper.specs.declared.Advanced.{Advanced}
use Rattle.damper.specs.declared.Outcome.{Outcome}
use Rattle.answer.specs.Answer.{is_report}
use Rattle.damper.specs.Record.{last, with_wait}
use Rattle.damper.specs.WellFormed.{well_formed}
use Rattle.damper.specs.Tick.{advance, due, differs_from, due_with, status_of}
use Rattle.damper.specs.Step.{outcome, tick_with, ticked, applied, judged_by}
use Rattle.invariant.specs.Effects as F
use Rattle.invariant.specs.Kept as K
use Rattle.history.specs.Readings as R
use Rattle.history.specs.ReadLaws.{parameters_other}
use Rattle.history.specs.Claim as C
use Rattle.history.specs.Claim.{moment_of}
use Rattle.history.specs.Waits.{silent_in}
use Rattle.history.specs.Agree.{Agrees, agrees_applied, position_kept, move_agrees, status_agrees}

-- the last report that the record holds
abbrev pub last_of : Last → Sent
last_of l = pick (on l.reported) (sent l.position l.status) silent

-- the record agrees with the list, and the trace with the record
pub record Good (d : Drive) (t : C.Trace) : Type 0 where
  pub wf : well_formed d ≡ true
  pub agrees : Agrees d (C.accepted t)
  pub position : d.position ≡ R.position_in (C.accepted t)
  pub trace : C.position_after t ≡ d.position
  pub since : d.since ≡ min (C.since t) 65535
  pub last : last_of d.last ≡ C.last_report t

-- what the record `s` does to the drive `d` after the trace `t`, `o` being the outcome
pub record Facts (d : Drive) (t : C.Trace) (s : List ℕ) (o : Outcome) : Type 0 where
  pub good : Good o.drive (moment_of s o ∷ t)
  pub only : C.OnlyDue (moment_of s o) t
  pub move : C.Move (moment_of s o) t
  pub content : C.Content (moment_of s o) t
  pub others : C.Others (moment_of s o) t
  pub refusal : C.Refusal (moment_of s o) t
  pub formed : C.Formed (moment_of s o) t

-- MinRepTime, as a list has it with which a well-formed record agrees, is from 1 to 3,600
pub time_range : (d : Drive) (h : List Event) → well_formed d ≡ true → Agrees d h
    → (1 ≤ min_rep_time (R.parameters h)) × (min_rep_time (R.parameters h) ≤ 3600)
time_range d h w a =
    let in_range_lem : all_in rows (R.parameters h) ≡ true = rw a.params at (K.parts d w).params in
    bounds (row_at rows 3) _ (range_at rows _ 3 in_range_lem (omega arith))

-- so it is at least 1 after a trace
pub good_time : (d : Drive) (t : C.Trace) → Good d t → 1 ≤ min_rep_time (R.parameters (C.accepted t))
good_time d t g = (time_range d (C.accepted t) g.wf g.agrees).0

-- the list's own judgement is that of the record
pub judged : (d : Drive) (t : C.Trace) (s : List ℕ) → Good d t → judged_by d s ≡ R.judgement (C.accepted t) s
unfolding R.judgement
judged d t s g = rw (g.agrees.params, g.agrees.run, g.agrees.commands)

-- no refusal that looks at bytes or state has number 1
abbrev NotOne : ℕ → Type 0
NotOne n = n ≡ 1 → ⊥

first_not : (b : Bool) (n m : ℕ) → NotOne n → NotOne m → NotOne (pick b n m)
first_not true n m p q = p
first_not false n m p q = q

pub not_one : (s : List ℕ) (m l h : ℕ) (r f : Bool) → NotOne (refusal s m l h r f)
unfolding refusal record_refusal data_refusal state_refusal
not_one s m l h r f =
    let e = event_in s in
    first_not (eqb (record_refusal s) 0) _ _
    (first_not (wrong_property e m) 9 _ (λ q. omega arith)
    (first_not (outside_table e) 10 _ (λ q. omega arith)
    (first_not (low_above_high e l h) 11 _ (λ q. omega arith)
    (first_not (rate_in_run e r) 12 _ (λ q. omega arith)
    (first_not (run_forbidden e f) 13 0 (λ q. omega arith) (λ q. omega arith))))))
    (first_not (not (eqb (length s) 6)) 2 _ (λ q. omega arith)
    (first_not (bad_mark s) 3 _ (λ q. omega arith)
    (first_not (bad_kind e.kind) 4 _ (λ q. omega arith)
    (first_not (unused_set e) 5 _ (λ q. omega arith)
    (first_not (bad_a e.kind e.a) 6 _ (λ q. omega arith)
    (first_not (bad_command e.kind e.c) 7 _ (λ q. omega arith)
    (first_not (bad_percent e.kind e.b e.c) 8 0 (λ q. omega arith) (λ q. omega arith))))))))

module _ (d : Drive) (t : C.Trace) (s : List ℕ) (g : Good d t) (j : R.judgement (C.accepted t) s ≡ 0 → ⊥) where
  pub facts_refused : Facts d t s (outcome d (No (R.judgement (C.accepted t) s)))
  unfolding C.accepted Counts.since C.last_report R.judgement
  facts_refused =
      let J : eqb (R.judgement (C.accepted t) s) 0 ≡ false = ne_eqb _ 0 j in
      record {
        good = record { wf = g.wf; agrees = rw J g.agrees; position = rw J g.position; trace = refl; since = rw J g.since; last = rw J g.last };
        only = λ p. absurd (false≢true (rw J at p));
        move = λ p. absurd (false≢true (rw J at p));
        content = λ q. absurd (false≢true q);
        others = λ p. (sym g.trace, refl);
        refusal = refl;
        formed = not_one s _ _ _ _ _;
      }

-- since after a restart, a tick, a report that is due or neither, capped and not
since_law : (r t q : Bool) (a n : ℕ) → a ≡ min n 65535
    → pick r 0 (pick t (pick q 0 (next a)) a) ≡ min (pick ((t && q) || r) 0 (pick t (n + 1) n)) 65535
since_law true true true a n e = refl
since_law true true false a n e = refl
since_law true false q a n e = refl
since_law false true true a n e = refl
since_law false true false a n e = omega arith
since_law false false q a n e = e

-- the last report after a restart, a report or neither
pub last_law : (r q : Bool) (p s : ℕ) (l : Last) (x y : Sent) → (q ≡ true → x ≡ sent p s) → (q ≡ false → x ≡ silent) → last_of l ≡ y
    → last_of (pick r (last 0 0 0) (pick q (last 1 p s) l)) ≡ pick r silent (C.or_earlier x y)
last_law true q p s l x y a b c = refl
last_law false true p s l x y a b c = rw (a refl)
last_law false false p s l x y a b c = rw (b refl) c

-- step 4 touches neither what the status is made of nor what agrees with the list
tick_status : (b : Bool) (a : Advanced) → status_of (tick_with b a).drive ≡ status_of a.drive
unfolding tick_with
tick_status true a = refl
tick_status false a = refl

tick_agrees : (b : Bool) (a : Advanced) (h : List Event) → Agrees (tick_with b a).drive h → Agrees a.drive h
unfolding tick_with
tick_agrees true a h g = record { params = g.params; commands = g.commands; age = g.age; run = g.run }
tick_agrees false a h g = g

-- what differs from a last report as a record holds it, and from what that says
pub differs_law : (d : Drive) (s : ℕ) (l : Last) → differs_from d s l ≡ differs (act_pos_cov d.params) d.position s (last_of l)
differs_law d s l = cases (on l.reported) (λ e. rw e) (λ e. rw e)

-- so step 4 by the record's last report is step 4 by what that says
due_law : (d : Drive) (s : ℕ) → due_with d s ≡ report_due d.params d.since d.position s (last_of d.last)
unfolding due_with report_due
due_law d s = rw (differs_law d s d.last)

-- a limit below the cap is reached by a capped count where the count reaches it
capped_least : (n t : ℕ) → t < 65535 → leb t (min n 65535) ≡ leb t n
capped_least n t h =
    cases (leb t n)
    (λ e. let l : t ≤ n = leb-true t n e in le-leb t (min n 65535) (omega arith) ∙ sym e)
    (λ e. let l : n < t = leb-false t n e in lt-leb t (min n 65535) (omega arith) ∙ sym e)

-- so step 4 is the same by a since that is capped
due_capped : (q : List ℕ) (n p s : ℕ) (x : Sent) → all_in rows q ≡ true → report_due q (next (min n 65535)) p s x ≡ report_due q (n + 1) p s x
unfolding report_due
due_capped q n p s x r =
    let c : next (min n 65535) ≡ min (n + 1) 65535 = omega arith in
    let a = (bounds (row_at rows 3) (min_rep_time q) (range_at rows q 3 r (omega arith))).1 in
    let b = (bounds (row_at rows 8) (rep_per q) (range_at rows q 8 r (omega arith))).1 in
    rw (c, capped_least (n + 1) (min_rep_time q) (omega (arith, a)), capped_least (n + 1) (rep_per q) (omega (arith, b)))

-- an accepted record
module _ (d : Drive) (t : C.Trace) (s : List ℕ) (g : Good d t) (j : R.judgement (C.accepted t) s ≡ 0) where
  abbrev h : List Event
  h = C.accepted t

  abbrev e : Event
  e = event_in s

  J : eqb (R.judgement (C.accepted t) s) 0 ≡ true
  J = rw j

  passes : judged_by d s ≡ 0
  passes = judged d t s g ∙ j

  dr : data_refusal e ≡ 0
  dr = (record_passed s (refusal_passed s _ _ _ _ _ passes).0).1

  ok : bad_kind e.kind ≡ false
  ok = (admitted e dr).kind

  wf' : well_formed (applied d e).drive ≡ true
  wf' = K.wf_applied d e g.wf dr (refusal_passed s _ _ _ _ _ passes).1

  agrees' : Agrees (applied d e).drive (e ∷ h)
  agrees' = agrees_applied d h g.wf g.agrees e dr

  position' : (applied d e).drive.position ≡ R.position_in (e ∷ h)
  position' = position_kept d h g.wf g.agrees g.position e dr wf'

  -- of a tick: the parameters in force, the position and the status
  params_tick : e.kind ≡ 1 → R.parameters (e ∷ h) ≡ d.params
  params_tick k = parameters_other e h (rw k) ∙ sym g.agrees.params

  position_tick : e.kind ≡ 1 → (advance d).drive.position ≡ R.position_in (e ∷ h)
  position_tick k = sym (F.position_after d e ok ∙ rw k) ∙ position'

  as_tick : e.kind ≡ 1 → applied d e ≡ tick_with (due (advance d).drive) (advance d)
  unfolding applied ticked
  as_tick k = rw k

  status_tick : e.kind ≡ 1 → status_of (advance d).drive ≡ R.status_in (e ∷ h)
  status_tick k =
      sym (tick_status (due (advance d).drive) (advance d))
      ∙ sym (ap (λ (x : Outcome). status_of x.drive) (as_tick k))
      ∙ status_agrees (applied d e).drive (e ∷ h) wf' agrees'

  -- step 4 of a tick, in the list's terms
  due_tick : e.kind ≡ 1
      → due (advance d).drive ≡ report_due (R.parameters (e ∷ h)) (C.since t + 1) (R.position_in (e ∷ h)) (R.status_in (e ∷ h)) (C.last_report t)
  due_tick k =
      due_law (advance d).drive (status_of (advance d).drive)
      ∙ rw (status_tick k, position_tick k, F.advance_params d, F.advance_since d, F.advance_last d, g.since, g.last)
      (due_capped d.params (C.since t) _ _ _ (K.parts d g.wf).params ∙ rw (params_tick k))

  -- for a tick with any outcome
  pub due_read : e.kind ≡ 1 → (o : Outcome) → due (advance d).drive ≡ C.due_in (moment_of s o) t
  unfolding C.accepted
  due_read k o = rw J (due_tick k)

  tick_kind : C.accepted_as R.is_tick (moment_of s (applied d e)) t ≡ true → e.kind ≡ 1
  tick_kind p = eqb-true e.kind 1 (and_right (eqb (R.judgement (C.accepted t) s) 0) _ p)

  sent_tick : is_report (applied d e).answer ≡ true → (e.kind ≡ 1) × (due (advance d).drive ≡ true)
  sent_tick q =
      let z = sym (F.report_after d e ok) ∙ q in
      (eqb-true e.kind 1 (and_left (eqb e.kind 1) _ z), and_right (eqb e.kind 1) _ z)

  sent_what : (k : e.kind ≡ 1) → due (advance d).drive ≡ true
      → C.report_in (applied d e).answer ≡ sent (advance d).drive.position (status_of (advance d).drive)
  sent_what k q = ap C.report_in (F.answer_report d e k q)

  last' : last_of (applied d e).drive.last ≡ pick (R.is_restart e) silent (C.or_earlier (C.report_in (applied d e).answer) (C.last_report t))
  last' =
      rw (F.last_after d e ok)
      (last_law (R.is_restart e) (R.is_tick e && due (advance d).drive) _ _ d.last _ _
      (λ q. sent_what (eqb-true e.kind 1 (and_left (R.is_tick e) _ q)) (and_right (R.is_tick e) _ q))
      (λ q. silent_in (applied d e).answer (F.report_after d e ok ∙ q))
      g.last)

  since' : (applied d e).drive.since
      ≡ min (pick (is_report (applied d e).answer || R.is_restart e) 0 (pick (R.is_tick e) (C.since t + 1) (C.since t))) 65535
  since' =
      F.since_after d e ok
      ∙ since_law (R.is_restart e) (R.is_tick e) (due (advance d).drive) d.since (C.since t) g.since
      ∙ rw (F.report_after d e ok)

  -- What is due is sent: the one fact that a tick which is held back lacks.
  pub due_sent : C.Due (moment_of s (applied d e)) t
  due_sent p =
      let k = tick_kind p in
      let q : is_report (applied d e).answer ≡ due (advance d).drive = F.report_after d e ok ∙ rw k in
      q ∙ due_read k (applied d e)

  -- the move of a tick, whether it reports or not
  move_tick : (o : Outcome) → (e.kind ≡ 1 → o.drive.position ≡ (advance d).drive.position) → C.Move (moment_of s o) t
  unfolding C.accepted
  move_tick o x p =
      let k = tick_kind p in
      let q = x k ∙ move_agrees d h g.wf g.agrees g.position e dr wf' k in
      rw (J, parameters_other e h (rw k), g.trace ∙ g.position, q) (move_distance _ _ _, move_left _ _ _)

  pub facts_accepted : Facts d t s (applied d e)
  unfolding C.accepted Counts.since C.last_report
  facts_accepted =
      record {
        good = record { wf = wf'; agrees = rw J agrees'; position = rw J position'; trace = refl; since = rw J since'; last = rw J last' };
        only = λ p q. sym (due_sent p) ∙ q;
        move = move_tick (applied d e) (λ k. F.position_after d e ok ∙ rw k);
        content = λ q. let k = (sent_tick q).0 in sent_what k (sent_tick q).1 ∙ rw (J, position_tick k, status_tick k);
        others =
            λ p.
            let k : eqb e.kind 1 ≡ false = rw J at p in
            (F.position_after d e ok ∙ rw k (sym g.trace), F.report_after d e ok ∙ rw k);
        refusal = F.number_after d e ok ∙ sym j;
        formed = λ q. let z : ◌≡◌ {A = ℕ} 0 1 = sym (F.number_after d e ok) ∙ q in omega arith;
      }

  -- a tick with a report and without
  module _ (k : e.kind ≡ 1) where
    facts_sent : due (advance d).drive ≡ true → Facts d t s (tick_with true (advance d))
    facts_sent q = rw (as_tick k, q) at facts_accepted

    -- a report that is held back, if one is due: nothing is reported, and since goes on
    facts_held : Facts d t s (tick_with false (advance d))
    unfolding tick_with C.accepted Counts.since C.last_report
    facts_held =
        record {
          good =
              record {
                wf = K.wf_advance d g.wf;
                agrees = rw J (tick_agrees (due (advance d).drive) (advance d) (e ∷ h) (rw (as_tick k) at agrees'));
                position = rw J (position_tick k);
                trace = refl;
                since = rw (J, k, F.advance_since d) (since_law false true false d.since (C.since t) g.since);
                last = rw (J, k, F.advance_last d) g.last;
              };
          only = λ p q. absurd (false≢true q);
          move = move_tick (tick_with false (advance d)) (λ z. refl);
          content = λ q. absurd (false≢true q);
          others = λ p. absurd (false≢true (sym p ∙ rw (J, k)));
          refusal = sym j;
          formed = λ q. omega arith;
        }

-- A tick with a report, if that is due, or without.
pub facts_tick : (d : Drive) (t : C.Trace) (s : List ℕ) (sent : Bool) → Good d t → R.judgement (C.accepted t) s ≡ 0 → (event_in s).kind ≡ 1
    → (sent ≡ true → due (advance d).drive ≡ true) → Facts d t s (tick_with sent (advance d))
facts_tick d t s true g j k q = facts_sent d t s g j k (q refl)
facts_tick d t s false g j k q = facts_held d t s g j k

-- The wait is no part of it (document 02, W-204).
good_wait : (d : Drive) (t : C.Trace) (w : ℕ) → Good d t → Good (with_wait d w) t
unfolding well_formed
good_wait d t w g =
    let a = g.agrees in
    record {
      wf = g.wf;
      agrees = record { params = a.params; commands = a.commands; age = a.age; run = a.run };
      position = g.position;
      trace = g.trace;
      since = g.since;
      last = g.last;
    }

pub facts_wait : {d : Drive} {t : C.Trace} {s : List ℕ} {o : Outcome} → Facts d t s o → (w : ℕ)
    → Facts d t s (outcome (with_wait o.drive w) o.answer)
facts_wait {d} {t} {s} {o} f w =
    record {
      good = good_wait o.drive (moment_of s o ∷ t) w f.good;
      only = f.only;
      move = f.move;
      content = f.content;
      others = f.others;
      refusal = f.refusal;
      formed = f.formed;
    }
