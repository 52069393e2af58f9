-- Proofs: each sentence of demand 3 at one record of a trace.
use Rattle.std.specs.Prelude.{◌≡◌, refl, ◌↔◌, Bool, true, false, List, [], ◌∷◌, ◌++◌, ℕ, ◌+◌, ◌≤◌, min, eqb, length, take, drop}
use Rattle.std.proofs.Common.{sym, ap, subst, ◌∙◌, arith, take-append-drop, eqb-true, eq-eqb}
use Rattle.std.proofs.lemmas.Bool.{false≢true, eqb-false}
use Rattle.std.proofs.Math.Seq.{drop-append_seam}
use Rattle.numbers.specs.Numbers.{distance}
use Rattle.numbers.specs.Laws.{cases}
use Rattle.numbers.specs.Says.{Says, unset, same_flags}
use Rattle.numbers.specs.Counts as Counts
use Rattle.numbers.specs.CountLaws.{quiet_last, since_stretch}
use Rattle.table.specs.Table.{min_rep_time, act_pos_cov, rate}
use Rattle.event.specs.declared.Event.{Event}
use Rattle.event.specs.Event.{event_in, data_refusal}
use Rattle.event.specs.Laws.{record_passed}
use Rattle.motion.specs.Motion.{toward}
use Rattle.motion.specs.Laws.{move_distance, move_left}
use Rattle.rules.specs.Report.{changed, Sent, sent, differs, report_due}
use Rattle.rules.specs.RefusalLaws.{refusal_passed}
use Rattle.answer.specs.Answer.{number_of}
use Rattle.damper.specs.declared.Drive.{Drive}
use Rattle.damper.specs.Record.{fresh_drive}
use Rattle.damper.specs.WellFormed.{well_formed}
use Rattle.damper.specs.Step.{applied, judged_by}
use Rattle.invariant.specs.Kept as K
use Rattle.history.specs.Readings as R
use Rattle.history.specs.Claim as C
use Rattle.history.specs.Agree.{Agrees, agrees_applied}
use Rattle.history.specs.Facts.{time_range}
use Rattle.history.specs.Waits.{same_sent, silent_in}
use Rattle.history.specs.Theorem.{fresh_good}
use Rattle.recording.specs.Told.{move_told}
use Rattle.sentences.specs.Paper as P
use Rattle.sentences.specs.Ticks.{same_move}
use Rattle.sentences.specs.Exists.{some_move}
use Rattle.sentences.specs.Rules.{same_due_silent, same_due_sent}
use Rattle.sentences_claim.specs.Paper as S
use Rattle.sentences_claim.specs.Tests.{same_tick, same_restart, no_restart, reports, same_before}
use Rattle.sentences_claim.specs.Tests.{events_are, events_only, report_gives, gives_report, gives_in, same_number, number_one}
use Rattle.sentences_claim.specs.Tests.{new_flag}
use Rattle.sentences_claim.specs.Counts.{ticks, restarts, reported, ticks_clock, since_is, since_only, last_only, some_last, sent_of}

-- ── MinRepTime is from 1 to 3,600 after every trace ──

-- a well-formed drive that agrees with the list
record Stands (t : C.Trace) : Type 0 where
  pub drive : Drive
  pub wf : well_formed drive ≡ true
  pub agrees : Agrees drive (C.accepted t)

judged : (d : Drive) (t : C.Trace) (s : List ℕ) → Agrees d (C.accepted t) → judged_by d s ≡ R.judgement (C.accepted t) s
unfolding R.judgement
judged d t s g = rw (g.params, g.run, g.commands)

stands : (t : C.Trace) → Stands t
unfolding C.accepted
stands [] = record { drive = fresh_drive; wf = K.wf_fresh; agrees = fresh_good.agrees }
stands (m ∷ t) =
    let g = stands t in
    let d = g.drive in
    let s = m.bytes in
    cases (eqb (R.judgement (C.accepted t) s) 0)
    (λ q.
    let j : judged_by d s ≡ 0 = judged d t s g.agrees ∙ eqb-true _ 0 q in
    let p = refusal_passed s _ _ _ _ _ j in
    let e : data_refusal (event_in s) ≡ 0 = (record_passed s p.0).1 in
    record {
      drive = (applied d (event_in s)).drive;
      wf = K.wf_applied d (event_in s) g.wf e p.1;
      agrees = rw q (agrees_applied d (C.accepted t) g.wf g.agrees (event_in s) e);
    })
    (λ q. record { drive = d; wf = g.wf; agrees = rw q g.agrees })

time : (t : C.Trace) → 1 ≤ min_rep_time (R.parameters (C.accepted t))
time t = let g = stands t in (time_range g.drive (C.accepted t) g.wf g.agrees).0

-- ── The move ──

pub moved_is : (p t r x : ℕ) → (x ≡ toward p t r) ↔ P.Moved p t r x
moved_is p t r x =
    let m = some_move p t r in
    (λ e. subst (P.Moved p t r) (sym (e ∙ same_move p t r m.0 m.1)) m.1, λ h. sym (same_move p t r x h))

distances : (p t r x : ℕ)
    → ((distance p x ≡ min r (distance p t)) × (distance x t + min r (distance p t) ≡ distance p t)) ↔ (x ≡ toward p t r)
distances p t r x = (
  λ h. cases (eqb x (toward p t r)) (λ q. eqb-true x (toward p t r) q) (λ q. absurd ((rw q at (move_told x p t r)) h)),
  λ e. rw e (move_distance p t r, move_left p t r),
)

-- ── One record after a trace ──

module _ (m : C.Moment) (t : C.Trace) where
  abbrev now : List Event
  now = C.accepted (m ∷ t)

  abbrev tick : Bool
  tick = C.accepted_as R.is_tick m t

  pub same_spacing : C.Spacing m t ↔ S.Spacing m t
  same_spacing = (there, back)
    where
      there : C.Spacing m t → S.Spacing m t
      there f i x old e r q =
          let split : t ≡ take i t ++ (x ∷ old) = sym (take-append-drop i t) ∙ ap (λ u. take i t ++ u) e in
          let l = f (take i t) x old split ((reports x).1 r) ((reports m).1 q) in
          let c = ticks_clock (m ∷ take i t) (x ∷ old) in
          let k : S.clock (m ∷ t) ≡ S.clock (m ∷ (take i t ++ (x ∷ old))) = ap (λ u. S.clock (m ∷ u)) split in
          omega arith

      back : S.Spacing m t → C.Spacing m t
      back f between x old e r q =
          let place : drop (length between) t ≡ x ∷ old = ap (drop (length between)) e ∙ drop-append_seam between (x ∷ old) in
          let l = f (length between) x old place ((reports x).0 r) ((reports m).0 q) in
          let c = ticks_clock (m ∷ between) (x ∷ old) in
          let k : S.clock (m ∷ t) ≡ S.clock (m ∷ (between ++ (x ∷ old))) = ap (λ u. S.clock (m ∷ u)) e in
          omega arith

  -- whether what the record leaves differs from the last report
  abbrev new : Bool
  new = differs (act_pos_cov (C.in_force m t)) (R.position_in now) (R.status_in now) (C.last_report t)

  pub same_new : {r p s : ℕ} → S.Last t r p s → Says new (S.New (S.in_force m t) (R.position_in now) (R.status_in now) r p s)
  same_new l = go l (last_only l)
    where
      go : {r p s : ℕ} → S.Last t r p s → C.last_report t ≡ sent_of r p s
          → Says new (S.New (S.in_force m t) (R.position_in now) (R.status_in now) r p s)
      go (S.reported {p} {s} n x o a b c d) e = rw e (new_flag (S.in_force m t) (R.position_in now) (R.status_in now) 1 p s)
      go (S.none_since_restart n x o a b c) e = rw e (new_flag (S.in_force m t) (R.position_in now) (R.status_in now) 0 0 0)
      go (S.none_at_all w) e = rw e (new_flag (S.in_force m t) (R.position_in now) (R.status_in now) 0 0 0)

  -- a record that is neither restart nor report leaves the last report
  last_kept : (S.RestartAt m t → ⊥) → C.reports m ≡ false → C.last_report (m ∷ t) ≡ C.last_report t
  unfolding C.last_report
  last_kept r q = rw ((unset _ (same_restart m t)).1 r, silent_in m.answer q)

  since_tick : S.TickAt m t → C.reports m ≡ false → C.since (m ∷ t) ≡ C.since t + 1
  unfolding Counts.since
  since_tick k q = rw (q, (unset _ (same_restart m t)).1 (no_restart m t k), (same_tick m t).1 k)

  sent_same : (cov p s r : ℕ) (x : Sent) → x ≡ sent r s → changed cov p r ≡ false → differs cov p s x ≡ false
  sent_same cov p s r x e c = rw (e, c, eq-eqb s s refl)

  pub same_waiting : C.Waiting m t ↔ S.Waiting m t
  same_waiting = (there, back)
    where
      there : C.Waiting m t → S.Waiting m t
      there w k q n r p s since last up fresh =
          let silent = (unset _ (reports m)).1 q in
          let a = since_only since in
          let b = since_tick k silent in
          let up' : min_rep_time (C.in_force m t) ≤ C.since (m ∷ t) = omega arith in
          let row = since_stretch ticks reported restarts (m ∷ t) (min_rep_time (C.in_force m t)) up' in
          let z = w row.new row.old row.split ((same_tick m t).1 k) row.ticks row.quiet in
          let l = rw (last_kept (no_restart m t k) silent) at z.1 in
          let f : new ≡ false = sent_same _ _ _ z.0 (C.last_report t) l z.2 in
          false≢true (sym f ∙ (same_new last).1 fresh)

      back : S.Waiting m t → C.Waiting m t
      back w row old e k n quiet =
          let z = quiet_last ticks reported restarts m t row old e (rw n (time (m ∷ t))) quiet in
          let up : min_rep_time (C.in_force m t) ≤ C.since t + 1 = rw n at z.2 in
          let tk = (same_tick m t).0 k in
          let last = some_last t in
          let none = w tk ((unset _ (reports m)).0 z.1) (C.since t) _ _ _ (since_is t) last.3 up in
          let f : new ≡ false = (unset new (same_new last.3)).1 none in
          let s = same_sent _ _ _ (C.last_report t) f in
          (s.0, last_kept (no_restart m t tk) z.1 ∙ s.1, s.2)

  pub same_moving : C.Move m t ↔ S.Move m t
  same_moving = (
    λ f k. rw (same_before t) at ((go (C.position_after t)).0 (f ((same_tick m t).1 k))),
    λ f k. (go (C.position_after t)).1 (rw (← same_before t) at (f ((same_tick m t).0 k))),
  )
    where
      go : (p : ℕ)
          → (let target = R.target_from p (event_in m.bytes) (C.accepted t) in
          let step = min (rate (C.in_force m t)) (distance p target) in
          ((distance p m.position ≡ step) × (distance m.position target + step ≡ distance p target))
          ↔ P.Moved p target (P.Rate (S.in_force m t)) m.position)
      go p =
          let target = R.target_from p (event_in m.bytes) (C.accepted t) in
          let a = distances p target (rate (C.in_force m t)) m.position in
          let b = moved_is p target (rate (C.in_force m t)) m.position in
          (λ h. b.0 (a.0 h), λ h. a.1 (b.1 h))

  pub same_position : C.Position m t ↔ S.Position m t
  same_position = (λ e h x. e ∙ ap R.position_in (events_only x), λ f. f _ (events_are (m ∷ t)))

  pub same_content : C.Content m t ↔ S.Content m t
  same_content = (there, λ f q. let g = report_gives m.answer q in let e = f _ _ g.2 in g.3 ∙ rw (e.0, e.1))
    where
      there : C.Content m t → S.Content m t
      there f p s g =
          let e : sent p s ≡ sent (R.position_in now) (R.status_in now) = sym (gives_in g) ∙ f (gives_report g) in
          let x : p ≡ R.position_in now = cc in
          let y : s ≡ R.status_in now = cc in
          (x, y)

  pub same_other_move : (tick ≡ false → m.position ≡ C.position_after t) ↔ S.OtherMove m t
  same_other_move = (
    λ f n. cases tick (λ k. (same_tick m t).0 k) (λ k. absurd (n (f k ∙ same_before t))),
    λ f k.
        cases (eqb m.position (S.position_after t))
        (λ e. eqb-true _ _ e ∙ sym (same_before t))
        (λ e. absurd ((unset _ (same_tick m t)).0 k (f (eqb-false _ _ e)))),
  )

  pub same_other_report : (tick ≡ false → C.reports m ≡ false) ↔ S.OtherReport m t
  same_other_report = (
    λ f r. cases tick (λ k. (same_tick m t).0 k) (λ k. absurd ((unset _ (reports m)).0 (f k) r)),
    λ f k. (unset _ (reports m)).1 (λ r. (unset _ (same_tick m t)).0 k (f r)),
  )

  pub same_others : C.Others m t ↔ S.Others m t
  same_others = (
    λ f. (same_other_move.0 (λ k. (f k).0), same_other_report.0 (λ k. (f k).1)),
    λ f k. (same_other_move.1 f.0 k, same_other_report.1 f.1 k),
  )

  -- step 4
  pub due_at_lem : (n r p s : ℕ) → S.Since t n → S.Last t r p s → Says (C.due_in m t) (S.DueAt m t n r p s)
  due_at_lem n r p s since last = rw (since_only since) (go last (last_only last))
    where
      go : {r p s : ℕ} → S.Last t r p s → C.last_report t ≡ sent_of r p s
          → Says (report_due (C.in_force m t) (n + 1) (R.position_in now) (R.status_in now) (C.last_report t)) (S.DueAt m t n r p s)
      go (S.reported {p} {s} a x o b c d f) e = rw e (same_due_sent (C.in_force m t) (n + 1) (R.position_in now) (R.status_in now) p s)
      go (S.none_since_restart a x o b c d) e = rw e (same_due_silent (C.in_force m t) (n + 1) (R.position_in now) (R.status_in now))
      go (S.none_at_all w) e = rw e (same_due_silent (C.in_force m t) (n + 1) (R.position_in now) (R.status_in now))

  pub same_due : C.Due m t ↔ S.Due m t
  same_due = (
    λ f k n r p s a b. (same_flags (C.reports m) (C.due_in m t) (reports m) (due_at_lem n r p s a b)).0 (f ((same_tick m t).1 k)),
    λ f k.
        let l = some_last t in
        (same_flags (C.reports m) (C.due_in m t) (reports m) (due_at_lem (C.since t) _ _ _ (since_is t) l.3)).1
        (f ((same_tick m t).0 k) (C.since t) _ _ _ (since_is t) l.3),
  )

  pub same_only : C.OnlyDue m t ↔ S.OnlyDue m t
  same_only = (
    λ f k q n r p s a b. (due_at_lem n r p s a b).0 (f ((same_tick m t).1 k) ((reports m).1 q)),
    λ f k q.
        let l = some_last t in
        (due_at_lem (C.since t) _ _ _ (since_is t) l.3).1 (f ((same_tick m t).0 k) ((reports m).0 q) (C.since t) _ _ _ (since_is t) l.3),
  )

  pub same_waiting_undue : C.WaitingUndue m t ↔ S.WaitingUndue m t
  same_waiting_undue = (
    λ f n r p s a b h. same_waiting.0 (f ((unset _ (due_at_lem n r p s a b)).1 h)),
    λ f e.
        let l = some_last t in
        same_waiting.1 (f (C.since t) _ _ _ (since_is t) l.3 ((unset _ (due_at_lem (C.since t) _ _ _ (since_is t) l.3)).0 e)),
  )

  pub same_refusal : C.Refusal m t ↔ S.Refusal m t
  same_refusal = same_number m.answer (R.judgement (C.accepted t) m.bytes)

  pub same_formed : C.Formed m t ↔ S.Formed m t
  same_formed = (λ f e. f (ap number_of e), λ f e. f (number_one m.answer e))

  pub same_holds : C.Holds m t ↔ S.Holds m t
  same_holds = (
    λ h. record {
      spacing = same_spacing.0 h.spacing;
      waiting = same_waiting.0 h.waiting;
      move = same_moving.0 h.move;
      position = same_position.0 h.position;
      content = same_content.0 h.content;
      others = same_others.0 h.others;
      due = same_due.0 h.due;
      refusal = same_refusal.0 h.refusal;
      formed = same_formed.0 h.formed;
    },
    λ h. record {
      spacing = same_spacing.1 h.spacing;
      waiting = same_waiting.1 h.waiting;
      move = same_moving.1 h.move;
      position = same_position.1 h.position;
      content = same_content.1 h.content;
      others = same_others.1 h.others;
      due = same_due.1 h.due;
      refusal = same_refusal.1 h.refusal;
      formed = same_formed.1 h.formed;
    },
  )

  pub same_hall_holds : C.HallHolds m t ↔ S.HallHolds m t
  same_hall_holds = (
    λ h. record {
      spacing = same_spacing.0 h.spacing;
      waiting = same_waiting_undue.0 h.waiting;
      move = same_moving.0 h.move;
      position = same_position.0 h.position;
      content = same_content.0 h.content;
      others = same_others.0 h.others;
      only = same_only.0 h.only;
      refusal = same_refusal.0 h.refusal;
      formed = same_formed.0 h.formed;
    },
    λ h. record {
      spacing = same_spacing.1 h.spacing;
      waiting = same_waiting_undue.1 h.waiting;
      move = same_moving.1 h.move;
      position = same_position.1 h.position;
      content = same_content.1 h.content;
      others = same_others.1 h.others;
      only = same_only.1 h.only;
      refusal = same_refusal.1 h.refusal;
      formed = same_formed.1 h.formed;
    },
  )
