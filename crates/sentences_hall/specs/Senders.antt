-- Proofs: which drives are due, and whom a hall tick sends.
use Rattle.std.specs.Prelude.{◌≡◌, refl, ◌↔◌, Bool, true, List, [], ◌∷◌, ℕ, zero, suc, ◌+◌, ◌≤◌, ◌<◌, min, length}
use Rattle.std.proofs.Common.{sym, ap, ◌∙◌, arith, ltb-true, ltb-false}
use Rattle.std.proofs.lemmas.Bool.{false≢true}
use Rattle.numbers.specs.Laws.{cases, and_left, and_right, and_intro}
use Rattle.numbers.specs.Places.{count_below}
use Rattle.numbers.specs.PlaceLaws.{count_same, none_counted}
use Rattle.order.specs.Order.{larger_first, foremost}
use Rattle.order.specs.Laws.{larger_by, by_number, first_only}
use Rattle.answer.specs.Answer.{is_report}
use Rattle.event.specs.Event.{event_in}
use Rattle.damper.specs.declared.Drive.{Drive}
use Rattle.damper.specs.WellFormed.{well_formed}
use Rattle.damper.specs.Tick.{advance, status_of}
use Rattle.damper.specs.Step.{refusal_of, step_of}
use Rattle.invariant.specs.Effects.{step_refused, step_accepted, report_after}
use Rattle.hall.specs.Quota.{due_now, wait_at, due_at, sends}
use Rattle.hall.specs.QuotaLaws.{sent_due, sent_count, held_full, sent_first}
use Rattle.sentences.specs.Words.{◌exceeds◌, choose}
use Rattle.sentences.specs.Paper as P1
use Rattle.sentences.specs.Refusals.{same_refusals}
use Rattle.sentences.specs.Rules.{same_due}
use Rattle.sentences.specs.Forms.{same_formed}
use Rattle.sentences.specs.Prints.{same_report}
use Rattle.sentences_hall.specs.Paper as P

-- ── Due ──

pub same_due_now : (d : Drive) → (due_now d ≡ true) ↔ P.Due d
unfolding due_now
same_due_now d =
    let n = (advance d).drive in (
      λ e. record {
        formed = (same_formed d).0 (and_left (well_formed d) _ e);
        reports = (same_due n (status_of n)).0 (and_right (well_formed d) _ e);
      },
      λ h. and_intro ((same_formed d).1 h.formed) ((same_due n (status_of n)).1 h.reports),
    )

-- a tick, in bytes
abbrev pub a_tick : List ℕ
a_tick = 0x5a ∷ 0xc3 ∷ 1 ∷ 0 ∷ 0 ∷ 0 ∷ []

tick_report : (d : Drive) → is_report (step_of d a_tick).answer ≡ due_now d
unfolding due_now
tick_report d =
    cases (well_formed d)
    (λ w.
    let z : refusal_of d a_tick ≡ 0 = same_refusals d a_tick ∙ rw w refl in
    rw (step_accepted d a_tick z, w) (report_after d (event_in a_tick) refl))
    (λ w.
    let z : refusal_of d a_tick ≡ 1 = same_refusals d a_tick ∙ rw w refl in
    rw (step_refused d a_tick (λ e. absurd (omega arith)), w))

pub due_reports : (d : Drive) → (due_now d ≡ true) ↔ P1.IsReport (step_of d a_tick).answer
due_reports d =
    let r = same_report (step_of d a_tick).answer in
    (λ e. r.0 (tick_report d ∙ e), λ h. sym (tick_report d) ∙ r.1 h)

-- ── How many ──

count_first : (n : ℕ) (p : ℕ → Bool) → count_below (suc n) p ≡ choose (p 0) 1 0 + count_below n (λ i. p (suc i))
unfolding count_below
count_first zero p = cases (p 0) (λ e. rw e) (λ e. rw e)
count_first (suc n) p =
    let rest = count_first n p in
    cases (p (suc n)) (λ e. rw e (omega arith)) (λ e. rw e rest)

pub same_count : (n : ℕ) (p : ℕ → Bool) → count_below n p ≡ P.how_many n p
unfolding count_below
same_count zero p = refl
same_count (suc n) p = count_first n p ∙ ap (λ (k : ℕ). choose (p 0) 1 0 + k) (same_count n (λ i. p (suc i)))

-- ── Whom a hall tick sends ──

smaller : (q m : ℕ) → min q m ≡ choose (m exceeds q) q m
smaller q m =
    cases (m exceeds q)
    (λ e. let l = ltb-true q m e in rw e (omega arith))
    (λ e. let l = ltb-false q m e in rw e (omega arith))

module _ (quota : ℕ) (row : List Drive) where
  abbrev n : ℕ
  n = length row

  -- those whom the definition sends
  pub whom_it_sends : P.Sends quota row (sends quota row)
  whom_it_sends =
      record {
        due = λ i l e. (same_due_now _).0 (sent_due quota row i e);
        many = λ is_due tells.
            let same : count_below n (due_at row) ≡ count_below n is_due =
            count_same (due_at row) is_due n
            (λ i l.
            cases (is_due i)
            (λ q. (same_due_now _).1 ((tells i l).0 q) ∙ sym q)
            (λ q. cases (due_at row i) (λ d. absurd (false≢true (sym q ∙ (tells i l).1 ((same_due_now _).0 d)))) (λ d. d ∙ sym q))) in
            sym (same_count n (sends quota row)) ∙ sent_count quota row ∙ rw same (smaller quota (count_below n is_due))
            ∙ ap (λ (m : ℕ). choose (m exceeds quota) quota m) (same_count n is_due);
        longest = λ i j k l e d f. (sent_first quota row j i l ((same_due_now _).1 d) f e).0;
        lower = λ i j k l e d f w. (sent_first quota row j i l ((same_due_now _).1 d) f e).1 w;
      }

  -- any that the sentence speaks of are the first of those that are due, as many as they are
  abbrev First : (ℕ → Bool) → Type 0
  First goes = (i : ℕ) → i < n → goes i ≡ foremost (larger_first (wait_at row)) (due_at row) n (count_below n goes) i

  are_first : (goes : ℕ → Bool) → P.Sends quota row goes → First goes
  are_first goes s =
      first_only (larger_first (wait_at row)) (by_number (wait_at row)) (due_at row) goes n (count_below n goes) refl
      (λ i l e. (same_due_now _).1 (s.due i l e))
      (λ i j k l d e f.
      let is_due = (same_due_now _).0 d in
      larger_by (wait_at row) i j (s.longest j i l k f is_due e) (s.lower j i l k f is_due e))

  many_go : (goes : ℕ → Bool) → P.Sends quota row goes → count_below n goes ≡ count_below n (sends quota row)
  many_go goes s =
      same_count n goes
      ∙ s.many (due_at row) (λ i l. same_due_now (P.drive row i))
      ∙ sym (whom_it_sends.many (due_at row) (λ i l. same_due_now (P.drive row i)))
      ∙ sym (same_count n (sends quota row))

  -- so they are those
  pub sends_only : (goes : ℕ → Bool) → P.Sends quota row goes → (i : ℕ) → i < n → sends quota row i ≡ goes i
  sends_only goes s i l =
      are_first (sends quota row) whom_it_sends i l
      ∙ ap (λ (m : ℕ). foremost (larger_first (wait_at row)) (due_at row) n m i) (sym (many_go goes s))
      ∙ sym (are_first goes s i l)

  sends_by : (goes : ℕ → Bool) → ((i : ℕ) → i < n → sends quota row i ≡ goes i) → P.Sends quota row goes
  sends_by goes same =
      record {
        due = λ i l e. whom_it_sends.due i l (same i l ∙ e);
        many = λ is_due tells.
            sym (same_count n goes) ∙ sym (count_same (sends quota row) goes n same) ∙ same_count n (sends quota row)
            ∙ whom_it_sends.many is_due tells;
        longest = λ i j k l e d f. whom_it_sends.longest i j k l (same i k ∙ e) d (same j l ∙ f);
        lower = λ i j k l e d f w. whom_it_sends.lower i j k l (same i k ∙ e) d (same j l ∙ f) w;
      }

  pub same_sends : (goes : ℕ → Bool) → ((i : ℕ) → i < n → sends quota row i ≡ goes i) ↔ P.Sends quota row goes
  same_sends goes = (sends_by goes, sends_only goes)

  -- W-204: the one that waited longest is one of them
  pub longest_goes : 1 ≤ quota → (i : ℕ) → P.Longest row i → sends quota row i ≡ true
  longest_goes one i r =
      cases (sends quota row i) (λ e. e)
      (λ e.
      let d = (same_due_now _).1 r.due in
      let full = held_full quota row i d e in
      let none =
      none_counted (sends quota row) n
      (λ j l.
      cases (sends quota row j)
      (λ f.
      let b = sent_first quota row i j r.there d e f in
      let is_due = (same_due_now _).0 (sent_due quota row j f) in
      let most = r.longest j l is_due in
      let same : wait_at row i ≡ wait_at row j = omega (arith, most, b.0) in
      let less = b.1 same in
      let lower = r.lower j l is_due (sym same) in
      absurd (omega arith))
      (λ f. f)) in
      absurd (omega arith))
