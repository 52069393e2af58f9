-- Proofs: what the calls leave in the row and in the row that is lent for their answers, place by place.
use Rattle.std.specs.Prelude.{◌≡◌, refl, ◌↔◌, Bool, true, false, ◌&&◌, List, [], ◌∷◌, ◌++◌, map, ℕ, zero, suc, ◌+◌, ◌-◌, ◌*◌, ◌≤◌, ◌<◌, ltb, eqb, length, get_or, drop}
use Rattle.std.proofs.Common.{sym, ap, ◌∙◌, arith, not-suc-le-zero, le_of_suc-le-suc, get_or-append-add, get_or-drop, eqb-true, eq-eqb, ltb-true, ltb-false, lt-ltb, le-ltb, leb-true, le-leb}
use Rattle.std.proofs.Math.Bool.{and-false}
use Rattle.std.proofs.lemmas.List.{length-map}
use Rattle.std.proofs.Math.ListN.{get_or-append, get_or-eq_default}
use Rattle.std.proofs.lemmas.Bool.{eqb-false}
use Rattle.numbers.specs.Numbers.{pick, next}
use Rattle.numbers.specs.Laws.{cases}
use Rattle.numbers.specs.Places.{tabulate}
use Rattle.numbers.specs.PlaceLaws.{count_same, tab_length, tab_at}
use Rattle.answer.specs.Answer.{number_of}
use Rattle.event.specs.Event.{event_in}
use Rattle.event.specs.Laws.{admitted}
use Rattle.damper.specs.declared.Drive.{Drive}
use Rattle.damper.specs.Record.{fresh_drive}
use Rattle.damper.specs.WellFormed.{well_formed}
use Rattle.damper.specs.Tick.{advance, status_of, due}
use Rattle.damper.specs.Step.{tick_with, refusal_of, step_of}
use Rattle.damper.specs.Laws.{refusal_none}
use Rattle.invariant.specs.Effects.{step_refused, step_accepted, number_after, wait_after_lem}
use Rattle.choice.specs.Sent.{report_at}
use Rattle.hall.specs.Hall.{Call, give, tick, named_in, call_refusal, carried_out}
use Rattle.hall.specs.Quota.{hall_ticked, sends}
use Rattle.hall.specs.Turns.{hall_tick, turn, turns_of, row_after, tick_number, answers_after, hall_step}
use Rattle.hall.specs.Laws.{row_length, ticked_fits, give_turns, answers_end_length}
use Rattle.hall.specs.ListLaws.{named_at, named_place}
use Rattle.hall.specs.TickLaws.{tick_row, tick_numbers}
use Rattle.hall.specs.EventLaws.{event_row, event_answers}
use Rattle.hall.specs.NumberLaws.{formed_number, unformed_number}
use Rattle.sentences.specs.Words.{◌exceeds◌, choose}
use Rattle.sentences.specs.Fields as F
use Rattle.sentences.specs.Fields.{◌≔◌, ◌with◌}
use Rattle.sentences.specs.Paper as P1
use Rattle.sentences.specs.Rules.{same_due}
use Rattle.sentences.specs.Forms.{same_formed, not_formed}
use Rattle.shares.specs.Shares as Shares
use Rattle.sentences_hall.specs.Paper as P
use Rattle.sentences_hall.specs.Refused.{same_call}
use Rattle.sentences_hall.specs.Senders.{same_count, whom_it_sends, sends_only}

-- ── A call that is refused itself ──
module _ (row : List Drive) (c : Call) (k : ℕ) (e : P.answer_to (length row) c ≡ suc k) where
  pub not_carried : call_refusal (length row) c ≡ 0 → ⊥
  not_carried z = let n = sym (same_call (length row) c ∙ e) ∙ z in absurd (omega arith)

  pub refused_row : row_after hall_step row (turns_of row c) ≡ row
  unfolding row_after
  refused_row = rw (Shares.refused_turns row c not_carried)

  pub refused_answers : (answers : List ℕ) → answers_after hall_step row c answers ≡ answers
  refused_answers answers = Shares.refused_answers row c not_carried answers

-- ── The event call ──

-- one entry's answer
pub answer_number : (d : Drive) (s : List ℕ) → number_of (step_of d s).answer ≡ refusal_of d s
answer_number d s =
    cases (eqb (refusal_of d s) 0)
    (λ q.
    let z = eqb-true _ 0 q in
    rw (step_accepted d s z, z) (number_after d (event_in s) (admitted (event_in s) (refusal_none d s z).2).kind))
    (λ q. rw (step_refused d s (eqb-false _ 0 q)))

map_at : (f : ℕ → ℕ) (list : List ℕ) (k : ℕ) → k < length list → get_or (map f list) k 0 ≡ f (get_or list k 0)
map_at f [] k h = absurd (not-suc-le-zero h)
map_at f (i ∷ list) zero h = refl
map_at f (i ∷ list) (suc k) h = map_at f list k (le_of_suc-le-suc h)

pub is_named : (i : ℕ) (list : List ℕ) → P.Listed i list → named_in i list ≡ true
is_named i list l = rw (← l.stands) (named_at list l.place l.within)

pub same_named : (i : ℕ) (list : List ℕ) → (named_in i list ≡ true) ↔ P.Listed i list
same_named i list = (λ e. let p = named_place i list e in record { place = p.0; within = p.1; stands = p.2 }, is_named i list)

pub is_unnamed : (i : ℕ) (list : List ℕ) → (P.Listed i list → ⊥) → named_in i list ≡ false
is_unnamed i list n =
    cases (named_in i list)
    (λ q. absurd (n ((same_named i list).0 q)))
    (λ q. q)

module _ (row : List Drive) (list s answers : List ℕ) where
  abbrev call : Call
  call = give list s (length answers)

  abbrev after : List Drive
  after = row_after hall_step row (turns_of row call)

  abbrev answered : List ℕ
  answered = answers_after hall_step row call answers

  pub event_length : length after ≡ length row
  event_length = row_length hall_step row (turns_of row call)

  pub answers_length : length answered ≡ length answers
  answers_length =
      answers_end_length hall_step row call answers
      (give_turns row (length answers) s list (pick (eqb (call_refusal (length row) call) 0) (length list) 0) refl)

  module _ (ok : P.answer_to (length row) call ≡ 0) where
    carried : carried_out (length row) call ≡ true
    carried = eq-eqb _ 0 (same_call (length row) call ∙ ok)

    row_at : (i : ℕ) → i < length row → P.drive after i ≡ pick (named_in i list) (step_of (P.drive row i) s).drive (P.drive row i)
    row_at i h =
        ap (λ (l : List Drive). get_or l i fresh_drive) (event_row hall_step row list s (length answers))
        ∙ tab_at (length row) _ fresh_drive i h
        ∙ rw carried

    pub named_drive : (i : ℕ) → i < length row → P.Listed i list → P.drive after i ≡ (step_of (P.drive row i) s).drive
    named_drive i h l = row_at i h ∙ rw (is_named i list l)

    pub unnamed_drive : (i : ℕ) → i < length row → (P.Listed i list → ⊥) → P.drive after i ≡ P.drive row i
    unnamed_drive i h n = row_at i h ∙ rw (is_unnamed i list n)

    abbrev said : ℕ → ℕ
    said i = number_of (step_of (P.drive row i) s).answer

    answers_are : answered ≡ map said list ++ drop (length list) answers
    answers_are = event_answers hall_step row list s answers ∙ rw carried

    pub entry_answer : (k : ℕ) → k < length list → get_or answered k 0 ≡ refusal_of (P.drive row (get_or list k 0)) s
    entry_answer k h =
        ap (λ (l : List ℕ). get_or l k 0) answers_are
        ∙ get_or-append (map said list) _ 0 k (rw (length-map list said) h)
        ∙ map_at said list k h
        ∙ answer_number (P.drive row (get_or list k 0)) s

    pub further_answer : (k : ℕ) → length list ≤ k → get_or answered k 0 ≡ get_or answers k 0
    further_answer k h =
        let size = length-map list said in
        let from : k ≡ length (map said list) + (k - length list) = omega (arith, size, h) in
        let back : length list + (k - length list) ≡ k = omega arith in
        ap (λ (l : List ℕ). get_or l k 0) answers_are
        ∙ ap (λ (n : ℕ). get_or (map said list ++ drop (length list) answers) n 0) from
        ∙ get_or-append-add (map said list) (drop (length list) answers) (k - length list) 0
        ∙ get_or-drop (length list) answers (k - length list) 0
        ∙ ap (λ (n : ℕ). get_or answers n 0) back

-- "Restart clears the wait; otherwise only hall ticks change it."
pub wait_of_event : (d : Drive) (s : List ℕ)
    → (step_of d s).drive.wait ≡ choose (eqb (refusal_of d s) 0 && eqb (get_or s 2 0) 9) 0 d.wait
wait_of_event d s =
    cases (eqb (refusal_of d s) 0)
    (λ q.
    let z = eqb-true _ 0 q in
    rw (step_accepted d s z, q)
    (wait_after_lem d (event_in s) (admitted (event_in s) (refusal_none d s z).2).kind
    ∙ cases (eqb (get_or s 2 0) 9) (λ k. rw k) (λ k. rw k)))
    (λ q. rw (step_refused d s (eqb-false _ 0 q), q))

-- ── One drive at a hall tick ──

same_next : (n : ℕ) → next n ≡ P1.one_more n
same_next n =
    cases (ltb n 65535)
    (λ e. let h : n < 65535 = ltb-true _ _ e in rw e (omega arith))
    (λ e. let h : 65535 ≤ n = ltb-false _ _ e in rw e (omega arith))

module _ (d : Drive) where
  abbrev n : Drive
  n = (advance d).drive

  pub sent_drive : well_formed d ≡ true
      → (hall_ticked true d).drive
      ≡ n with (F.since ≔ 0 ∷ F.reported ≔ 1 ∷ F.last_position ≔ n.position ∷ F.last_status ≔ status_of n ∷ F.wait ≔ 0 ∷ [])
  unfolding hall_ticked tick_with
  sent_drive w = rw (w, and-false (due n))

  pub held_drive : well_formed d ≡ true → due n ≡ true → (hall_ticked false d).drive ≡ n with (F.wait ≔ P1.one_more d.wait ∷ [])
  unfolding hall_ticked tick_with
  held_drive w e = rw (w, e, same_next d.wait)

  pub undue_drive : well_formed d ≡ true → due n ≡ false → (hall_ticked false d).drive ≡ n with (F.wait ≔ 0 ∷ [])
  unfolding hall_ticked tick_with
  undue_drive w e = rw (w, e)

-- ── The hall tick, sending those that `goes` tells ──
module _ (row : List Drive) (quota : ℕ) (numbers : List ℕ) where
  abbrev ticks : Call
  ticks = tick quota (length numbers)

  abbrev ticked : List Drive
  ticked = row_after hall_step row (turns_of row ticks)

  abbrev filled : List ℕ
  filled = answers_after hall_step row ticks numbers

  pub ticked_length : length ticked ≡ length row
  ticked_length = row_length hall_step row (turns_of row ticks)

  module _ (ok : P.answer_to (length row) ticks ≡ 0) where
    taken : call_refusal (length row) ticks ≡ 0
    taken = same_call (length row) ticks ∙ ok

    abbrev go : ℕ → Bool
    go = sends quota row

    all_asked : turns_of row ticks ≡ tabulate (length row) (λ i. turn (hall_tick (go i)) i)
    unfolding turns_of
    all_asked = rw taken

    room : length row ≤ length numbers
    unfolding call_refusal
    room = (ticked_fits (length row) quota (length numbers) taken).1

    drive_at : (i : ℕ) → i < length row → P.drive ticked i ≡ (hall_ticked (go i) (P.drive row i)).drive
    drive_at i h =
        ap (λ (l : List Drive). get_or l i fresh_drive)
        (ap (row_after hall_step row) all_asked ∙ tick_row (λ j. hall_tick (go j)) hall_step row)
        ∙ tab_at (length row) _ fresh_drive i h

    abbrev said_at : ℕ → ℕ
    said_at i = tick_number (hall_ticked (go i) (P.drive row i)).answer

    numbers_are : filled ≡ tabulate (length numbers) (λ i. pick (ltb i (length row)) (said_at i) (get_or numbers i 0))
    unfolding answers_after
    numbers_are = rw all_asked (tick_numbers (λ j. hall_tick (go j)) hall_step tick_number row numbers room)

    pub filled_length : length filled ≡ length numbers
    filled_length = ap length numbers_are ∙ tab_length (length numbers) _

    number_at : (i : ℕ) → i < length row → get_or filled i 0 ≡ said_at i
    number_at i h =
        ap (λ (l : List ℕ). get_or l i 0) numbers_are ∙ tab_at (length numbers) _ 0 i (omega (arith, h, room)) ∙ rw (lt-ltb i (length row) h)

    pub further_number : (i : ℕ) → length row ≤ i → get_or filled i 0 ≡ get_or numbers i 0
    further_number i h =
        cases (ltb i (length numbers))
        (λ e. ap (λ (l : List ℕ). get_or l i 0) numbers_are ∙ tab_at (length numbers) _ 0 i (ltb-true _ _ e) ∙ rw (le-ltb i (length row) h))
        (λ e.
        let l = ltb-false _ _ e in
        get_or-eq_default filled 0 (omega (arith, filled_length)) ∙ sym (get_or-eq_default numbers 0 l))

    module _ (goes : ℕ → Bool) (whom : P.Sends quota row goes) (i : ℕ) (h : i < length row) where
      goes_is : go i ≡ goes i
      goes_is = sends_only quota row goes whom i h

      abbrev d : Drive
      d = P.drive row i

      abbrev left : Drive
      left = (advance d).drive

      pub unformed_ticked : (P1.WellFormed d → ⊥) → (P.drive ticked i ≡ d) × (get_or filled i 0 ≡ 1)
      unformed_ticked f =
          let w = not_formed d f in
          (drive_at i h ∙ (unformed_number (go i) d w).1, number_at i h ∙ (unformed_number (go i) d w).0)

      pub sent_ticked : P1.WellFormed d → goes i ≡ true
          → (P.drive ticked i
          ≡ left with (F.since ≔ 0 ∷ F.reported ≔ 1 ∷ F.last_position ≔ left.position ∷ F.last_status ≔ status_of left ∷ F.wait ≔ 0 ∷ []))
          × (get_or filled i 0 ≡ 65536 + 256 * left.position + status_of left)
      sent_ticked f s =
          let w = (same_formed d).1 f in
          (drive_at i h ∙ rw (goes_is ∙ s) (sent_drive d w), number_at i h ∙ formed_number (go i) d w ∙ rw (goes_is ∙ s))

      pub held_ticked : P.Due d → goes i ≡ false
          → (P.drive ticked i ≡ left with (F.wait ≔ P1.one_more d.wait ∷ [])) × (get_or filled i 0 ≡ 0)
      held_ticked f s =
          let w = (same_formed d).1 f.formed in
          let e = (same_due left (status_of left)).1 f.reports in
          (drive_at i h ∙ rw (goes_is ∙ s) (held_drive d w e), number_at i h ∙ formed_number (go i) d w ∙ rw (goes_is ∙ s))

      pub undue_ticked : P1.WellFormed d → (P.Due d → ⊥) → (P.drive ticked i ≡ left with (F.wait ≔ 0 ∷ [])) × (get_or filled i 0 ≡ 0)
      undue_ticked f u =
          let w = (same_formed d).1 f in
          let e : due left ≡ false =
          cases (due left) (λ q. absurd (u record { formed = f; reports = (same_due left (status_of left)).0 q })) (λ q. q) in
          let s : goes i ≡ false = cases (goes i) (λ q. absurd (u (whom.due i h q))) (λ q. q) in
          (drive_at i h ∙ rw (goes_is ∙ s) (undue_drive d w e), number_at i h ∙ formed_number (go i) d w ∙ rw (goes_is ∙ s))

      -- a number is that of a report just where the drive is sent
      pub told_sent : report_at filled i ≡ goes i
      told_sent =
          cases (goes i)
          (λ s.
          let n = (sent_ticked (whom.due i h s).formed s).1 in
          rw s (le-leb 65536 (get_or filled i 0) (omega (arith, n))))
          (λ s.
          rw s
          (cases (well_formed d)
          (λ w.
          let n : get_or filled i 0 ≡ 0 = number_at i h ∙ formed_number (go i) d w ∙ rw (goes_is ∙ s) in
          rw n)
          (λ w.
          let n : get_or filled i 0 ≡ 1 = number_at i h ∙ (unformed_number (go i) d w).0 in
          rw n)))

    -- and as many numbers are those of reports as drives go
    told_many : (goes : ℕ → Bool) → P.Sends quota row goes → P.how_many (length row) (report_at filled) ≡ P.how_many (length row) goes
    told_many goes whom =
        sym (same_count (length row) (report_at filled))
        ∙ count_same (report_at filled) goes (length row) (told_sent goes whom)
        ∙ same_count (length row) goes

    pub reports_sent : (is_due : ℕ → Bool) → ((i : ℕ) → i < length row → (is_due i ≡ true) ↔ P.Due (P.drive row i))
        → (let many = P.how_many (length row) is_due in P.how_many (length row) (report_at filled) ≡ choose (many exceeds quota) quota many)
    reports_sent is_due tells =
        let whom = whom_it_sends quota row in
        told_many (sends quota row) whom ∙ whom.many is_due tells

-- the numbers of reports
pub report_number : (numbers : List ℕ) (i : ℕ) → (report_at numbers i ≡ true) ↔ (65536 ≤ get_or numbers i 0)
report_number numbers i = (leb-true 65536 (get_or numbers i 0), le-leb 65536 (get_or numbers i 0))
