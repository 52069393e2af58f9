-- Laws of an event call. W-205: "its answers for lists without repeats are unaffected", by the definition of W-201; and each drive is given
-- the event as it stood before the call, whatever the order of the list.
use Rattle.std.specs.Prelude.{◌≡◌, Bool, true, false, not, ◌&&◌, ◌||◌, eqb, drop}
use Rattle.std.proofs.Math.Path.{refl, sym}
use Rattle.std.proofs.Common.{ap, ◌∙◌, arith}
use Rattle.std.proofs.Math.Bool.{or-true}
use Rattle.std.proofs.lemmas.Bool.{false≢true}
use mathlib.Core.List.{List, [], ◌∷◌, ◌++◌, map, map-map}
use Prim.Native.Nat.{ℕ, ◌<◌}
use Rattle.std.proofs.Math.ListN.{length, length-map}
use borrow.Author.Tests.{eqb-true, eqb-false, eq-eqb, lt-leb, not-true}
use Rattle.numbers.specs.Numbers.{pick}
use Rattle.numbers.specs.Laws.{cases, and_left, and_right, passed}
use Rattle.numbers.specs.Places.{tabulate}
use Rattle.numbers.specs.PlaceLaws.{tab_by, tab_same}
use Rattle.answer.specs.Answer.{number_of}
use Rattle.damper.specs.declared.Drive.{Drive}
use Rattle.damper.specs.declared.Outcome.{Outcome}
use Rattle.damper.specs.Record.{fresh_drive}
use Rattle.damper.specs.Carry.{StepOn, answers_in}
use Rattle.hall.specs.Hall.{Call, give, tick, bad_number, named_in, names_twice, refusal_to16, call_refusal, carried_out, at}
use Rattle.hall.specs.Turns.{Given, bytes, hall_step, Turn, turns_asked, turns_of, turned, row_after, answers_after, turns_in}
use Rattle.hall.specs.Laws.{good_at, event_passed, first_most, asked_after, refused_before}
use Rattle.hall.specs.ListLaws.{named_place}
use Rattle.hall.specs.OnceLaws.{once_row, once_turned}

-- When 19 is the answer.
module _ (n : ℕ) (list s : List ℕ) (room : ℕ) where
  -- "19 when a list names a drive twice, checked after 16"
  pub twice_refused : refusal_to16 n list s room ≡ 0 → names_twice list ≡ true → call_refusal n (give list s room) ≡ 19
  unfolding call_refusal
  twice_refused e t = asked_after n list s room _ e ∙ rw t

  pub refused_twice : call_refusal n (give list s room) ≡ 19 → (refusal_to16 n list s room ≡ 0) × (names_twice list ≡ true)
  unfolding call_refusal
  refused_twice e =
      let first = refusal_to16 n list s room in
      cases (eqb first 0)
      (λ q.
      let z = eqb-true first 0 q in
      let asked = sym (asked_after n list s room _ z) ∙ e in
      (z, cases (names_twice list) (λ t. t) (λ t. let w : 0 ≡ 19 = rw t at asked in absurd (omega arith))))
      (λ q.
      let few = first_most n list s room in
      let w = sym (refused_before n list s room _ (eqb-false first 0 q)) ∙ e in
      absurd (omega arith))

  -- a list without repeats is refused as W-201 has it
  once_refusal : names_twice list ≡ false → call_refusal n (give list s room) ≡ refusal_to16 n list s room
  unfolding call_refusal
  once_refusal t = rw t

  -- and one that is carried out has none
  pub given_once : call_refusal n (give list s room) ≡ 0 → names_twice list ≡ false
  unfolding call_refusal
  given_once e = (passed (names_twice list) 19 0 (event_passed n list s room _ e).3 (omega arith)).0

-- Lists without repeats, as W-201 has them.

-- W-201's turns of a call: of an event call where none of 14 to 16 fits
abbrev pub turns_to16 : List Drive → Call → List Turn
turns_to16 row (give list s room) = pick (eqb (refusal_to16 (length row) list s room) 0) (turns_asked row (give list s room)) []
turns_to16 row (tick quota room) = turns_of row (tick quota room)

-- and of a list of calls
unfoldable pub turns_in_to16 : List Drive → List Call → List Turn
turns_in_to16 row [] = []
turns_in_to16 row (c ∷ cs) = let ts = turns_to16 row c in ts ++ turns_in_to16 (row_after hall_step row ts) cs

-- whether no list of these calls names a drive twice
abbrev pub once : Call → Bool
once (give list s room) = not (names_twice list)
once (tick quota room) = true

unfoldable pub all_once : List Call → Bool
all_once [] = true
all_once (c ∷ cs) = once c && all_once cs

once_turns : (row : List Drive) (c : Call) → once c ≡ true → turns_of row c ≡ turns_to16 row c
unfolding turns_of
once_turns row (give list s room) e = rw (once_refusal (length row) list s room (not-true (names_twice list) e))
once_turns row (tick quota room) e = refl

-- "its answers for lists without repeats are unaffected": the refusal, the row and the answer row are those of W-201
pub unaffected : (step : StepOn Given) (row : List Drive) (list s answers : List ℕ) → names_twice list ≡ false
    → (let n = length row in
    let c = give list s (length answers) in
    (call_refusal n c ≡ refusal_to16 n list s (length answers))
    × (row_after step row (turns_of row c) ≡ row_after step row (turns_to16 row c))
    × (answers_after step row c answers ≡ answers_in number_of (turned step row (turns_to16 row c)) answers))
unfolding answers_after
unaffected step row list s answers t =
    let same = once_turns row (give list s (length answers)) (ap not t) in
    (once_refusal (length row) list s (length answers) t, ap (row_after step row) same, rw same)

-- and so are all turns of a list of calls
pub turns_unaffected : (row : List Drive) (cs : List Call) → all_once cs ≡ true → turns_in row cs ≡ turns_in_to16 row cs
unfolding turns_in turns_in_to16 all_once
turns_unaffected row [] e = refl
turns_unaffected row (c ∷ cs) e =
    rw (once_turns row c (and_left (once c) _ e), turns_unaffected (row_after hall_step row (turns_to16 row c)) cs (and_right (once c) _ e))

-- The event call, whole: what it leaves in the row and in the answer row, for every row of drives, list, bytes and answer row.
module _ (step : StepOn Given) (row : List Drive) (list s : List ℕ) where
  pub event_row : (room : ℕ)
      → (let n = length row in
      let c = give list s room in
      row_after step row (turns_of row c)
      ≡ tabulate n (λ i. pick (carried_out n c && named_in i list) (step (at row i) (bytes s)).drive (at row i)))
  unfolding turns_of row_after
  event_row room =
      let n = length row in
      let c = give list s room in
      cases (carried_out n c)
      (λ q. rw q (once_row (λ i. bytes s) step row list (given_once n list s room (eqb-true _ 0 q))))
      (λ q. rw q (tab_by fresh_drive row n (at row) refl (λ i h. refl)))

  pub event_answers : (answers : List ℕ)
      → (let c = give list s (length answers) in
      answers_after step row c answers
      ≡ pick (carried_out (length row) c) (map (λ i. number_of (step (at row i) (bytes s)).answer) list ++ drop (length list) answers) answers)
  unfolding turns_of turned answers_in answers_after
  event_answers answers =
      let n = length row in
      let c = give list s (length answers) in
      let f : ℕ → Outcome = λ i. step (at row i) (bytes s) in
      cases (carried_out n c)
      (λ q.
      rw (q, once_turned (λ i. bytes s) step list row (given_once n list s (length answers) (eqb-true _ 0 q)), length-map list f, map-map (λ (o : Outcome). number_of o.answer) f list))
      (λ q. rw q)

-- The order of the list: two lists of one length that name the same drives, both with repeats or both without.

good_named : (n : ℕ) (list : List ℕ) → bad_number n list ≡ false → (i : ℕ) → named_in i list ≡ true → i < n
good_named n list g i e = let p = named_place i list e in rw (← p.2) (good_at n list g p.0 p.1)

good_by : (n : ℕ) (list : List ℕ) → ((i : ℕ) → named_in i list ≡ true → i < n) → bad_number n list ≡ false
unfolding bad_number named_in
good_by n [] h = refl
good_by n (i ∷ list) h =
    rw (lt-leb n i (h i (ap (λ (b : Bool). b || named_in i list) (eq-eqb i i refl))))
    (good_by n list (λ j e. h j (rw e (or-true (eqb i j)))))

same_bad : (n : ℕ) (list other : List ℕ) → ((i : ℕ) → named_in i list ≡ named_in i other) → bad_number n list ≡ bad_number n other
same_bad n list other e =
    cases (bad_number n other)
    (λ q.
    cases (bad_number n list)
    (λ p. p ∙ sym q)
    (λ p. absurd (false≢true (sym (good_by n other (λ i f. good_named n list p i (e i ∙ f))) ∙ q))))
    (λ q. good_by n list (λ i f. good_named n other q i (sym (e i) ∙ f)) ∙ sym q)

module _ (list other s : List ℕ) (room : ℕ) (l : length list ≡ length other) (t : names_twice list ≡ names_twice other) (e : (i : ℕ) → named_in i list ≡ named_in i other) where
  same_refusal : (n : ℕ) → call_refusal n (give list s room) ≡ call_refusal n (give other s room)
  unfolding call_refusal
  same_refusal n = rw (same_bad n list other e, l, t)

  -- The call gives the same number and leaves the same row.
  pub any_order : (step : StepOn Given) (row : List Drive)
      → (let n = length row in
      (call_refusal n (give list s room) ≡ call_refusal n (give other s room))
      × (row_after step row (turns_of row (give list s room)) ≡ row_after step row (turns_of row (give other s room))))
  any_order step row =
      let n = length row in
      let same = same_refusal n in (
        same,
        event_row step row list s room
            ∙ tab_same fresh_drive n _ _ (λ i h. rw (same, e i))
            ∙ sym (event_row step row other s room),
      )
