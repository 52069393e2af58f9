-- Laws of a hall tick by places: each drive is ticked as it stood before the call.
use Rattle.std.specs.Prelude.{◌≡◌, ℕ, ◌+◌, ◌-◌, ◌<◌, ◌≤◌, ltb}
use Rattle.std.proofs.Math.Path.{ap}
use Rattle.std.proofs.Common.{◌∙◌, arith}
use mathlib.Core.List.{List, [], ◌∷◌, ◌++◌, map, map-map}
use Rattle.std.proofs.Math.ListN.{length, get_or, drop, length-map, get_or-append}
use Rattle.std.proofs.Math.Seq.{get_or-append-add, get_or-drop}
use borrow.Author.Tests.{ltb-true, ltb-false}
use Rattle.numbers.specs.Numbers.{pick}
use Rattle.numbers.specs.Laws.{cases}
use Rattle.numbers.specs.Places.{places_from, tabulate}
use Rattle.numbers.specs.PlaceLaws.{tab_length, tab_at, tab_by, tab_same}
use Rattle.answer.specs.declared.Answer.{Answer}
use Rattle.damper.specs.declared.Drive.{Drive}
use Rattle.damper.specs.declared.Outcome.{Outcome}
use Rattle.damper.specs.Record.{fresh_drive}
use Rattle.damper.specs.Carry.{StepOn, answers_in}
use Rattle.hall.specs.Hall.{at}
use Rattle.hall.specs.Turns.{Given, Turn, turn, turned, row_after, shared_out}
use Rattle.hall.specs.Laws.{turned_length, answers_length}
use Rattle.hall.specs.ListLaws.{places_named, places_once}
use Rattle.hall.specs.OnceLaws.{once_row, once_turned, once_shared}

-- The place `i` is given `g i`, each of the first `n` places.
module _ (g : ℕ → Given) where
  abbrev turns : ℕ → List Turn
  turns n = tabulate n (λ i. turn (g i) i)

  -- each drive's share of it is one turn
  pub tick_shared : (n i : ℕ) → i < n → shared_out i (turns n) ≡ g i ∷ []
  tick_shared n i h = once_shared g i (places_from 0 n) (places_once 0 n) ∙ rw (places_named i 0 n (omega arith) (omega arith))

  module _ (step : StepOn Given) where
    -- the row after a turn of each drive
    pub tick_row : (row : List Drive) → row_after step row (turns (length row)) ≡ tabulate (length row) (λ i. (step (at row i) (g i)).drive)
    tick_row row =
        let n = length row in
        once_row g step row (places_from 0 n) (places_once 0 n)
        ∙ tab_same fresh_drive n _ _ (λ i h. rw (places_named i 0 n (omega arith) (omega arith)))

    -- the number of an answer stands at its place, by the drive that stood there before, whatever follows the numbers
    pub number_at : (number : Answer → ℕ) (rest : List ℕ) (n : ℕ) (row : List Drive) (i : ℕ) → i < n
        → get_or (map (λ (o : Outcome). number o.answer) (turned step row (turns n)) ++ rest) i 0 ≡ number (step (at row i) (g i)).answer
    number_at number rest n row i h =
        let said : ℕ → ℕ = λ x. number (step (at row x) (g x)).answer in
        rw (once_turned g step (places_from 0 n) row (places_once 0 n), map-map (λ (o : Outcome). number o.answer) (λ x. step (at row x) (g x)) (places_from 0 n))
        (get_or-append (tabulate n said) rest 0 i (rw (tab_length n said) h) ∙ tab_at n said 0 i h)

    -- and the numbers of their answers, in a row that has room
    pub tick_numbers : (number : Answer → ℕ) (row : List Drive) (numbers : List ℕ) → length row ≤ length numbers
        → answers_in number (turned step row (turns (length row))) numbers
        ≡ tabulate (length numbers) (λ i. pick (ltb i (length row)) (number (step (at row i) (g i)).answer) (get_or numbers i 0))
    unfolding answers_in
    tick_numbers number row numbers h =
        let n = length row in
        let os = turned step row (turns n) in
        let said = map (λ (o : Outcome). number o.answer) os in
        let many : length os ≡ n = turned_length step row (turns n) ∙ tab_length n (λ i. turn (g i) i) in
        let size : length said ≡ n = length-map os (λ (o : Outcome). number o.answer) ∙ many in
        tab_by 0 _ (length numbers) _ (answers_length number os numbers (rw many h))
        (λ i b.
        cases (ltb i n)
        (λ q. rw q (number_at number _ n row i (ltb-true i n q)))
        (λ q.
        let l = ltb-false i n q in
        let from : i ≡ length said + (i - n) = omega (arith, size, l) in
        let back : length os + (i - n) ≡ i = omega (arith, many, l) in
        rw q (ap (λ (k : ℕ). get_or (said ++ drop (length os) numbers) k 0) from
        ∙ get_or-append-add said (drop (length os) numbers) (i - n) 0
        ∙ get_or-drop (length os) numbers (i - n) 0
        ∙ ap (λ (k : ℕ). get_or numbers k 0) back)))
