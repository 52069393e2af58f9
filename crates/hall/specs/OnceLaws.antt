-- Laws of turns at places without repeats: each drive is given its own as it stood before all of them.
use Rattle.std.specs.Prelude.{◌≡◌, true, false, ℕ, ◌<◌, eqb, length}
use Rattle.std.proofs.Math.Path.{refl, ap}
use Rattle.std.proofs.Common.{sym, ◌∙◌, get_or-set_same, get_or-set_other, lt-length-set}
use Rattle.std.proofs.lemmas.Bool.{false≢true}
use mathlib.Core.List.{List, [], ◌∷◌, map}
use borrow.Author.Tests.{eqb-true, eqb-false}
use Rattle.numbers.specs.Numbers.{pick}
use Rattle.numbers.specs.Laws.{cases, or_left, or_right, eqb_swap}
use Rattle.numbers.specs.Places.{tabulate}
use Rattle.numbers.specs.PlaceLaws.{tab_by}
use Rattle.damper.specs.declared.Drive.{Drive}
use Rattle.damper.specs.Record.{fresh_drive}
use Rattle.damper.specs.Carry.{StepOn}
use Rattle.hall.specs.Hall.{named_in, names_twice, at}
use Rattle.hall.specs.Turns.{Given, Turn, turn, row_with, turned, row_after, shared_out}
use Rattle.hall.specs.Laws.{row_length}

-- what the row after one turn has at the turn's place, and at another
module _ (step : StepOn Given) where
  pub here : (row : List Drive) (t : Turn) (i : ℕ) → i < length row → t.place ≡ i → at (row_with step row t) i ≡ (step (at row i) t.given).drive
  here row t i h e = rw e (get_or-set_same row i _ fresh_drive h)

  pub elsewhere : (row : List Drive) (t : Turn) (i : ℕ) → (t.place ≡ i → ⊥) → at (row_with step row t) i ≡ at row i
  elsewhere row t i n = get_or-set_other row t.place i _ fresh_drive (λ e. n (sym e))

-- The drive at place `i` is given `g i`.
module _ (g : ℕ → Given) where
  abbrev turns : List ℕ → List Turn
  turns list = map (λ i. turn (g i) i) list

  module _ (step : StepOn Given) where
    row_unnamed : (list : List ℕ) (row : List Drive) (i : ℕ) → named_in i list ≡ false → at (row_after step row (turns list)) i ≡ at row i
    unfolding row_after named_in
    row_unnamed [] row i e = refl
    row_unnamed (j ∷ list) row i e =
        let t = turn (g j) j in
        row_unnamed list (row_with step row t) i (or_right (eqb j i) _ e) ∙ elsewhere step row t i (eqb-false j i (or_left (eqb j i) _ e))

    row_named : (list : List ℕ) (row : List Drive) (i : ℕ) → names_twice list ≡ false → named_in i list ≡ true → i < length row
        → at (row_after step row (turns list)) i ≡ (step (at row i) (g i)).drive
    unfolding row_after named_in names_twice
    row_named [] row i o e h = absurd (false≢true e)
    row_named (j ∷ list) row i o e h =
        let t = turn (g j) j in
        cases (eqb j i)
        (λ q.
        let same = eqb-true j i q in
        row_unnamed list (row_with step row t) i (rw (← same) (or_left (named_in j list) _ o))
        ∙ here step row t i h same
        ∙ ap (λ (k : ℕ). (step (at row i) (g k)).drive) same)
        (λ q.
        row_named list (row_with step row t) i (or_right (named_in j list) _ o) (rw q at e) (lt-length-set row j _ h)
        ∙ ap (λ (d : Drive). (step d (g i)).drive) (elsewhere step row t i (eqb-false j i q)))

    -- Each drive that the list names is the step of the record that stood there at first; the others keep theirs.
    pub once_row : (row : List Drive) (list : List ℕ) → names_twice list ≡ false
        → row_after step row (turns list) ≡ tabulate (length row) (λ i. pick (named_in i list) (step (at row i) (g i)).drive (at row i))
    once_row row list o =
        tab_by fresh_drive _ (length row) _ (row_length step row (turns list))
        (λ i h. cases (named_in i list) (λ q. rw q (row_named list row i o q h)) (λ q. rw q (row_unnamed list row i q)))

    -- what the drives of a list are given is the same on a row that is changed elsewhere
    same_given : (list : List ℕ) (row : List Drive) (t : Turn) → named_in t.place list ≡ false
        → map (λ i. step (at (row_with step row t) i) (g i)) list ≡ map (λ i. step (at row i) (g i)) list
    unfolding named_in
    same_given [] row t e = refl
    same_given (j ∷ list) row t e =
        let other = eqb_swap t.place j ∙ or_left (eqb j t.place) _ e in
        rw (elsewhere step row t j (eqb-false t.place j other), same_given list row t (or_right (eqb j t.place) _ e))

    -- And what the turns give is what these steps give.
    pub once_turned : (list : List ℕ) (row : List Drive) → names_twice list ≡ false
        → turned step row (turns list) ≡ map (λ i. step (at row i) (g i)) list
    unfolding turned names_twice
    once_turned [] row o = refl
    once_turned (j ∷ list) row o =
        let t = turn (g j) j in
        rw (once_turned list (row_with step row t) (or_right (named_in j list) _ o), same_given list row t (or_left (named_in j list) _ o))

  -- The share of a drive that the list names is its own thing, once.

  none_shared : (i : ℕ) (list : List ℕ) → named_in i list ≡ false → shared_out i (turns list) ≡ []
  unfolding shared_out named_in
  none_shared i [] e = refl
  none_shared i (j ∷ list) e = rw (or_left (eqb j i) _ e) (none_shared i list (or_right (eqb j i) _ e))

  pub once_shared : (i : ℕ) (list : List ℕ) → names_twice list ≡ false → shared_out i (turns list) ≡ pick (named_in i list) (g i ∷ []) []
  unfolding shared_out named_in names_twice
  once_shared i [] o = refl
  once_shared i (j ∷ list) o =
      cases (eqb j i)
      (λ q.
      let same = eqb-true j i q in
      rw (q, none_shared i list (rw (← same) (or_left (named_in j list) _ o)), same))
      (λ q. rw q (once_shared i list (or_right (named_in j list) _ o)))
