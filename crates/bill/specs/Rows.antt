-- Rows that the loops of the code change place by place.
use Rattle.std.specs.Prelude.{◌≡◌, ℕ, ◌+◌, ◌<◌, ltb, length}
use Rattle.std.proofs.Math.Path.{refl, ap}
use Rattle.std.proofs.Common.{◌∙◌, arith}
use mathlib.Core.List.{List}
use Rattle.std.proofs.Math.ListN.{get_or, set}
use borrow.Author.Tests.{ltb-true, ltb-false, lt-ltb, le-ltb}
use Rattle.numbers.specs.Numbers.{pick}
use Rattle.numbers.specs.Laws.{cases}
use Rattle.numbers.specs.Places.{tabulate}
use Rattle.numbers.specs.PlaceLaws.{tab_at, tab_by, tab_same, tab_set}

-- the row with what `f` gives at its first `k` places
unfoldable pub changed : (ℕ → ℕ) → List ℕ → ℕ → List ℕ
changed f row k = tabulate (length row) (λ i. pick (ltb i k) (f i) (get_or row i 0))

module _ (f : ℕ → ℕ) (row : List ℕ) where
  pub change_start : row ≡ changed f row 0
  unfolding changed
  change_start = tab_by 0 row (length row) _ refl (λ i l. rw (le-ltb i 0 (omega arith)))

  pub change_end : changed f row (length row) ≡ tabulate (length row) f
  unfolding changed
  change_end = tab_same 0 (length row) _ _ (λ i l. rw (lt-ltb i (length row) l))

  module _ (now : List ℕ) (k : ℕ) (so_far : now ≡ changed f row k) (within : k < length row) where
    -- the place after them is as it was
    pub change_old : get_or now k 0 ≡ get_or row k 0
    unfolding changed
    change_old = ap (λ (t : List ℕ). get_or t k 0) so_far ∙ tab_at (length row) _ 0 k within ∙ rw (le-ltb k k (omega arith))

    -- and is changed next
    pub change_turn : (v : ℕ) → v ≡ f k → set now k v ≡ changed f row (k + 1)
    unfolding changed
    change_turn v e =
        ap (λ (t : List ℕ). set t k v) so_far
        ∙ tab_set 0 (length row) _ _ k v within (e ∙ rw (lt-ltb k (k + 1) (omega arith)))
        (λ i b n.
        cases (ltb i k)
        (λ q. let l = ltb-true i k q in rw (q, lt-ltb i (k + 1) (omega arith)))
        (λ q. let l = ltb-false i k q in rw (q, le-ltb i (k + 1) (omega arith))))
