-- Numbers below a bound, as the places of a row: how many pass a test, and the row that a function gives.
use Rattle.std.specs.Prelude.{Bool, not, ◌||◌, List, [], ◌∷◌, map, ℕ, zero, suc, ◌+◌}
use Rattle.numbers.specs.Numbers.{pick}

-- `n` places from `i` on
abbrev pub places_from : ℕ → ℕ → List ℕ
places_from i zero = []
places_from i (suc n) = i ∷ places_from (i + 1) n

-- the row of `n` places that has `f i` at place `i`
abbrev pub tabulate : {A : Type 0} → ℕ → (ℕ → A) → List A
tabulate n f = map f (places_from 0 n)

-- how many numbers below `n` pass a test
unfoldable pub count_below : ℕ → (ℕ → Bool) → ℕ
count_below zero p = 0
count_below (suc n) p = pick (p n) (count_below n p + 1) (count_below n p)

abbrev pub implies : Bool → Bool → Bool
implies a b = not a || b
