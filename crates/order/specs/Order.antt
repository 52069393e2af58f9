-- An order of the places of a row, and those of them that go first.
use Rattle.std.specs.Prelude.{◌≡◌, Bool, true, false, ◌&&◌, ◌||◌, ℕ, ltb, eqb}
use Rattle.numbers.specs.Places.{count_below}

-- an order: `behind i j` says that the place `i` goes behind the place `j`
pub record Order (behind : ℕ → ℕ → Bool) : Type 0 where
  pub never : (i : ℕ) → behind i i ≡ false
  pub onward : (i j k : ℕ) → behind i j ≡ true → behind j k ≡ true → behind i k ≡ true
  pub either : (i j : ℕ) → (i ≡ j → ⊥) → behind i j ≡ false → behind j i ≡ true

-- a larger number goes first, and among equals the lower place: `i` goes behind `j` where `j` has the larger one, or the same and is lower
abbrev pub larger_first : (ℕ → ℕ) → ℕ → ℕ → Bool
larger_first v i j = ltb (v i) (v j) || (eqb (v i) (v j) && ltb j i)

-- behind how many of the first `n` places that are admitted the place `i` goes
abbrev pub rank : (ℕ → ℕ → Bool) → (ℕ → Bool) → ℕ → ℕ → ℕ
rank behind admitted n i = count_below n (λ j. admitted j && behind i j)

-- whether the place `i` is admitted and among the `most` of those that go first: it goes behind fewer
abbrev pub foremost : (ℕ → ℕ → Bool) → (ℕ → Bool) → ℕ → ℕ → ℕ → Bool
foremost behind admitted n most i = admitted i && ltb (rank behind admitted n i) most

-- every place is admitted
abbrev pub anyone : ℕ → Bool
anyone i = true
