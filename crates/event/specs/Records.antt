-- The event records of a row of bytes.
use Rattle.std.specs.Prelude.{List, [], ◌∷◌, ℕ}

-- the event records of a row of bytes: six bytes at a time, and a shorter rest
unfoldable pub records_of : List ℕ → List (List ℕ)
records_of [] = []
records_of (a ∷ []) = (a ∷ []) ∷ []
records_of (a ∷ b ∷ []) = (a ∷ b ∷ []) ∷ []
records_of (a ∷ b ∷ c ∷ []) = (a ∷ b ∷ c ∷ []) ∷ []
records_of (a ∷ b ∷ c ∷ d ∷ []) = (a ∷ b ∷ c ∷ d ∷ []) ∷ []
records_of (a ∷ b ∷ c ∷ d ∷ e ∷ []) = (a ∷ b ∷ c ∷ d ∷ e ∷ []) ∷ []
records_of (a ∷ b ∷ c ∷ d ∷ e ∷ f ∷ s) = (a ∷ b ∷ c ∷ d ∷ e ∷ f ∷ []) ∷ records_of s
