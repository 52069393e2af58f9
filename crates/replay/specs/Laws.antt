-- How many records a row of bytes has.
use Rattle.std.specs.Prelude.{◌≡◌, List, [], ◌∷◌, ℕ, length}
use Rattle.std.proofs.Common.{arith}
use Rattle.std.specs.Int.{div_ceil}
use Rattle.event.specs.Records.{records_of}

-- six bytes each, and a shorter rest
pub records_length : (s : List ℕ) → length (records_of s) ≡ div_ceil (length s) 6
unfolding records_of
records_length [] = omega arith
records_length (a ∷ []) = omega arith
records_length (a ∷ b ∷ []) = omega arith
records_length (a ∷ b ∷ c ∷ []) = omega arith
records_length (a ∷ b ∷ c ∷ d ∷ []) = omega arith
records_length (a ∷ b ∷ c ∷ d ∷ e ∷ []) = omega arith
records_length (a ∷ b ∷ c ∷ d ∷ e ∷ f ∷ s) = let r = records_length s in omega arith
