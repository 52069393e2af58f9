-- The event records of a row of bytes that a replay carries out.
use Rattle.std.specs.Prelude.{List, ℕ, min, length, take}
use Rattle.event.specs.Records.{records_of}

-- as many as both rows have room for
abbrev pub carried : List ℕ → List ℕ → List ℕ → List (List ℕ)
carried s words codes = take (min (length words) (length codes)) (records_of s)
