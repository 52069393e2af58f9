-- A text as bytes: each character's code, which is its byte in ASCII.
use mathlib.Core.List as List
use Rattle.std.specs.Prelude.{ℕ}
use Prim.Native.Char.{code}
use Prim.Native.String.{String, [], ◌∷◌}

abbrev pub text : String → List.List ℕ
text [] = List.[]
text (c ∷ s) = List.◌∷◌ (code c) (text s)
