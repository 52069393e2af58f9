-- Document 01's printed example: its 24 bytes, and the same with a rest of five.
use Rattle.std.specs.Prelude.{◌≡◌, refl, List, [], ◌∷◌, ◌++◌, ℕ}
use Rattle.event.specs.Records.{records_of}
use Rattle.damper.specs.Closed.{computation}
use Rattle.line.specs.Text.{text}
use Rattle.line.specs.Line.{text_of, decimal, digits_within}
use Rattle.printer.specs.Page.{counted, count_after, lines_after}
use Rattle.printer.specs.Session.{printed, session}

-- "5AC302800000 5AC301000000 5AC306020000 5AC30A000000, without spaces as 24 bytes"
abbrev pub input : List ℕ
input =
    0x5a ∷ 0xc3 ∷ 0x02 ∷ 0x80 ∷ 0x00 ∷ 0x00
    ∷ 0x5a ∷ 0xc3 ∷ 0x01 ∷ 0x00 ∷ 0x00 ∷ 0x00
    ∷ 0x5a ∷ 0xc3 ∷ 0x06 ∷ 0x02 ∷ 0x00 ∷ 0x00
    ∷ 0x5a ∷ 0xc3 ∷ 0x0a ∷ 0x00 ∷ 0x00 ∷ 0x00
    ∷ []

-- five bytes of a record
abbrev pub rest : List ℕ
rest = 0x5a ∷ 0xc3 ∷ 0x01 ∷ 0x00 ∷ 0x00 ∷ []

pub four_lines : session (input ∷ []) ≡ text "1 ok\n2 tick 5 1 1 -\n3 no 6\n4 at 5 2 0\n"
unfolding computation records_of printed counted count_after lines_after text_of decimal digits_within
four_lines = refl

pub five_lines : session ((input ++ rest) ∷ []) ≡ text "1 ok\n2 tick 5 1 1 -\n3 no 6\n4 at 5 2 0\n5 no 2\n"
unfolding computation records_of printed counted count_after lines_after text_of decimal digits_within
five_lines = refl
