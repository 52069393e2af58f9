-- Document 02, W-203: the shift page, "a printed page, a line for each drive, exactly 28 columns and a line feed".
use Rattle.std.specs.Prelude.{List, [], ◌∷◌, ◌++◌, map, ℕ, zero, suc, ◌+◌, ◌*◌, ◌/◌, ◌%◌, ◌^◌, ltb, eqb, length, take, drop, replicate}
use Rattle.numbers.specs.Numbers.{pick}
use Rattle.motion.specs.Motion.{to_percent}
use Rattle.rules.specs.Rank.{Source, backup, bus, tool, hand, run, forcing, fault}
use Rattle.damper.specs.declared.Drive.{Drive}
use Rattle.damper.specs.WellFormed.{well_formed}
use Rattle.damper.specs.Tick.{ruling_source, status_of}
use Rattle.line.specs.Text.{text}
use Rattle.line.specs.Line.{decimal, spaced}
use Rattle.hall.specs.Hall.{bad_row}

abbrev pub blanks : ℕ → List ℕ
blanks columns = replicate columns 32

-- a text "to the right" in so many columns: blanks before it, and as many columns as it has taken off their front
unfoldable pub right : ℕ → List ℕ → List ℕ
right columns t = drop (length t) (blanks columns ++ t)

-- "to the left"
unfoldable pub left : ℕ → List ℕ → List ℕ
left columns t = take columns (t ++ blanks columns)

-- a number as so many "binary digits, highest bit first"
unfoldable pub binary : ℕ → ℕ → List ℕ
binary zero n = []
binary (suc bit) n = (48 + n / 2 ^ bit % 2) ∷ binary bit n

-- "(fault, forced, run, hand, tool, bus, backup)"
abbrev pub name_of : Source → List ℕ
name_of fault = text "fault"
name_of forcing = text "forced"
name_of run = text "run"
name_of hand = text "hand"
name_of tool = text "tool"
name_of bus = text "bus"
name_of backup = text "backup"

-- the fields behind the number: "position 3, percent 3, all to the right; ruling commander 8, to the left ..; status as 8 binary
-- digits"
abbrev pub fields : ℕ → Source → ℕ → List (List ℕ)
fields position ruling status =
    right 3 (decimal position) ∷ right 3 (decimal (to_percent position)) ∷ left 8 (name_of ruling) ∷ binary 8 status ∷ []

-- those of a record, the ruling source and the status taken from it as it is
abbrev pub shown : Drive → List (List ℕ)
shown d = fields d.position (ruling_source d) (status_of d)

-- those of a record that is not well formed: "minus signs filling the other fields"
abbrev pub hidden : List (List ℕ)
hidden = map (λ columns. replicate columns 45) (3 ∷ 3 ∷ 8 ∷ 8 ∷ [])

-- those of any record
abbrev pub fields_of : Drive → List (List ℕ)
fields_of d = pick (well_formed d) (shown d) hidden

-- a line: "number 2", then the other fields, "one blank between fields", and a line feed
abbrev pub line_with : ℕ → List (List ℕ) → List ℕ
line_with number others = right 2 (decimal number) ++ (spaced others ++ (10 ∷ []))

-- the line of a drive by its number
unfoldable pub drive_line : ℕ → Drive → List ℕ
drive_line number d = line_with number (fields_of d)

-- the lines of a row, its first drive having this number
unfoldable pub lines_from : ℕ → List Drive → List ℕ
lines_from number [] = []
lines_from number (d ∷ row) = drive_line number d ++ lines_from (number + 1) row

-- "17 when the lent page is shorter than 29 bytes per drive, checked after 14": the first that fits, 0 if none does
unfoldable pub page_refusal : ℕ → ℕ → ℕ
page_refusal drives bytes = pick (bad_row drives) 14 (pick (ltb bytes (29 * drives)) 17 0)

-- the page after the call: the lines, and "Bytes after the last line keep their content."; refused, "nothing written"
unfoldable pub page_after : List Drive → List ℕ → List ℕ
page_after row page =
    let lines = lines_from 0 row in
    pick (eqb (page_refusal (length row) (length page)) 0) (lines ++ drop (length lines) page) page
