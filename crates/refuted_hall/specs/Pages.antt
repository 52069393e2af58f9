-- Wrong lines and wrong shift pages (W-203), each with a drive or a row of which document 02 says otherwise.
use Rattle.std.specs.Prelude.{◌≡◌, refl, List, [], ◌∷◌, ◌++◌, reverse, ℕ, ◌-◌, ◌*◌, ◌/◌, eqb, length, take, drop, replicate}
use Prim.Native.String.{String}
use Rattle.numbers.specs.Numbers.{pick}
use Rattle.numbers.specs.Laws.{cases}
use Rattle.numbers.specs.Every.{Every}
use Rattle.motion.specs.Motion.{to_percent}
use Rattle.damper.specs.declared.Drive.{Drive}
use Rattle.damper.specs.Record.{fresh_drive, run, with_counts, with_position, with_run, with_setpoint, with_interlocks}
use Rattle.damper.specs.WellFormed.{well_formed}
use Rattle.damper.specs.Tick.{aged, ruling, ruling_source, status_of}
use Rattle.line.specs.Text.{text}
use Rattle.line.specs.Line.{decimal}
use Rattle.shift.specs.Shift.{blanks, right, left, binary, name_of, shown, hidden, line_with, drive_line, lines_from, page_after}
use Rattle.refuted_hall.specs.Closed.{computation, Case, Refuted, all_refuted}

abbrev Line : Type 0
Line = ℕ → Drive → List ℕ

-- the columns of a well-formed drive behind its number
abbrev Column : Type 0
Column = Drive → List ℕ

abbrev position_column : Column
position_column d = right 3 (decimal d.position)

abbrev percent_column : Column
percent_column d = right 3 (decimal (to_percent d.position))

abbrev commander_column : Column
commander_column d = left 8 (name_of (ruling_source d))

abbrev status_column : Column
status_column d = binary 8 (status_of d)

abbrev line_by : Column → Column → Column → Column → Line
line_by position percent commander status number d =
    pick (well_formed d) (line_with number (position d ∷ percent d ∷ commander d ∷ status d ∷ [])) (drive_line number d)

-- With these columns it is the product's line.
pub own : (number : ℕ) (d : Drive) → drive_line number d ≡ line_by position_column percent_column commander_column status_column number d
unfolding drive_line
own number d = cases (well_formed d) (λ w. rw w) (λ w. rw w)

-- Wrong columns.

-- zeros before the position
abbrev zeros_before : Line
zeros_before =
    line_by (λ d. let t = decimal d.position in drop (length t) (replicate 3 48 ++ t)) percent_column commander_column status_column

-- the percent by document 01's formula, which W-202 replaced
abbrev percent_down : Line
percent_down = line_by position_column (λ d. right 3 (decimal (100 * d.position / 255))) commander_column status_column

-- the name to the right; the name of the rank in document 01; the source that rules the next tick
abbrev name_to_the_right : Line
name_to_the_right = line_by position_column percent_column (λ d. right 8 (name_of (ruling_source d))) status_column

abbrev forcing_for_forced : Line
forcing_for_forced =
    line_by position_column percent_column (λ d. left 8 (pick (eqb (ruling d) 5) (text "forcing") (name_of (ruling_source d)))) status_column

abbrev ruling_next : Line
ruling_next = line_by position_column percent_column (λ d. left 8 (name_of (ruling_source (aged d)))) status_column

-- the lowest bit first; the status that was last reported
abbrev lowest_first : Line
lowest_first = line_by position_column percent_column commander_column (λ d. reverse (binary 8 (status_of d)))

abbrev status_reported : Line
status_reported = line_by position_column percent_column commander_column (λ d. binary 8 d.last.status)

-- no line feed
abbrev no_line_feed : Line
no_line_feed number d = take 28 (drive_line number d)

-- of a record that is not well formed its position; minus signs also between the fields
abbrev unformed_position : Line
unformed_position number d = line_with number (pick (well_formed d) (shown d) (position_column d ∷ drop 1 hidden))

abbrev dashed_through : Line
dashed_through number d = pick (well_formed d) (drive_line number d) (right 2 (decimal number) ++ (replicate 26 45 ++ (10 ∷ [])))

-- a drive that is forced open; one whose setpoint is as old as Timeout; one with a run of a kind that there is not
abbrev forced : Drive
forced = with_interlocks fresh_drive 0 3

abbrev at_timeout : Drive
at_timeout = with_counts (with_setpoint fresh_drive 128) 1860 0

abbrev broken : Drive
broken = with_run (with_position fresh_drive 200) (run 4 1)

-- a number, a drive, and its line by document 02
abbrev line_case : Line → ℕ → Drive → String → Case
line_case wrong number d line = record { given = drive_line number d; wrong = wrong number d; paper = text line }

abbrev pub line_table : List Case
line_table =
    -- "exactly 28 columns and a line feed"
    line_case no_line_feed 0 fresh_drive " 0   0   0 backup   00100000\n"
    -- "number 2, position 3, percent 3, all to the right"
    ∷ line_case zeros_before 9 (with_position fresh_drive 99) " 9  99  39 backup   00100000\n"
    ∷ line_case percent_down 63 (with_position fresh_drive 5) "63   5   2 backup   00100000\n"
    -- "ruling commander 8, to the left (fault, forced, run, hand, tool, bus, backup)"
    ∷ line_case name_to_the_right 0 at_timeout " 0   0   0 bus      00000000\n"
    ∷ line_case forcing_for_forced 0 forced " 0   0   0 forced   00110000\n"
    ∷ line_case ruling_next 0 at_timeout " 0   0   0 bus      00000000\n"
    -- "status as 8 binary digits, highest bit first"
    ∷ line_case lowest_first 0 fresh_drive " 0   0   0 backup   00100000\n"
    ∷ line_case status_reported 0 fresh_drive " 0   0   0 backup   00100000\n"
    -- "A record that isn't well formed shows its number and minus signs filling the other fields", "one blank between fields"
    ∷ line_case unformed_position 7 broken " 7 --- --- -------- --------\n"
    ∷ line_case dashed_through 7 broken " 7 --- --- -------- --------\n"
    ∷ []

pub lines_refuted : Every Refuted line_table
unfolding computation
lines_refuted = all_refuted line_table refl

-- Wrong pages.

abbrev Page : Type 0
Page = List Drive → List ℕ → List ℕ

-- lines, and the bytes of the page behind them
abbrev over : List ℕ → List ℕ → List ℕ
over lines page = lines ++ drop (length lines) page

-- the drives are numbered from 1; the last drive has no line
abbrev numbered_from_one : Page
numbered_from_one row page = over (lines_from 1 row) page

abbrev last_left_out : Page
last_left_out row page = over (lines_from 0 (take (length row - 1) row)) page

-- the bytes behind the last line are blanked
abbrev rest_blanked : Page
rest_blanked row page = let lines = lines_from 0 row in lines ++ blanks (length page - length lines)

-- the lines are written as far as the page goes, and the call is refused then
abbrev written_then_refused : Page
written_then_refused row page = take (length page) (over (lines_from 0 row) page)

-- a row, a page before the call, and after it by document 02
abbrev page_case : Page → List Drive → List ℕ → List ℕ → Case
page_case wrong row page after = record { given = page_after row page; wrong = wrong row page; paper = after }

abbrev two : List Drive
two = forced ∷ broken ∷ []

abbrev two_lines : List ℕ
two_lines = text " 0   0   0 forced   00110000\n 1 --- --- -------- --------\n"

abbrev pub page_table : List Case
page_table =
    -- "a line for each drive", and W-201: "Drives are numbered from 0"
    page_case numbered_from_one two (replicate 58 9) two_lines
    ∷ page_case last_left_out two (replicate 58 9) two_lines
    -- "Bytes after the last line keep their content."
    ∷ page_case rest_blanked two (replicate 60 9) (two_lines ++ (9 ∷ 9 ∷ []))
    -- "nothing written"
    ∷ page_case written_then_refused two (replicate 57 9) (replicate 57 9)
    ∷ []

pub pages_refuted : Every Refuted page_table
unfolding computation
pages_refuted = all_refuted page_table refl
