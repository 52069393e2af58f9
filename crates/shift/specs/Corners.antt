-- Lines, pages and refusals, corner by corner, by computation.
use Rattle.std.specs.Prelude.{◌≡◌, refl, List, [], ◌∷◌, ◌++◌, ℕ, replicate}
use Prim.Native.String.{String}
use Rattle.event.specs.Event.{event, bytes_of}
use Rattle.answer.specs.declared.Answer.TheVariants.{Tick}
use Rattle.damper.specs.declared.Drive.{Drive}
use Rattle.damper.specs.Record.{fresh_drive, run, with_counts, with_position, with_run}
use Rattle.damper.specs.Step.{step_of}
use Rattle.damper.specs.Carry.{outcomes, drive_after}
use Rattle.damper.specs.Closed.{computation}
use Rattle.line.specs.Text.{text}
use Rattle.line.specs.Line.{decimal, digits_within}
use Rattle.hall.specs.Turns.{tick_bytes}
use Rattle.shift.specs.Shift.{right, left, binary, drive_line, lines_from, page_refusal, page_after}

-- the fresh drive after events of a kind with a, b and c, and a tick
abbrev after : List (List ℕ) → Drive
after events = drive_after fresh_drive (outcomes step_of fresh_drive (events ++ (tick_bytes ∷ [])))

abbrev bytes : ℕ → ℕ → ℕ → ℕ → List ℕ
bytes kind a b c = bytes_of (event kind a b c)

-- a run of a kind that there is not
abbrev broken : Drive
broken = with_run (with_position fresh_drive 200) (run 4 1)

-- the age of the setpoint is Timeout
abbrev at_timeout : Drive
at_timeout = with_counts (after (bytes 2 128 0 0 ∷ [])) 1860 0

-- a drive and its number have this line
pub record Shown : Type 0 where
  pub number : ℕ
  pub drive : Drive
  pub line : String
  pub is : drive_line number drive ≡ text line

abbrev shows : (number : ℕ) (d : Drive) (line : String) → drive_line number d ≡ text line → Shown
shows number d line e = record { number = number; drive = d; line = line; is = e }

-- each of the seven sources
pub shown : List Shown
unfolding computation decimal digits_within right left binary drive_line
shown =
    shows 0 fresh_drive " 0   0   0 backup   00100000\n" refl
    ∷ shows 1 (after (bytes 2 128 0 0 ∷ [])) " 1   5   2 bus      00000000\n" refl
    ∷ shows 2 (after (bytes 3 51 100 1 ∷ [])) " 2   5   2 tool     00100010\n" refl
    ∷ shows 3 (after (bytes 5 1 200 0 ∷ [])) " 3   5   2 hand     00100010\n" refl
    ∷ shows 4 (after (bytes 6 0 0 0 ∷ [])) " 4   0   0 run      00100100\n" refl
    ∷ shows 5 (after (bytes 4 3 0 0 ∷ [])) " 5   5   2 forced   00110000\n" refl
    ∷ shows 6 (after (bytes 7 1 0 0 ∷ [])) " 6   0   0 fault    00100001\n" refl
    -- the highest of several
    ∷ shows 8 (after (bytes 2 128 0 0 ∷ bytes 3 51 100 1 ∷ bytes 5 1 200 0 ∷ bytes 4 2 0 0 ∷ [])) " 8   0   0 forced   00010010\n" refl
    -- numbers of one digit and of two, positions of one and of three, percents of one and of three
    ∷ shows 9 (with_position fresh_drive 9) " 9   9   4 backup   00100000\n" refl
    ∷ shows 63 (with_position fresh_drive 255) "63 255 100 backup   00100000\n" refl
    -- not well formed
    ∷ shows 7 broken " 7 --- --- -------- --------\n" refl
    -- the bus rules the record still, and no further tick
    ∷ shows 0 at_timeout " 0   5   2 bus      00000000\n" refl
    ∷ []

-- "the record as it is": the bus rules the page, and backup the tick that follows
pub page_before_ageing : (step_of at_timeout tick_bytes).answer ≡ Tick 0 0 2
unfolding computation
page_before_ageing = refl

-- a page of so many bytes for so many drives is refused by this, or taken
pub record Corner : Type 0 where
  pub drives : ℕ
  pub room : ℕ
  pub number : ℕ
  pub is : page_refusal drives room ≡ number

abbrev corner : (drives room number : ℕ) → page_refusal drives room ≡ number → Corner
corner drives room number e = record { drives = drives; room = room; number = number; is = e }

pub corners : List Corner
unfolding page_refusal
corners =
    -- rows of none and of 65: 14 before 17
    corner 0 0 14 refl
    ∷ corner 65 0 14 refl
    -- one byte short and just enough, of one drive and of 64
    ∷ corner 1 28 17 refl
    ∷ corner 1 29 0 refl
    ∷ corner 64 1855 17 refl
    ∷ corner 64 1856 0 refl
    ∷ []

-- a page of two lines with three bytes behind them, and one that is a byte too short
abbrev row : List Drive
row = after (bytes 2 128 0 0 ∷ []) ∷ broken ∷ []

pub page_written : page_after row (replicate 61 200) ≡ text " 0   5   2 bus      00000000\n 1 --- --- -------- --------\n" ++ replicate 3 200
unfolding computation decimal digits_within right left binary drive_line lines_from page_refusal page_after
page_written = refl

pub page_short : page_after row (replicate 57 200) ≡ replicate 57 200
unfolding page_refusal page_after
page_short = refl
