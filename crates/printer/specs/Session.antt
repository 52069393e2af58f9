-- Document 01: the program "reads standard input six bytes at a time, a shorter rest being refused by 2, and keeps one drive from
-- fresh". The input comes in pieces, cut anywhere: what one of them, with the bytes kept from before it, makes the program print.
use Rattle.std.specs.Prelude.{Bool, true, false, List, [], ◌∷◌, ◌++◌, ℕ, ◌-◌, ◌%◌, length, take, drop}
use Rattle.numbers.specs.Numbers.{pick}
use Rattle.event.specs.Records.{records_of}
use Rattle.damper.specs.declared.Drive.{Drive}
use Rattle.damper.specs.declared.Outcome.{Outcome}
use Rattle.damper.specs.Record.{fresh_drive}
use Rattle.damper.specs.Step.{step_of}
use Rattle.damper.specs.Carry.{outcomes, drive_after}
use Rattle.printer.specs.Page.{count_after, lines_after}

-- of `n` bytes at hand, those of whole records; all of them where the input has ended, since the rest is then a record too
abbrev pub whole : Bool → ℕ → ℕ
whole ended n = n - pick ended 0 (n % 6)

-- what the bytes at hand give, and what is kept of them for the next piece
abbrev pub given : Bool → Drive → List ℕ → List Outcome
given ended d b = outcomes step_of d (records_of (take (whole ended (length b)) b))

abbrev pub kept : Bool → List ℕ → List ℕ
kept ended b = drop (whole ended (length b)) b

-- the lines of a drive that was given `n` records, with the bytes `k` kept, for the pieces that come and then the end of the input
unfoldable pub printed : Drive → ℕ → List ℕ → List (List ℕ) → List ℕ
printed d n k [] = lines_after n (given true d k)
printed d n k (p ∷ ps) =
    let os = given false d (k ++ p) in
    lines_after n os ++ printed (drive_after d os) (count_after n os) (kept false (k ++ p)) ps

-- all that the program prints
abbrev pub session : List (List ℕ) → List ℕ
session ps = printed fresh_drive 0 [] ps
