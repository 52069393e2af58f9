-- Document 01, 'What the drive program prints': the lines of a row of event records, counted on.
use Rattle.std.specs.Prelude.{List, [], ◌∷◌, ◌++◌, ℕ, ◌+◌, ◌/◌, min, length, take, drop}
use Rattle.event.specs.Records.{records_of}
use Rattle.damper.specs.declared.Outcome.{Outcome}
use Rattle.line.specs.Line.{line_of, room}

-- the count of the next record, which stops at the last number of 64 bits
unfoldable pub counted : ℕ → ℕ
counted n = min (n + 1) 18446744073709551615

unfoldable pub count_after : ℕ → List Outcome → ℕ
count_after n [] = n
count_after n (o ∷ os) = count_after (counted n) os

-- a line for each record, `n` records having been given before: "Each line is the record's count from 1"
unfoldable pub lines_after : ℕ → List Outcome → List ℕ
lines_after n [] = []
lines_after n (o ∷ os) = line_of (counted n) o.answer ++ lines_after (counted n) os

-- the buffer with these lines at its front, and everything behind them kept
unfoldable pub page_after : ℕ → List Outcome → List ℕ → List ℕ
page_after n os buf = lines_after n os ++ drop (length (lines_after n os)) buf

-- the records that are answered: as many as the buffer has room for
abbrev pub answered : List ℕ → List ℕ → List (List ℕ)
answered s buf = take (length buf / room) (records_of s)
