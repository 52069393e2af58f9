-- A stream of records may come in pieces, each but the last of whole records: the lines are those of the stream.
use Rattle.std.specs.Prelude.{◌≡◌, List, ◌++◌, ℕ, ◌*◌, length}
use Rattle.event.specs.Records.{records_of}
use Rattle.event.specs.RecordLaws.{records_append}
use Rattle.damper.specs.declared.Drive.{Drive}
use Rattle.damper.specs.Carry.{Step, outcomes, drive_after}
use Rattle.damper.specs.CarryLaws.{outcomes_append}
use Rattle.printer.specs.Page.{count_after, lines_after}
use Rattle.printer.specs.Laws.{lines_append}

-- `k` whole records in the bytes `s` and then the bytes `t`, given to a drive `d` that was given `n` records before
pub pieces : (step : Step) (k : ℕ) (d : Drive) (n : ℕ) (s t : List ℕ) → length s ≡ 6 * k
    → (let os = outcomes step d (records_of s) in lines_after n (outcomes step d (records_of (s ++ t))) ≡ lines_after n os ++ lines_after (count_after n os) (outcomes step (drive_after d os) (records_of t)))
pieces step k d n s t h = rw (records_append k s t h, outcomes_append, lines_append)
