-- The counts so far are changed to their parts, their keys are noted, and `left` is what these parts leave of the bill.
use Rattle.std.specs.Prelude.{◌≡◌, ◌+◌, length}
use Rattle.bill.specs.Sums.{sum_below}
use Rattle.bill.specs.Bill.{part}
use Rattle.bill.specs.Rows.{changed}
use Rattle.bill.specs.Settle.{Keyed}
use Rattle.bill.proofs.divide.Given as goal

abbrev pub invariant-loop-place : goal.invariant-loop-place
invariant-loop-place l =
    (l.row ≡ changed (part l.bill l.initial.row) l.initial.row l.place)
    × Keyed l.bill l.initial.row l.keys.lows.now l.keys.highs.now l.place
    × (l.left + sum_below l.place (part l.bill l.initial.row) ≡ l.bill) × (length l.keys.lows.now ≡ length l.initial.row)
