-- The places so far are paid.
use Rattle.std.specs.Prelude.{◌≡◌, ◌+◌, leb, get_or}
use Rattle.numbers.specs.Numbers.{pick}
use Rattle.bill.specs.Rows.{changed}
use Rattle.bill.specs.Settle.{key_in}
use Rattle.bill.proofs.pay.Given as goal

abbrev pub invariant-loop-place : goal.invariant-loop-place
invariant-loop-place l =
    l.row ≡ changed (λ j. pick (leb l.least (key_in l.keys.lows.now l.keys.highs.now j))
    (get_or l.initial.row j 0 + 1) (get_or l.initial.row j 0)) l.initial.row l.place
