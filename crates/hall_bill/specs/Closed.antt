-- For closed statements: `unfolding computation` opens the bill of a hall, so that a closed call computes.
use Rattle.numbers.specs.Places.{count_below}
use Rattle.bill.specs.Sums.{sum_below}
use Rattle.bill.specs.Bill.{shares}
use Rattle.hall_bill.specs.HallBill.{bill_refusal, shares_after}

unfoldable pub computation : Unit {0}
unfolding count_below sum_below shares bill_refusal shares_after
computation = tt
