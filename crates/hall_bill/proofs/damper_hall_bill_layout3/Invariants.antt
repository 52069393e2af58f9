-- At every turn the tally and the row of shares are those after the drives so far, and the tally has grown by at most 2^39 in each.
use Rattle.std.specs.Prelude.{◌≡◌, ◌*◌, ◌^◌, ◌≤◌}
use Rattle.bill.specs.Counted.{packed}
use Rattle.hall_bill.specs.Turns.{tally_by, row_by}
use Rattle.hall_bill.proofs.damper_hall_bill_layout3.Given as goal

abbrev pub invariant-loop-place : goal.invariant-loop-place
invariant-loop-place l =
    (l.tally.first ≤ l.place) × (packed l.tally ≤ l.place * 2 ^ 39) × (packed l.tally ≡ tally_by l.row l.initial.shares l.bill l.place)
    × (l.shares ≡ row_by l.row l.initial.shares l.bill l.place)
