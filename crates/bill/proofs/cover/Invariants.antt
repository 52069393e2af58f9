-- The places so far are covered.
use Rattle.std.specs.Prelude.{◌≡◌, ltb, get_or}
use Rattle.numbers.specs.Numbers.{pick}
use Rattle.bill.specs.Rows.{changed}
use Rattle.bill.proofs.cover.Given as goal

abbrev pub invariant-loop-place : goal.invariant-loop-place
invariant-loop-place l = l.row ≡ changed (λ j. pick (ltb j l.first) 0 (get_or l.initial.row j 0)) l.initial.row l.place
