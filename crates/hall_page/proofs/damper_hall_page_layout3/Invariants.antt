-- At every turn the page has the lines of the drives so far.
use Rattle.std.proofs.Common.{◌≡◌, ◌*◌}
use Rattle.shift.specs.Laws.{page_by}
use Rattle.hall_page.proofs.damper_hall_page_layout3.Given as goal

abbrev pub invariant-loop-number : goal.invariant-loop-number
invariant-loop-number l = record {
  place : l.at ≡ 29 * l.number;
  page : l.page ≡ page_by l.row l.fn.page l.number;
}
