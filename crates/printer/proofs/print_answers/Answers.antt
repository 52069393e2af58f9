-- At every turn the page is that of the outcomes so far, and the drive has been carried over them.
use Rattle.std.proofs.Common.{[], ◌∷◌, ◌++◌, ◌+◌, refl, sym, ◌∙◌, arith, rules}
use Rattle.damper.specs.CarryLaws.{start, chunk, taken}
use Rattle.invariant.specs.Kept.{formed_kept}
use Rattle.printer.specs.Page.{counted, count_after, lines_after, page_after}
use Rattle.printer.specs.Laws.{line_more}
use Rattle.printer.proofs.print_answers.Goals as goal

pub loop-record-init : goal.loop-record-init
unfolding count_after lines_after page_after
loop-record-init c = record {
  os = [];
  i = 0;
  at = 0;
  carried = start;
  rest = search rules;
  size = search rules;
  room = search rules;
  filled = record { count = refl; used = refl; bytes = refl };
  within = omega arith;
  out_length = refl;
  formed = c.well_formed-formed.ensures;
}

pub loop-record-preserved : goal.loop-record-preserved
unfolding counted
loop-record-preserved c =
    let l = c.loop-record.invariant in
    let steps = c.in-Some.ensures.steps in
    let step = c.step_if-o in
    let put = c.put_line-used in
    let more = chunk l.carried (omega arith) l.rest steps.0.1.0 (rw l.size at steps.0.1.1) steps.0.1.2 step.ensures in
    record {
      os = l.os ++ (step.result ∷ []);
      i = l.i + 1;
      at = _;
      carried = more.0;
      rest = more.1;
      size = steps.0.0 ∙ l.size;
      room = omega arith;
      filled = line_more step.result (omega arith) c.saturating_add-count.ensures put.ensures.end put.ensures.bytes l.filled;
      within = omega (arith, put.ensures.short);
      out_length = put.auto.out ∙ l.out_length;
      formed = rw step.ensures (l.formed ∙ sym (formed_kept c.loop-record.d _));
    }

pub returns : goal.returns
returns c =
    let l = c.loop-record.invariant in
    let none = c.in-None.ensures.steps in
    rw (taken l.carried l.room l.rest (λ left. (none left).1.0))
    record { drive = l.carried.drive; count = l.filled.count; used = l.filled.used; bytes = l.filled.bytes; within = omega arith }
