-- At every turn the page is that of the outcomes so far, and the drive has been carried over them.
use Rattle.std.proofs.Common.{◌≡◌, ◌≤◌, ℕ, ◌+◌, ◌*◌, ◌/◌, List, length, drop}
use Rattle.std.specs.Slice.Iter.{chunks_rest, chunks_size}
use Rattle.std.specs.Iterator.Adapters.{take_source, take_count}
use Rattle.damper.specs.declared.Outcome.{Outcome}
use Rattle.damper.specs.WellFormed.{well_formed}
use Rattle.damper.specs.Step.{step_of}
use Rattle.damper.specs.CarryLaws.{Carried}
use Rattle.printer.specs.Laws.{Filled}
use Rattle.printer.proofs.print_answers.Given as goal

abbrev pub invariant-loop-record : goal.invariant-loop-record
invariant-loop-record l = record {
  os : List Outcome;
  i : ℕ;
  at : ℕ;
  carried : Carried step_of l.initial.d (length l.initial.out / 64) l.s os l.d i at;
  rest : chunks_rest (take_source l.record-iterator) ≡ drop at l.s;
  size : chunks_size (take_source l.record-iterator) ≡ 6;
  room : take_count l.record-iterator + i ≡ length l.initial.out / 64;
  filled : Filled l.given l.initial.out os l.count l.used l.out;
  within : l.used ≤ 64 * i;
  out_length : length l.out ≡ length l.initial.out;
  formed : l.formed ≡ well_formed l.d;
}
