-- At every turn the rows are those after the outcomes so far, and the drive has been carried over them.
use Rattle.std.proofs.Common.{◌≡◌, ℕ, ◌+◌, List, length, drop}
use Rattle.std.specs.Slice.Iter.{chunks_rest, chunks_size}
use Rattle.std.specs.Iterator.Adapters.{take_source, take_count, enumerate_source, enumerate_count}
use Rattle.answer.specs.Answer.{word_of, code_of}
use Rattle.damper.specs.declared.Outcome.{Outcome}
use Rattle.damper.specs.WellFormed.{well_formed}
use Rattle.damper.specs.Step.{step_of}
use Rattle.damper.specs.Carry.{answers_in}
use Rattle.damper.specs.CarryLaws.{Carried}
use Rattle.replay.proofs.replay.Given as goal

abbrev pub invariant-loop-k : goal.invariant-loop-k
invariant-loop-k l = record {
  os : List Outcome;
  at : ℕ;
  carried : Carried step_of l.initial.d l.room l.s os l.d (enumerate_count l.k-iterator) at;
  rest : chunks_rest (take_source (enumerate_source l.k-iterator)) ≡ drop at l.s;
  size : chunks_size (take_source (enumerate_source l.k-iterator)) ≡ 6;
  room : take_count (enumerate_source l.k-iterator) + enumerate_count l.k-iterator ≡ l.room;
  words_length : length l.words ≡ length l.initial.words;
  codes_length : length l.codes ≡ length l.initial.codes;
  words : l.words ≡ answers_in word_of os l.initial.words;
  codes : l.codes ≡ answers_in code_of os l.initial.codes;
  formed : l.formed ≡ well_formed l.d;
}
