-- At every turn the rows are those after the outcomes so far, and the drive has been carried over them.
use Rattle.std.proofs.Common.{[], ◌∷◌, ◌++◌, ◌<◌, length, length-take, refl, sym, ◌∙◌, arith, rules}
use Rattle.answer.specs.Answer.{word_of, code_of}
use Rattle.damper.specs.Carry.{answers_in}
use Rattle.damper.specs.CarryLaws.{start, chunk, taken, answers_more}
use Rattle.invariant.specs.Kept.{formed_kept}
use Rattle.replay.specs.Laws.{records_length}
use Rattle.replay.proofs.replay.Goals as goal

pub loop-k-init : goal.loop-k-init
unfolding answers_in
loop-k-init c = record {
  os = [];
  at = 0;
  carried = rw (c.into_iter-k-iterator.ensures.into_iter_gives, c.enumerate-k-items.ensures.count) start;
  rest = search rules;
  size = search rules;
  room = search rules;
  words_length = refl;
  codes_length = refl;
  words = refl;
  codes = refl;
  formed = c.well_formed-formed.ensures;
}

pub loop-k-preserved : goal.loop-k-preserved
loop-k-preserved c =
    let l = c.loop-k.invariant in
    let told = c.in-Some.ensures.steps in
    let steps = told.0 in
    let step = c.step_if-o in
    let i = c.in-Some.k in
    let room : (i < length c.args.words.now) × (i < length c.args.codes.now) =
    (omega (arith, told.1, c.min-room.ensures), omega (arith, told.1, c.min-room.ensures)) in
    let more = chunk l.carried (omega arith) l.rest steps.0.1.0 (rw l.size at steps.0.1.1) steps.0.1.2 step.ensures in
    record {
      os = l.os ++ (step.result ∷ []);
      at = _;
      carried = rw told.2 more.0;
      rest = more.1;
      size = steps.0.0 ∙ l.size;
      room = omega arith;
      words_length = search rules;
      codes_length = search rules;
      words = answers_more word_of l.os c.args.words.now step.result room.0 (told.1 ∙ l.carried.count) c.word.ensures l.words;
      codes = answers_more code_of l.os c.args.codes.now step.result room.1 (told.1 ∙ l.carried.count) c.code.ensures l.codes;
      formed = rw step.ensures (l.formed ∙ sym (formed_kept c.loop-k.d _));
    }

pub returns : goal.returns
returns c =
    let l = c.loop-k.invariant in
    let none = c.in-None.ensures.steps in
    let all = rw c.min-room.ensures at (taken l.carried l.room l.rest (λ left. (none.0 left).1.0)) in
    record {
      drive = rw all l.carried.drive;
      count = simp (length-take, records_length) (omega (arith, c.min.ensures, c.div_ceil.ensures, c.min-room.ensures));
      words = rw all l.words;
      codes = rw all l.codes;
    }
