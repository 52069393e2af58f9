use Rattle.std.proofs.Common.{◌+◌, length, arith, rules}
use Rattle.std.proofs.lemmas.Bool.{le-leb}
use Rattle.line.specs.Line.{put_line}
use Rattle.line.specs.Writing.{wrote_both, given_back}
use Rattle.line.proofs.put_line.Goals as goal

pub returns-clause-bytes : goal.returns-clause-bytes
unfolding put_line
returns-clause-bytes c =
    let a = c.args in
    let line = wrote_both c.put_decimal.ensures (wrote_both c.put_answer.ensures.wrote c.put_byte.ensures) in
    rw (le-leb (a.at + 64) (length a.out.now) (omega arith)) (given_back line (search rules))
