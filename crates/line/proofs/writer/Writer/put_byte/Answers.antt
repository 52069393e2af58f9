use Rattle.std.proofs.Common.{refl, length-set, arith}
use Rattle.line.specs.Laws.{write_byte}
use Rattle.line.proofs.writer.Writer.put_byte.Goals as goal

pub returns : goal.returns
returns c =
    let w = c.args.self.now in
    let size = length-set w.out.now w.at c.args.b in
    record {
      buffer = refl;
      size = size;
      within = omega arith;
      written = record { place = refl; buffer = write_byte w.out.now w.at c.args.b (omega arith) };
    }
