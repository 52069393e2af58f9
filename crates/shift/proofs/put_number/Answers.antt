use Rattle.line.specs.Writing.{wrote_both}
use Rattle.shift.proofs.put_number.Goals as goal

pub returns : goal.returns
returns c = wrote_both c.put_byte.ensures c.put_right.ensures
