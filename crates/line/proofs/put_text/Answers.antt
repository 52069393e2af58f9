use Rattle.line.specs.Writing.{wrote_both}
use Rattle.line.proofs.put_text.Goals as goal

pub returns-clause-wrote : goal.returns-clause-wrote
returns-clause-wrote c = wrote_both c.put_bytes.ensures (wrote_both c.put_values.ensures.wrote c.put_bytes-2.ensures)
