use Rattle.std.proofs.Common.{rules}
use Rattle.table.specs.Table.{rows}
use Rattle.table.specs.Laws.{all_in_is}
use Rattle.table.proofs.all_in.Goals as goal

pub returns : goal.returns
returns c = rw (← all_in_is rows c.args.values (search rules)) (search rules)
