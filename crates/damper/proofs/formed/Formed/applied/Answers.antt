use Rattle.std.proofs.Common.{rules}
use Rattle.event.specs.Laws.{known_read, known_write, percent_most}
use Rattle.damper.proofs.formed.Formed.applied.Goals as goal

pub commanded-d-requires : goal.commanded-d-requires
commanded-d-requires c = percent_most c.args.e c.requires (search rules)

pub unwrap-requires : goal.unwrap-requires
unwrap-requires c = rw (c.place_of.ensures, known_write c.args.e c.requires (search rules))

pub parameter-requires : goal.parameter-requires
parameter-requires c = known_read c.args.e c.requires (search rules)
