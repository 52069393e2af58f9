use Rattle.event.specs.Laws.{kind_passed}
use Rattle.event.proofs.Event.kind_admitted.Goals as goal

pub unreachable-requires : goal.unreachable-requires
unreachable-requires c = let h = c.in_default.ensures in kind_passed _ c.requires h.1
