-- The record stays one that 22 does not refuse: the ticks do not count for that, and what is sent is a flow.
use Rattle.std.specs.Prelude.{refl}
use Rattle.std.proofs.Common.{rules}
use Rattle.flow.specs.Flow.{well_formed}
use Rattle.flow.specs.Laws.{formed_told}
use Rattle.flow.proofs.FlowBox.hear.Goals as goal

pub invariant_of-self : goal.invariant_of-self
unfolding well_formed
invariant_of-self c = record { formed = c.args.self.now.formed }

pub invariant_of-self-2 : goal.invariant_of-self-2
invariant_of-self-2 c =
    record { formed = formed_told c.args.self.now.state c.args.got _ _ _ c.args.self.now.formed refl (search rules) }
