use mathlib.Core.Path.{sym}
use Rattle.damper.specs.Laws.{wf_ranges, wf_flags, refusal_none}
use Rattle.damper.proofs.Drive.step_if.Goals as goal

pub invariant_of-applied : goal.invariant_of-applied
invariant_of-applied c = let t = refusal_none _ _ (sym c.in-Ok.ensures.refusal) in record { ranges = wf_ranges _ t.0; flags = wf_flags _ t.0 }

pub applied-requires : goal.applied-requires
applied-requires c = rw c.in-Ok.ensures.event (refusal_none _ _ (sym c.in-Ok.ensures.refusal)).2
