use mathlib.Core.Path.{sym, ◌∙◌}
use Rattle.damper.specs.Laws.{wf_ranges, wf_flags}
use Rattle.damper.proofs.Drive.formed.Goals as goal

pub invariant_of-result : goal.invariant_of-result
invariant_of-result c = let w = sym c.well_formed-2.ensures ∙ c.if-well_formed.true in record { ranges = wf_ranges _ w; flags = wf_flags _ w }
