use mathlib.Core.Path.{sym, ◌∙◌}
use Rattle.damper.specs.Laws.{wf_ranges, wf_flags}
use Rattle.damper.specs.Tick.{aged}
use Rattle.outlook.proofs.ahead.Goals as goal

pub ruling-rank-requires : goal.ruling-rank-requires
unfolding aged
ruling-rank-requires c = rw c.aged-aged.ensures (wf_flags _ (sym c.well_formed-2.ensures ∙ c.if-not-well_formed.false))

pub invariant_of-formed : goal.invariant_of-formed
invariant_of-formed c =
    let w = sym c.well_formed-2.ensures ∙ c.if-not-well_formed.false in
    record { ranges = wf_ranges _ w; flags = wf_flags _ w }
