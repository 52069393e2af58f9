use Rattle.damper.specs.Laws.{wf_ranges, wf_flags}
use Rattle.audit.proofs.Audit.met.Goals as goal

pub invariant_of-shown : goal.invariant_of-shown
invariant_of-shown c =
    let w = c.requires in
    rw c.with_position.ensures record { ranges = wf_ranges _ w; flags = wf_flags _ w }
