use Rattle.rules.specs.RankLaws.{rank_below}
use Rattle.damper.proofs.Drive.ruling.Goals as goal

pub invariant_of-result : goal.invariant_of-result
invariant_of-result c =
    let active = c.active.ensures.bound in record { bound = rw c.ruling_rank-number.ensures (rank_below _ active.0 active.1) }
