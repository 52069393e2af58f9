-- `most` keys or more are `low` or more, and no more than that are `high` or more.
use Rattle.std.specs.Prelude.{◌-◌, ◌≤◌}
use Rattle.order.specs.Search.{Bracketed}
use Rattle.order.proofs.bisected.Given as goal

abbrev pub invariant-loop-low : goal.invariant-loop-low
invariant-loop-low g l =
    Bracketed (g.K.Keys.key l.keys) (g.K.Keys.places l.keys) l.most l.low l.high × (l.initial.low ≤ l.low) × (l.high ≤ l.initial.high)

abbrev pub decreases-loop-low : goal.decreases-loop-low
decreases-loop-low g l = l.high - l.low
