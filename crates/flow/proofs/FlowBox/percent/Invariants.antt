-- The invariant: `low` qualifies or is 0, and `high` does not or is 101. The measure is how far they are apart.
use mathlib.Core.Path.{◌≡◌}
use mathlib.Core.Bool.{true, false}
use Prim.Native.Nat.{◌-◌, ◌≤◌, ◌<◌}
use Rattle.flow.specs.Flow.{qualifies}
use Rattle.flow.proofs.FlowBox.percent.Given as goal

abbrev pub invariant-loop-low : goal.invariant-loop-low
invariant-loop-low l =
    (l.low < l.high) × (l.high ≤ 101) × (1 ≤ l.low → qualifies l.nominal l.x l.low ≡ true) × (l.high ≤ 100 → qualifies l.nominal l.x l.high ≡ false)

abbrev pub decreases-loop-low : goal.decreases-loop-low
decreases-loop-low l = l.high - l.low
