use native.Mathlib.Omega.{arith}
use Rattle.order.specs.Search.{low_raised, found}
use Rattle.order.proofs.bisected.Goals as goal

pub loop-low-preserved-then-most-many : goal.loop-low-preserved-then-most-many
loop-low-preserved-then-most-many g c =
    let l = c.loop-low in
    (low_raised _ _ _ _ _ l.invariant.0 _ (omega arith) (omega arith) (omega (arith, c.count_from-many.ensures)), omega arith, omega arith)

pub returns-clause-count : goal.returns-clause-count
returns-clause-count g c = found _ _ _ _ _ c.loop-low.invariant.0 c.loop-low-test.false
