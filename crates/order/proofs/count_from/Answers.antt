use Rattle.std.proofs.Common.{◌+◌, refl, arith, leb}
use Rattle.numbers.specs.Places.{count_below}
use Rattle.numbers.specs.PlaceLaws.{count_most}
use Rattle.order.specs.Search.{counted_turn}
use Rattle.order.proofs.count_from.Goals as goal

pub loop-place-init : goal.loop-place-init
unfolding count_below
loop-place-init g c = refl

pub overflow_add-n : goal.overflow_add-n
overflow_add-n g c =
    let key = g.K.Keys.key c.args.keys.now in
    let least = c.args.least in
    let k = c.loop-place.place in
    let next = counted_turn key least k _ _ _ c.reaches.ensures c.from-n.ensures c.loop-place.invariant in
    omega (arith, next, count_most (λ i. leb least (key i)) (k + 1))

pub loop-place-preserved : goal.loop-place-preserved
loop-place-preserved g c =
    counted_turn (g.K.Keys.key c.args.keys.now) c.args.least c.loop-place.place _ _ _ c.reaches.ensures c.from-n.ensures c.loop-place.invariant
