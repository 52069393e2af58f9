-- `n` of the keys of the places before `place` are `least` or more.
use Rattle.std.specs.Prelude.{◌≡◌}
use Rattle.order.specs.Keys.{count_from}
use Rattle.order.proofs.count_from.Given as goal

abbrev pub invariant-loop-place : goal.invariant-loop-place
invariant-loop-place g l = l.n ≡ count_from (g.K.Keys.key l.keys) l.place l.least
