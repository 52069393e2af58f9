use Rattle.std.proofs.Common.{◌≡◌, List, [], ◌∷◌, ◌++◌, ℕ, ◌+◌, ◌<◌, length, get_or, take, add-one, append-nil, arith}
use Rattle.std.proofs.Math.Seq.{take-suc}
use Rattle.line.specs.Line.{decimal, spaced_values}
use Rattle.line.specs.Laws.{spaced_append, value_digits}
use Rattle.line.specs.Writing.{wrote_both}
use Rattle.line.proofs.put_values.Goals as goal

-- one value more
one_more : (vs : List ℕ) (i : ℕ) → i < length vs
    → spaced_values (take (i + 1) vs) ≡ spaced_values (take i vs) ++ ((32 ∷ []) ++ decimal (get_or vs i 0))
one_more vs i h = rw (add-one, take-suc vs i 0, spaced_append, append-nil)

pub loop-value-preserved : goal.loop-value-preserved
loop-value-preserved c =
    let fits = c.type_inv.values c.loop-value.value-index in
    let wrote = wrote_both c.loop-value.invariant.0 (wrote_both c.put_byte.ensures c.put_decimal.ensures) in
    let five = value_digits (get_or c.args.values.now c.loop-value.value-index 0) (omega arith) in
    (rw (one_more _ _ c.loop-value-test.true) wrote, omega (arith, five, c.put_decimal.ensures.written.place))
