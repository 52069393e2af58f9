use mathlib.Core.Path.{◌≡◌, ◌∙◌}
use Prim.Native.Nat.{◌+◌, ◌-◌, ◌≤◌}
use native.Mathlib.Omega.{arith}
use Rattle.choice.specs.Laws.{kept_all, kept_above_lem, bracketed}
use Rattle.choice.proofs.keep.Goals as goal

pub returns-then-count_from-quota : goal.returns-then-count_from-quota
returns-then-count_from-quota c = kept_all _ _ _ (omega (arith, rw c.from.ensures at c.count_from.ensures, c.if-count_from-quota.true))

pub bisected-least-requires : goal.bisected-least-requires
bisected-least-requires c =
    bracketed _ _ _ _ _ c.span_of-span.ensures c.requires (omega (arith, rw c.from.ensures at c.count_from.ensures, c.if-count_from-quota.false))

pub returns : goal.returns
returns c =
    let least = c.bisected-least.result in
    let some : 65536 ≤ least = omega (arith, c.span_of-span.ensures.least, c.bisected-least.ensures.within.0) in
    let same : least - 1 + 1 ≡ least = omega arith in
    c.hold_back.ensures ∙ kept_above_lem _ _ _ _ (omega arith) (rw same c.bisected-least.ensures.count)
