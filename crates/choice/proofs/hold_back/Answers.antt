use mathlib.Core.Path.{◌≡◌, ap, ◌∙◌}
use mathlib.Core.Bool.{◌&&◌}
use mathlib.Core.List.{List}
use Prim.Native.Nat.{ℕ}
use native.Mathlib.Omega.{arith}
use lib.Dec.{leb}
use lib.ListN.{set}
use Rattle.numbers.specs.Numbers.{pick}
use Rattle.choice.specs.Sent.{is_report_number}
use Rattle.choice.specs.Choice.{number_in}
use Rattle.choice.specs.Laws.{kept_start, kept_next, kept_more}
use Rattle.choice.proofs.hold_back.Goals as goal

pub loop-number-init : goal.loop-number-init
loop-number-init c = kept_start _ _

pub loop-number-preserved : goal.loop-number-preserved
loop-number-preserved c =
    let l = c.loop-number in
    let a = c.args in
    let here : number_in l.numbers l.number-index ≡ number_in a.numbers.now l.number-index =
    ap (λ (t : List ℕ). number_in t l.number-index) l.invariant ∙ kept_next a.numbers.now a.bound l.number-index (omega arith) in
    ap (λ (t : List ℕ). set t l.number-index c.pick.result) l.invariant
    ∙ kept_more a.numbers.now a.bound l.number-index _ (omega arith)
    (c.pick.ensures ∙ rw c.from.ensures (ap (λ (x : ℕ). pick (is_report_number x && leb x a.bound) 0 x) here))
