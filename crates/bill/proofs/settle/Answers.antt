use Rattle.std.proofs.Common.{sym, ◌∙◌}
use Rattle.bill.specs.Settle.{bracketed, sought, payable, settled, settled_even}
use Rattle.bill.proofs.settle.Goals as goal

pub returns-then-left-eq0 : goal.returns-then-left-eq0
returns-then-left-eq0 c = settled_even c.requires c.divide-left.ensures.divided c.if-left-eq0.true

pub bisected-least-requires : goal.bisected-least-requires
bisected-least-requires c =
    let d = c.divide-left in
    rw d.ensures.places (bracketed _ _ _ _ (sought c.requires d.ensures.divided c.if-left-eq0.false))

pub pay-requires : goal.pay-requires
pay-requires c =
    let d = c.divide-left in
    (sym d.ensures.places, (payable c.requires d.ensures.divided).1)

pub returns : goal.returns
returns c =
    let d = c.divide-left in
    c.pay.ensures ∙ settled c.requires d.ensures.divided _ (rw d.ensures.places at c.bisected-least.ensures.count)
