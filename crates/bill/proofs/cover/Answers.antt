use Rattle.std.proofs.Common.{◌≡◌, length, arith, ◌∙◌}
use Rattle.bill.specs.Rows.{change_start, change_end, change_old, change_turn}
use Rattle.bill.proofs.cover.Goals as goal

pub loop-place-init : goal.loop-place-init
loop-place-init c = change_start _ _

pub loop-place-preserved : goal.loop-place-preserved
loop-place-preserved c =
    let l = c.loop-place in
    let here = change_old _ c.args.row.now l.row l.place l.invariant (omega arith) in
    change_turn _ c.args.row.now l.row l.place l.invariant (omega arith) _ (c.pick.ensures ∙ rw here)

pub returns : goal.returns
returns c =
    let l = c.loop-place in
    let end : l.place ≡ length c.args.row.now = omega arith in
    l.invariant ∙ rw end (change_end _ c.args.row.now)
