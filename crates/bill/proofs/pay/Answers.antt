use Rattle.std.proofs.Common.{◌≡◌, Bool, true, false, ℕ, ◌+◌, ◌<◌, length, arith, ◌∙◌}
use mir.Val.{bool_byte}
use Rattle.numbers.specs.Numbers.{pick}
use Rattle.bill.specs.Rows.{change_start, change_end, change_old, change_turn}
use Rattle.bill.proofs.pay.Goals as goal

-- a cent more or none
one_more : (b : Bool) (x : ℕ) → x + bool_byte b ≡ pick b (x + 1) x
one_more true x = omega arith
one_more false x = omega arith

one_most : (b : Bool) (x most : ℕ) → x + 1 < most → x + bool_byte b < most
one_most true x most l = omega arith
one_most false x most l = omega arith

pub loop-place-init : goal.loop-place-init
loop-place-init c = change_start _ _

pub overflow_add-part : goal.overflow_add-part
overflow_add-part c =
    let l = c.loop-place in
    let here = change_old _ c.args.row.now l.row l.place l.invariant (omega arith) in
    let small = c.requires.1 l.place (omega arith) in
    record { fits = rw (c.from.ensures, here) (one_most c.reaches.result _ _ small) }

pub loop-place-preserved : goal.loop-place-preserved
loop-place-preserved c =
    let l = c.loop-place in
    let here = change_old _ c.args.row.now l.row l.place l.invariant (omega arith) in
    change_turn _ c.args.row.now l.row l.place l.invariant (omega arith) _
    (rw (c.from.ensures, here, c.reaches.ensures) (one_more _ _))

pub returns : goal.returns
returns c =
    let l = c.loop-place in
    let end : l.place ≡ length c.args.row.now = omega arith in
    l.invariant ∙ rw end (change_end _ c.args.row.now)
