use Rattle.std.proofs.Common.{◌≡◌, ℕ, ◌<◌, length, arith, ap, length-set, ◌∙◌}
use Rattle.order.specs.Keys.{key_of}
use Rattle.bill.specs.Sums.{sum_below, sum_more}
use Rattle.bill.specs.Bill.{part}
use Rattle.bill.specs.Rows.{change_start, change_end, change_turn}
use Rattle.bill.specs.Settle.{quotient, part_most, part_left, keyed_turn}
use Rattle.bill.proofs.divide.Goals as goal

pub loop-place-init : goal.loop-place-init
unfolding sum_below
loop-place-init c = (change_start _ _, record { at = λ j h. absurd (omega arith) }, omega arith, c.requires.1)

pub overflow_cast-part : goal.overflow_cast-part
overflow_cast-part c =
    let l = c.loop-place in
    let a = c.args in
    let p = c.requires.0 in
    let w = c.from in
    let same = quotient a.bill a.row.now l.row l.place w.result a.total l.invariant.0 (omega arith) w.ensures p.sum in
    let most = part_most a.bill a.row.now (rw p.sum at p.moved) l.place (omega arith) in
    omega (arith, same.0, most, p.most)

pub overflow_sub-left : goal.overflow_sub-left
overflow_sub-left c =
    let l = c.loop-place in
    let a = c.args in
    let p = c.requires.0 in
    let w = c.from in
    let same = quotient a.bill a.row.now l.row l.place w.result a.total l.invariant.0 (omega arith) w.ensures p.sum in
    let most = part_left a.bill a.row.now (rw p.sum at p.moved) l.place l.left (omega arith) l.invariant.2 in
    omega (arith, same.0, most)

pub loop-place-preserved : goal.loop-place-preserved
loop-place-preserved c =
    let l = c.loop-place in
    let a = c.args in
    let p = c.requires.0 in
    let w = c.from in
    let same = quotient a.bill a.row.now l.row l.place w.result a.total l.invariant.0 (omega arith) w.ensures p.sum in
    let most = part_left a.bill a.row.now (rw p.sum at p.moved) l.place l.left (omega arith) l.invariant.2 in
    let more = sum_more (part a.bill a.row.now) l.place in
    let key = c.key.ensures.0 ∙ ap (λ (x : ℕ). key_of x l.place) same.1 in
    let low : l.place < length l.keys.lows.now = omega (arith, l.invariant.3) in
    let high : l.place < length l.keys.highs.now = omega (arith, low, l.keys.same) in (
      change_turn _ a.row.now l.row l.place l.invariant.0 (omega arith) _ same.0,
      rw (c.note.ensures.lows, c.note.ensures.highs)
          (keyed_turn a.bill a.row.now l.keys.lows.now l.keys.highs.now l.place _ l.invariant.1 low high key),
      omega (arith, same.0, most, more, l.invariant.2),
      rw c.note.ensures.lows (length-set l.keys.lows.now l.place _ ∙ l.invariant.3),
    )

pub returns-clause-divided : goal.returns-clause-divided
returns-clause-divided c =
    let l = c.loop-place in
    let a = c.args in
    let end : l.place ≡ length a.row.now = omega arith in
    record {
      divided = l.invariant.0 ∙ rw end (change_end _ a.row.now);
      keyed = rw end at l.invariant.1;
      over = omega (arith, rw end at l.invariant.2);
    }
