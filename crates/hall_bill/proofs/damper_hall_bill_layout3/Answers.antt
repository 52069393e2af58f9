use Rattle.std.proofs.Common.{rules, ◌≡◌, not, eqb, ℕ, ◌+◌, ◌*◌, ◌/◌, ◌%◌, ◌<◌, ◌≤◌, List, length, get_or, refl, ◌∙◌, arith}
use Rattle.std.specs.Prelude.{◌^◌}
use Rattle.std.proofs.lemmas.List.{get_or_default}
use borrow.Author.Tests.{ne_eqb}
use Rattle.numbers.specs.Numbers.{pick}
use Rattle.answer.specs.Refusal.{number, refused_by}
use Rattle.damper.specs.declared.Drive.{Drive}
use Rattle.damper.specs.Record.{fresh_drive}
use Rattle.bill.specs.declared.Tally.{Tally}
use Rattle.bill.specs.Bill.{shares}
use Rattle.bill.specs.Counted.{packed}
use Rattle.bill.specs.Settle.{Shareable}
use Rattle.bill.specs.Tally as B
use Rattle.bill.specs.Tally.{tallied, noted, covered}
use Rattle.hall_bill.specs.HallBill.{travels, bill_refusal, shares_after}
use Rattle.hall_bill.specs.Turns.{judge, tally_by, row_by, tally_turn, row_turn, fits_turns, end_asks, refusal_end, shares_end}
use Rattle.hall_bill.proofs.damper_hall_bill_layout3.Goals as goal

-- a call that is refused by neither 14 nor 20, of which each drive has a turn
module _ (ys : List Drive) (ws : List ℕ) (bill : ℕ) (passed : 0 ≡ judge ys ws bill) where
  fit : (length ys ≤ length ys) × (length ys ≤ length ws) × (length ys ≤ 64)
  fit = fits_turns ys ws bill (length ys) 0 passed refl

  -- a turn, of the drive at the place, whatever would be read past the row
  next_tally : (k : ℕ) (d : Drive) (t r : ℕ) → k < length ys → t ≡ tally_by ys ws bill k
      → r ≡ tallied t (get_or ys k d).travel → r ≡ tally_by ys ws bill (k + 1)
  next_tally k d t r l before e =
      let f = fit in
      rw (before, get_or_default ys k d fresh_drive l) at e ∙ tally_turn ys ws bill k (omega (arith, f.2)) l

  next_row : (k : ℕ) (d : Drive) (t : ℕ) (old new : List ℕ) → k < length ys → t ≡ tally_by ys ws bill k → old ≡ row_by ys ws bill k
      → new ≡ noted old k t (get_or ys k d).travel → new ≡ row_by ys ws bill (k + 1)
  next_row k d t old new l before start e =
      let f = fit in
      rw (before, start, get_or_default ys k d fresh_drive l) at e ∙ row_turn ys ws bill k (omega (arith, f.2)) l (omega (arith, f.1))

  -- at the end
  module _ (k : ℕ) (t : Tally) (us : List ℕ) (all : k ≡ length ys) (few : t.first ≤ k) (last : packed t ≡ tally_by ys ws bill k)
      (row : us ≡ row_by ys ws bill k) where
    total : tally_by ys ws bill (length ys) / 128 ≡ t.total
    total = let f = fit in omega (arith, f.2, rw all at last)

    first : tally_by ys ws bill (length ys) % 128 ≡ t.first
    first = let f = fit in omega (arith, f.2, rw all at last)

    asks : packed t ≤ k * 2 ^ 39 → (t.total ≡ 0 → ⊥) → Shareable bill (covered us t.first) t.total
    asks low some =
        let f = fit in
        rw (row, all, ← first, ← total) (end_asks ys ws bill (length ys) 0 passed refl (omega (arith, f.2, rw all at low, rw all at last)) refl (omega (arith, total)))

    said : (r : ℕ) → r ≡ pick (eqb t.total 0) 21 0 → r ≡ bill_refusal ys bill (length ws)
    said r e = refusal_end ys ws bill (length ys) 0 passed refl r (rw total e)

    shared : (vs : List ℕ) → vs ≡ pick (not (eqb t.total 0)) (shares bill (covered us t.first)) us → vs ≡ shares_after ys bill ws
    shared vs e = shares_end ys ws bill (length ys) 0 passed refl vs (rw (total, first, ← all, ← row) e)

-- a call that is refused by 14 or 20
module _ (ys : List Drive) (ws : List ℕ) (bill m : ℕ) (judged : m ≡ judge ys ws bill) (some : 1 ≤ m) where
  refused : m ≡ bill_refusal ys bill (length ws)
  refused = refusal_end ys ws bill 0 m judged (rw (ne_eqb m 0 (λ e. absurd (omega arith)))) m (rw (ne_eqb m 0 (λ e. absurd (omega arith))))

  left : ws ≡ shares_after ys bill ws
  left =
      shares_end ys ws bill 0 m judged (rw (ne_eqb m 0 (λ e. absurd (omega arith)))) ws
      (rw (ne_eqb m 0 (λ e. absurd (omega arith))) (B.row_start ws (travels ys)))

pub returns-in_err-judged : goal.returns-in_err-judged
returns-in_err-judged c =
    let ys = c.args.row.now in
    let ws = c.args.shares.now in
    let h = c.in_err-judged.ensures in
    let same : refused_by c.from_residual.result ≡ number c.in_err-judged.field-0.0 = search rules in
    (same ∙ refused ys ws c.args.bill _ h.first h.some, left ys ws c.args.bill _ h.first h.some)

pub loop-place-init : goal.loop-place-init
loop-place-init c =
    let d = c.default-tally.ensures in
    let start = B.tally_start c.args.shares.now (travels c.args.row.now) in
    (omega arith, omega arith, omega arith, B.row_start c.args.shares.now (travels c.args.row.now))

pub loop-place-preserved : goal.loop-place-preserved
loop-place-preserved c =
    let ys = c.args.row.now in
    let ws = c.args.shares.now in
    let l = c.loop-place in
    let passed = c.in_ok-judged.ensures.first in
    let told = c.note-tally.ensures in (
      omega (arith, told.3, l.invariant.0),
      omega (arith, told.2, l.invariant.1),
      next_tally ys ws c.args.bill passed l.place _ (packed l.tally) _ c.loop-place-test.true l.invariant.2 told.0,
      next_row ys ws c.args.bill passed l.place _ (packed l.tally) l.shares _ c.loop-place-test.true l.invariant.2 l.invariant.3 told.1,
    )

pub finish-requires : goal.finish-requires
finish-requires c =
    let l = c.loop-place in
    let all : l.place ≡ length c.args.row.now = omega arith in
    let h = l.invariant in
    asks c.args.row.now c.args.shares.now c.args.bill c.in_ok-judged.ensures.first l.place l.tally l.shares all h.0 h.2 h.3 h.1

pub returns : goal.returns
returns c =
    let a = c.args in
    let l = c.loop-place in
    let all : l.place ≡ length a.row.now = omega arith in
    let h = l.invariant in
    let ok = c.in_ok-judged.ensures.first in (
      said a.row.now a.shares.now a.bill ok l.place l.tally l.shares all h.0 h.2 h.3 _ c.finish.ensures.0,
      shared a.row.now a.shares.now a.bill ok l.place l.tally l.shares all h.0 h.2 h.3 _ c.finish.ensures.1,
    )
