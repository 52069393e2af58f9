-- What is promised of the call that shares a bill.
use Rattle.std.specs.Prelude.{◌≡◌, refl, false, not, ◌||◌, List, [], ◌∷◌, ℕ, zero, suc, ◌*◌, ◌<◌, ◌≤◌, ltb, eqb, length, get_or}
use Rattle.std.proofs.Common.{sym, ap, ◌∙◌, arith, le_of_suc-le-suc, ltb-false, eqb-true, ne_eqb}
use Rattle.std.proofs.lemmas.List.{length-map}
use Rattle.std.proofs.lemmas.Bool.{eqb-false}
use Rattle.numbers.specs.Numbers.{distance}
use Rattle.numbers.specs.Laws.{cases, passed, or_left, or_right, not_false}
use Rattle.damper.specs.declared.Drive.{Drive}
use Rattle.hall.specs.Hall.{bad_row, at}
use Rattle.bill.specs.Bill.{total_of, left_over, shares}
use Rattle.bill.specs.Laws as B
use Rattle.bill.specs.Laws.{uneven}
use Rattle.hall_bill.specs.HallBill.{travels, bill_refusal, shares_after}

-- the count of a drive
pub at_travel : (row : List Drive) (i : ℕ) → i < length row → get_or (travels row) i 0 ≡ (at row i).travel
at_travel [] i l = absurd (omega arith)
at_travel (d ∷ row) zero l = refl
at_travel (d ∷ row) (suc i) l = at_travel row i (le_of_suc-le-suc l)

pub travels_length : (row : List Drive) → length (travels row) ≡ length row
travels_length row = length-map row (λ (d : Drive). d.travel)

-- A call that is refused by neither 14 nor 20 has at most 64 drives, as many places for the shares, and a bill that is low enough.
pub record Fits (row : List Drive) (bill places : ℕ) : Type 0 where
  pub few : length (travels row) ≤ 64
  pub room : places ≡ length (travels row)
  pub most : bill ≤ 1000000000

pub fits_by : (row : List Drive) (bill places : ℕ) → bad_row (length row) ≡ false
    → (ltb 1000000000 bill || not (eqb places (length row))) ≡ false → Fits row bill places
fits_by row bill places a b =
    let size = travels_length row in
    record {
      few = omega (arith, size, ltb-false 64 (length row) (or_right (ltb (length row) 1) _ a));
      room = eqb-true _ _ (not_false _ (or_right (ltb 1000000000 bill) _ b)) ∙ sym size;
      most = ltb-false 1000000000 bill (or_left (ltb 1000000000 bill) _ b);
    }

-- and where it is not refused by 21 either, a drive has moved
pub accepted : (row : List Drive) (bill places : ℕ) → bill_refusal row bill places ≡ 0 → Fits row bill places × (1 ≤ total_of (travels row))
unfolding bill_refusal
accepted row bill places e =
    let a = passed (bad_row (length row)) 14 _ e (omega arith) in
    let b = passed (ltb 1000000000 bill || not (eqb places (length row))) 20 _ a.1 (omega arith) in
    let none = eqb-false (total_of (travels row)) 0 (passed _ 21 0 b.1 (omega arith)).0 in
    (fits_by row bill places a.0 b.0, omega arith)

module _ (row : List Drive) (bill : ℕ) (ws : List ℕ) where
  -- "both leave the row untouched", and 14 does
  pub refused_same : (bill_refusal row bill (length ws) ≡ 0 → ⊥) → shares_after row bill ws ≡ ws
  unfolding shares_after
  refused_same refused = rw (ne_eqb (bill_refusal row bill (length ws)) 0 refused)

  module _ (ok : bill_refusal row bill (length ws) ≡ 0) where
    pub accepted_shares : shares_after row bill ws ≡ shares bill (travels row)
    unfolding shares_after
    accepted_shares = rw ok

    moved : 1 ≤ total_of (travels row)
    moved = (accepted row bill (length ws) ok).1

    share_is : (i : ℕ) → i < length row
        → (i < length (travels row)) × (get_or (shares_after row bill ws) i 0 ≡ get_or (shares bill (travels row)) i 0)
    share_is i l = (omega (arith, travels_length row, l), ap (λ (us : List ℕ). get_or us i 0) accepted_shares)

    -- "The shares add up to the bill, always."
    pub shares_add_up : total_of (shares_after row bill ws) ≡ bill
    shares_add_up = ap total_of accepted_shares ∙ B.shares_total bill (travels row) moved

    -- a drive that has not moved pays nothing
    pub unmoved_pays_none : (i : ℕ) → i < length row → (at row i).travel ≡ 0 → get_or (shares_after row bill ws) i 0 ≡ 0
    unmoved_pays_none i l z =
        let s = share_is i l in
        s.1 ∙ B.share_at bill (travels row) i s.0 ∙ B.unmoved_none bill (travels row) moved i (at_travel row i l ∙ z)

    -- a share is off by less than a cent
    pub share_off : (i : ℕ) → i < length row
        → distance (total_of (travels row) * get_or (shares_after row bill ws) i 0) (bill * (at row i).travel) < total_of (travels row)
    share_off i l =
        let s = share_is i l in
        rw (← (at_travel row i l), s.1 ∙ B.share_at bill (travels row) i s.0) (B.share_near bill (travels row) moved i)

    -- fewer cents are left over than there are drives with a remainder, or none
    pub left_for_some : 0 < left_over bill (travels row) → left_over bill (travels row) < uneven bill (travels row)
    left_for_some h = B.left_fewer bill (travels row) moved h

  -- the shares are as many as before
  pub after_length : length (shares_after row bill ws) ≡ length ws
  after_length =
      cases (eqb (bill_refusal row bill (length ws)) 0)
      (λ e.
      let ok = eqb-true (bill_refusal row bill (length ws)) 0 e in
      ap length (accepted_shares ok) ∙ B.shares_length bill (travels row) ∙ sym (accepted row bill (length ws) ok).0.room)
      (λ e. ap length (refused_same (eqb-false (bill_refusal row bill (length ws)) 0 e)))

-- it "looks only at counts"
module _ (row other : List Drive) (same : travels row ≡ travels other) where
  as_many : length row ≡ length other
  as_many = sym (travels_length row) ∙ ap length same ∙ travels_length other

  pub counts_only : (bill places : ℕ) → bill_refusal row bill places ≡ bill_refusal other bill places
  unfolding bill_refusal
  counts_only bill places = rw (as_many, same)

  pub counts_only_shares : (bill : ℕ) (ws : List ℕ) → shares_after row bill ws ≡ shares_after other bill ws
  unfolding shares_after
  counts_only_shares bill ws = rw (counts_only bill (length ws), same)
