-- What the code of the call judges first, and what it leaves after each turn of its loop.
use Rattle.std.specs.Prelude.{◌≡◌, Bool, true, false, not, ◌&&◌, ◌||◌, List, ℕ, ◌+◌, ◌*◌, ◌/◌, ◌%◌, ◌^◌, ◌<◌, ◌≤◌, ltb, eqb, length}
use Rattle.std.proofs.Math.Path.{refl}
use Rattle.std.proofs.Common.{sym, ap, subst, ◌∙◌, arith}
use borrow.Author.Tests.{eqb-true, eqb-false, eq-eqb}
use Rattle.numbers.specs.Numbers.{pick}
use Rattle.numbers.specs.Laws.{cases, passed}
use Rattle.damper.specs.declared.Drive.{Drive}
use Rattle.hall.specs.Hall.{bad_row, at}
use Rattle.bill.specs.Bill.{total_of, shares}
use Rattle.bill.specs.Settle.{Shareable}
use Rattle.bill.specs.Tally as B
use Rattle.bill.specs.Tally.{tallied, noted, covered}
use Rattle.hall_bill.specs.HallBill.{travels, bill_refusal, shares_after}
use Rattle.hall_bill.specs.Laws.{at_travel, travels_length, Fits, fits_by}

-- the first of 14 and 20 that fits, or 0
abbrev pub first_refusal : ℕ → ℕ → ℕ → ℕ
first_refusal drives bill places = pick (bad_row drives) 14 (pick (ltb 1000000000 bill || not (eqb places drives)) 20 0)

in_turn : (a b c : Bool)
    → (let first : ℕ = pick a 14 (pick b 20 0) in pick a 14 (pick b 20 (pick c 21 0)) ≡ pick (eqb first 0) (pick c 21 0) first)
in_turn true b c = refl
in_turn false true c = refl
in_turn false false c = refl

-- the call's number is that one or, where neither fits, 21 or 0
refusal_after : (row : List Drive) (bill places : ℕ)
    → (let first = first_refusal (length row) bill places in
    bill_refusal row bill places ≡ pick (eqb first 0) (pick (eqb (total_of (travels row)) 0) 21 0) first)
unfolding bill_refusal
refusal_after row bill places =
    in_turn (bad_row (length row)) (ltb 1000000000 bill || not (eqb places (length row))) (eqb (total_of (travels row)) 0)

module _ (ys : List Drive) (ws : List ℕ) (bill : ℕ) where
  abbrev pub judge : ℕ
  judge = first_refusal (length ys) bill (length ws)

  abbrev pub tally_by : ℕ → ℕ
  tally_by k = B.tally_by ws (travels ys) k

  abbrev pub row_by : ℕ → List ℕ
  row_by k = B.row_by ws (travels ys) k

  module _ (k : ℕ) (few : k < 64) (within : k < length ys) where
    pub tally_turn : tallied (tally_by k) (at ys k).travel ≡ tally_by (k + 1)
    tally_turn = rw (← (at_travel ys k within)) (B.tally_turn ws (travels ys) k few)

    pub row_turn : k < length ws → noted (row_by k) k (tally_by k) (at ys k).travel ≡ row_by (k + 1)
    row_turn l = rw (← (at_travel ys k within)) (B.row_turn ws (travels ys) k few l)

  fits : judge ≡ 0 → Fits ys bill (length ws)
  fits e =
      let a = passed (bad_row (length ys)) 14 _ e (omega arith) in
      fits_by ys bill (length ws) a.0 (passed _ 20 0 a.1 (omega arith)).0

  abbrev pub turns : ℕ → ℕ
  turns m = pick (eqb m 0) (length ys) 0

  module _ (n m : ℕ) (judged : m ≡ judge) (stops : n ≡ turns m) where
    -- the turns are of the row, fit the shares, and are at most 64
    pub fits_turns : (n ≤ length ys) × (n ≤ length ws) × (n ≤ 64)
    fits_turns =
        cases (eqb m 0)
        (λ e.
        let z : n ≡ length ys = stops ∙ rw e in
        let f = fits (sym judged ∙ eqb-true m 0 e) in
        let size = travels_length ys in
        (omega arith, omega (arith, z, f.room, size), omega (arith, z, f.few, size)))
        (λ e. let z : n ≡ 0 = stops ∙ rw e in (omega arith, omega arith, omega arith))

    -- where the call is not refused so far, the tally has the sum of the counts, and the row, covered, the counts
    ended : m ≡ 0 → (tally_by n / 128 ≡ total_of (travels ys)) × (covered (row_by n) (tally_by n % 128) ≡ travels ys)
    ended z =
        let f = fits (sym judged ∙ z) in
        let all : n ≡ length (travels ys) = stops ∙ rw (eq-eqb m 0 z) (sym (travels_length ys)) in
        (rw all (B.tally_total ws (travels ys) f.room f.few), rw all (B.row_covered ws (travels ys) f.room f.few))

    -- what the end of the call asks for
    pub end_asks : tally_by n ≤ 64 * 2 ^ 39 → m ≡ 0 → 1 ≤ tally_by n / 128
        → Shareable bill (covered (row_by n) (tally_by n % 128)) (tally_by n / 128)
    end_asks low z some =
        let f = fits (sym judged ∙ z) in
        let t = ended z in
        subst (λ (l : List ℕ). Shareable bill l (tally_by n / 128)) (sym t.1)
        record { few = f.few; most = f.most; moved = some; small = omega arith; sum = t.0 }

    -- and what it leaves
    pub refusal_end : (r : ℕ) → r ≡ pick (eqb m 0) (pick (eqb (tally_by n / 128) 0) 21 0) m → r ≡ bill_refusal ys bill (length ws)
    refusal_end r e =
        let last : r ≡ pick (eqb m 0) (pick (eqb (total_of (travels ys)) 0) 21 0) m =
        e ∙ cases (eqb m 0) (λ q. rw (q, (ended (eqb-true m 0 q)).0)) (λ q. rw q) in
        last ∙ rw judged (sym (refusal_after ys bill (length ws)))

    -- where no drive has moved, or none had a turn, the row is as it was
    left_as_it_was : (m ≡ 0 → tally_by n / 128 ≡ 0) → row_by n ≡ ws
    left_as_it_was h =
        cases (eqb m 0)
        (λ q.
        let z = eqb-true m 0 q in
        let all : n ≡ length (travels ys) = stops ∙ rw q (sym (travels_length ys)) in
        rw all (B.row_unmoved ws (travels ys) (length (travels ys)) (sym (ended z).0 ∙ h z)))
        (λ q. let z : n ≡ 0 = stops ∙ rw q in rw z (sym (B.row_start ws (travels ys))))

    pub shares_end : (us : List ℕ)
        → us ≡ pick (eqb m 0 && not (eqb (tally_by n / 128) 0)) (shares bill (covered (row_by n) (tally_by n % 128))) (row_by n)
        → us ≡ shares_after ys bill ws
    unfolding shares_after
    shares_end us e =
        let number = refusal_end _ refl in
        e ∙ rw (← number)
        (cases (eqb m 0)
        (λ q.
        let t = ended (eqb-true m 0 q) in
        cases (eqb (tally_by n / 128) 0)
        (λ r. rw (q, r) (left_as_it_was (λ z. eqb-true (tally_by n / 128) 0 r)))
        (λ r. rw (q, r) (ap (shares bill) t.1)))
        (λ q. let no = eqb-false m 0 q in rw (q, q) (left_as_it_was (λ z. absurd (no z)))))
