-- Proofs: how a bill is shared over the hall.
use Rattle.std.specs.Prelude.{◌≡◌, refl, Bool, true, false, not, ◌||◌, List, [], ◌∷◌, ℕ, zero, suc, ◌+◌, ◌*◌, ◌/◌, ◌≤◌, ◌<◌, ltb, eqb, length, get_or}
use Rattle.std.proofs.Common.{sym, ap, ◌∙◌, arith, mul_comm, le-div_iff_mul-le, div-lt_iff_lt-mul, ltb-true, ltb-false, ne_eqb}
use Rattle.std.proofs.Math.Nat.{mod-eq-sub-div-mul, div-eq_of_lt-le}
use Rattle.numbers.specs.Numbers.{pick, distance}
use Rattle.numbers.specs.Laws.{cases}
use Rattle.numbers.specs.Places.{count_below, tabulate}
use Rattle.numbers.specs.PlaceLaws.{tab_length, tab_at, tab_by}
use Rattle.damper.specs.declared.Drive.{Drive}
use Rattle.hall.specs.Hall.{bad_row}
use Rattle.order.specs.Order.{larger_first, anyone}
use Rattle.order.specs.Laws.{first_only, first_before, larger_true, larger_by, by_number}
use Rattle.bill.specs.Sums.{sum_below, sum_same}
use Rattle.bill.specs.Bill.{count_in, total_of, part, remainder, left_over, gets_one, share_of, shares}
use Rattle.bill.specs.Laws.{shares_length, share_at, parts_most, gets_count}
use Rattle.hall_bill.specs.HallBill.{travels, bill_refusal, shares_after}
use Rattle.hall_bill.specs.Laws.{accepted, accepted_shares, refused_same, shares_add_up, share_off, counts_only, counts_only_shares}
use Rattle.sentences.specs.Words.{◌is_not◌, ◌exceeds◌, some_of, choose, first_that_fits}
use Rattle.sentences.specs.Refusals.{same_choice}
use Rattle.sentences_hall.specs.Paper as P
use Rattle.sentences_hall.specs.Refused.{same_row}
use Rattle.sentences_hall.specs.Senders.{same_count}

-- ── Counts, and sums of lists ──

same_counts : (row : List Drive) → travels row ≡ P.counts row
same_counts [] = refl
same_counts (d ∷ row) = ap (λ (l : List ℕ). d.travel ∷ l) (same_counts row)

sum_first : (n : ℕ) (f : ℕ → ℕ) → sum_below (suc n) f ≡ f 0 + sum_below n (λ i. f (suc i))
unfolding sum_below
sum_first zero f = omega arith
sum_first (suc n) f = let r = sum_first n f in omega arith

same_sum : (xs : List ℕ) → total_of xs ≡ P.sum xs
unfolding sum_below
same_sum [] = refl
same_sum (x ∷ xs) = sum_first (length xs) (count_in (x ∷ xs)) ∙ ap (λ (k : ℕ). x + k) (same_sum xs)

none_moved : (row : List Drive) → eqb (P.sum (P.counts row)) 0 ≡ not (some_of row (λ d. d.travel exceeds 0))
none_moved [] = refl
none_moved (d ∷ row) =
    cases (ltb 0 d.travel)
    (λ e.
    let l = ltb-true 0 d.travel e in
    rw (e, ne_eqb (d.travel + P.sum (P.counts row)) 0 (λ z. omega arith)))
    (λ e.
    let l = ltb-false 0 d.travel e in
    let same : d.travel + P.sum (P.counts row) ≡ P.sum (P.counts row) = omega arith in
    rw (e, same) (none_moved row))

same_total : (row : List Drive) → total_of (travels row) ≡ P.sum (P.counts row)
same_total row = ap total_of (same_counts row) ∙ same_sum (P.counts row)

-- ── When a call is refused ──

in_order : (a b c : Bool) → pick a 14 (pick b 20 (pick c 21 0)) ≡ first_that_fits ((14, a) ∷ (20, b) ∷ (21, c) ∷ [])
in_order a b c = simp same_choice

pub same_refusal : (row : List Drive) (bill places : ℕ) → bill_refusal row bill places ≡ first_that_fits (P.of_the_bill row bill places)
unfolding bill_refusal
same_refusal row bill places =
    let given = bill exceeds 1000000000 || places is_not length row in
    let none : eqb (total_of (travels row)) 0 ≡ not (some_of row (λ d. d.travel exceeds 0)) =
    ap (λ (k : ℕ). eqb k 0) (same_total row) ∙ none_moved row in
    in_order (bad_row (length row)) given (eqb (total_of (travels row)) 0)
    ∙ (λ i. first_that_fits ((14, same_row (length row) i) ∷ (20, given) ∷ (21, none i) ∷ []))

pub refused_bill : (row : List Drive) (bill : ℕ) (ws : List ℕ) (k : ℕ)
    → first_that_fits (P.of_the_bill row bill (length ws)) ≡ suc k → shares_after row bill ws ≡ ws
refused_bill row bill ws k e =
    refused_same row bill ws (λ z. let one = sym z ∙ same_refusal row bill (length ws) ∙ e in omega arith)

-- ── The shares of counts ──
module _ (bill : ℕ) (counts : List ℕ) (moved : 1 ≤ total_of counts) where
  abbrev n : ℕ
  n = length counts

  abbrev T : ℕ
  T = P.sum counts

  abbrev r : ℕ → ℕ
  r = remainder bill counts

  -- one cent more for who gets it
  same_more : (i : ℕ) → share_of bill counts i ≡ part bill counts i + choose (gets_one bill counts i) 1 0
  same_more i = ap (λ (k : ℕ). part bill counts i + k) (same_choice (gets_one bill counts i) 1 0)

  -- a list of the rounded-down shares
  module _ (parts : List ℕ) (size : length parts ≡ n) (at : (i : ℕ) → i < n → get_or parts i 0 ≡ part bill counts i) where
    same_rest : (i : ℕ) → i < n → P.remainder bill counts parts i ≡ r i
    same_rest i l = rw (at i l, ← (same_sum counts)) (sym (mod-eq-sub-div-mul (bill * count_in counts i) (total_of counts)))

    same_parts : P.sum parts ≡ sum_below n (part bill counts)
    same_parts = sym (same_sum parts) ∙ rw size (sum_same _ _ n at)

  pub own_shared : P.Shared bill counts (shares bill counts)
  own_shared =
      let parts = tabulate n (part bill counts) in
      let size : length parts ≡ n = tab_length n _ in
      let at : (i : ℕ) → i < n → get_or parts i 0 ≡ part bill counts i = λ i l. tab_at n _ 0 i l in
      let rest = same_rest parts size at in
      let given = gets_count bill counts moved in
      let before : (i j : ℕ) → j < n → gets_one bill counts i ≡ true → gets_one bill counts j ≡ false → (r j ≤ r i) × (r j ≡ r i → i < j) =
      λ i j l f g. larger_true r j i (first_before (larger_first r) (by_number r) anyone n (left_over bill counts) j i l refl g f) in
      record {
        parts = parts;
        gets = gets_one bill counts;
        for_each = (size, shares_length bill counts);
        one_each = λ i l. share_at bill counts i l ∙ same_more i ∙ rw (at i l);
        no_more = λ i l. rw (at i l, ← (same_sum counts)) ((le-div_iff_mul-le moved).0 (omega arith));
        no_less = λ i l. rw (at i l, ← (same_sum counts)) ((div-lt_iff_lt-mul moved).0 (omega arith));
        left_over_lem = omega (arith, same_parts parts size at, same_count n (gets_one bill counts), given, parts_most bill counts moved);
        largest = λ i j k l f g. omega (arith, rest i k, rest j l, (before i j l f g).0);
        lower = λ i j k l f g e. (before i j l f g).1 (sym (rest j l) ∙ e ∙ rest i k);
      }

  module _ (us : List ℕ) (so : P.Shared bill counts us) where
    same_part : (i : ℕ) → i < n → get_or so.parts i 0 ≡ part bill counts i
    same_part i l =
        let here : bill * count_in counts i / T ≡ get_or so.parts i 0 = div-eq_of_lt-le T (so.no_more i l) (so.no_less i l) in
        rw (same_sum counts) (sym here)

    same_gets : (i : ℕ) → i < n → so.gets i ≡ gets_one bill counts i
    same_gets =
        let rest = same_rest so.parts so.for_each.0 same_part in
        let sum = same_parts so.parts so.for_each.0 same_part in
        let count : count_below n so.gets ≡ left_over bill counts = omega (arith, same_count n so.gets, so.left_over_lem, sum) in
        first_only (larger_first r) (by_number r) anyone so.gets n (left_over bill counts) count (λ i k e. refl)
        (λ i j k l _ f g.
        larger_by r i j (omega (arith, rest i k, rest j l, so.largest j i l k g f))
        (λ e. so.lower j i l k g f (rest i k ∙ e ∙ sym (rest j l))))

    pub no_other : us ≡ shares bill counts
    unfolding shares
    no_other = tab_by 0 us n _ so.for_each.1 (λ i l. so.one_each i l ∙ rw (same_part i l, same_gets i l) (sym (same_more i)))

-- ── The call ──
module _ (row : List Drive) (bill : ℕ) (ws : List ℕ) (ok : first_that_fits (P.of_the_bill row bill (length ws)) ≡ 0) where
  pub accepted_by : bill_refusal row bill (length ws) ≡ 0
  accepted_by = same_refusal row bill (length ws) ∙ ok

  moved : 1 ≤ total_of (travels row)
  moved = (accepted row bill (length ws) accepted_by).1

  pub shared : P.Shared bill (P.counts row) (shares_after row bill ws)
  shared = rw (accepted_shares row bill ws accepted_by, ← (same_counts row)) (own_shared bill (travels row) moved)

  pub only : (us : List ℕ) → P.Shared bill (P.counts row) us → us ≡ shares_after row bill ws
  only us so = rw (accepted_shares row bill ws accepted_by) (no_other bill (travels row) moved us (rw (same_counts row) so))

  pub adds_up : P.sum (shares_after row bill ws) ≡ bill
  adds_up = sym (same_sum (shares_after row bill ws)) ∙ shares_add_up row bill ws accepted_by

  pub near : (i : ℕ) → i < length row
      → (let T = P.sum (P.counts row) in
      let paid = get_or (shares_after row bill ws) i 0 * T in
      let by_travel = bill * (P.drive row i).travel in
      (paid < by_travel + T) × (by_travel < paid + T))
  near i h =
      let T = P.sum (P.counts row) in
      let share = get_or (shares_after row bill ws) i 0 in
      let off : distance (T * share) (bill * (P.drive row i).travel) < T = rw (same_total row) at (share_off row bill ws accepted_by i h) in
      let swap = mul_comm T share in
      (omega arith, omega arith)

pub counts_alone : (row other : List Drive) → P.counts row ≡ P.counts other → (bill : ℕ) (ws : List ℕ)
    → (bill_refusal row bill (length ws) ≡ bill_refusal other bill (length ws)) × (shares_after row bill ws ≡ shares_after other bill ws)
counts_alone row other same bill ws =
    let counts : travels row ≡ travels other = same_counts row ∙ same ∙ sym (same_counts other) in
    (counts_only row other counts bill (length ws), counts_only_shares row other counts bill ws)
