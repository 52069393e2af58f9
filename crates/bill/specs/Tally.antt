-- What the code notes of the drives of a row, one after the other, and the row of counts after each turn.
use Rattle.std.specs.Prelude.{◌≡◌, Bool, true, false, not, ◌&&◌, List, ltb, eqb, get_or, set}
use Rattle.std.proofs.Math.Path.{refl, sym}
use Rattle.std.proofs.Common.{ap, ◌∙◌}
use Prim.Native.Nat.{ℕ, zero, suc, ◌+◌, ◌*◌, ◌/◌, ◌%◌, ◌^◌, ◌<◌, ◌≤◌}
use native.Mathlib.Omega.{arith}
use Rattle.std.proofs.Math.Numerals.{add-one}
use Rattle.std.proofs.Math.ListN.{length}
use borrow.Author.Tests.{ltb-true, ltb-false, lt-ltb, le-ltb, eqb-true, eqb-false, eq-eqb, ne_eqb}
use Rattle.numbers.specs.Numbers.{pick}
use Rattle.numbers.specs.Laws.{cases}
use Rattle.numbers.specs.Places.{tabulate}
use Rattle.numbers.specs.PlaceLaws.{tab_length, tab_at, tab_by, tab_set}
use Rattle.bill.specs.Sums.{sum_below, sum_each, sum_more}
use Rattle.bill.specs.Bill.{count_in, total_of}

-- a tally with one more count: 128 for each unit, or one where no drive has moved yet
abbrev pub tallied : ℕ → ℕ → ℕ
tallied tally count = pick (ltb tally 128 && eqb count 0) (tally + 1) (tally + 128 * count)

-- the row with that count at its place
abbrev pub noted : List ℕ → ℕ → ℕ → ℕ → List ℕ
noted row place tally count = pick (ltb tally 128 && eqb count 0) row (set row place count)

-- the row with its first `first` places set to 0
abbrev pub covered : List ℕ → ℕ → List ℕ
covered row first = tabulate (length row) (λ i. pick (ltb i first) 0 (get_or row i 0))

-- one turn adds at most 2^39
pub tallied_most : (tally count : ℕ) → count < 2 ^ 32 → tallied tally count ≤ tally + 2 ^ 39
tallied_most tally count l = cases (ltb tally 128 && eqb count 0) (λ e. rw e (omega arith)) (λ e. rw e (omega arith))

never_both : (b : Bool) → b && not b ≡ false
never_both true = refl
never_both false = refl

-- The tally and the row `ws` after `k` turns, of drives with these counts.
module _ (ws counts : List ℕ) where
  abbrev sum : ℕ → ℕ
  sum k = sum_below k (count_in counts)

  -- how many drives stand before the first that has moved
  first_by : ℕ → ℕ
  first_by zero = 0
  first_by (suc k) = pick (eqb (sum (suc k)) 0) (suc k) (first_by k)

  pub tally_by : ℕ → ℕ
  tally_by k = 128 * sum k + first_by k

  pub row_by : ℕ → List ℕ
  row_by k = tabulate (length ws) (λ i. pick (ltb i k && not (ltb i (first_by k))) (count_in counts i) (get_or ws i 0))

  first_most : (k : ℕ) → first_by k ≤ k
  unfolding first_by
  first_most zero = omega arith
  first_most (suc k) = let r = first_most k in cases (eqb (sum (suc k)) 0) (λ e. rw e (omega arith)) (λ e. rw e (omega arith))

  first_all : (k : ℕ) → sum k ≡ 0 → first_by k ≡ k
  unfolding first_by
  first_all zero z = refl
  first_all (suc k) z = rw (eq-eqb (sum (suc k)) 0 z)

  first_more : (k : ℕ) → (sum (k + 1) ≡ 0 → ⊥) → first_by (k + 1) ≡ first_by k
  unfolding first_by
  first_more k z = rw add-one (rw (ne_eqb (sum (suc k)) 0 (λ e. z (ap sum (add-one k) ∙ e))))

  first_none : (k i : ℕ) → i < first_by k → count_in counts i ≡ 0
  unfolding first_by
  first_none zero i l = absurd (omega arith)
  first_none (suc k) i l =
      cases (eqb (sum (suc k)) 0)
      (λ e.
      let z = eqb-true (sum (suc k)) 0 e in
      let b : i < suc k = rw e at l in
      let each = sum_each (count_in counts) (suc k) i b in
      omega arith)
      (λ e. first_none k i (rw e at l))

  -- no drive has moved where the tally is below 128
  unmoved : (k : ℕ) → k ≤ 64 → ltb (tally_by k) 128 ≡ eqb (sum k) 0
  unfolding tally_by
  unmoved k l =
      let most = first_most k in
      cases (eqb (sum k) 0)
      (λ e. let z = eqb-true (sum k) 0 e in rw e (lt-ltb (128 * sum k + first_by k) 128 (omega arith)))
      (λ e. let z = eqb-false (sum k) 0 e in rw e (le-ltb (128 * sum k + first_by k) 128 (omega arith)))

  pub tally_start : tally_by 0 ≡ 0
  unfolding tally_by first_by sum_below
  tally_start = refl

  pub row_start : ws ≡ row_by 0
  unfolding row_by
  row_start = tab_by 0 ws (length ws) _ refl (λ i l. rw (le-ltb i 0 (omega arith)))

  pub row_length : (k : ℕ) → length (row_by k) ≡ length ws
  unfolding row_by
  row_length k = tab_length (length ws) _

  -- the row is as it was where no drive has moved
  pub row_unmoved : (k : ℕ) → sum k ≡ 0 → row_by k ≡ ws
  unfolding row_by
  row_unmoved k z = sym (tab_by 0 ws (length ws) _ refl (λ i l. rw (first_all k z, never_both (ltb i k))))

  module _ (k : ℕ) (few : k < 64) where
    pub tally_turn : tallied (tally_by k) (count_in counts k) ≡ tally_by (k + 1)
    unfolding tally_by
    tally_turn =
        let s = sum_more (count_in counts) k in
        rw (unmoved k (omega arith))
        (cases (eqb (sum k) 0)
        (λ e.
        let z = eqb-true (sum k) 0 e in
        cases (eqb (count_in counts k) 0)
        (λ f.
        let y = eqb-true (count_in counts k) 0 f in
        rw (e, f) (omega (arith, first_all k z, first_all (k + 1) (omega arith))))
        (λ f. let y = eqb-false (count_in counts k) 0 f in rw (e, f) (omega (arith, first_more k (λ q. omega arith)))))
        (λ e. let z = eqb-false (sum k) 0 e in rw e (omega (arith, first_more k (λ q. omega arith)))))

    row_more : k < length ws → (sum (k + 1) ≡ 0 → ⊥) → set (row_by k) k (count_in counts k) ≡ row_by (k + 1)
    unfolding row_by
    row_more l z =
        let same = first_more k z in
        let most = first_most k in
        tab_set 0 (length ws) _ _ k (count_in counts k) l (rw (lt-ltb k (k + 1) (omega arith), same, le-ltb k (first_by k) (omega arith)))
        (λ i b n.
        cases (ltb i k)
        (λ q. let h = ltb-true i k q in rw (same, q, lt-ltb i (k + 1) (omega arith)))
        (λ q. let h = ltb-false i k q in rw (q, le-ltb i (k + 1) (omega arith))))

    pub row_turn : k < length ws → noted (row_by k) k (tally_by k) (count_in counts k) ≡ row_by (k + 1)
    row_turn l =
        let s = sum_more (count_in counts) k in
        rw (unmoved k (omega arith))
        (cases (eqb (sum k) 0)
        (λ e.
        let z = eqb-true (sum k) 0 e in
        cases (eqb (count_in counts k) 0)
        (λ f. let y = eqb-true (count_in counts k) 0 f in rw (e, f) (row_unmoved k z ∙ sym (row_unmoved (k + 1) (omega arith))))
        (λ f. let y = eqb-false (count_in counts k) 0 f in rw (e, f) (row_more l (λ q. omega arith))))
        (λ e. let z = eqb-false (sum k) 0 e in rw e (row_more l (λ q. omega arith))))

  -- after all turns: the sum, and the counts
  module _ (same : length ws ≡ length counts) (few : length counts ≤ 64) where
    abbrev n : ℕ
    n = length counts

    pub tally_total : tally_by n / 128 ≡ total_of counts
    unfolding tally_by
    tally_total = omega (arith, first_most n)

    pub row_covered : covered (row_by n) (tally_by n % 128) ≡ counts
    unfolding tally_by row_by
    row_covered =
        let first : (128 * sum n + first_by n) % 128 ≡ first_by n = omega (arith, first_most n) in
        let size : length (row_by n) ≡ n = row_length n ∙ same in
        rw (first, size)
        (sym (tab_by 0 counts n _ refl
        (λ i l.
        rw (tab_at {A = ℕ} (length ws) _ 0 i (omega (arith, same, l)))
        (cases (ltb i (first_by n))
        (λ e. rw e (first_none n i (ltb-true i (first_by n) e)))
        (λ e. rw (e, lt-ltb i n l))))))
