-- How the code divides a bill, and looks for those that get one of the cents left over.
use Rattle.std.specs.Prelude.{◌≡◌, refl, Bool, true, false, List, ℕ, ◌+◌, ◌*◌, ◌/◌, ◌%◌, ◌^◌, ◌<◌, ◌≤◌, ltb, leb, eqb, length, get_or, set}
use Rattle.std.proofs.Common.{ap, ◌∙◌, arith, mul_comm, mul-le-mul_left, mod-lt, get_or-set_same, get_or-set_other}
use Rattle.std.proofs.Math.Nat.{div-le_of_le-mul}
use borrow.Author.Tests.{le-ltb, eqb-true, eqb-false}
use Rattle.numbers.specs.Numbers.{pick}
use Rattle.numbers.specs.Laws.{cases}
use Rattle.numbers.specs.Places.{tabulate}
use Rattle.numbers.specs.PlaceLaws.{tab_length, tab_at, tab_same, count_most}
use Rattle.order.specs.Order.{larger_first, anyone, rank}
use Rattle.order.specs.Keys.{key_of, count_from, count_zero, count_past, first_from, key_once, first_keyed}
use Rattle.order.specs.Search.{Bracketed}
use Rattle.bill.specs.Sums.{sum_below, sum_each, sum_fewer, sum_more}
use Rattle.bill.specs.Bill.{count_in, total_of, part, remainder, left_over, gets_one, shares}
use Rattle.bill.specs.Laws.{parts_most, left_most}
use Rattle.bill.specs.Rows.{changed, change_old}

-- what is asked of a bill that is shared out by counts with the sum `total`, so that every number fits
pub record Shareable (bill : ℕ) (counts : List ℕ) (total : ℕ) : Type 0 where
  pub few : length counts ≤ 64
  pub most : bill ≤ 1000000000
  pub moved : 1 ≤ total
  pub small : total < 2 ^ 40
  pub sum : total ≡ total_of counts

-- the parts of all drives
abbrev pub parts : ℕ → List ℕ → List ℕ
parts bill counts = tabulate (length counts) (part bill counts)

-- one cent more for each whose key is `least` or more
abbrev pub paid : List ℕ → (ℕ → ℕ) → ℕ → List ℕ
paid row key least = tabulate (length row) (λ i. pick (leb least (key i)) (count_in row i + 1) (count_in row i))

-- the key of a place, of which one row has the lower 32 bits and another the rest
abbrev pub key_in : List ℕ → List ℕ → ℕ → ℕ
key_in lows highs i = 2 ^ 32 * get_or highs i 0 + get_or lows i 0

-- the keys of the first `k` places are noted
pub record Keyed (bill : ℕ) (counts lows highs : List ℕ) (k : ℕ) : Type 0 where
  pub at : (i : ℕ) → i < k → key_in lows highs i ≡ key_of (remainder bill counts i) i

-- what dividing leaves: the parts in the place of the counts, the keys, and the cents left over
pub record Divided (bill : ℕ) (counts row lows highs : List ℕ) (left : ℕ) : Type 0 where
  pub divided : row ≡ parts bill counts
  pub keyed : Keyed bill counts lows highs (length counts)
  pub over : left ≡ left_over bill counts

-- what is asked of keys, none above `top`, of which the `most` largest are looked for
pub record Sought (key : ℕ → ℕ) (drives most top : ℕ) : Type 0 where
  pub few : drives ≤ 64
  pub some : 1 ≤ most
  pub enough : most ≤ drives
  pub below : (i : ℕ) → i < drives → key i ≤ top
  pub once : (i j : ℕ) → i < drives → j < drives → key i ≡ key j → i ≡ j

-- so many are as large as a number from 0 on, behind which `top` is
pub bracketed : (key : ℕ → ℕ) (drives most top : ℕ) → Sought key drives most top → Bracketed key drives most 0 (top + 1)
bracketed key drives most top s =
    let all = count_zero key drives in
    let none = count_past key drives (top + 1) (λ i l. let b = s.below i l in omega arith) in
    let some = s.enough in
    record { order = omega arith; enough = omega arith; few = omega arith; once = λ i j k l h e. s.once i j k l e }

one_more : (b : Bool) (x : ℕ) → pick b (x + 1) x ≡ x + pick b 1 0
one_more true x = refl
one_more false x = omega arith

module _ (bill : ℕ) (counts : List ℕ) where
  abbrev n : ℕ
  n = length counts

  -- a place that is not changed yet: the quotient by the sum, and what it leaves
  pub quotient : (now : List ℕ) (k w total : ℕ) → now ≡ changed (part bill counts) counts k → k < n → w ≡ get_or now k 0
      → total ≡ total_of counts → (bill * w / total ≡ part bill counts k) × (bill * w % total ≡ remainder bill counts k)
  quotient now k w total e l f g =
      let here : w ≡ count_in counts k = f ∙ change_old (part bill counts) counts now k e l in
      (rw (here, g), rw (here, g))

  module _ (moved : 1 ≤ total_of counts) where
    -- a part is at most the bill
    pub part_most : (i : ℕ) → i < n → part bill counts i ≤ bill
    part_most i l =
        let each = sum_each (count_in counts) n i l in
        let more = mul-le-mul_left bill each in
        let swap = mul_comm bill (total_of counts) in
        div-le_of_le-mul (total_of counts) (omega arith)

    -- the parts of the first places, with one more, are no more than the bill
    pub part_left : (k left : ℕ) → k < n → left + sum_below k (part bill counts) ≡ bill → part bill counts k ≤ left
    part_left k left l e =
        let most = parts_most bill counts moved in
        let fewer = sum_fewer (part bill counts) n (k + 1) (omega arith) in
        let more = sum_more (part bill counts) k in
        omega arith

  -- one more key is noted
  pub keyed_turn : (lows highs : List ℕ) (k key : ℕ) → Keyed bill counts lows highs k → k < length lows → k < length highs
      → key ≡ key_of (remainder bill counts k) k → Keyed bill counts (set lows k (key % 2 ^ 32)) (set highs k (key / 2 ^ 32)) (k + 1)
  keyed_turn lows highs k key h l m e =
      record {
        at = λ i b.
            cases (eqb i k)
            (λ q.
            let s = eqb-true i k q in
            rw s (omega (arith, get_or-set_same lows k (key % 2 ^ 32) 0 l, get_or-set_same highs k (key / 2 ^ 32) 0 m, e)))
            (λ q.
            let s = eqb-false i k q in
            rw (get_or-set_other lows k i (key % 2 ^ 32) 0 s, get_or-set_other highs k i (key / 2 ^ 32) 0 s) (h.at i (omega arith)));
      }

-- The end of it: the parts, with one cent more for some, are the shares.
module _ {bill total left : ℕ} {counts row lows highs : List ℕ} (given : Shareable bill counts total)
    (done : Divided bill counts row lows highs left) where
  abbrev key : ℕ → ℕ
  key = key_in lows highs

  moved : 1 ≤ total_of counts
  moved = rw given.sum at given.moved

  size : length row ≡ length counts
  size = ap length done.divided ∙ tab_length (length counts) _

  part_at : (i : ℕ) → i < length counts → get_or row i 0 ≡ part bill counts i
  part_at i l = ap (λ (t : List ℕ). get_or t i 0) done.divided ∙ tab_at (length counts) _ 0 i l

  keyed : (i : ℕ) → i < length counts → anyone i ≡ true → key i ≡ 0 + key_of (remainder bill counts i) i
  keyed i l a = omega (arith, done.keyed.at i l)

  pub sought : (left ≡ 0 → ⊥) → Sought key (length row) left (64 * total)
  sought some =
      rw size
      record {
        few = given.few;
        some = omega arith;
        enough = omega (arith, done.over, left_most bill counts moved, count_most (λ i. ltb 0 (remainder bill counts i)) (length counts));
        below = λ i l. omega (arith, done.keyed.at i l, mod-lt (bill * count_in counts i) moved, given.sum);
        once = λ i j k l. key_once (remainder bill counts) key 0 anyone (length counts) given.few keyed i j k l refl refl;
      }

  pub payable : (length row ≤ 64) × ((i : ℕ) → i < length row → get_or row i 0 + 1 < 2 ^ 32)
  payable = (
    omega (arith, size, given.few),
    λ i l. let b : i < length counts = omega (arith, size, l) in omega (arith, part_at i b, part_most bill counts moved i b, given.most),
  )

  -- none is left over
  pub settled_even : left ≡ 0 → row ≡ shares bill counts
  unfolding shares
  settled_even z =
      done.divided
      ∙ tab_same 0 (length counts) _ _
      (λ i l.
      rw (← done.over, z, le-ltb (rank (larger_first (remainder bill counts)) anyone (length counts) i) 0 (omega arith)) (omega arith))

  -- as many keys are `least` or more as cents are left over
  pub settled : (least : ℕ) → count_from key (length row) least ≡ left → paid row key least ≡ shares bill counts
  unfolding shares
  settled least count =
      rw size
      (tab_same 0 (length counts) _ _
      (λ i l.
      let told =
      first_from key anyone (length counts) left least (rw size at count) (λ j k e. refl) i l
      ∙ first_keyed (remainder bill counts) key 0 anyone (length counts) given.few keyed left i l in
      rw (told, part_at i l, done.over) (one_more (gets_one bill counts i) (part bill counts i))))
