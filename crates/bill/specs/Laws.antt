-- Laws of the shares: they add up to the bill, a drive that has not moved pays nothing, and each is less than one cent off.
use Rattle.std.specs.Prelude.{◌≡◌, false, List, ℕ, ◌+◌, ◌*◌, ◌/◌, ◌%◌, ◌<◌, ◌≤◌, ltb, length, get_or}
use Rattle.std.proofs.Common.{sym, ap, ◌∙◌, arith, mul-zero, mul-one, mul_comm, mul-add, mul-le-mul_left, div-add-mod', mod-lt, ltb-true, ltb-false, le-ltb}
use Rattle.std.proofs.lemmas.Bool.{false≢true}
use Rattle.std.proofs.Math.Nat.{mul-sub, le_of_mul-le-mul_left, zero-div, zero-mod}
use Rattle.numbers.specs.Numbers.{pick, distance}
use Rattle.numbers.specs.Laws.{cases}
use Rattle.numbers.specs.Places.{count_below}
use Rattle.numbers.specs.PlaceLaws.{count_le, count_most, tab_length, tab_at}
use Rattle.order.specs.Order.{larger_first, anyone, rank}
use Rattle.order.specs.Laws.{by_number, count_anyone, first_count}
use Rattle.bill.specs.Sums.{sum_below, sum_same, sum_le, sum_add, sum_times, sum_count}
use Rattle.bill.specs.Bill.{count_in, total_of, part, remainder, left_over, gets_one, share_of, shares}

-- how many drives have a remainder
abbrev pub uneven : ℕ → List ℕ → ℕ
uneven bill counts = count_below (length counts) (λ i. ltb 0 (remainder bill counts i))

pub shares_length : (bill : ℕ) (counts : List ℕ) → length (shares bill counts) ≡ length counts
unfolding shares
shares_length bill counts = tab_length (length counts) _

pub share_at : (bill : ℕ) (counts : List ℕ) (i : ℕ) → i < length counts → get_or (shares bill counts) i 0 ≡ share_of bill counts i
unfolding shares
share_at bill counts i l = tab_at (length counts) _ 0 i l

module _ (bill : ℕ) (counts : List ℕ) (moved : 1 ≤ total_of counts) where
  abbrev n : ℕ
  n = length counts

  abbrev T : ℕ
  T = total_of counts

  abbrev q : ℕ → ℕ
  q = part bill counts

  abbrev r : ℕ → ℕ
  r = remainder bill counts

  abbrev parts : ℕ
  parts = sum_below n q

  abbrev some : ℕ
  some = uneven bill counts

  whole : (i : ℕ) → T * q i + r i ≡ bill * count_in counts i
  whole i = rw (mul_comm T (q i)) (div-add-mod' (bill * count_in counts i) T)

  below : (i : ℕ) → r i < T
  below i = mod-lt (bill * count_in counts i) moved

  -- the parts with their remainders make up the bill
  wholes : T * parts + sum_below n r ≡ T * bill
  wholes =
      rw (← (sum_times T q n), ← (sum_add (λ i. T * q i) r n))
      (sum_same (λ i. T * q i + r i) (λ i. bill * count_in counts i) n (λ i l. whole i)
      ∙ sum_times bill (count_in counts) n ∙ mul_comm bill T)

  pub parts_most : parts ≤ bill
  parts_most = le_of_mul-le-mul_left {k = T} (omega (arith, wholes)) moved

  -- what is left over makes up the remainders
  left_wholes : T * left_over bill counts ≡ sum_below n r
  left_wholes = mul-sub T bill parts ∙ omega (arith, wholes)

  uneven_each : (x : ℕ) → x < T → x + pick (ltb 0 x) 1 0 ≤ T * pick (ltb 0 x) 1 0
  uneven_each x l =
      cases (ltb 0 x)
      (λ e. rw e (omega (arith, mul-one T)))
      (λ e. rw e (omega (arith, mul-zero T, ltb-false 0 x e)))

  uneven_sum : sum_below n r + some ≤ T * some
  uneven_sum =
      let one : ℕ → ℕ = λ i. pick (ltb 0 (r i)) 1 0 in
      let each = sum_le (λ i. r i + one i) (λ i. T * one i) n (λ i l. uneven_each (r i) (below i)) in
      let left = sum_add r one n in
      let right = sum_times T one n in
      let count : sum_below n one ≡ some = sum_count (λ i. ltb 0 (r i)) n in
      let scaled : T * sum_below n one ≡ T * some = ap (λ (x : ℕ). T * x) count in
      omega arith

  -- Fewer cents are left over than there are drives with a remainder, or none.
  pub left_fewer : 0 < left_over bill counts → left_over bill counts < uneven bill counts
  left_fewer h =
      let left = left_over bill counts in
      cases (ltb left some)
      (λ e. ltb-true left some e)
      (λ e.
      let more = mul-le-mul_left T (ltb-false left some e) in
      let least = mul-le-mul_left T h in
      let unit = mul-one T in
      let none : some ≡ 0 = omega (arith, uneven_sum, more, left_wholes) in
      let scaled : T * some ≡ 0 = ap (λ (x : ℕ). T * x) none ∙ mul-zero T in
      absurd (omega (arith, uneven_sum, scaled, left_wholes, least, unit, moved)))

  pub left_most : left_over bill counts ≤ uneven bill counts
  left_most =
      cases (ltb 0 (left_over bill counts))
      (λ e. let f = left_fewer (ltb-true 0 (left_over bill counts) e) in omega arith)
      (λ e. let f = ltb-false 0 (left_over bill counts) e in omega arith)

  -- one without a remainder has all with one before it, and gets no cent
  even_none : (i : ℕ) → r i ≡ 0 → gets_one bill counts i ≡ false
  even_none i z =
      let ahead : some ≤ rank (larger_first r) anyone n i =
      count_le (λ j. ltb 0 (r j)) _ n (λ j l e. rw (z, e)) in
      let f = left_most in
      le-ltb (rank (larger_first r) anyone n i) (left_over bill counts) (omega arith)

  -- as many drives get one as cents are left over
  pub gets_count : count_below n (gets_one bill counts) ≡ left_over bill counts
  gets_count =
      let count = first_count (larger_first r) (by_number r) anyone n (left_over bill counts) in
      omega (arith, count, count_anyone n, left_most, count_most (λ i. ltb 0 (r i)) n)

  shares_sum : sum_below n (share_of bill counts) ≡ bill
  shares_sum =
      let one : ℕ → ℕ = λ i. pick (gets_one bill counts i) 1 0 in
      omega (arith, sum_add q one n, sum_count (gets_one bill counts) n, gets_count, parts_most)

  -- "The shares add up to the bill, always."
  pub shares_total : total_of (shares bill counts) ≡ bill
  shares_total = rw (shares_length bill counts) (sum_same _ _ n (share_at bill counts) ∙ shares_sum)

  -- one that has not moved pays nothing
  pub unmoved_none : (i : ℕ) → count_in counts i ≡ 0 → share_of bill counts i ≡ 0
  unmoved_none i z =
      let product : bill * count_in counts i ≡ 0 = ap (λ (x : ℕ). bill * x) z ∙ mul-zero bill in
      let even : r i ≡ 0 = ap (λ (x : ℕ). x % T) product ∙ zero-mod T in
      let none : q i ≡ 0 = ap (λ (x : ℕ). x / T) product ∙ zero-div T in
      rw (even_none i even) (omega arith)

  -- a share is off by less than a cent
  pub share_near : (i : ℕ) → distance (T * share_of bill counts i) (bill * count_in counts i) < T
  share_near i =
      let w = whole i in
      let b = below i in
      let one = mul-add T (q i) 1 in
      let unit = mul-one T in
      let none = mul-add T (q i) 0 in
      let nil = mul-zero T in
      cases (gets_one bill counts i)
      (λ e.
      let rest : 0 < r i =
      cases (ltb 0 (r i))
      (λ f. ltb-true 0 (r i) f)
      (λ f. let z = ltb-false 0 (r i) f in absurd (false≢true (sym (even_none i (omega arith)) ∙ e))) in
      rw e (omega arith))
      (λ e. rw e (omega arith))
