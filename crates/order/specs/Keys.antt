-- Keys for the code: in a row of at most 64 places the order by a number is that of a key, which no two places share.
use Rattle.std.specs.Prelude.{◌≡◌, Bool, true, ltb, eqb}
use Rattle.std.proofs.Math.Path.{refl}
use Rattle.std.proofs.Common.{sym, ap, ◌∙◌}
use Prim.Native.Nat.{ℕ, zero, suc, ◌+◌, ◌-◌, ◌*◌, ◌<◌, ◌≤◌}
use native.Mathlib.Omega.{arith}
use Rattle.std.proofs.Math.Dec.{leb}
use borrow.Author.Tests.{leb-true, leb-false, le-leb, lt-leb, eqb-true, eqb-false}
use Rattle.numbers.specs.Laws.{cases}
use Rattle.numbers.specs.Places.{count_below}
use Rattle.numbers.specs.PlaceLaws.{count_le, count_same, none_counted}
use Rattle.order.specs.Order.{larger_first, foremost}
use Rattle.order.specs.Laws.{larger_true, larger_by, by_number, first_only}

abbrev pub key_of : ℕ → ℕ → ℕ
key_of v i = 64 * v + (63 - i)

-- how many of the first `n` keys are `x` or more
abbrev pub count_from : (ℕ → ℕ) → ℕ → ℕ → ℕ
count_from key n x = count_below n (λ i. leb x (key i))

module _ (key : ℕ → ℕ) where
  -- all are 0 or more, and none more than all
  pub count_zero : (n : ℕ) → count_from key n 0 ≡ n
  unfolding count_below
  count_zero zero = refl
  count_zero (suc n) = rw (le-leb 0 (key n) (omega arith)) (ap (λ (m : ℕ). m + 1) (count_zero n) ∙ omega arith)

  pub count_past : (n x : ℕ) → ((i : ℕ) → i < n → key i < x) → count_from key n x ≡ 0
  count_past n x h = none_counted _ n (λ i b. lt-leb x (key i) (h i b))

  -- where at most one place has just the key `x`
  pub count_one : (n x : ℕ) → ((i j : ℕ) → i < n → j < n → key i ≡ x → key j ≡ x → i ≡ j) → count_from key n x ≤ count_from key n (x + 1) + 1
  unfolding count_below
  count_one zero x h = omega arith
  count_one (suc n) x h =
      let r = count_one n x (λ i j k l. h i j (omega arith) (omega arith)) in
      cases (leb (x + 1) (key n))
      (λ e. let l = leb-true (x + 1) (key n) e in rw (e, le-leb x (key n) (omega arith)) (omega arith))
      (λ e.
      let l = leb-false (x + 1) (key n) e in
      cases (leb x (key n))
      (λ f.
      let here : key n ≡ x = omega (arith, leb-true x (key n) f) in
      let same =
      count_le (λ i. leb x (key i)) (λ i. leb (x + 1) (key i)) n
      (λ i k q.
      let m = leb-true x (key i) q in
      cases (eqb (key i) x)
      (λ s. let z = h i n (omega arith) (omega arith) (eqb-true (key i) x s) here in absurd (omega arith))
      (λ s. let z = eqb-false (key i) x s in le-leb (x + 1) (key i) (omega arith))) in
      rw (e, f) (omega arith))
      (λ f. rw (e, f) r))

  -- Where as many keys are `x` or more as are asked for, all of places that are admitted, these go first in the order by the keys.
  pub first_from : (admitted : ℕ → Bool) (n most x : ℕ) → count_from key n x ≡ most → ((i : ℕ) → i < n → x ≤ key i → admitted i ≡ true)
      → (i : ℕ) → i < n → leb x (key i) ≡ foremost (larger_first key) admitted n most i
  first_from admitted n most x count some =
      first_only (larger_first key) (by_number key) admitted (λ i. leb x (key i)) n most count (λ i k e. some i k (leb-true x (key i) e))
      (λ i j k l _ e f.
      let less = leb-false x (key i) e in
      let least = leb-true x (key j) f in
      larger_by key i j (omega arith) (λ s. absurd (omega arith)))

-- Keys of numbers, each larger by `base`, at the places that are admitted.
module _ (v key : ℕ → ℕ) (base : ℕ) (admitted : ℕ → Bool) (n : ℕ) (few : n ≤ 64)
    (keyed : (i : ℕ) → i < n → admitted i ≡ true → key i ≡ base + key_of (v i) i) where
  pub key_once : (i j : ℕ) → i < n → j < n → admitted i ≡ true → admitted j ≡ true → key i ≡ key j → i ≡ j
  key_once i j k l a b e = omega (arith, keyed i k a, keyed j l b, e)

  key_order : (i j : ℕ) → i < n → j < n → admitted i ≡ true → admitted j ≡ true → larger_first key i j ≡ larger_first v i j
  key_order i j k l a b =
      let p = keyed i k a in
      let q = keyed j l b in
      cases (larger_first v i j)
      (λ e.
      let t = larger_true v i j e in
      let least = t.0 in
      let less : key i < key j =
      cases (eqb (v i) (v j)) (λ s. let m = t.1 (eqb-true (v i) (v j) s) in omega arith) (λ s. let m = eqb-false (v i) (v j) s in omega arith) in
      larger_by key i j (omega arith) (λ s. absurd (omega arith)) ∙ sym e)
      (λ e.
      cases (larger_first key i j)
      (λ f.
      let t = larger_true key i j f in
      let least = t.0 in
      f ∙ sym (larger_by v i j (omega arith)
      (λ s. cases (eqb i j) (λ z. let m = eqb-true i j z in t.1 (omega arith)) (λ z. let m = eqb-false i j z in omega arith))))
      (λ f. f ∙ sym e))

  -- The order by the keys is that by the numbers.
  pub first_keyed : (most i : ℕ) → i < n → foremost (larger_first key) admitted n most i ≡ foremost (larger_first v) admitted n most i
  first_keyed most i l =
      cases (admitted i)
      (λ a. rw a (ap (λ (r : ℕ). ltb r most) (count_same _ _ n
      (λ j k. cases (admitted j) (λ b. rw b (key_order i j l k a b)) (λ b. rw b)))))
      (λ a. rw a)
