-- Sums over the places of a row.
use Rattle.std.specs.Prelude.{◌≡◌, Bool, eqb}
use Rattle.std.proofs.Math.Path.{refl}
use Rattle.std.proofs.Common.{ap, mul-zero, mul-add, not-suc-le-zero, add-one, eqb-true}
use Prim.Native.Nat.{ℕ, zero, suc, ◌+◌, ◌*◌, ◌<◌, ◌≤◌}
use native.Mathlib.Omega.{arith}
use Rattle.std.proofs.lemmas.Bool.{eqb-false}
use Rattle.numbers.specs.Numbers.{pick}
use Rattle.numbers.specs.Laws.{cases}
use Rattle.numbers.specs.Places.{count_below}

-- the sum of `f i` over the first `n` places
unfoldable pub sum_below : ℕ → (ℕ → ℕ) → ℕ
sum_below zero f = 0
sum_below (suc n) f = sum_below n f + f n

module _ (f g : ℕ → ℕ) where
  pub sum_same : (n : ℕ) → ((i : ℕ) → i < n → f i ≡ g i) → sum_below n f ≡ sum_below n g
  unfolding sum_below
  sum_same zero h = refl
  sum_same (suc n) h = rw (h n (omega arith), sum_same n (λ i l. h i (omega arith)))

  pub sum_le : (n : ℕ) → ((i : ℕ) → i < n → f i ≤ g i) → sum_below n f ≤ sum_below n g
  unfolding sum_below
  sum_le zero h = omega arith
  sum_le (suc n) h = let a = h n (omega arith) in let b = sum_le n (λ i l. h i (omega arith)) in omega arith

  pub sum_add : (n : ℕ) → sum_below n (λ i. f i + g i) ≡ sum_below n f + sum_below n g
  unfolding sum_below
  sum_add zero = refl
  sum_add (suc n) = let r = sum_add n in omega arith

pub sum_times : (c : ℕ) (f : ℕ → ℕ) (n : ℕ) → sum_below n (λ i. c * f i) ≡ c * sum_below n f
unfolding sum_below
sum_times c f zero = omega (arith, mul-zero c)
sum_times c f (suc n) = let r = sum_times c f n in rw (mul-add c (sum_below n f) (f n), r)

-- a sum of ones is a count
pub sum_count : (p : ℕ → Bool) (n : ℕ) → sum_below n (λ i. pick (p i) 1 0) ≡ count_below n p
unfolding sum_below count_below
sum_count p zero = refl
sum_count p (suc n) = let r = sum_count p n in cases (p n) (λ e. rw (e, r)) (λ e. rw e (omega arith))

-- each is at most the sum
pub sum_each : (f : ℕ → ℕ) (n i : ℕ) → i < n → f i ≤ sum_below n f
unfolding sum_below
sum_each f zero i l = absurd (not-suc-le-zero l)
sum_each f (suc n) i l =
    cases (eqb i n)
    (λ e. let s = eqb-true i n e in rw s (omega arith))
    (λ e. let s = eqb-false i n e in let r = sum_each f n i (omega arith) in omega arith)

-- a sum over fewer places is at most as large
pub sum_fewer : (f : ℕ → ℕ) (n k : ℕ) → k ≤ n → sum_below k f ≤ sum_below n f
unfolding sum_below
sum_fewer f zero k l = let z : k ≡ 0 = omega arith in rw z (omega arith)
sum_fewer f (suc n) k l =
    cases (eqb k (suc n))
    (λ e. rw (eqb-true k (suc n) e) (omega arith))
    (λ e. let s = eqb-false k (suc n) e in let r = sum_fewer f n k (omega arith) in omega arith)

-- one place more
pub sum_more : (f : ℕ → ℕ) (k : ℕ) → sum_below (k + 1) f ≡ sum_below k f + f k
unfolding sum_below
sum_more f k = ap (λ (m : ℕ). sum_below m f) (add-one k)
