-- The percent shown is the greatest that qualifies, and where one does not qualify, no greater one does.
use Rattle.std.specs.Prelude.{◌≡◌, refl, true, leb, eqb, Float}
use Rattle.std.proofs.Common.{sym, subst, ◌∙◌}
use Rattle.std.proofs.Math.Bool.{false}
use Rattle.std.proofs.lemmas.Bool.{false≢true}
use Prim.Native.Nat.{ℕ, zero, suc, ◌+◌, ◌*◌, ◌<◌, ◌≤◌}
use Rattle.std.proofs.Math.Nat.{one-mul}
use native.Mathlib.Omega.{arith}
use Rattle.std.proofs.Math.Dec.{T}
use Rattle.std.specs.Float.Ieee.{binary32, mul, le, of_int, round, units, odd, span, climb, size}
use Rattle.std.specs.Float.Ieee.Positive as P
use Rattle.std.specs.Float.Ieee.Positive.{positive, num, den, den_pos, own_value, mul_at, mul_mono}
use Rattle.std.specs.Float.Ieee.Order.{round_mono}
use Rattle.std.specs.Float.Ieee.Back.{round_whole}
use borrow.Author.Tests.{eqb-true, eqb-false, leb-true, leb-false}
use Rattle.numbers.specs.Laws.{cases, and_left, and_right}
use Rattle.flow.specs.Flow.{whole, is_setting, is_flow, qualifies, greatest, percent_of, Greatest}
use Rattle.flow.specs.FloatLaws.{as_true, as_T, whole_le, whole_positive, zero_is, Least, none, some, least, mul_zero_right, mul_zero_left, zero_least, product_least, le_trans_any}

module _ (n x : Float) where
  pub greatest_most : (m : ℕ) → greatest n x m ≤ m
  unfolding greatest
  greatest_most zero = omega arith
  greatest_most (suc m) = cases (qualifies n x (suc m)) (λ e. rw e (omega arith)) (λ e. rw e (let l = greatest_most m in omega arith))

  pub greatest_fits : (m : ℕ) → 1 ≤ greatest n x m → qualifies n x (greatest n x m) ≡ true
  unfolding greatest
  greatest_fits zero h = absurd (omega arith)
  greatest_fits (suc m) h = cases (qualifies n x (suc m)) (λ e. rw e e) (λ e. rw e (greatest_fits m (rw e at h)))

  pub greatest_none : (m q : ℕ) → greatest n x m < q → q ≤ m → qualifies n x q ≡ false
  unfolding greatest
  greatest_none zero q a b = absurd (omega arith)
  greatest_none (suc m) q a b =
      cases (qualifies n x (suc m))
      (λ e. let c : suc m < q = rw e at a in absurd (omega arith))
      (λ e.
      let c : greatest n x m < q = rw e at a in
      cases (eqb q (suc m)) (λ z. rw (eqb-true q (suc m) z) e) (λ z. let o = eqb-false q (suc m) z in greatest_none m q c (omega arith)))

  -- what no greater one up to m follows is the greatest
  pub greatest_is : (m low : ℕ) → low ≤ m → (1 ≤ low → qualifies n x low ≡ true) → ((q : ℕ) → low < q → q ≤ m → qualifies n x q ≡ false) → greatest n x m ≡ low
  unfolding greatest
  greatest_is zero low h f g = omega arith
  greatest_is (suc m) low h f g =
      cases (eqb low (suc m))
      (λ z. let e = eqb-true low (suc m) z in rw (← e, f (omega arith)))
      (λ z.
      let o = eqb-false low (suc m) z in
      rw (g (suc m) (omega arith) (omega arith)) (greatest_is m low (omega arith) f (λ q a b. g q a (omega arith))))

one_one : mul binary32 (whole 1) (whole 1) ≡ whole 1
unfolding mul of_int round units odd span climb size
one_one = refl

hundred_million : mul binary32 (whole 100) (whole 1000000) ≡ whole 100000000
unfolding mul of_int round units odd span climb size
hundred_million = refl

-- what lies from 1 to 1,000,000 is above zero, and what lies from 0 to 1,000,000 not below it
one_le : (n : Float) → is_setting n ≡ true → T (le (whole 1) n)
unfolding is_setting
one_le n r = as_T (and_left (le (whole 1) n) _ r)

pub le_million : (n : Float) → is_setting n ≡ true → T (le n (whole 1000000))
unfolding is_setting
le_million n r = as_T (and_right (le (whole 1) n) _ r)

pub in_positive : (n : Float) → is_setting n ≡ true → T (positive n)
in_positive n r =
    P.between (whole 1) n (whole 1000000) (whole_positive 1 (omega arith) (omega arith)) (whole_positive 1000000 (omega arith) (omega arith))
    (one_le n r)
    (le_million n r)

pub flow_least : (x : Float) → is_flow x ≡ true → Least x
unfolding is_flow
flow_least x f =
    least x (whole 1000000) (whole_positive 1000000 (omega arith) (omega arith)) (as_T (and_left (le (whole 0) x) _ f)) (as_T (and_right (le (whole 0) x) _ f))

module _ (n : Float) (r : is_setting n ≡ true) where
  product_positive : (p : ℕ) → 1 ≤ p → p ≤ 100 → T (positive (mul binary32 (whole p) n))
  product_positive p a b =
      let one = whole_positive 1 (omega arith) (omega arith) in
      let wp = whole_positive p a (omega arith) in
      let wn = in_positive n r in
      P.between (whole 1) (mul binary32 (whole p) n) (whole 100000000) one (whole_positive 100000000 (omega arith) (omega arith))
      (subst (λ (z : Float). T (le z (mul binary32 (whole p) n))) one_one (mul_mono binary32 (whole 1) (whole p) (whole 1) n one wp one wn (whole_le 1 p a) (one_le n r)))
      (subst (λ (z : Float). T (le (mul binary32 (whole p) n) z)) hundred_million
      (mul_mono binary32 (whole p) (whole 100) n (whole 1000000) wp (whole_positive 100 (omega arith) (omega arith)) wn
      (whole_positive 1000000 (omega arith) (omega arith)) (whole_le p 100 b) (le_million n r)))

  -- the rounded product grows with p, so where q qualifies, each p from 1 to q does
  pub qualifies_down : (x : Float) (p q : ℕ) → 1 ≤ p → p ≤ q → q ≤ 100 → qualifies n x q ≡ true → qualifies n x p ≡ true
  unfolding qualifies
  qualifies_down x p q a b c e =
      let wn = in_positive n r in
      as_true
      (le_trans_any (mul binary32 (whole p) n) (mul binary32 (whole q) n) (mul binary32 (whole 100) x) (product_positive p a (omega arith))
      (product_positive q (omega arith) c)
      (mul_mono binary32 (whole p) (whole q) n n (whole_positive p a (omega arith)) (whole_positive q (omega arith) (omega arith)) wn wn (whole_le p q b)
      (self n wn))
      (as_T e))
    where
      self : (y : Float) → T (positive y) → T (le y y)
      self y p = P.cross→le y y p p (omega arith)

  pub qualifies_none : (x : Float) (p q : ℕ) → 1 ≤ p → p ≤ q → q ≤ 100 → qualifies n x p ≡ false → qualifies n x q ≡ false
  qualifies_none x p q a b c e =
      cases (qualifies n x q) (λ t. absurd (false≢true (sym e ∙ qualifies_down x p q a b c t))) (λ f. f)

  -- a search by halves that has come to neighbours has the percent
  pub halves : (x : Float) (low high : ℕ) → low < high → high ≤ low + 1 → high ≤ 101 → (1 ≤ low → qualifies n x low ≡ true)
      → (high ≤ 100 → qualifies n x high ≡ false) → low ≡ percent_of n x
  halves x low high a b c f g =
      sym
      (greatest_is n x 100 low (omega arith) f
      (λ q l m. qualifies_none x high q (omega arith) (omega arith) m (g (omega arith))))

  -- 0 qualifies
  pub zero_qualifies : (x : Float) → is_flow x ≡ true → qualifies n x 0 ≡ true
  unfolding qualifies
  zero_qualifies x f = as_true (rw (mul_zero_left n (in_positive n r), ← zero_is) (go x (flow_least x f)))
    where
      go : (x : Float) → Least x → T (le (whole 0) (mul binary32 (whole 100) x))
      go x (none s e) = rw (mul_zero_right (whole 100) s e (whole_positive 100 (omega arith) (omega arith))) (zero_least s)
      go x (some y p) = product_least (whole 100) y (whole_positive 100 (omega arith) (omega arith)) p

  pub percent_greatest : (x : Float) → is_flow x ≡ true → Greatest n x (percent_of n x)
  percent_greatest x f =
      record {
        most = greatest_most n x 100;
        fits =
            cases (eqb (percent_of n x) 0)
            (λ z. rw (eqb-true (percent_of n x) 0 z) (zero_qualifies x f))
            (λ z. let o = eqb-false (percent_of n x) 0 z in greatest_fits n x 100 (omega arith));
        none = λ q a b. greatest_none n x 100 q a b;
      }

-- and there is no other
pub greatest_unique : (n x : Float) (p : ℕ) → Greatest n x p → p ≡ percent_of n x
greatest_unique n x p g = sym (greatest_is n x 100 p g.most (λ h. g.fits) g.none)

-- What is shown is never below what the numbers give without rounding: where p × nominal ≤ 100 × flow as fractions, p is shown or more.
module _ (n x : Float) (r : is_setting n ≡ true) (q : T (positive x)) where
  exact : (p : ℕ) → 1 ≤ p → p ≤ 100 → p * num n * den x ≤ 100 * num x * den n → qualifies n x p ≡ true
  unfolding qualifies of_int
  exact p a b h =
      let wn = in_positive n r in
      let left = mul_at binary32 (whole p) n p 1 (num n) (den n) (whole_positive p a (omega arith)) wn (omega arith) (den_pos n) (round_whole binary32 false p (omega arith)) (own_value n wn) in
      let right = mul_at binary32 (whole 100) x 100 1 (num x) (den x) (whole_positive 100 (omega arith) (omega arith)) q (omega arith) (den_pos x) (round_whole binary32 false 100 (omega arith)) (own_value x q) in
      as_true
      (rw (left, right)
      (round_mono binary32 (p * num n) (1 * den n) (100 * num x) (1 * den x) (rw (one-mul (den n)) (den_pos n)) (rw (one-mul (den x)) (den_pos x))
      (rw (one-mul (den n), one-mul (den x)) h)))

  pub percent_least : (p : ℕ) → p ≤ 100 → p * num n * den x ≤ 100 * num x * den n → p ≤ percent_of n x
  percent_least p b h =
      cases (leb p (percent_of n x))
      (λ e. leb-true p (percent_of n x) e)
      (λ e.
      let l : percent_of n x < p = leb-false p (percent_of n x) e in
      absurd (false≢true (sym (greatest_none n x 100 p l b) ∙ exact p (omega arith) b h)))
