-- Laws of single floats: whole numbers in order, and products of what is not negative.
use Rattle.std.specs.Prelude.{◌≡◌, refl, Bool, true, false, not, ◌&&◌, ◌||◌, cond, ℕ, zero, suc, ◌+◌, ◌*◌, ◌^◌, ◌<◌, ◌≤◌, T, ltb, eqb, ℤ, pos, Float}
use Rattle.std.proofs.Common.{sym, subst, ◌∙◌, zero-mul, mul-zero, mul-pos, arith, eqb→eq, lt→ltb, ltb-true, ltb-false, le-ltb, eqb-true, eq-eqb, ne_eqb}
use Rattle.std.specs.Bool.{beq}
use Rattle.std.proofs.lemmas.Bool.{false≢true}
use Rattle.std.proofs.Math.Bool.{and-false}
use Rattle.std.specs.Float.{nan, inf, fin, Format, binary32}
use Rattle.std.specs.Float.Ieee.{prec, emax, low, up, down, sum, sub, mul, le, lt, of_int, round, units, odd, span, climb, size, unlike, below, level, is_nan}
use Rattle.std.specs.Float.Ieee.Bits.{is_true}
use Rattle.std.specs.Float.Ieee.Fits.{down_pos, up_pos, and_l}
use Rattle.std.specs.Float.Ieee.Order.{round_mono}
use Rattle.std.specs.Float.Ieee.Scale.{round_same}
use Rattle.std.specs.Float.Ieee.Positive as P
use Rattle.std.specs.Float.Ieee.Positive.{positive, num, den, den_pos, own_value, mul_at, above_of_le, le_trans_positive}
use Rattle.numbers.specs.Numbers.{pick}
use Rattle.numbers.specs.Laws.{cases, eqb_swap, not_false}
use Rattle.flow.specs.Flow.{whole, apart}

pub as_true : {b : Bool} → T b → b ≡ true
as_true {b} t = is_true b t

pub as_T : {b : Bool} → b ≡ true → T b
as_T e = subst T (sym e) tt

-- whole numbers keep their order
pub whole_le : (p q : ℕ) → p ≤ q → T (le (whole p) (whole q))
unfolding of_int
whole_le p q h = round_mono binary32 p 1 q 1 (omega arith) (omega arith) (omega arith)

one_positive : T (positive (whole 1))
unfolding of_int round units odd span climb size
one_positive = tt

hundred_million_positive : T (positive (whole 100000000))
unfolding of_int round units odd span climb size
hundred_million_positive = tt

pub whole_positive : (p : ℕ) → 1 ≤ p → p ≤ 100000000 → T (positive (whole p))
whole_positive p a b = P.between (whole 1) (whole p) (whole 100000000) one_positive hundred_million_positive (whole_le 1 p a) (whole_le p 100000000 b)

-- 0, and -0 and products of them
pub zero_is : whole 0 ≡ fin false 0 (pos 0)
unfolding of_int round units odd span climb size
zero_is = refl

round_zero_one : (s : Bool) → round binary32 s 0 1 ≡ fin s 0 (pos 0)
unfolding round units odd span climb size
round_zero_one true = refl
round_zero_one false = refl

pub round_zero : (s : Bool) (d : ℕ) → 0 < d → round binary32 s 0 d ≡ fin s 0 (pos 0)
round_zero s d h = round_same binary32 s 0 d 0 1 h (omega arith) (rw (zero-mul 1, zero-mul d)) ∙ round_zero_one s

-- not negative: zero with either sign, or above zero
pub data Least : Float → Type 0 where
  none : (s : Bool) (e : ℤ) → Least (fin s 0 e)
  some : (x : Float) → T (positive x) → Least x

zero_below : (m : ℕ) (e : ℤ) → 0 < m → 0 * up (pos 0) * down e ≡ m * up e * down (pos 0) → ⊥
zero_below m e h q =
    let p : 0 < m * up e * down (pos 0) = mul-pos (mul-pos h (up_pos e)) (down_pos (pos 0)) in
    let z : 0 * up (pos 0) * down e ≡ 0 = rw (zero-mul (up (pos 0)), zero-mul (down e)) in
    omega arith

least_from : (x high : Float) → T (positive high) → T (le (fin false 0 (pos 0)) x) → T (le x high) → Least x
unfolding le
least_from nan high p a b = absurd a
least_from (inf true) high p a b = absurd a
least_from (inf false) nan p a b = absurd b
least_from (inf false) (inf s) p a b = absurd p
least_from (inf false) (fin s m e) p a b = absurd b
least_from (fin s zero e) high p a b = none s e
least_from (fin true (suc m) e) high p a b =
    absurd (zero_below (suc m) e (omega arith) (eqb→eq _ _ (and_l (eqb (0 * up (pos 0) * down e) (suc m * up e * down (pos 0))) _ a)))
least_from (fin false (suc m) e) high p a b = some (fin false (suc m) e) (lt→ltb 0 (suc m) (omega arith))

-- what lies from 0 to a number above zero is not negative
pub least : (x high : Float) → T (positive high) → T (le (whole 0) x) → T (le x high) → Least x
least x high p a b = least_from x high p (rw zero_is at a) b

-- a product of a number above zero and a zero, in either order
pub mul_zero_right : (n : Float) (s : Bool) (e : ℤ) → T (positive n) → mul binary32 n (fin s 0 e) ≡ fin s 0 (pos 0)
unfolding mul
mul_zero_right nan s e p = absurd p
mul_zero_right (inf t) s e p = absurd p
mul_zero_right (fin true m d) s e p = absurd p
mul_zero_right (fin false m d) s e p =
    let z : m * up d * (0 * up e) ≡ 0 = rw (zero-mul (up e), mul-zero (m * up d)) in
    rw z (round_zero (unlike false s) (down d * down e) (mul-pos (down_pos d) (down_pos e)) ∙ same s)
  where
    same : (s : Bool) → fin (unlike false s) 0 (pos 0) ≡ fin s 0 (pos 0)
    same true = refl
    same false = refl

pub mul_zero_left : (n : Float) → T (positive n) → mul binary32 (whole 0) n ≡ fin false 0 (pos 0)
unfolding mul
mul_zero_left n p = rw zero_is (go n p)
  where
    go : (n : Float) → T (positive n) → mul binary32 (fin false 0 (pos 0)) n ≡ fin false 0 (pos 0)
    go nan p = absurd p
    go (inf t) p = absurd p
    go (fin true m d) p = absurd p
    go (fin false m d) p =
        let z : 0 * up (pos 0) * (m * up d) ≡ 0 = rw (zero-mul (up (pos 0)), zero-mul (m * up d)) in
        rw z (round_zero false (down (pos 0) * down d) (mul-pos (down_pos (pos 0)) (down_pos d)))

-- a zero is from 0 to any whole number
zeros_level : (s : Bool) → T (le (fin false 0 (pos 0)) (fin s 0 (pos 0)))
unfolding le
zeros_level true = tt
zeros_level false = tt

pub zero_least : (s : Bool) → T (le (whole 0) (fin s 0 (pos 0)))
zero_least s = rw zero_is (zeros_level s)

-- and at most 1,000,000
pub zero_most : (s : Bool) → T (le (fin s 0 (pos 0)) (whole 1000000))
unfolding le of_int round units odd span climb size
zero_most true = tt
zero_most false = tt

-- a product of two numbers above zero is not negative
pub product_least : (n x : Float) → T (positive n) → T (positive x) → T (le (whole 0) (mul binary32 n x))
unfolding of_int
product_least n x p q =
    let at = mul_at binary32 n x (num n) (den n) (num x) (den x) p q (den_pos n) (den_pos x) (own_value n p) (own_value x q) in
    rw at (round_mono binary32 0 1 (num n * num x) (den n * den x) (omega arith) (mul-pos (den_pos n) (den_pos x)) (rw (zero-mul (den n * den x)) (omega arith)))

under_all : (x : Float) → T (positive x) → T (le x (inf false))
unfolding le
under_all nan p = absurd p
under_all (inf s) p = absurd p
under_all (fin s m e) p = tt

-- at most, through what is above zero, to anything
pub le_trans_any : (x y z : Float) → T (positive x) → T (positive y) → T (le x y) → T (le y z) → T (le x z)
le_trans_any x y z p q h k = go z (above_of_le y z q k) k
  where
    go : (z : Float) → T (P.above z) → T (le y z) → T (le x z)
    go nan a k = absurd a
    go (inf true) a k = absurd a
    go (inf false) a k = under_all x p
    go (fin true m e) a k = absurd a
    go (fin false m e) a k = le_trans_positive x y (fin false m e) p q a h k

-- what is rounded is no NaN
odd_number : (d : ℕ) (s : Bool) (q k l : ℕ) → is_nan (odd d s q k l) ≡ false
unfolding odd is_nan
odd_number d s zero k l = refl
odd_number d s (suc q) k l = refl

inf_number : (s : Bool) → is_nan (inf s) ≡ false
unfolding is_nan
inf_number s = refl

cond_number : (b : Bool) (x y : Float) → is_nan x ≡ false → is_nan y ≡ false → is_nan (cond b x y) ≡ false
cond_number true x y p q = p
cond_number false x y p q = q

units_number : (f : Format) (s : Bool) (q k : ℕ) → is_nan (units f s q k) ≡ false
unfolding units
units_number f s q k =
    cond_number (ltb (q * 2 ^ k) (2 ^ (low f + suc (emax f)))) (odd (suc (prec f)) s q k (low f)) (inf s) (odd_number (suc (prec f)) s q k (low f)) (inf_number s)

pub round_number : (f : Format) (s : Bool) (a b : ℕ) → is_nan (round f s a b) ≡ false
unfolding round
round_number f s a b = units_number f s _ _

sum_number : (f : Format) (s : Bool) (a : ℕ) (t : Bool) (b c : ℕ) → is_nan (sum f s a t b c) ≡ false
unfolding sum
sum_number f s a t b c =
    cond_number (beq s t) _ _ (round_number f s (a + b) c) (cond_number (ltb a b) _ _ (round_number f t _ c) (round_number f _ _ c))

-- so the difference of two numbers is one
sub_number : (f : Format) (s : Bool) (m : ℕ) (e : ℤ) (t : Bool) (n : ℕ) (d : ℤ) → is_nan (sub f (fin s m e) (fin t n d)) ≡ false
unfolding sub
sub_number f s m e t n d = sum_number f s _ (not t) _ _

pub apart_number : (x y : Float) → Least x → Least y → is_nan (apart x y) ≡ false
unfolding apart
apart_number x y p q = go (lt x y) x y (shape p) (shape q)
  where
    Shape : Float → Type 0
    Shape z = (s : Bool) × (m : ℕ) × (e : ℤ) × (z ≡ fin s m e)

    plain : (z : Float) → T (positive z) → Shape z
    plain nan p = absurd p
    plain (inf s) p = absurd p
    plain (fin s m e) p = (s, m, e, refl)

    shape : {z : Float} → Least z → Shape z
    shape (none s e) = (s, 0, e, refl)
    shape (some z p) = plain z p

    go : (b : Bool) (x y : Float) → Shape x → Shape y → is_nan (pick b (sub binary32 y x) (sub binary32 x y)) ≡ false
    go true x y (s, m, e, p) (t, n, d, q) = rw (p, q) (sub_number binary32 t n d s m e)
    go false x y (s, m, e, p) (t, n, d, q) = rw (p, q) (sub_number binary32 s m e t n d)

-- of two numbers with signs the one is at most the other, or above it: the four signs
at_most : (a b : ℕ) → ltb a b || (eqb a b && true) ≡ not (ltb b a)
at_most a b =
    cases (ltb b a)
    (λ q. let h = ltb-true b a q in rw (q, le-ltb a b (omega arith), ne_eqb a b (λ e. omega arith)))
    (λ q.
    let h = ltb-false b a q in
    cases (ltb a b) (λ l. rw (q, l)) (λ l. let k = ltb-false a b l in rw (q, l, eq-eqb a b (omega arith))))

both_zero : (a b : ℕ) → eqb a b && eqb a 0 ≡ not (ltb 0 (b + a))
both_zero a b =
    cases (ltb 0 (b + a))
    (λ q.
    let h = ltb-true 0 (b + a) q in
    cases (eqb a 0) (λ z. let e = eqb-true a 0 z in rw (q, ne_eqb a b (λ d. omega arith))) (λ z. rw (q, z, and-false (eqb a b))))
    (λ q. let h = ltb-false 0 (b + a) q in rw (q, eq-eqb a b (omega arith), eq-eqb a 0 (omega arith)))

some_or_zero : (a b : ℕ) → ltb 0 (a + b) || (eqb a b && eqb a 0) ≡ true
some_or_zero a b =
    cases (ltb 0 (a + b)) (λ q. rw q) (λ q. let h = ltb-false 0 (a + b) q in rw (q, eq-eqb a b (omega arith), eq-eqb a 0 (omega arith)))

-- and so of two floats that are no NaN
pub le_not_lt : (x y : Float) → is_nan x ≡ false → is_nan y ≡ false → le x y ≡ not (lt y x)
unfolding le is_nan
le_not_lt nan y p q = absurd (false≢true (sym p))
le_not_lt (inf s) nan p q = absurd (false≢true (sym q))
le_not_lt (inf true) (inf true) p q = refl
le_not_lt (inf true) (inf false) p q = refl
le_not_lt (inf false) (inf true) p q = refl
le_not_lt (inf false) (inf false) p q = refl
le_not_lt (inf true) (fin t n d) p q = refl
le_not_lt (inf false) (fin t n d) p q = refl
le_not_lt (fin s m e) nan p q = absurd (false≢true (sym q))
le_not_lt (fin s m e) (inf true) p q = refl
le_not_lt (fin s m e) (inf false) p q = refl
le_not_lt (fin s m e) (fin t n d) p q = sides s t (m * up e * down d) (n * up d * down e)
  where
    sides : (s t : Bool) (a b : ℕ) → below s a t b || level s a t b ≡ not (below t b s a)
    sides false false a b = at_most a b
    sides false true a b = both_zero a b
    sides true false a b = some_or_zero a b
    sides true true a b = rw (eqb_swap a b) (at_most b a)

-- what is below another float is not at least that
lt_numbers : (x y : Float) → lt x y ≡ true → (is_nan x ≡ false) × (is_nan y ≡ false)
unfolding lt is_nan
lt_numbers nan y e = absurd (false≢true e)
lt_numbers (inf s) nan e = absurd (false≢true e)
lt_numbers (inf s) (inf t) e = (refl, refl)
lt_numbers (inf s) (fin t n d) e = (refl, refl)
lt_numbers (fin s m e) nan q = absurd (false≢true q)
lt_numbers (fin s m e) (inf t) q = (refl, refl)
lt_numbers (fin s m e) (fin t n d) q = (refl, refl)

pub below_not : (c d : Float) → lt d c ≡ true → le c d ≡ false
below_not c d h = let n = lt_numbers d c h in le_not_lt c d n.1 n.0 ∙ rw h

-- and what is not at least another is below it
pub not_below : (c d : Float) → is_nan c ≡ false → is_nan d ≡ false → le c d ≡ false → lt d c ≡ true
not_below c d p q h = not_false (lt d c) (sym (le_not_lt c d p q) ∙ h)

-- a number above zero is no NaN
pub positive_number : (x : Float) → T (positive x) → is_nan x ≡ false
unfolding is_nan
positive_number nan p = absurd p
positive_number (inf s) p = absurd p
positive_number (fin s m e) p = refl
