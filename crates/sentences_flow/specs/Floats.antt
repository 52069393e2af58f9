-- Proofs: single floats by the fractions that they are, which the product compares, multiplies and subtracts.
use Rattle.std.specs.Prelude.{◌≡◌, refl, ◌↔◌, Bool, true, false, not, ◌||◌, ℕ, ◌+◌, ◌-◌, ◌*◌, ◌^◌, ◌≤◌, ◌<◌, eqb, ℤ, pos, Float}
use Rattle.std.proofs.Common.{sym, ap, ◌∙◌, subst, mul-pos, mul_comm, mul-one, zero-mul, arith, ltb-true, lt-ltb, le-ltb, eqb-true, eq-eqb}
use Rattle.std.specs.Bool.{beq}
use Rattle.std.proofs.lemmas.Bool.{false≢true, eqb-false, not-true, not-false}
use Rattle.std.specs.Float.{nan, inf, fin, binary32}
use Rattle.std.specs.Float.Ieee.{is_nan, up, down, unlike, below, level, lt, le, sum, sub, mul, of_int, round, units, odd, span, climb, size}
use Rattle.std.specs.Float.Ieee.Exact.{HasValue}
use Rattle.std.specs.Float.Ieee.Scale.{round_same}
use Rattle.std.specs.Float.Ieee.Back.{round_whole}
use Rattle.std.specs.Float.Ieee.Fits.{down_pos}
use Rattle.std.specs.Float.Ieee.Positive.{num, den, den_pos}
use Rattle.numbers.specs.Laws.{cases, and_left, and_right, and_intro}
use Rattle.numbers.specs.Says.{Says, unset}
use Rattle.flow.specs.Flow.{whole, between, is_setting, is_flow, is_share, qualifies, percent_of, apart, Greatest}
use Rattle.flow.specs.FloatLaws.{zero_is, round_zero, round_number, le_not_lt}
use Rattle.flow.specs.PercentLaws.{percent_greatest, greatest_unique}
use Rattle.sentences_flow.specs.Paper as S
use Rattle.sentences_flow.specs.Paper.{Number, number, negative}

-- ── The order ──

-- a number that is not negative, -0 among them
pub record Plain (x : Float) : Type 0 where
  pub finite : Number x
  pub sign : negative x ≡ true → num x ≡ 0

pub plain_of : {low high : ℕ} {x : Float} → S.Between low high x → Plain x
plain_of i = record { finite = i.finite; sign = i.sign }

whole_plain : (k : ℕ) (c : ℤ) → Plain (fin false k c)
whole_plain k c = record { finite = number false k c; sign = λ h. absurd (false≢true h) }

-- a flag or another
either : (b c : Bool) {X Y Z : Type 0} → Says b X → Says c Y → (X → Z) → (Y → Z) → (Z → (X → ⊥) → Y) → Says (b || c) Z
either true c e f g h k = (λ q. g (e.0 refl), λ z. refl)
either false c e f g h k = (λ q. h (f.0 q), λ z. f.1 (k z (λ x. false≢true (e.1 x))))

-- below and level, of what is not negative
below_is : (s t : Bool) (a b : ℕ) → (s ≡ true → a ≡ 0) → (t ≡ true → b ≡ 0) → Says (below s a t b) (a < b)
below_is false false a b p q = (ltb-true a b, lt-ltb a b)
below_is false true a b p q = (λ e. absurd (false≢true e), λ h. let z = q refl in absurd (omega arith))
below_is true false a b p q =
    let z = p refl in
    (λ e. let h = ltb-true 0 (a + b) e in omega arith, λ h. lt-ltb 0 (a + b) (omega arith))
below_is true true a b p q = let y = p refl in let z = q refl in (λ e. let h = ltb-true b a e in omega arith, λ h. absurd (omega arith))

level_is : (s t : Bool) (a b : ℕ) → (s ≡ true → a ≡ 0) → (t ≡ true → b ≡ 0) → Says (level s a t b) (a ≡ b)
level_is s t a b p q = (λ e. eqb-true a b (and_left (eqb a b) _ e), λ e. and_intro (eq-eqb a b e) (signs s t p q e))
  where
    signs : (s t : Bool) → (s ≡ true → a ≡ 0) → (t ≡ true → b ≡ 0) → a ≡ b → beq s t || eqb a 0 ≡ true
    signs false false p q e = refl
    signs false true p q e = let z = q refl in eq-eqb a 0 (omega arith)
    signs true false p q e = eq-eqb a 0 (p refl)
    signs true true p q e = refl

zero_times : (a b : ℕ) → a ≡ 0 → a * b ≡ 0
zero_times a b e = rw e (zero-mul b)

-- of numbers, below and at most
lt_fin : (s : Bool) (m : ℕ) (e : ℤ) (t : Bool) (n : ℕ) (d : ℤ) → (s ≡ true → m * up e ≡ 0) → (t ≡ true → n * up d ≡ 0)
    → Says (lt (fin s m e) (fin t n d)) (m * up e * down d < n * up d * down e)
unfolding lt
lt_fin s m e t n d p q =
    below_is s t (m * up e * down d) (n * up d * down e) (λ h. zero_times (m * up e) (down d) (p h))
    (λ h. zero_times (n * up d) (down e) (q h))

le_fin : (s : Bool) (m : ℕ) (e : ℤ) (t : Bool) (n : ℕ) (d : ℤ) → (s ≡ true → m * up e ≡ 0) → (t ≡ true → n * up d ≡ 0)
    → Says (le (fin s m e) (fin t n d)) (m * up e * down d ≤ n * up d * down e)
unfolding le
le_fin s m e t n d p q =
    let a = m * up e * down d in
    let b = n * up d * down e in
    let za : s ≡ true → a ≡ 0 = λ h. zero_times (m * up e) (down d) (p h) in
    let zb : t ≡ true → b ≡ 0 = λ h. zero_times (n * up d) (down e) (q h) in
    either (below s a t b) (level s a t b) (below_is s t a b za zb) (level_is s t a b za zb) (λ h. omega arith) (λ h. omega arith)
    (λ h k. omega arith)

-- what is not negative is compared as its fractions are
pub le_is : (x y : Float) → Plain x → Plain y → Says (le x y) (num x * den y ≤ num y * den x)
le_is x y p q = go p.finite q.finite p.sign q.sign
  where
    go : {x y : Float} → Number x → Number y → (negative x ≡ true → num x ≡ 0) → (negative y ≡ true → num y ≡ 0)
        → Says (le x y) (num x * den y ≤ num y * den x)
    go (number s m e) (number t n d) p q = le_fin s m e t n d p q

-- ── Between ──

pub one_is : whole 1 ≡ fin false 1 (pos 0)
unfolding of_int round units odd span climb size
one_is = refl

pub million_is : whole 1000000 ≡ fin false 15625 (pos 6)
unfolding of_int round units odd span climb size
million_is = refl

-- what is not below a number that is not negative, and not above another, is a number that is not negative
in_plain : (k m : ℕ) (c d : ℤ) (x : Float) → le (fin false k c) x ≡ true → le x (fin false m d) ≡ true → Plain x
unfolding le
in_plain k m c d nan a b = absurd (false≢true a)
in_plain k m c d (inf true) a b = absurd (false≢true a)
in_plain k m c d (inf false) a b = absurd (false≢true b)
in_plain k m c d (fin false n e) a b = record { finite = number false n e; sign = λ h. absurd (false≢true h) }
in_plain k m c d (fin true n e) a b =
    let x = k * up c * down e in
    let y = n * up e * down c in
    let l : x ≡ y = eqb-true x y (and_left (eqb x y) _ a) in
    let z : x ≡ 0 = eqb-true x 0 (and_right (eqb x y) _ a) in
    record { finite = number true n e; sign = λ h. none (n * up e) (down c) (down_pos c) (sym l ∙ z) }
  where
    none : (a b : ℕ) → 0 < b → a * b ≡ 0 → a ≡ 0
    none a b h e =
        cases (eqb a 0)
        (λ q. eqb-true a 0 q)
        (λ q. let n = eqb-false a 0 q in let l = mul-pos {m = a} {n = b} (omega arith) h in absurd (omega arith))

-- between two whole numbers, of which the second is given by an odd number and a power of two
same_between : (k m c : ℕ) (x : Float) → Says (between (fin false k (pos 0)) (fin false m (pos c)) x) (S.Between k (m * 2 ^ c) x)
same_between k m c x =
    let low = fin false k (pos 0) in
    let high = fin false m (pos c) in (
      λ e.
          let a = and_left (le low x) _ e in
          let b = and_right (le low x) _ e in
          let p = in_plain k m (pos 0) (pos c) x a b in
          let l = (le_is low x (whole_plain k (pos 0)) p).0 a in
          let h = (le_is x high p (whole_plain m (pos c))).0 b in
          record { finite = p.finite; sign = p.sign; least = omega arith; most = omega arith },
      λ i.
          let p = plain_of i in
          let l = i.least in
          let h = i.most in
          and_intro ((le_is low x (whole_plain k (pos 0)) p).1 (omega arith)) ((le_is x high p (whole_plain m (pos c))).1 (omega arith)),
    )

pub same_setting : (x : Float) → (is_setting x ≡ true) ↔ S.Between 1 1000000 x
unfolding is_setting
same_setting x = rw (one_is, million_is) (same_between 1 15625 6 x)

pub same_flow : (x : Float) → (is_flow x ≡ true) ↔ S.Between 0 1000000 x
unfolding is_flow
same_flow x = rw (zero_is, million_is) (same_between 0 15625 6 x)

pub same_share : (x : Float) → (is_share x ≡ true) ↔ S.Between 0 1 x
unfolding is_share
same_share x = rw (zero_is, one_is) (same_between 0 1 0 x)

-- ── Products ──

-- a number above zero has no sign
unsigned : {x : Float} → S.Between 1 1000000 x → negative x ≡ false
unsigned {x} i =
    cases (negative x)
    (λ s. let z = i.sign s in let l = i.least in let d = den_pos x in absurd (omega arith))
    (λ s. s)

-- its sign in a product is the other's
product_fin : (m : ℕ) (e : ℤ) (s : Bool) (n : ℕ) (d : ℤ) → mul binary32 (fin false m e) (fin s n d) ≡ S.product (fin false m e) (fin s n d)
unfolding mul
product_fin m e true n d = refl
product_fin m e false n d = refl

pub same_product : (n x : Float) → S.Between 1 1000000 n → S.Between 0 1 x → mul binary32 n x ≡ S.product n x
same_product n x a b = go a.finite b.finite (unsigned a)
  where
    go : {n x : Float} → Number n → Number x → negative n ≡ false → mul binary32 n x ≡ S.product n x
    go (number true m e) (number s k d) u = absurd (false≢true (sym u))
    go (number false m e) (number s k d) u = product_fin m e s k d

-- ── Percent ──

-- a whole number that is a float, in a product
times_fin : (k a : ℕ) (c : ℤ) (s : Bool) (m : ℕ) (e : ℤ) → a * up c * 1 ≡ k * down c
    → mul binary32 (fin false a c) (fin s m e) ≡ S.times k (fin s m e)
unfolding mul
times_fin k a c s m e v =
    ap (λ (t : Bool). round binary32 t (a * up c * (m * up e)) (down c * down e)) (plus s)
    ∙ round_same binary32 s (a * up c * (m * up e)) (down c * down e) (k * (m * up e)) (down e) (mul-pos (down_pos c) (down_pos e))
    (down_pos e)
    (regroup (a * up c) (m * up e) (down c) (down e) v)
  where
    plus : (s : Bool) → unlike false s ≡ s
    plus true = refl
    plus false = refl

    regroup : (b x c d : ℕ) → b * 1 ≡ k * c → b * x * d ≡ k * x * (c * d)
    regroup b x c d v = rw (sym (mul-one b) ∙ v) (omega arith)

-- of a value k
times_value : (k : ℕ) (w x : Float) → HasValue w false k 1 → Number x → mul binary32 w x ≡ S.times k x
times_value k nan x v n = absurd v
times_value k (inf s) x v n = absurd v
times_value k (fin true a c) x v n = absurd (false≢true (sym v.0))
times_value k (fin false a c) x v (number s m e) = times_fin k a c s m e v.1

times_is : (k : ℕ) (x : Float) → k ≤ 100 → Number x → mul binary32 (whole k) x ≡ S.times k x
unfolding of_int
times_is k x h n = times_value k (round binary32 false k 1) x (round_whole binary32 false k (omega arith)) n

-- what qualifies, by the products of the fractions
qualifies_is : (n x : Float) → Number n → Number x → (p : ℕ) → p ≤ 100 → qualifies n x p ≡ not (lt (S.times 100 x) (S.times p n))
unfolding qualifies
qualifies_is n x a b p h =
    rw (times_is p n h a, times_is 100 x (omega arith) b)
    (le_not_lt (S.times p n) (S.times 100 x) (round_number binary32 (negative n) _ _) (round_number binary32 (negative x) _ _))

pub same_percent : (n x : Float) → S.Between 1 1000000 n → S.Between 0 1000000 x → (p : ℕ) → (percent_of n x ≡ p) ↔ S.Percent n x p
same_percent n x a b p = (λ e. subst (S.Percent n x) e is, λ g. sym (greatest_unique n x p (back g)))
  where
    test : (q : ℕ) → q ≤ 100 → qualifies n x q ≡ not (lt (S.times 100 x) (S.times q n))
    test q h = qualifies_is n x a.finite b.finite q h

    is : S.Percent n x (percent_of n x)
    is =
        let g = percent_greatest n ((same_setting n).1 a) x ((same_flow x).1 b) in
        record {
          most = g.most;
          not_above = not-true (lt (S.times 100 x) (S.times (percent_of n x) n)) (sym (test (percent_of n x) g.most) ∙ g.fits);
          greatest = λ q l h. not-false (lt (S.times 100 x) (S.times q n)) (sym (test q h) ∙ g.none q l h);
        }

    back : S.Percent n x p → Greatest n x p
    back g =
        record {
          most = g.most;
          fits = test p g.most ∙ ap not g.not_above;
          none = λ q l h. test q h ∙ ap not (g.greatest q l h);
        }

-- ── Differences ──

-- the same float, but that 0 may be -0
data Alike : Float → Float → Type 0 where
  same : (x : Float) → Alike x x
  zeros : Alike (fin true 0 (pos 0)) (fin false 0 (pos 0))

-- a difference of two that are not negative, the larger less the smaller
sum_is : (s t : Bool) (a b c : ℕ) → 0 < c → (s ≡ true → a ≡ 0) → (t ≡ true → b ≡ 0) → b ≤ a
    → Alike (sum binary32 s a (not t) b c) (round binary32 false (a - b) c)
unfolding sum
sum_is false false a b c h p q l = rw (le-ltb a b l) (same _)
sum_is false true a b c h p q l = let z = q refl in let e : a + b ≡ a - b = omega arith in rw e (same _)
sum_is true false a b c h p q l =
    let z = p refl in
    let e : a + b ≡ 0 = omega arith in
    let d : a - b ≡ 0 = omega arith in
    rw (e, d, round_zero true c h, round_zero false c h) zeros
sum_is true true a b c h p q l = let y = p refl in let z = q refl in rw (le-ltb a b l, le-ltb b a (omega arith)) (same _)

sub_is : (s : Bool) (m : ℕ) (e : ℤ) (t : Bool) (n : ℕ) (d : ℤ) → (s ≡ true → m * up e ≡ 0) → (t ≡ true → n * up d ≡ 0)
    → n * up d * down e ≤ m * up e * down d
    → Alike (sub binary32 (fin s m e) (fin t n d)) (round binary32 false (m * up e * down d - n * up d * down e) (down e * down d))
unfolding sub
sub_is s m e t n d p q l =
    sum_is s t (m * up e * down d) (n * up d * down e) (down e * down d) (mul-pos (down_pos e) (down_pos d))
    (λ h. zero_times (m * up e) (down d) (p h))
    (λ h. zero_times (n * up d) (down e) (q h))
    l

-- so `apart` is the difference, but for the sign of a zero
apart_fin : (s : Bool) (m : ℕ) (e : ℤ) (t : Bool) (n : ℕ) (d : ℤ) → (s ≡ true → m * up e ≡ 0) → (t ≡ true → n * up d ≡ 0)
    → Alike (apart (fin s m e) (fin t n d)) (S.difference (fin s m e) (fin t n d))
unfolding apart
apart_fin s m e t n d p q =
    let a = m * up e * down d in
    let b = n * up d * down e in
    cases (lt (fin s m e) (fin t n d))
    (λ h.
    let l = (lt_fin s m e t n d p q).0 h in
    let z : (a - b) + (b - a) ≡ b - a = omega arith in
    rw (h, z, mul_comm (down e) (down d)) (sub_is t n d s m e q p (omega arith)))
    (λ h.
    let k : a < b → ⊥ = (unset (lt (fin s m e) (fin t n d)) (lt_fin s m e t n d p q)).0 h in
    let l : b ≤ a = omega arith in
    let z : (a - b) + (b - a) ≡ a - b = omega arith in
    rw (h, z) (sub_is s m e t n d p q l))

apart_is : (x y : Float) → Plain x → Plain y → Alike (apart x y) (S.difference x y)
apart_is x y p q = go p.finite q.finite p.sign q.sign
  where
    go : {x y : Float} → Number x → Number y → (negative x ≡ true → num x ≡ 0) → (negative y ≡ true → num y ≡ 0)
        → Alike (apart x y) (S.difference x y)
    go (number s m e) (number t n d) p q = apart_fin s m e t n d p q

-- which makes no difference to a comparison
alike_le : (c : Float) → Plain c → {x y : Float} → Alike x y → (le c x ≡ true) ↔ (le c y ≡ true)
alike_le c p (same x) = (λ e. e, λ e. e)
alike_le c p zeros =
    let u = le_is c (fin true 0 (pos 0)) p (record { finite = number true 0 (pos 0); sign = λ h. refl }) in
    let v = le_is c (fin false 0 (pos 0)) p (whole_plain 0 (pos 0)) in
    (λ e. v.1 (u.0 e), λ e. u.1 (v.0 e))

-- a number is no NaN
plain_number : {x : Float} → Number x → is_nan x ≡ false
unfolding is_nan
plain_number (number s m e) = refl

pub same_differs : (c x y : Float) → S.Between 1 1000000 c → S.Between 0 1000000 x → S.Between 0 1000000 y
    → (le c (apart x y) ≡ true) ↔ S.Differs c x y
same_differs c x y a b d =
    let i = alike_le c (plain_of a) (apart_is x y (plain_of b) (plain_of d)) in
    let n = le_not_lt c (S.difference x y) (plain_number a.finite) (round_number binary32 false _ _) in
    (λ e. not-true (lt (S.difference x y) c) (sym n ∙ i.0 e), λ e. i.1 (n ∙ ap not e))
