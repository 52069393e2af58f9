-- Document 02, W-206: a percent becomes a position by a multiplication, an addition and a shift. Which factors and addends serve, with a
-- shift of at most 10.
use Rattle.std.specs.Prelude.{◌≡◌, ℕ, zero, suc, ◌+◌, ◌-◌, ◌*◌, ◌/◌, ◌^◌, ◌<◌, ◌≤◌, ltb, eqb}
use Rattle.std.proofs.Common.{sym, ap, ◌∙◌, subst, arith, mul-add, mul_assoc, ltb-true, ltb-false, eqb-true}
use Rattle.std.proofs.Math.Nat.{mul-div-mul_left, pow-succ'}
use Rattle.std.proofs.lemmas.Bool.{eqb-false}
use Rattle.numbers.specs.Laws.{cases}
use Rattle.motion.specs.Motion as M

module _ (factor addend shift : ℕ) where
  -- percent `p` becomes "what W-202 says" by "a multiplication, an addition and a shift"
  abbrev pub IsRight : ℕ → Type 0
  IsRight p = (factor * p + addend) / 2 ^ shift ≡ M.to_position p

  -- "Each of the 101 inputs must give what W-202 says"
  abbrev pub Serves : Type 0
  Serves = (p : ℕ) → p ≤ 100 → IsRight p

  -- four of them: 1 and 81 % are rounded furthest up, 10 and 70 % furthest down
  abbrev pub FourAreRight : Type 0
  FourAreRight = IsRight 1 × IsRight 10 × IsRight 70 × IsRight 81

-- What is right with a shift is right, doubled, with the next.
doubled : (f a s p : ℕ) → IsRight f a s p → IsRight (2 * f) (2 * a) (suc s) p
doubled f a s p e =
    let twice : 2 * f * p + 2 * a ≡ 2 * (f * p + a) = ap (λ (x : ℕ). x + 2 * a) (mul_assoc 2 f p) ∙ sym (mul-add 2 (f * p) a) in
    rw (twice, pow-succ' 2 s) (mul-div-mul_left (f * p + a) (2 ^ s) (omega arith) ∙ e)

four_doubled : (f a s : ℕ) → FourAreRight f a s → FourAreRight (2 * f) (2 * a) (suc s)
four_doubled f a s e = (doubled f a s 1 e.0, doubled f a s 10 e.1, doubled f a s 70 e.2, doubled f a s 81 e.3)

-- With shift 10 they leave one factor and 37 addends.
at_ten : (f a : ℕ) → FourAreRight f a 10 → (f ≡ 2611) × (477 ≤ a) × (a ≤ 513)
unfolding M.to_position
at_ten f a e =
    let one : (f * 1 + a) / 1024 ≡ 3 = e.0 in
    let ten : (f * 10 + a) / 1024 ≡ 25 = e.1 in
    let seventy : (f * 70 + a) / 1024 ≡ 178 = e.2 in
    let eighty_one : (f * 81 + a) / 1024 ≡ 207 = e.3 in
    let most : f ≤ 2611 = omega arith in
    let least : 2611 ≤ f = omega arith in
    (omega arith, omega arith, omega arith)

-- With a lower shift they are not right: doubled up to 10, the factor would be even.
none_below : (n f a s : ℕ) → n + s ≡ 9 → FourAreRight f a s → ⊥
none_below zero f a s d e =
    let nine : s ≡ 9 = omega arith in
    let even : 2 * f ≡ 2611 = (at_ten (2 * f) (2 * a) (four_doubled f a 9 (subst (FourAreRight f a) nine e))).0 in
    absurd (omega arith)
none_below (suc n) f a s d e = none_below n (2 * f) (2 * a) (suc s) (omega arith) (four_doubled f a s e)

-- The least shift is 10, and with it there are only the factor 2611 and the addends from 477 to 513.
pub four_only : (f a s : ℕ) → s ≤ 10 → FourAreRight f a s → (s ≡ 10) × (f ≡ 2611) × (477 ≤ a) × (a ≤ 513)
four_only f a s l e =
    cases (ltb s 10)
    (λ t. let b : s < 10 = ltb-true _ _ t in absurd (none_below (9 - s) f a s (omega arith) e))
    (λ t.
    let b : 10 ≤ s = ltb-false _ _ t in
    let ten : s ≡ 10 = omega arith in
    let only = at_ten f a (subst (FourAreRight f a) ten e) in
    (ten, only.0, only.1, only.2))

-- Furthest up, by 45 hundredths, 1, 21, 41, 61 and 81 % are rounded: none of them is above 81.
up_furthest : (p t : ℕ) → p + 99 ≡ 20 * t → p ≤ 100 → p ≤ 81
up_furthest p t e k = let b : t ≤ 9 = omega arith in omega arith

-- Furthest down, by a half, 10, 30, 50, 70 and 90 %: none of them is below 10.
down_furthest : (p t : ℕ) → p + 30 ≡ 20 * t → 10 ≤ p
down_furthest p t e = let b : 2 ≤ t = omega arith in omega arith

-- Each of these addends serves.
pub served : (a : ℕ) → 477 ≤ a → a ≤ 513 → Serves 2611 a 10
unfolding M.to_position
served a l h p k =
    let q = (510 * p + 99) / 200 in
    let low : 1024 * q ≤ 2611 * p + a =
    cases (eqb (51 * p + 9) (20 * q))
    (λ e. let m : 51 * p + 9 ≡ 20 * q = eqb-true _ _ e in let b : p ≤ 81 = up_furthest p (11 * q - 28 * p) (omega arith) k in omega arith)
    (λ e. let m = eqb-false (51 * p + 9) (20 * q) e in let b : 20 * q ≤ 51 * p + 8 = omega arith in omega arith) in
    let high : 2611 * p + a < 1024 * suc q =
    cases (eqb (51 * p + 9) (20 * q + 19))
    (λ e. let m : 51 * p + 9 ≡ 20 * q + 19 = eqb-true _ _ e in let b : 10 ≤ p = down_furthest p (11 * q + 7 - 28 * p) (omega arith) in omega arith)
    (λ e. let m = eqb-false (51 * p + 9) (20 * q + 19) e in let b : 51 * p + 9 ≤ 20 * q + 18 = omega arith in omega arith) in
    omega arith

-- With a shift of at most 10, what is right for the four is right for all 101. (With 11 it need not be: factor 5223 and addend 975 are
-- right for the four and wrong for 90 %.)
pub four_serve : (f a s : ℕ) → s ≤ 10 → FourAreRight f a s → Serves f a s
four_serve f a s l e =
    let only = four_only f a s l e in
    rw (only.0, only.1) (served a only.2 only.3)
