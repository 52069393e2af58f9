-- Laws of flags that one number holds.
use Rattle.std.specs.Prelude.{◌≡◌, refl, Bool, true, false, ◌||◌, ℕ, zero, suc, ◌+◌, ◌-◌, ◌/◌, ◌%◌, ◌^◌, ◌<◌, max, ltb, eqb}
use Rattle.std.proofs.Common.{sym, ap, ◌∙◌, arith, one-mul, mod-lt, pow-add, pow_pos, ltb-true, ltb-false, eqb-true}
use Rattle.std.proofs.Math.Nat.{zero-div, div_self, div-eq_of_lt, mul-add-mod_self_right}
use Rattle.std.proofs.Math.Pow.{pow-lt}
use Rattle.std.proofs.lemmas.Nat.{shl-shr, or_shr}
use Rattle.std.specs.Int.Bits.{bit_or, or_step, shifted_even}
use Rattle.std.proofs.lemmas.Bool.{eqb-false}
use Rattle.numbers.specs.Numbers.{pick, on, flag_at}
use Rattle.numbers.specs.Laws.{cases}

pub no_flag : (i : ℕ) → flag_at 0 i ≡ false
no_flag i = rw (zero-div (2 ^ i))

even_above : (m j : ℕ) → 2 ^ (suc m + j) / 2 ^ j % 2 ≡ 0
even_above m j =
    ap (λ (x : ℕ). x / 2 ^ j % 2) (pow-add 2 (suc m) j)
    ∙ ap (λ (x : ℕ). x % 2) (shl-shr (2 ^ suc m) j ∙ sym (one-mul (2 ^ suc m)))
    ∙ shifted_even 1 m

-- of the binary digits of a power of two just one is 1
power_digit : (i j : ℕ) → 2 ^ i / 2 ^ j % 2 ≡ pick (eqb i j) 1 0
power_digit i j =
    cases (eqb i j)
    (λ e. rw (e, eqb-true i j e) (ap (λ (x : ℕ). x % 2) (div_self (pow_pos j))))
    (λ e.
    let other = eqb-false i j e in
    rw e
    (cases (ltb j i)
    (λ l.
    let below = ltb-true j i l in
    let from : i ≡ suc (i - j - 1) + j = omega arith in
    ap (λ (k : ℕ). 2 ^ k / 2 ^ j % 2) from ∙ even_above (i - j - 1) j)
    (λ l.
    let above = ltb-false j i l in
    ap (λ (x : ℕ). x % 2) (div-eq_of_lt (pow-lt (omega arith))))))

-- the larger of two binary digits is set where one is
larger_digit : (x : ℕ) (b : Bool) → x < 2 → on (max x (pick b 1 0) % 2) ≡ (b || on x)
larger_digit zero true h = refl
larger_digit zero false h = refl
larger_digit (suc zero) true h = refl
larger_digit (suc zero) false h = refl
larger_digit (suc (suc x)) b h = absurd (omega arith)

-- a flag set beside others
pub flag_more : (flags i j : ℕ) → flag_at (bit_or flags (2 ^ i)) j ≡ (eqb i j || flag_at flags j)
flag_more flags i j =
    let a = flags / 2 ^ j in
    let b = 2 ^ i / 2 ^ j in
    let low : a % 2 < 2 = mod-lt a (omega arith) in
    let digit : bit_or a b % 2 ≡ max (a % 2) (b % 2) % 2 =
    ap (λ (x : ℕ). x % 2) (or_step a b) ∙ mul-add-mod_self_right (bit_or (a / 2) (b / 2)) 2 (max (a % 2) (b % 2)) in
    rw (or_shr flags (2 ^ i) j, digit, power_digit i j) (larger_digit (a % 2) (eqb i j) low)
