-- Laws of flags and of `pick`.
use Rattle.std.specs.Prelude.{◌≡◌, refl, Bool, true, false, not, ◌&&◌, ◌||◌, ℕ, zero, suc, ◌*◌, ◌≤◌, eqb}
use Rattle.std.proofs.Common.{sym, ◌∙◌, arith, eqb-true, eq-eqb, ne_eqb}
use Rattle.std.proofs.lemmas.Bool.{false≢true, lt-leb, eqb-false}
use Rattle.numbers.specs.Numbers.{pick, on, is_flag, bit}

pub and_left : (a b : Bool) → a && b ≡ true → a ≡ true
and_left true b e = refl
and_left false b e = e

pub and_right : (a b : Bool) → a && b ≡ true → b ≡ true
and_right true b e = e
and_right false b e = absurd (false≢true e)

pub and_intro : {a b : Bool} → a ≡ true → b ≡ true → a && b ≡ true
and_intro {a} {b} p q = rw p q

pub or_left : (a b : Bool) → a || b ≡ false → a ≡ false
or_left true b e = e
or_left false b e = refl

pub or_right : (a b : Bool) → a || b ≡ false → b ≡ false
or_right true b e = absurd (false≢true (sym e))
or_right false b e = e

pub or_swap : (a b c : Bool) → (a || (b || c)) ≡ (b || (a || c))
or_swap true true c = refl
or_swap true false c = refl
or_swap false b c = refl

pub or_cross : (a b c d : Bool) → ((a || b) || (c || d)) ≡ ((a || c) || (b || d))
or_cross true b c d = refl
or_cross false b c d = or_swap b c d

pub not_false : (b : Bool) → not b ≡ false → b ≡ true
not_false true e = refl
not_false false e = sym e

pub cases : {A : Type 0} (b : Bool) → (b ≡ true → A) → (b ≡ false → A) → A
cases true f g = f refl
cases false f g = g refl

-- two numbers are equal in either order
pub eqb_swap : (i j : ℕ) → eqb i j ≡ eqb j i
eqb_swap i j = cases (eqb j i) (λ q. rw (q, eq-eqb i j (sym (eqb-true j i q)))) (λ q. rw (q, ne_eqb i j (λ e. eqb-false j i q (sym e))))

-- what holds on either side of a pick holds of the pick
pub pick_elim : {A : Type 0} (P : A → Type 0) (b : Bool) {x y : A} → (b ≡ true → P x) → (b ≡ false → P y) → P (pick b x y)
pick_elim P true f g = f refl
pick_elim P false f g = g refl

-- a chain of refusals that gives 0 took none of them
pub passed : (b : Bool) (n m : ℕ) → pick b n m ≡ 0 → 1 ≤ n → (b ≡ false) × (m ≡ 0)
passed true n m e h = absurd (omega arith)
passed false n m e h = (refl, e)

-- a flag that is not set is 0
pub flag_off : (f : ℕ) → (f ≡ 1 → ⊥) → is_flag f ≡ eqb f 0
flag_off zero h = refl
flag_off (suc zero) h = absurd (h refl)
flag_off (suc (suc f)) h = lt-leb (suc (suc f)) 1 (omega arith) ∙ sym (ne_eqb (suc (suc f)) 0 (λ e. absurd (omega arith)))

-- a flag of 0 or 1 is its own bit
pub flag_bit : (f w : ℕ) → f ≤ 1 → bit (on f) w ≡ f * w
flag_bit zero w h = omega arith
flag_bit (suc zero) w h = omega arith
flag_bit (suc (suc f)) w h = absurd (omega arith)
