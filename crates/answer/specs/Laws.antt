-- An answer is found again by its two numbers; what a test lets pass.
use Rattle.std.specs.Prelude.{◌≡◌, refl, ℕ, zero, suc, ◌+◌, ◌*◌, ◌/◌, ◌%◌, ◌<◌, Bool, true, false, Ok, Err}
use Rattle.numbers.specs.Numbers.{pick}
use Rattle.answer.specs.declared.refusal.Refusal.{Refusal}
use Rattle.answer.specs.Refusal.{number, refused_by}
use Rattle.std.proofs.Common.{arith}
use Rattle.answer.specs.declared.Answer.{Answer}
use Rattle.answer.specs.declared.Answer.TheVariants.{No, Done, Par, At, Tick, Report}
use Rattle.answer.specs.Answer.{word_of, code_of, answer_of}

-- each value fits its width: a parameter's two bytes, every other one
abbrev pub Fits : Answer → Type 0
Fits (No n) = n < 256
Fits Done = Unit {0}
Fits (Par v) = v < 65536
Fits (At p c s) = (p < 256) × (c < 256) × (s < 256)
Fits (Tick p r m) = (p < 256) × (r < 256) × (m < 256)
Fits (Report p r m s) = (p < 256) × (r < 256) × (m < 256) × (s < 256)

-- the last three digits of base 256 of a number that has no more
three : (f : ℕ → ℕ → ℕ → Answer) (x y z : ℕ) → (x < 256) × (y < 256) × (z < 256)
    → (let n = 256 * (256 * x + y) + z in f (n / 65536 % 256) (n / 256 % 256) (n % 256)) ≡ f x y z
three f x y z h =
    let n = 256 * (256 * x + y) + z in
    let x· : n / 65536 % 256 ≡ x = omega arith in
    let y· : n / 256 % 256 ≡ y = omega arith in
    let z· : n % 256 ≡ z = omega arith in
    rw (x·, y·, z·)

-- The answer that has these two numbers is the answer itself.
pub answer_again : (a : Answer) → Fits a → answer_of (word_of a) (code_of a) ≡ a
answer_again (No n) h = let e : n % 256 ≡ n = omega arith in rw e
answer_again Done h = refl
answer_again (Par v) h = let e : v % 65536 ≡ v = omega arith in rw e
answer_again (At p c s) h = three At p c s h
answer_again (Tick p r m) h = three Tick p r m h
answer_again (Report p r m s) h =
    let n = 256 * (256 * (256 * p + r) + m) + s in
    let p· : n / 16777216 % 256 ≡ p = omega arith in
    let r· : n / 65536 % 256 ≡ r = omega arith in
    let m· : n / 256 % 256 ≡ m = omega arith in
    let s· : n % 256 ≡ s = omega arith in
    rw (p·, r·, m·, s·)

-- Every pair of numbers is read as an answer whose values fit.
pub answer_fits : (w n : ℕ) → Fits (answer_of w n)
answer_fits zero n = omega arith
answer_fits (suc zero) n = tt
answer_fits (suc (suc zero)) n = omega arith
answer_fits (suc (suc (suc zero))) n = omega arith
answer_fits (suc (suc (suc (suc zero)))) n = omega arith
answer_fits (suc (suc (suc (suc (suc w))))) n = omega arith

-- what is let pass by a test, and what the number is where it is the last
pub let_pass : {A : Type 0} (t : Bool) (r : Refusal) (a b : A) → Ok a ≡ pick t (Err r) (Ok b) → t ≡ false
let_pass true r a b h = cc
let_pass false r a b h = refl

pub number_picked : {A : Type 0} (t : Bool) (r : Refusal) (a : A) → refused_by (pick t (Err r) (Ok a)) ≡ pick t (number r) 0
number_picked true r a = refl
number_picked false r a = refl
