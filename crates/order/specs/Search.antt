-- How the code counts keys, and what is asked of keys of which a given number of the largest is looked for.
use Rattle.std.specs.Prelude.{◌≡◌, Bool, true, false, leb}
use Rattle.std.proofs.Common.{sym, ap, ◌∙◌, add-one}
use Prim.Native.Nat.{ℕ, ◌+◌, ◌<◌, ◌≤◌}
use native.Mathlib.Omega.{arith}
use borrow.Author.Tests.{leb-true, le-leb}
use mir.Val.{bool_byte}
use Rattle.numbers.specs.Numbers.{pick}
use Rattle.numbers.specs.Places.{count_below}
use Rattle.numbers.specs.PlaceLaws.{count_le}
use Rattle.order.specs.Keys.{count_from, count_one}

-- `most` keys or more are `low` or more, no more than that are `high` or more, and no two from `low` on are the same
pub record Bracketed (key : ℕ → ℕ) (places most low high : ℕ) : Type 0 where
  pub order : low ≤ high
  pub enough : most ≤ count_from key places low
  pub few : count_from key places high ≤ most
  pub once : (i j : ℕ) → i < places → j < places → low ≤ key i → key i ≡ key j → i ≡ j

module _ (key : ℕ → ℕ) (n : ℕ) where
  -- one place more
  pub count_more : (x : ℕ) → count_from key (n + 1) x ≡ pick (leb x (key n)) (count_from key n x + 1) (count_from key n x)
  unfolding count_below
  count_more x = ap (λ (m : ℕ). count_from key m x) (add-one n)

  -- as many are a smaller number or more
  pub count_smaller : (x y : ℕ) → x ≤ y → count_from key n y ≤ count_from key n x
  count_smaller x y l = count_le _ _ n (λ i k e. let h = leb-true y (key i) e in le-leb x (key i) (omega arith))

-- The count: one place more, from whether its key is `x` or more.
module _ (key : ℕ → ℕ) (x k : ℕ) where
  pub counted_turn : (b : Bool) (m n : ℕ) → b ≡ leb x (key k) → m ≡ bool_byte b → n ≡ count_from key k x → n + m ≡ count_from key (k + 1) x
  counted_turn true m n e f g = rw (count_more key k x, ← e) (omega arith)
  counted_turn false m n e f g = rw (count_more key k x, ← e) (omega arith)

-- The search: where the middle is too low for so many, what lies behind it is left.
module _ (key : ℕ → ℕ) (n most low high : ℕ) (b : Bracketed key n most low high) where
  pub low_raised : (middle : ℕ) → low ≤ middle → middle < high → most < count_from key n middle → Bracketed key n most (middle + 1) high
  low_raised middle l h m =
      let one =
      count_one key n middle (λ i j k h e f. b.once i j k h (omega arith) (e ∙ sym f)) in
      record { order = omega arith; enough = omega arith; few = b.few; once = λ i j k h e f. b.once i j k h (omega arith) f }

  -- nothing is left between
  pub found : high ≤ low → count_from key n low ≡ most
  found l = let r = count_smaller key n high low l in omega (arith, b.enough, b.few)
