-- Laws of percents, of K, of Low to High and of one move: what the sentences of documents 01 and 02 mean by the definitions.
use Rattle.std.specs.Prelude.{◌≡◌, refl, ℕ, suc, ◌+◌, ◌-◌, ◌*◌, ◌/◌, ◌<◌, ◌≤◌, min, leb, ltb}
use Rattle.std.proofs.Common.{sym, ap, ◌∙◌, div-lt_iff_lt-mul, div-mul-le_self, le-div_iff_mul-le, lt_of_not-le, lt-suc_self, suc-mul}
use native.Mathlib.Omega.{arith}
use Rattle.std.proofs.Math.Nat.{div-le_of_le-mul}
use borrow.Author.Tests.{ltb-true, ltb-false, le-leb, lt-leb}
use Rattle.numbers.specs.Numbers.{distance}
use Rattle.numbers.specs.Laws.{cases}
use Rattle.motion.specs.Motion as M

-- Document 02, W-202: "so 50 % stays 127 and 1 % becomes 3"; 50 % lies half way from 127 to 128
pub percent_named : (M.to_position 50 ≡ 127) × (M.to_position 1 ≡ 3) × (distance (100 * 127) (255 * 50) ≡ distance (100 * 128) (255 * 50))
unfolding M.to_position
percent_named = (refl, refl, refl)

-- Document 01: "0 % is 0, 100 % is 255"; and back
pub percent_ends : (M.to_position 0 ≡ 0) × (M.to_position 100 ≡ 255) × (M.to_percent 0 ≡ 0) × (M.to_percent 255 ≡ 100)
unfolding M.to_position M.to_percent
percent_ends = (refl, refl, refl, refl)

-- W-202: "the nearest position, halves down". `p` percent are position 255 p / 100: no position is nearer, and none that is as near is lower.
module _ (p q : ℕ) where
  pub to_position_nearest : distance (100 * M.to_position p) (255 * p) ≤ distance (100 * q) (255 * p)
  unfolding M.to_position
  to_position_nearest =
      cases (ltb q (M.to_position p))
      (λ e. let h : q < M.to_position p = ltb-true _ _ e in omega arith)
      (λ e. let h : M.to_position p ≤ q = ltb-false _ _ e in
      cases (ltb (M.to_position p) q)
      (λ f. let k : M.to_position p < q = ltb-true _ _ f in omega arith)
      (λ f. let k : q ≤ M.to_position p = ltb-false _ _ f in omega arith))

  pub to_position_lower : distance (100 * q) (255 * p) ≡ distance (100 * M.to_position p) (255 * p) → M.to_position p ≤ q
  unfolding M.to_position
  to_position_lower e = omega arith

-- "the nearest percent". Position `p` is 100 p / 255 percent: a percent that is as near or nearer is the same, so that there are no halves.
pub to_percent_nearest : (p q : ℕ) → distance (255 * q) (100 * p) ≤ distance (255 * M.to_percent p) (100 * p) → q ≡ M.to_percent p
unfolding M.to_percent
to_percent_nearest p q h = omega arith

-- "Every percent from 0 to 100, written and converted back, must be itself": every number is.
pub percent_round_trip : (p : ℕ) → M.to_percent (M.to_position p) ≡ p
unfolding M.to_position M.to_percent
percent_round_trip p = omega arith

-- a higher percent is no lower position, and a higher position no lower percent
pub to_position_monotone : (p q : ℕ) → p ≤ q → M.to_position p ≤ M.to_position q
unfolding M.to_position
to_position_monotone p q h = omega arith

pub to_percent_monotone : (p q : ℕ) → p ≤ q → M.to_percent p ≤ M.to_percent q
unfolding M.to_percent
to_percent_monotone p q h = omega arith

pub run_ticks_le : (rate : ℕ) → 1 ≤ rate → M.run_ticks rate ≤ 255
unfolding M.run_ticks
run_ticks_le rate h = div-le_of_le-mul rate (omega arith)

pub run_ticks_pos : (rate : ℕ) → 1 ≤ rate → 1 ≤ M.run_ticks rate
unfolding M.run_ticks
run_ticks_pos rate h = (le-div_iff_mul-le h).1 (omega arith)

-- "255 divided by Rate, rounded up": K ticks of Rate lead from one end to the other, one tick fewer does not
pub run_ticks_ceiling : (rate : ℕ) → 1 ≤ rate → (255 ≤ M.run_ticks rate * rate) × ((M.run_ticks rate - 1) * rate < 255)
unfolding M.run_ticks
run_ticks_ceiling rate h =
    let x = 255 + (rate - 1) in
    let k = x / rate in
    let above : x < suc k * rate = (div-lt_iff_lt-mul h).0 (lt-suc_self k) in
    let below : k * rate ≤ x = div-mul-le_self x rate in
    let less : suc (k - 1) ≡ k = omega (arith, run_ticks_pos rate h) in
    (omega (arith, suc-mul k rate), omega (arith, suc-mul (k - 1) rate, ap (λ (n : ℕ). n * rate) less))

-- `n` is at most K just where n × rate is below 255 + rate: a test of `n` needs no division
pub run_ticks_test : (rate n : ℕ) → 1 ≤ rate → ltb (n * rate) (255 + rate) ≡ leb n (M.run_ticks rate)
unfolding M.run_ticks
run_ticks_test rate n h =
    cases (ltb (n * rate) (255 + rate))
    (λ e. let p : n * rate < 255 + rate = ltb-true _ _ e in e ∙ sym (le-leb _ _ ((le-div_iff_mul-le h).1 (omega arith))))
    (λ e.
    let p : 255 + rate ≤ n * rate = ltb-false _ _ e in
    e ∙ sym (lt-leb _ _ (lt_of_not-le (λ q. let m : n * rate ≤ 255 + (rate - 1) = (le-div_iff_mul-le h).0 q in absurd (omega arith)))))

-- "brought into Low to High": it lies there, a value that lies there stays, one below becomes Low and one above High
module _ (low high v : ℕ) where
  pub within_low : low ≤ M.within low high v
  within_low = omega arith

  pub within_high : low ≤ high → M.within low high v ≤ high
  within_high h = omega arith

  pub within_same : low ≤ v → v ≤ high → M.within low high v ≡ v
  within_same h k = omega arith

  pub within_below : v ≤ low → M.within low high v ≡ low
  within_below h = omega arith

  pub within_above : low ≤ high → high ≤ v → M.within low high v ≡ high
  within_above h k = omega arith

-- "by Rate or the distance, the smaller": so far does a move go, and so much less is left to the target
module _ (p t r : ℕ) where
  pub move_distance : distance p (M.toward p t r) ≡ min r (distance p t)
  unfolding M.toward
  move_distance =
      cases (ltb p t)
      (λ e. let h : p < t = ltb-true _ _ e in rw e (omega arith))
      (λ e. let h : t ≤ p = ltb-false _ _ e in rw e (omega arith))

  pub move_left : distance (M.toward p t r) t + min r (distance p t) ≡ distance p t
  unfolding M.toward
  move_left =
      cases (ltb p t)
      (λ e. let h : p < t = ltb-true _ _ e in rw e (omega arith))
      (λ e. let h : t ≤ p = ltb-false _ _ e in rw e (omega arith))
