-- Laws of the active byte and of the ruling rank: it is the rank of the highest source that is active.
use Rattle.std.specs.Prelude.{◌≡◌, refl, Bool, true, false, [], ◌∷◌, ℕ, suc, ◌+◌, ◌^◌, ◌<◌, ◌≤◌}
use Rattle.std.proofs.Common.{subst, lt_of_lt_of_le, lt_of_not-le, not-le_of_lt, le_trans, pow_mono, pow_pos}
use native.Mathlib.Omega.{arith}
use Rattle.std.specs.Int.Count.{count_leading_zeros}
use Rattle.std.proofs.lemmas.Nat.{leading_top}
use Rattle.numbers.specs.Numbers.{pick, on, bit}
use Rattle.numbers.specs.Laws.{pick_elim}
use Rattle.rules.specs.declared.Commands.{Commands}
use Rattle.rules.specs.Rank as R

pub zeros_le : (a : ℕ) → 1 ≤ a → a < 256 → count_leading_zeros 8 a ≤ 7
zeros_le a p h = let t = leading_top 8 a p h in omega (arith, t.1)

-- the ruling rank is the highest set bit
pub rank_highest : (a : ℕ) → 1 ≤ a → a < 256 → (2 ^ R.ruling_rank a ≤ a) × (a < 2 ^ (R.ruling_rank a + 1))
unfolding R.ruling_rank
rank_highest a p h =
    let t = leading_top 8 a p h in
    let e : t.0 ≡ R.ruling_rank a = omega (arith, t.1) in
    let e1 : suc t.0 ≡ R.ruling_rank a + 1 = omega (arith, t.1) in
    (subst (λ (j : ℕ). 2 ^ j ≤ a) e t.2, subst (λ (j : ℕ). a < 2 ^ j) e1 t.3)

pub rank_below : (a : ℕ) → 1 ≤ a → a < 128 → R.ruling_rank a < 7
rank_below a p h =
    let t = rank_highest a p (omega arith) in
    lt_of_not-le (λ q. let b : 2 ^ 7 ≤ 2 ^ R.ruling_rank a = pow_mono q in absurd (not-le_of_lt h (le_trans b t.0)))

-- so a byte from 2 to the power `k` on and below twice that has rank `k`
rank_is : (a k : ℕ) → k ≤ 7 → 2 ^ k ≤ a → a < 2 ^ (k + 1) → R.ruling_rank a ≡ k
rank_is a k w lo hi =
    let t = rank_highest a (le_trans (pow_pos k) lo) (lt_of_lt_of_le hi (pow_mono {j = 8} (omega arith))) in
    let u : R.ruling_rank a < k + 1 = lt_of_not-le (λ q. absurd (not-le_of_lt hi (le_trans (pow_mono q) t.0))) in
    let v : k < R.ruling_rank a + 1 = lt_of_not-le (λ q. absurd (not-le_of_lt t.1 (le_trans (pow_mono q) lo))) in
    omega arith

-- a flag counts at most its weight
pub bit_le : (x : Bool) (w : ℕ) → bit x w ≤ w
bit_le true w = omega arith
bit_le false w = omega arith

-- the ruling rank of seven flags, from rank 0 on, the first of which is set
chain : (b t h r g f : Bool) → R.ruling_rank (R.number_from 1 (true ∷ b ∷ t ∷ h ∷ r ∷ g ∷ f ∷ []))
    ≡ pick f 6 (pick g 5 (pick r 4 (pick h 3 (pick t 2 (pick b 1 0)))))
chain b t h r g true =
    rank_is _ 6 (omega arith) (omega arith) (omega (arith, bit_le b 2, bit_le t 4, bit_le h 8, bit_le r 16, bit_le g 32))
chain b t h r true false = rank_is _ 5 (omega arith) (omega arith) (omega (arith, bit_le b 2, bit_le t 4, bit_le h 8, bit_le r 16))
chain b t h true false false = rank_is _ 4 (omega arith) (omega arith) (omega (arith, bit_le b 2, bit_le t 4, bit_le h 8))
chain b t true false false false = rank_is _ 3 (omega arith) (omega arith) (omega (arith, bit_le b 2, bit_le t 4))
chain b true false false false false = rank_is _ 2 (omega arith) (omega arith) (omega (arith, bit_le b 2))
chain true false false false false false = rank_is _ 1 (omega arith) (omega arith) (omega arith)
chain false false false false false false = rank_is _ 0 (omega arith) (omega arith) (omega arith)

-- "Ranks: 6 fault, 5 forcing, 4 run, 3 hand, 2 tool, 1 bus, 0 backup."
abbrev pub rank_of : R.Source → ℕ
rank_of R.fault = 6
rank_of R.forcing = 5
rank_of R.run = 4
rank_of R.hand = 3
rank_of R.tool = 2
rank_of R.bus = 1
rank_of R.backup = 0

-- each source stands in the ranking at its rank
pub ranked : (s : R.Source) → R.source_at (rank_of s) ≡ s
ranked R.fault = refl
ranked R.forcing = refl
ranked R.run = refl
ranked R.hand = refl
ranked R.tool = refl
ranked R.bus = refl
ranked R.backup = refl

module _ (c : Commands) (r : ℕ) (b : Bool) where
  -- the ruling rank, the sources asked from the highest rank down
  pub ruling_is : R.ruling_rank (R.active_byte c r b)
      ≡ pick (on c.fault) 6 (pick (R.forced c.forcing) 5 (pick (R.running r) 4 (pick (on c.hand) 3 (pick (on c.tool) 2 (pick b 1 0)))))
  unfolding R.active_byte
  ruling_is = chain b (on c.tool) (on c.hand) (R.running r) (R.forced c.forcing) (on c.fault)

  -- the source at the ruling rank is active
  pub ruling_active : R.active_of c r b (R.source_at (R.ruling_rank (R.active_byte c r b))) ≡ true
  ruling_active =
      rw ruling_is
      (pick_elim Active (on c.fault) (λ e. e)
      (λ e5. pick_elim Active (R.forced c.forcing) (λ e. e)
      (λ e4. pick_elim Active (R.running r) (λ e. e)
      (λ e3. pick_elim Active (on c.hand) (λ e. e)
      (λ e2. pick_elim Active (on c.tool) (λ e. e)
      (λ e1. pick_elim Active b (λ e. e) (λ e0. refl)))))))
    where
      Active : ℕ → Type 0
      Active k = R.active_of c r b (R.source_at k) ≡ true

  -- an active source's bit is set
  byte_has : (s : R.Source) → R.active_of c r b s ≡ true → 2 ^ rank_of s ≤ R.active_byte c r b
  unfolding R.active_byte
  byte_has R.fault e = rw e (omega arith)
  byte_has R.forcing e = rw e (omega arith)
  byte_has R.run e = rw e (omega arith)
  byte_has R.hand e = rw e (omega arith)
  byte_has R.tool e = rw e (omega arith)
  byte_has R.bus e = rw e (omega arith)
  byte_has R.backup e = omega arith

  byte_most : R.active_byte c r b < 128
  unfolding R.active_byte
  byte_most =
      omega (arith, bit_le b 2, bit_le (on c.tool) 4, bit_le (on c.hand) 8, bit_le (R.running r) 16, bit_le (R.forced c.forcing) 32, bit_le (on c.fault) 64)

  -- the ruling rank is one of the seven
  pub ruling_below : R.ruling_rank (R.active_byte c r b) < 7
  ruling_below = rank_below _ (byte_has R.backup refl) byte_most

  -- no active source has a higher rank
  pub ruling_highest : (s : R.Source) → R.active_of c r b s ≡ true → rank_of s ≤ R.ruling_rank (R.active_byte c r b)
  ruling_highest s e =
      let t = rank_highest _ (byte_has R.backup refl) (omega (arith, byte_most)) in
      let h : rank_of s < R.ruling_rank (R.active_byte c r b) + 1 = lt_of_not-le (λ q. absurd (not-le_of_lt t.1 (le_trans (pow_mono q) (byte_has s e)))) in
      omega arith
