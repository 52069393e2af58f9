-- Laws of tests of the numbers below a bound, and of rows that a function gives.
use Rattle.std.specs.Prelude.{◌≡◌, Bool, List, map, eqb, length, get_or, set}
use Rattle.std.proofs.Math.Path.{refl}
use Rattle.std.proofs.Common.{sym, ap, ◌∙◌, not-suc-le-zero, le_of_suc-le-suc, zero-add, length-set, ext_get_or, get_or-set_same, get_or-set_other, eqb-true}
use Rattle.std.proofs.Math.Bool.{true, false}
use Rattle.std.proofs.lemmas.Bool.{false≢true, eqb-false}
use Prim.Native.Nat.{ℕ, zero, suc, ◌+◌, ◌<◌, ◌≤◌}
use native.Mathlib.Omega.{arith}
use Rattle.std.proofs.lemmas.List.{length-map}
use Rattle.numbers.specs.Laws.{cases}
use Rattle.numbers.specs.Places.{places_from, tabulate, count_below, implies}

length_places : (i n : ℕ) → length (places_from i n) ≡ n
length_places i zero = refl
length_places i (suc n) = ap suc (length_places (i + 1) n)

-- a test that is met where another is
pub implied : (a b : Bool) → implies a b ≡ true → a ≡ true → b ≡ true
implied true b h e = h
implied false b h e = absurd (false≢true e)

pub implies_by : (a b : Bool) → (a ≡ true → b ≡ true) → implies a b ≡ true
implies_by true b h = h refl
implies_by false b h = refl

-- Below a bound and not at it is below the one before.
split_last : {C : Type 0} (n i : ℕ) → i < suc n → (i ≡ n → C) → (i < n → C) → C
split_last n i h here there = cases (eqb i n) (λ e. here (eqb-true i n e)) (λ e. let q = eqb-false i n e in there (omega arith))

module _ (p : ℕ → Bool) where
  -- none passes
  pub none_counted : (n : ℕ) → ((i : ℕ) → i < n → p i ≡ false) → count_below n p ≡ 0
  unfolding count_below
  none_counted zero h = refl
  none_counted (suc n) h = rw (h n (omega arith)) (none_counted n (λ i l. h i (omega arith)))

  pub count_most : (n : ℕ) → count_below n p ≤ n
  unfolding count_below
  count_most zero = omega arith
  count_most (suc n) = let r = count_most n in cases (p n) (λ e. rw e (omega arith)) (λ e. rw e (omega arith))

-- More pass a weaker test, and strictly more where one passes that only.
module _ (p q : ℕ → Bool) where
  pub count_le : (n : ℕ) → ((i : ℕ) → i < n → p i ≡ true → q i ≡ true) → count_below n p ≤ count_below n q
  unfolding count_below
  count_le zero h = omega arith
  count_le (suc n) h =
      let r = count_le n (λ i l. h i (omega arith)) in
      cases (p n)
      (λ e. rw (e, h n (omega arith) e) (omega arith))
      (λ e. rw e (cases (q n) (λ f. rw f (omega arith)) (λ f. rw f r)))

  pub count_less : (n : ℕ) → ((i : ℕ) → i < n → p i ≡ true → q i ≡ true) → (j : ℕ) → j < n → p j ≡ false → q j ≡ true
      → count_below n p < count_below n q
  unfolding count_below
  count_less zero h j l a b = absurd (not-suc-le-zero l)
  count_less (suc n) h j l a b =
      split_last n j l
      (λ e.
      let a' : p n ≡ false = rw (← e) a in
      let b' : q n ≡ true = rw (← e) b in
      rw (a', b') (omega (arith, count_le n (λ i k. h i (omega arith)))))
      (λ k.
      let r = count_less n (λ i m. h i (omega arith)) j k a b in
      cases (p n)
      (λ e. rw (e, h n (omega arith) e) (omega arith))
      (λ e. rw e (cases (q n) (λ f. rw f (omega arith)) (λ f. rw f r))))

  pub count_same : (n : ℕ) → ((i : ℕ) → i < n → p i ≡ q i) → count_below n p ≡ count_below n q
  unfolding count_below
  count_same zero h = refl
  count_same (suc n) h = rw (h n (omega arith), count_same n (λ i l. h i (omega arith)))

-- of two tests that no place passes both, and a third that all these pass
pub count_apart : (p q r : ℕ → Bool) (n : ℕ) → ((i : ℕ) → i < n → p i ≡ true → (r i ≡ true) × (q i ≡ false))
    → ((i : ℕ) → i < n → q i ≡ true → r i ≡ true) → count_below n p + count_below n q ≤ count_below n r
unfolding count_below
count_apart p q r zero f g = omega arith
count_apart p q r (suc n) f g =
    let h = count_apart p q r n (λ i l. f i (omega arith)) (λ i l. g i (omega arith)) in
    cases (p n)
    (λ e. let x = f n (omega arith) e in rw (e, x.0, x.1) (omega arith))
    (λ e.
    cases (q n)
    (λ s. rw (e, s, g n (omega arith) s) (omega arith))
    (λ s. rw (e, s) (cases (r n) (λ t. rw t (omega arith)) (λ t. rw t h))))

-- one that passes is counted
pub counted : (p : ℕ → Bool) (n i : ℕ) → i < n → p i ≡ true → 0 < count_below n p
counted p n i l e =
    let z = count_less (λ (j : ℕ). false) p n (λ j k f. absurd (false≢true f)) i l refl e in
    omega arith

-- Rows that a function gives.
module _ {A : Type 0} where
  pub tab_length : (n : ℕ) (f : ℕ → A) → length (tabulate n f) ≡ n
  tab_length n f = length-map (places_from 0 n) f ∙ length_places 0 n

  from_at : (f : ℕ → A) (d : A) (j n k : ℕ) → k < n → get_or (map f (places_from j n)) k d ≡ f (j + k)
  from_at f d j zero k h = absurd (not-suc-le-zero h)
  from_at f d j (suc n) zero h = ap f (omega arith)
  from_at f d j (suc n) (suc k) h = from_at f d (j + 1) n k (le_of_suc-le-suc h) ∙ ap f (omega arith)

  pub tab_at : (n : ℕ) (f : ℕ → A) (d : A) (k : ℕ) → k < n → get_or (tabulate n f) k d ≡ f k
  tab_at n f d k h = from_at f d 0 n k h ∙ ap f (zero-add k)

  -- a row is given by what it has at each place
  pub tab_by : (d : A) (l : List A) (n : ℕ) (f : ℕ → A) → length l ≡ n → ((i : ℕ) → i < n → get_or l i d ≡ f i) → l ≡ tabulate n f
  tab_by d l n f e h =
      ext_get_or d l (tabulate n f) (e ∙ sym (tab_length n f)) (λ i k. let b : i < n = omega (arith, k, e) in h i b ∙ sym (tab_at n f d i b))

  pub tab_same : (d : A) (n : ℕ) (f g : ℕ → A) → ((i : ℕ) → i < n → f i ≡ g i) → tabulate n f ≡ tabulate n g
  tab_same d n f g h = tab_by d (tabulate n f) n g (tab_length n f) (λ i k. tab_at n f d i k ∙ h i k)

  -- one place of it is changed
  pub tab_set : (d : A) (n : ℕ) (f g : ℕ → A) (k : ℕ) (v : A) → k < n → v ≡ g k → ((i : ℕ) → i < n → (i ≡ k → ⊥) → f i ≡ g i)
      → set (tabulate n f) k v ≡ tabulate n g
  tab_set d n f g k v h e others =
      tab_by d (set (tabulate n f) k v) n g (length-set (tabulate n f) k v ∙ tab_length n f)
      (λ i b.
      cases (eqb i k)
      (λ s.
      let same = eqb-true i k s in
      rw same (get_or-set_same (tabulate n f) k v d (rw (tab_length n f) h) ∙ e))
      (λ s.
      let other = eqb-false i k s in
      get_or-set_other (tabulate n f) k i v d other ∙ tab_at n f d i b ∙ others i b other))
