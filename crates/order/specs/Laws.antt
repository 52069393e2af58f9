-- Laws of an order of places: of those that are admitted as many go first as are asked for, and who they are.
use Rattle.std.specs.Prelude.{◌≡◌, Bool, true, false, ◌&&◌, ltb, eqb}
use Rattle.std.proofs.Math.Path.{refl}
use Rattle.std.proofs.Common.{sym, ap, ◌∙◌}
use Rattle.std.proofs.lemmas.Bool.{false≢true}
use Rattle.std.proofs.Math.Bool.{and-false}
use Prim.Native.Nat.{ℕ, zero, suc, ◌+◌, ◌-◌, ◌<◌, ◌≤◌, min}
use native.Mathlib.Omega.{arith}
use borrow.Author.Tests.{ltb-true, ltb-false, lt-ltb, le-ltb, eqb-true, eqb-false, eq-eqb}
use Rattle.numbers.specs.Numbers.{pick}
use Rattle.numbers.specs.Laws.{cases, and_left, and_right, and_intro}
use Rattle.numbers.specs.Places.{count_below}
use Rattle.numbers.specs.PlaceLaws.{count_le, count_less, count_same}
use Rattle.order.specs.Order.{Order, larger_first, anyone, rank, foremost}

-- the same test of two numbers that are both below, or both not
ltb_both : (a b c d : ℕ) → (a < b → c < d) → (c < d → a < b) → ltb a b ≡ ltb c d
ltb_both a b c d f g =
    cases (ltb c d)
    (λ q. rw q (lt-ltb a b (g (ltb-true c d q))))
    (λ q. rw q (cases (ltb a b) (λ e. let l = f (ltb-true a b e) in let m = ltb-false c d q in absurd (omega arith)) (λ e. e)))

-- an equality that is asked for where a test passes only
and_same : (p : Bool) {a b : Bool} → (p ≡ true → a ≡ b) → p && a ≡ p && b
and_same true h = h refl
and_same false h = refl

module _ (behind : ℕ → ℕ → Bool) (order : Order behind) (p : ℕ → Bool) where
  abbrev ahead : ℕ → ℕ → ℕ
  ahead n i = rank behind p n i

  abbrev first : ℕ → ℕ → ℕ → Bool
  first n most i = foremost behind p n most i

  -- who goes before another goes behind fewer
  rank_least : (n i j : ℕ) → behind i j ≡ true → ahead n j ≤ ahead n i
  rank_least n i j b =
      count_le _ _ n (λ k l e. and_intro (and_left (p k) _ e) (order.onward i j k b (and_right (p k) _ e)))

  rank_less : (n i j : ℕ) → j < n → p j ≡ true → behind i j ≡ true → ahead n j < ahead n i
  rank_less n i j l q b =
      count_less _ _ n (λ k m e. and_intro (and_left (p k) _ e) (order.onward i j k b (and_right (p k) _ e)))
      j l (rw (order.never j) (and-false (p j))) (and_intro q b)

  rank_most : (n i : ℕ) → ahead n i ≤ count_below n p
  rank_most n i = count_le _ p n (λ k l e. and_left (p k) _ e)

  -- one place more: it is admitted and goes before `i`, or not
  rank_more : (n i : ℕ) → ahead (suc n) i ≡ pick (p n && behind i n) (ahead n i + 1) (ahead n i)
  unfolding count_below
  rank_more n i = refl

  -- of the places before the place `n` one fewer goes first where that goes first itself
  fewer : ℕ → ℕ → ℕ
  fewer n most = pick (ltb (ahead n n) most) (most - 1) most

  first_more : (n most i : ℕ) → i < n → p n ≡ true → p i ≡ true → ltb (ahead (suc n) i) most ≡ ltb (ahead n i) (fewer n most)
  unfolding fewer
  first_more n most i l q r =
      let more = ahead (suc n) i in
      let old = ahead n i in
      let own = ahead n n in
      cases (behind i n)
      (λ b.
      let least = rank_least n i n b in
      let one : more ≡ old + 1 = rank_more n i ∙ rw (q, b) in
      cases (ltb own most)
      (λ e. let f = ltb-true own most e in rw e (ltb_both more most old (most - 1) (λ h. omega arith) (λ h. omega arith)))
      (λ e. let f = ltb-false own most e in rw e (ltb_both more most old most (λ h. omega arith) (λ h. absurd (omega arith)))))
      (λ b.
      let less = rank_less n n i l r (order.either i n (λ e. omega arith) b) in
      let same : more ≡ old = rank_more n i ∙ rw (q, b) in
      cases (ltb own most)
      (λ e. let f = ltb-true own most e in rw e (ltb_both more most old (most - 1) (λ h. omega arith) (λ h. omega arith)))
      (λ e. rw e (ltb_both more most old most (λ h. omega arith) (λ h. omega arith))))

  first_own : (n most : ℕ) → p n ≡ true → first (suc n) most n ≡ ltb (ahead n n) most
  first_own n most q =
      ap (λ (b : Bool). b && ltb (ahead (suc n) n) most) q
      ∙ ap (λ (x : ℕ). ltb x most) (rank_more n n ∙ rw (order.never n, and-false (p n)))

  first_old : (n most i : ℕ) → p n ≡ false → first (suc n) most i ≡ first n most i
  first_old n most i q = ap (λ (x : ℕ). p i && ltb x most) (rank_more n i ∙ rw q)

  -- Of those that are admitted as many go first as are asked for, or all.
  pub first_count : (n most : ℕ) → count_below n (first n most) ≡ min most (count_below n p)
  unfolding count_below fewer
  first_count zero most = omega arith
  first_count (suc n) most =
      cases (p n)
      (λ q.
      let own = ahead n n in
      let bound = rank_most n n in
      let below : count_below n (first (suc n) most) ≡ min (fewer n most) (count_below n p) =
      count_same _ _ n (λ i l. and_same (p i) (first_more n most i l q)) ∙ first_count n (fewer n most) in
      rw (first_own n most q, q, below)
      (cases (ltb own most)
      (λ e. let f = ltb-true own most e in rw e (omega arith))
      (λ e. let f = ltb-false own most e in rw e (omega arith))))
      (λ q.
      let below : count_below n (first (suc n) most) ≡ min most (count_below n p) =
      count_same _ _ n (λ i l. first_old n most i q) ∙ first_count n most in
      rw (q, below))

  -- Where one that is admitted does not go first, as many do as are asked for.
  pub first_full : (n most i : ℕ) → p i ≡ true → first n most i ≡ false → count_below n (first n most) ≡ most
  first_full n most i q f =
      let least : most ≤ ahead n i = ltb-false (ahead n i) most (rw q at f) in
      let bound = rank_most n i in
      first_count n most ∙ omega arith

  -- Some that are admitted, as many as are asked for, each of them before each of the others: these go first.
  pub first_only : (g : ℕ → Bool) (n most : ℕ) → count_below n g ≡ most
      → ((i : ℕ) → i < n → g i ≡ true → p i ≡ true)
      → ((i j : ℕ) → i < n → j < n → p i ≡ true → g i ≡ false → g j ≡ true → behind i j ≡ true)
      → (i : ℕ) → i < n → g i ≡ first n most i
  first_only g n most count some h i l =
      cases (g i)
      (λ q.
      let less : ahead n i < count_below n g =
      count_less _ _ n
      (λ j k e.
      cases (g j) (λ f. f)
      (λ f. absurd (false≢true (sym (order.never i) ∙ order.onward i j i (and_right (p j) _ e) (h j i k l (and_left (p j) _ e) f q)))))
      i l (rw (order.never i) (and-false (p i))) q in
      q ∙ sym (and_intro (some i l q) (lt-ltb (ahead n i) most (omega arith))))
      (λ q.
      cases (p i)
      (λ r.
      let least : count_below n g ≤ ahead n i = count_le _ _ n (λ j k e. and_intro (some j k e) (h i j l k r q e)) in
      q ∙ sym (rw (r, le-ltb (ahead n i) most (omega arith))))
      (λ r. q ∙ rw r))

  -- One that goes first goes before one that is admitted and does not.
  pub first_before : (n most i j : ℕ) → i < n → p i ≡ true → first n most i ≡ false → first n most j ≡ true → behind i j ≡ true
  first_before n most i j b q f g =
      let l : most ≤ ahead n i = ltb-false (ahead n i) most (rw q at f) in
      let m = ltb-true (ahead n j) most (and_right (p j) _ g) in
      cases (behind i j)
      (λ e. e)
      (λ e.
      cases (eqb i j)
      (λ s. let same = ap (ahead n) (eqb-true i j s) in absurd (omega arith))
      (λ s. let least = rank_least n j i (order.either i j (eqb-false i j s) e) in absurd (omega arith)))

-- where anyone is admitted, all are
pub count_anyone : (n : ℕ) → count_below n anyone ≡ n
unfolding count_below
count_anyone zero = refl
count_anyone (suc n) = let all = count_anyone n in omega arith

-- The order by a number, the lower place first among equals.
module _ (v : ℕ → ℕ) where
  pub larger_true : (i j : ℕ) → larger_first v i j ≡ true → (v i ≤ v j) × (v i ≡ v j → j < i)
  larger_true i j e =
      cases (ltb (v i) (v j))
      (λ q. let l = ltb-true (v i) (v j) q in (omega arith, λ s. absurd (omega arith)))
      (λ q.
      let both : eqb (v i) (v j) && ltb j i ≡ true = rw q at e in
      let same = eqb-true (v i) (v j) (and_left (eqb (v i) (v j)) _ both) in
      (omega arith, λ s. ltb-true j i (and_right (eqb (v i) (v j)) _ both)))

  pub larger_by : (i j : ℕ) → v i ≤ v j → (v i ≡ v j → j < i) → larger_first v i j ≡ true
  larger_by i j l h =
      cases (ltb (v i) (v j))
      (λ q. rw q)
      (λ q. let s : v i ≡ v j = omega (arith, ltb-false (v i) (v j) q, l) in rw (q, eq-eqb (v i) (v j) s, lt-ltb j i (h s)))

  pub by_number : Order (larger_first v)
  by_number =
      record {
        never = λ i. rw (le-ltb (v i) (v i) (omega arith), le-ltb i i (omega arith)) (and-false (eqb (v i) (v i)));
        onward = λ i j k a b.
            let f = larger_true i j a in
            let g = larger_true j k b in
            larger_by i k (omega (arith, f.0, g.0))
            (λ s. let x = f.1 (omega (arith, f.0, g.0, s)) in let y = g.1 (omega (arith, f.0, g.0, s)) in omega arith);
        either = λ i j d b.
            let n : v j ≤ v i = cases (ltb (v i) (v j)) (λ q. absurd (false≢true (sym b ∙ rw q))) (λ q. ltb-false (v i) (v j) q) in
            larger_by j i n
            (λ s.
            let same : larger_first v i j ≡ ltb j i = rw (le-ltb (v i) (v j) n, eq-eqb (v i) (v j) (sym s)) in
            let k = ltb-false j i (sym same ∙ b) in
            omega arith);
      }
