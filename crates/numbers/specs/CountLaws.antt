-- Laws of counts along a list: since against the ticks after a report, and of stretches without report and restart.
use Rattle.std.specs.Prelude.{◌≡◌, refl, Bool, true, false, ◌||◌, ℕ, ◌+◌, ◌-◌, ◌≤◌, eqb}
use Rattle.std.proofs.Math.Path.{sym, ap, subst}
use Rattle.std.proofs.Common.{◌∙◌, eqb-true}
use mathlib.Core.List.{List, [], ◌∷◌, ◌++◌, nil≢cons, head-eq_of_cons-eq, tail-eq_of_cons-eq}
use native.Mathlib.Omega.{arith}
use Rattle.std.proofs.lemmas.Bool.{eqb-false}
use Rattle.numbers.specs.Numbers.{pick}
use Rattle.numbers.specs.Laws.{cases, or_left, or_right}
use Rattle.numbers.specs.Counts.{Test, ticks_in, Quiet, none, more, since}

step_most : (q b : Bool) (s n : ℕ) → s ≤ n → pick q 0 (pick b (s + 1) s) ≤ pick b (n + 1) n
step_most true b s n p = omega arith
step_most false true s n p = omega arith
step_most false false s n p = p

step_least : (b : Bool) (n s : ℕ) → n ≤ s → pick b (n + 1) n ≤ pick b (s + 1) s
step_least true n s p = omega arith
step_least false n s p = p

step_next : (b : Bool) (n s : ℕ) → n ≤ s → pick b (n + 1) n ≤ s + 1
step_next true n s p = omega arith
step_next false n s p = omega arith

-- one tick more, or none, in a sum
pub one_more : (b : Bool) (n c d : ℕ) → n + c ≡ d → pick b (n + 1) n + c ≡ pick b (d + 1) d
one_more true n c d e = omega arith
one_more false n c d e = e

module _ {A : Type 0} where
  pub nil_split : (l : List A) (x : A) (k : List A) → [] ≡ l ++ (x ∷ k) → ⊥
  nil_split [] x k e = nil≢cons e
  nil_split (y ∷ l) x k e = nil≢cons e

  module _ (tick report restart : Test A) where
    abbrev ticks : List A → List A → ℕ
    ticks new old = ticks_in tick new old

    abbrev count : List A → ℕ
    count t = since tick report restart t

    -- since is at most the ticks after any report
    pub since_most : (between : List A) (x : A) (old : List A) → report x old ≡ true → count (between ++ (x ∷ old)) ≤ ticks between (x ∷ old)
    unfolding since ticks_in
    since_most [] x old r = rw r (omega arith)
    since_most (m ∷ b) x old r =
        step_most (report m (b ++ (x ∷ old)) || restart m (b ++ (x ∷ old))) (tick m (b ++ (x ∷ old))) _ _ (since_most b x old r)

    -- and at least the ticks of a stretch without restart and report
    pub since_least : (new old : List A) → Quiet report restart old new → ticks new old ≤ count (new ++ old)
    unfolding since ticks_in
    since_least [] old q = omega arith
    since_least (m ∷ new) old (more p q qs) = rw (p, q) (step_least (tick m (new ++ old)) _ _ (since_least new old qs))

    -- over such a stretch it rises by the ticks
    pub since_over : (new old : List A) → Quiet report restart old new → count (new ++ old) ≡ ticks new old + count old
    unfolding since ticks_in
    since_over [] old q = omega arith
    since_over (m ∷ new) old (more p q qs) = rw (p, q) (sym (one_more (tick m (new ++ old)) _ _ _ (sym (since_over new old qs))))

    -- a tick and a report before it are as many ticks apart as since has with that tick, or more
    pub report_apart : (m x : A) (t between old : List A) → t ≡ between ++ (x ∷ old) → report x old ≡ true → tick m t ≡ true
        → count t + 1 ≤ ticks (m ∷ between) (x ∷ old)
    unfolding ticks_in
    report_apart m x t between old e r k =
        let n : count (between ++ (x ∷ old)) ≤ ticks between (x ∷ old) = since_most between x old r in
        let same : count t ≡ count (between ++ (x ∷ old)) = ap count e in
        rw (← e, k) (omega arith)

    -- the last of a stretch with ticks, without restart and report, is neither, and since has with it as many ticks, or more
    pub quiet_last : (m : A) (t row old : List A) → m ∷ t ≡ row ++ old → 1 ≤ ticks row old → Quiet report restart old row
        → (restart m t ≡ false) × (report m t ≡ false) × (ticks row old ≤ count t + 1)
    unfolding ticks_in
    quiet_last m t [] old e n q = absurd (omega arith)
    quiet_last m t (y ∷ b) old e n (more p q qs) =
        let hd : m ≡ y = head-eq_of_cons-eq e in
        let tl : t ≡ b ++ old = tail-eq_of_cons-eq e in
        let least : ticks b old ≤ count t = rw tl (since_least b old qs) in
        (rw (hd, tl) p, rw (hd, tl) q, step_next (tick y (b ++ old)) _ _ least)

-- a stretch of `n` ticks at the end of `t`, without restart and report
pub record Stretch {A : Type 0} (tick report restart : Test A) (t : List A) (n : ℕ) : Type 0 where
  pub new : List A
  pub old : List A
  pub split : t ≡ new ++ old
  pub ticks : ticks_in tick new old ≡ n
  pub quiet : Quiet report restart old new

-- `n` ticks, not 0 and up to since: the last member is no report and no restart, and how many ticks are before it
before_last : (z b : Bool) (n s : ℕ) → (n ≡ 0 → ⊥) → n ≤ pick z 0 (pick b (s + 1) s)
    → (z ≡ false) × (pick b (n - 1) n ≤ s) × (pick b (pick b (n - 1) n + 1) (pick b (n - 1) n) ≡ n)
before_last true b n s p h = absurd (p (omega arith))
before_last false true n s p h = (refl, omega arith, omega arith)
before_last false false n s p h = (refl, h, refl)

module _ {A : Type 0} (tick : Test A) where
  -- the ticks of a stretch with one member more
  pub ticks_more : (m : A) (t new old : List A) → t ≡ new ++ old
      → ticks_in tick (m ∷ new) old ≡ pick (tick m t) (ticks_in tick new old + 1) (ticks_in tick new old)
  unfolding ticks_in
  ticks_more m t new old e = rw e

module _ {A : Type 0} (tick report restart : Test A) where
  -- a stretch of no ticks, with nothing in it
  stretch_none : (t : List A) (n : ℕ) → n ≡ 0 → Stretch tick report restart t n
  unfolding ticks_in
  stretch_none t n e = record { new = []; old = t; split = refl; ticks = sym e; quiet = none }

  -- a stretch with one member more, which is neither report nor restart
  stretch_more : (m : A) (t : List A) (n : ℕ) → report m t ≡ false → restart m t ≡ false → Stretch tick report restart t n
      → Stretch tick report restart (m ∷ t) (pick (tick m t) (n + 1) n)
  stretch_more m t n q p r =
      record {
        new = m ∷ r.new;
        old = r.old;
        split = ap (λ u. m ∷ u) r.split;
        ticks = ticks_more tick m t r.new r.old r.split ∙ rw r.ticks;
        quiet = more (rw r.split at p) (rw r.split at q) r.quiet;
      }

  -- of any number of ticks up to since there is a stretch
  pub since_stretch : (t : List A) (n : ℕ) → n ≤ since tick report restart t → Stretch tick report restart t n
  unfolding since
  since_stretch [] n h = stretch_none [] n (omega arith)
  since_stretch (m ∷ t) n h =
      cases (eqb n 0)
      (λ z. stretch_none (m ∷ t) n (eqb-true n 0 z))
      (λ z.
      let s = before_last (report m t || restart m t) (tick m t) n _ (eqb-false n 0 z) h in
      subst (Stretch tick report restart (m ∷ t)) s.2
      (stretch_more m t _ (or_left (report m t) _ s.0) (or_right (report m t) _ s.0) (since_stretch t _ s.1)))
