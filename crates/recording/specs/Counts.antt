-- Counts along a list, the latest first: how near the latest report is.
use Rattle.std.specs.Prelude.{◌≡◌, refl, Bool, true, false, ℕ, ◌+◌, ◌<◌, ◌≤◌}
use Rattle.std.proofs.Common.{sym, ap, ◌∙◌, arith}
use Rattle.std.proofs.Math.Path.{subst}
use Rattle.std.proofs.lemmas.Bool.{false≢true}
use mathlib.Core.List.{List, [], ◌∷◌, ◌++◌}
use Rattle.numbers.specs.Numbers.{pick, next}
use Rattle.numbers.specs.Laws.{cases}
use Rattle.numbers.specs.Counts.{Test, ticks_in}
use Rattle.numbers.specs.CountLaws.{ticks_more}

-- the ticks after the latest report, past restarts: a count that stops at 65,535, and as many where there is no report
unfoldable pub apart : {A : Type 0} → Test A → Test A → List A → ℕ
apart tick report [] = 65535
apart tick report (m ∷ t) = let n = apart tick report t in pick (report m t) 0 (pick (tick m t) (next n) n)

-- a part of `t` that ends with a report, `n` ticks before the end of `t`
record Reported {A : Type 0} (tick report : Test A) (t : List A) (n : ℕ) : Type 0 where
  pub between : List A
  pub member : A
  pub old : List A
  pub split : t ≡ between ++ (member ∷ old)
  pub reports : report member old ≡ true
  pub ticks : ticks_in tick between (member ∷ old) ≡ n

-- one tick more, capped and not, keeps the order
next_most : (q b : Bool) (n k : ℕ) → n ≤ k → pick q 0 (pick b (next n) n) ≤ pick b (k + 1) k
next_most true b n k p = omega arith
next_most false true n k p = omega arith
next_most false false n k p = p

-- below the cap, where the last member is no report, the count is as without a cap
below_cap : (q b : Bool) (n : ℕ) → pick q 0 (pick b (next n) n) < 65535 → q ≡ false
    → (n < 65535) × (pick b (n + 1) n ≡ pick q 0 (pick b (next n) n))
below_cap true b n h e = absurd (false≢true (sym e))
below_cap false true n h e = (omega arith, omega arith)
below_cap false false n h e = (h, refl)

module _ {A : Type 0} (tick report : Test A) where
  -- every report is at least as many ticks away as the latest one
  apart_most : (between : List A) (x : A) (old : List A) → report x old ≡ true
      → apart tick report (between ++ (x ∷ old)) ≤ ticks_in tick between (x ∷ old)
  unfolding apart ticks_in
  apart_most [] x old r = rw r (omega arith)
  apart_most (m ∷ b) x old r = next_most (report m (b ++ (x ∷ old))) (tick m (b ++ (x ∷ old))) _ _ (apart_most b x old r)

  -- a report with one member more after it
  report_more : (m : A) (t : List A) (n : ℕ) → Reported tick report t n → Reported tick report (m ∷ t) (pick (tick m t) (n + 1) n)
  report_more m t n r =
      record {
        between = m ∷ r.between;
        member = r.member;
        old = r.old;
        split = ap (λ u. m ∷ u) r.split;
        reports = r.reports;
        ticks = ticks_more tick m t r.between (r.member ∷ r.old) r.split ∙ rw r.ticks;
      }

  -- below the cap there is a report that is so many ticks away
  apart_reported : (t : List A) → apart tick report t < 65535 → Reported tick report t (apart tick report t)
  unfolding apart ticks_in
  apart_reported [] h = absurd (omega arith)
  apart_reported (m ∷ t) h =
      cases (report m t)
      (λ q. record { between = []; member = m; old = t; split = refl; reports = q; ticks = rw q })
      (λ q.
      let s = below_cap (report m t) (tick m t) (apart tick report t) h q in
      subst (Reported tick report (m ∷ t)) s.1 (report_more m t _ (apart_reported t s.0)))

  -- the ticks after the latest report, the member `m` counted, which came after `t`
  abbrev pub apart_with : A → List A → ℕ
  apart_with m t = pick (tick m t) (next (apart tick report t)) (apart tick report t)

  -- a report is at least as many ticks apart from `m`
  pub apart_least : (m : A) (t between : List A) (x : A) (old : List A) → t ≡ between ++ (x ∷ old) → report x old ≡ true
      → apart_with m t ≤ ticks_in tick (m ∷ between) (x ∷ old)
  apart_least m t between x old e r =
      rw (ticks_more tick m t between (x ∷ old) e) (next_most false (tick m t) _ _ (rw e (apart_most between x old r)))

  -- where these ticks are fewer than `n`, there is a report that is fewer than `n` ticks apart
  pub apart_near : (m : A) (t : List A) (n : ℕ) → n ≤ 65535 → apart_with m t < n
      → (between : List A) × (x : A) × (old : List A) × (t ≡ between ++ (x ∷ old)) × (report x old ≡ true)
      × (ticks_in tick (m ∷ between) (x ∷ old) < n)
  apart_near m t n cap h =
      let c = below_cap false (tick m t) (apart tick report t) (omega arith) refl in
      let r = apart_reported t c.0 in
      let e = ticks_more tick m t r.between (r.member ∷ r.old) r.split in
      (r.between, r.member, r.old, r.split, r.reports, rw (e, r.ticks, c.1) h)
