-- Laws of the choice: who goes, by a number or by the quota, and the numbers as a loop leaves them.
use Rattle.std.specs.Prelude.{◌≡◌, true, ◌&&◌, List, ℕ, ◌+◌, ◌<◌, ◌≤◌, ltb, leb, length, set}
use Rattle.std.proofs.Math.Path.{refl}
use Rattle.std.proofs.Common.{◌∙◌, arith}
use Rattle.std.proofs.Math.Bool.{and-false}
use borrow.Author.Tests.{ltb-true, ltb-false, lt-ltb, le-ltb, leb-true, leb-false, le-leb, lt-leb}
use Rattle.numbers.specs.Numbers.{pick}
use Rattle.numbers.specs.Laws.{cases, and_left}
use Rattle.numbers.specs.PlaceLaws.{count_le, count_less, tab_at, tab_by, tab_same, tab_set}
use Rattle.order.specs.Order.{larger_first, rank}
use Rattle.order.specs.Laws.{by_number}
use Rattle.order.specs.Keys.{count_from, count_past, first_from}
use Rattle.order.specs.Search.{Bracketed}
use Rattle.choice.specs.Sent.{report_at}
use Rattle.choice.specs.Choice.{number_in, Distinct, Spanned, kept, kept_above}

module _ (numbers : List ℕ) (n quota : ℕ) where
  -- where there are no more reports than the quota, all go
  all_go : count_from (number_in numbers) n 65536 ≤ quota → (i : ℕ) → i < n → report_at numbers i ≡ true
      → ltb (rank (larger_first (number_in numbers)) (report_at numbers) n i) quota ≡ true
  all_go few i l s =
      let number = number_in numbers in
      let less =
      count_less (λ j. report_at numbers j && larger_first number i j) (report_at numbers) n (λ j k e. and_left (report_at numbers j) _ e)
      i l (rw ((by_number number).never i) (and-false (report_at numbers i))) s in
      lt-ltb (rank (larger_first number) (report_at numbers) n i) quota (omega arith)

  pub kept_all : count_from (number_in numbers) n 65536 ≤ quota → numbers ≡ kept numbers n quota
  unfolding kept
  kept_all few =
      tab_by 0 numbers (length numbers) _ refl
      (λ i l.
      cases (ltb i n)
      (λ q. cases (report_at numbers i) (λ s. rw (q, s, all_go few i (ltb-true i n q) s)) (λ s. rw (q, s)))
      (λ q. rw q))

  -- where just as many numbers as the quota are larger than `bound`, these go
  pub kept_above_lem : (bound : ℕ) → 65535 ≤ bound → count_from (number_in numbers) n (bound + 1) ≡ quota → kept_above numbers n bound ≡ kept numbers n quota
  unfolding kept kept_above
  kept_above_lem bound least count =
      tab_same 0 (length numbers) _ _
      (λ i l.
      cases (ltb i n)
      (λ q.
      let told =
      first_from (number_in numbers) (report_at numbers) n quota (bound + 1) count (λ j k e. le-leb 65536 (number_in numbers j) (omega arith)) i
      (ltb-true i n q) in
      rw (q, ← told)
      (cases (leb (bound + 1) (number_in numbers i))
      (λ e. rw (e, lt-leb (number_in numbers i) bound (omega (arith, leb-true (bound + 1) (number_in numbers i) e))))
      (λ e. rw (e, le-leb (number_in numbers i) bound (omega (arith, leb-false (bound + 1) (number_in numbers i) e))))))
      (λ q. rw q))

-- More reports than the quota are brackets for a number that just so many are as large as.
module _ (numbers : List ℕ) (n low high quota : ℕ) (spans : Spanned numbers n low high) where
  reports : count_from (number_in numbers) n 65536 ≤ count_from (number_in numbers) n low
  reports = count_le _ _ n (λ i l e. le-leb low (number_in numbers i) (spans.above i l e))

  past : (x : ℕ) → high ≤ x → count_from (number_in numbers) n x ≡ 0
  past x h = count_past (number_in numbers) n x (λ i l. let b = spans.below i l in omega arith)

  pub bracketed : Distinct numbers n → quota < count_from (number_in numbers) n 65536 → Bracketed (number_in numbers) n quota low high
  bracketed distinct more =
      let least = spans.least in
      record {
        order =
            cases (leb low high)
            (λ e. leb-true low high e)
            (λ e. let l = leb-false low high e in absurd (omega (arith, reports, past low (omega arith))));
        enough = omega (arith, reports);
        few = omega (arith, past high (omega arith));
        once = λ i j k l h e. distinct.once i j k l (le-leb 65536 (number_in numbers i) (omega arith)) e;
      }

-- The numbers with those of the first `i` places kept or set to 0, as a loop leaves them.
module _ (numbers : List ℕ) (bound : ℕ) where
  pub kept_start : numbers ≡ kept_above numbers 0 bound
  unfolding kept_above
  kept_start = tab_by 0 numbers (length numbers) _ refl (λ i l. rw (le-ltb i 0 (omega arith)))

  -- the place after them is as it was
  pub kept_next : (i : ℕ) → i < length numbers → number_in (kept_above numbers i bound) i ≡ number_in numbers i
  unfolding kept_above
  kept_next i l = tab_at (length numbers) _ 0 i l ∙ rw (le-ltb i i (omega arith))

  -- and is kept or set to 0
  pub kept_more : (i v : ℕ) → i < length numbers → v ≡ pick (report_at numbers i && leb (number_in numbers i) bound) 0 (number_in numbers i)
      → set (kept_above numbers i bound) i v ≡ kept_above numbers (i + 1) bound
  unfolding kept_above
  kept_more i v l e =
      tab_set 0 (length numbers) _ _ i v l (e ∙ rw (lt-ltb i (i + 1) (omega arith)))
      (λ j k n.
      cases (ltb j i)
      (λ q. let b = ltb-true j i q in rw (q, lt-ltb j (i + 1) (omega arith)))
      (λ q. let b = ltb-false j i q in rw (q, le-ltb j (i + 1) (omega arith))))
