use Rattle.std.proofs.Common.{◌≡◌, ℕ, ◌+◌, ◌-◌, ◌<◌, ◌≤◌, Bool, false, List, length, get_or, drop, Some, None, sym, ap, ◌∙◌, arith, length-drop}
use Rattle.std.specs.List.{position, position_or_len}
use Rattle.std.proofs.lemmas.Grind.{common_steps}
use Rattle.std.proofs.lemmas.List.{get_or-drop, take_all}
use Rattle.std.proofs.lemmas.List.Sums.{fails_before_first}
use Rattle.std.proofs.lemmas.List.Quantifiers.{position-Some}
use Rattle.choice.specs.Sent.{is_report_number, report_at}
use Rattle.choice.specs.Choice.{Next}
use Rattle.choice.proofs.next_sent.Goals as goal

none_passes : (p : ℕ → Bool) (xs : List ℕ) → position p xs ≡ None → (k : ℕ) → k < length xs → p (get_or xs k 0) ≡ false
none_passes p xs e k l =
    let past : length xs ≤ position_or_len p xs = grind (arith, common_steps) in
    fails_before_first p xs k 0 (omega arith)

module _ (xs : List ℕ) (from : ℕ) (l : from ≤ length xs) where
  behind : (i : ℕ) → from ≤ i → is_report_number (get_or (drop from xs) (i - from) 0) ≡ report_at xs i
  behind i h =
      let same : from + (i - from) ≡ i = omega arith in
      ap is_report_number (get_or-drop from xs (i - from) 0 ∙ ap (λ (j : ℕ). get_or xs j 0) same)

  next_none : position is_report_number (drop from xs) ≡ None → Next xs from (length xs) (length xs)
  next_none e =
      record {
        least = l;
        most = omega arith;
        none = λ i a b. sym (behind i a) ∙ none_passes is_report_number (drop from xs) e (i - from) (omega (arith, length-drop from xs));
        found = λ h. absurd (omega arith);
      }

  next_some : (k : ℕ) → position is_report_number (drop from xs) ≡ Some k → Next xs from (length xs) (from + k)
  next_some k e =
      let told = position-Some is_report_number (drop from xs) k 0 e in
      let size = length-drop from xs in
      record {
        least = omega arith;
        most = omega (arith, told.0, size);
        none = λ i a b. sym (behind i a) ∙ told.2 (i - from) (omega arith);
        found = λ h. sym (ap is_report_number (get_or-drop from xs k 0)) ∙ told.1;
      }

pub returns-in_err-k-clause-next : goal.returns-in_err-k-clause-next
returns-in_err-k-clause-next c =
    let all = take_all (length c.args.numbers.now - c.args.from) (drop c.args.from c.args.numbers.now)
    (omega (arith, length-drop c.args.from c.args.numbers.now)) in
    rw c.from_residual.ensures (next_none _ _ c.requires (rw all at (sym c.first_sent.ensures ∙ c.in_err-k.was)))

pub returns-clause-next : goal.returns-clause-next
returns-clause-next c =
    let all = take_all (length c.args.numbers.now - c.args.from) (drop c.args.from c.args.numbers.now)
    (omega (arith, length-drop c.args.from c.args.numbers.now)) in
    next_some _ _ c.requires _ (rw all at (sym c.first_sent.ensures ∙ c.in_ok-k.was))
