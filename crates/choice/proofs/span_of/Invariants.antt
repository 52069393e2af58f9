-- Each report so far is `least` or more, and each number at most `most`.
use Rattle.std.specs.Prelude.{◌≡◌, true, ℕ, ◌^◌, ◌<◌, ◌≤◌}
use Rattle.choice.specs.Sent.{report_at}
use Rattle.choice.specs.Choice.{number_in}
use Rattle.choice.proofs.span_of.Given as goal

abbrev pub invariant-loop-number : goal.invariant-loop-number
invariant-loop-number l =
    (65536 ≤ l.least) × ((j : ℕ) → j < l.number-index → report_at l.numbers j ≡ true → l.least ≤ number_in l.numbers j)
    × ((j : ℕ) → j < l.number-index → number_in l.numbers j ≤ l.most) × (l.most < 2 ^ 32)
