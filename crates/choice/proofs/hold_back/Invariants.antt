-- The numbers so far are kept or set to 0.
use Rattle.std.specs.Prelude.{◌≡◌}
use Rattle.choice.specs.Choice.{kept_above}
use Rattle.choice.proofs.hold_back.Given as goal

abbrev pub invariant-loop-number : goal.invariant-loop-number
invariant-loop-number l = l.numbers ≡ kept_above l.initial.numbers l.number-index l.bound
