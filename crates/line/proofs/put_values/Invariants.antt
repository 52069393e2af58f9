use Rattle.std.proofs.Common.{take, ◌≤◌, ◌+◌, ◌*◌}
use Rattle.line.specs.Line.{spaced_values}
use Rattle.line.specs.Writing.{Wrote}
use Rattle.line.proofs.put_values.Given as goal

abbrev pub invariant-loop-value : goal.invariant-loop-value
invariant-loop-value l =
    Wrote l.initial.w l.w (spaced_values (take l.value-index l.values)) × (l.w.at ≤ l.initial.w.at + 6 * l.value-index)
