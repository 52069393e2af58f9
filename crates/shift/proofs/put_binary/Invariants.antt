-- The bits from `bit` on are written.
use Rattle.std.proofs.Common.{◌≡◌, List, ◌++◌, ℕ}
use Rattle.line.specs.Writing.{Fits, Wrote}
use Rattle.shift.specs.Shift.{binary}
use Rattle.shift.proofs.put_binary.Given as goal

abbrev pub invariant-loop-bit : goal.invariant-loop-bit
invariant-loop-bit l = (done : List ℕ) × Wrote l.initial.w l.w done × (done ++ binary l.bit l.v ≡ binary 8 l.v) × Fits l.w l.bit
