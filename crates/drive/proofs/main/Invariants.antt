use Rattle.std.proofs.Common.{◌<◌}
use Rattle.drive.proofs.main.Given as goal

abbrev pub invariant-loop : goal.invariant-loop
invariant-loop l = l.s.kept < 6
