-- The loop has met the numbers before `number-index`, each once, and has set their flags and no others.
use Rattle.std.proofs.Common.{◌≡◌, false, ℕ, take}
use Rattle.numbers.specs.Numbers.{flag_at}
use Rattle.hall.specs.Hall.{named_in, names_twice}
use Rattle.hall.proofs.names_twice.Given as goal

abbrev pub invariant-loop-number : goal.invariant-loop-number
invariant-loop-number l = record {
  once : names_twice (take l.number-index l.list) ≡ false;
  met : (i : ℕ) → flag_at l.met i ≡ named_in i (take l.number-index l.list);
}
