use native.Mathlib.Omega.{arith}
use Rattle.numbers.specs.Laws.{flag_bit}
use Rattle.rules.specs.Rank.{active_byte}
use Rattle.damper.proofs.rank.active.Goals as goal

pub returns : goal.returns
unfolding active_byte
returns c =
    let a = c.args.c in
    let f = c.requires in record {
      value = simp (flag_bit a.tool 4 f.tool, flag_bit a.hand 8 f.hand, flag_bit a.fault 64 f.fault, c.bit-4.ensures.value, c.forced.ensures, c.bit-3.ensures.value, c.bit-2.ensures.value, c.bit.ensures.value)
          (omega arith);
      bound = omega (arith, f.tool, f.hand, f.fault);
    }
