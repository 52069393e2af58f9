use Rattle.std.proofs.Common.{◌∙◌, ap, arith, ℕ}
use Prim.Native.Nat.{◌^◌}
use native.Mathlib.Nat.{one-mul}
use lib.Pow.{shl_exact}
use lib.Bits.{bit_or}
use Rattle.numbers.specs.Numbers.{flag_at}
use Rattle.numbers.specs.FlagLaws.{flag_more}
use Rattle.numbers.proofs.with_flag.Goals as goal

pub returns : goal.returns
returns c j =
    let a = c.args in
    ap (λ (m : ℕ). flag_at (bit_or a.flags m) j) (shl_exact {a = 1} 1 a.i 64 (omega arith) (omega (arith, c.requires)) ∙ one-mul (2 ^ a.i))
    ∙ flag_more a.flags a.i j
