use Rattle.std.proofs.Common.{◌≡◌, List, [], ◌∷◌, ◌++◌, ℕ, suc, ◌+◌, ◌-◌, ◌/◌, ◌%◌, ◌^◌, ◌∙◌, arith, append_assoc, append-nil}
use Rattle.line.specs.Writing.{wrote_both}
use Rattle.shift.specs.Shift.{binary}
use Rattle.shift.proofs.put_binary.Goals as goal

-- one bit more
next_bit : (done : List ℕ) (bit v : ℕ) → (done ++ ((48 + v / 2 ^ bit % 2) ∷ [])) ++ binary bit v ≡ done ++ binary (suc bit) v
unfolding binary
next_bit done bit v = rw append_assoc

pub loop-bit-preserved : goal.loop-bit-preserved
loop-bit-preserved c =
    let l = c.loop-bit.invariant in
    let bit = c.loop-bit.bit in
    let down : suc (bit - 1) ≡ bit = omega arith in
    (_, wrote_both l.1 c.put_byte.ensures, rw down at (next_bit l.0 (bit - 1) c.args.v) ∙ l.2, omega arith)

pub returns : goal.returns
unfolding binary
returns c =
    let none : c.loop-bit.bit ≡ 0 = omega arith in
    rw (← rw (none, append-nil) at c.loop-bit.invariant.2) c.loop-bit.invariant.1
