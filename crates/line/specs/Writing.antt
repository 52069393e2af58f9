-- What a writer has room for and has written, and both of two writes, one after the other.
use Rattle.std.specs.Prelude.{◌≡◌, List, ◌++◌, ℕ, ◌+◌, ◌≤◌, length}
use Rattle.std.proofs.Common.{sym, ◌∙◌, arith}
use Rattle.line.specs.declared.writer.Writer.{Writer}
use Rattle.line.specs.Line.{write_at, Written}
use Rattle.line.specs.Laws.{after_that}

-- there is room for so many bytes
abbrev pub Fits : Writer → ℕ → Type 0
Fits w bytes = w.at + bytes ≤ length w.out.now

-- these bytes are written, and the buffer is still the one that was lent
pub record Wrote (before after : Writer) (bytes : List ℕ) : Type 0 where
  pub buffer : after.out.ghost_name ≡ before.out.ghost_name
  pub size : length after.out.now ≡ length before.out.now
  pub within : after.at ≤ length after.out.now
  pub written : Written before.out.now after.out.now before.at after.at bytes

pub wrote_both : {u v w : Writer} {xs ys : List ℕ} → Wrote u v xs → Wrote v w ys → Wrote u w (xs ++ ys)
wrote_both {u} {v} {w} {xs} {ys} a b = record {
  buffer = b.buffer ∙ a.buffer;
  size = b.size ∙ a.size;
  within = b.within;
  written = after_that a.written b.written (omega arith);
}

-- the buffer that was lent to `u`, as `v` gives it back
pub given_back : {u v : Writer} {bytes after : List ℕ} → Wrote u v bytes → (u.out.ghost_name ≡ v.out.ghost_name → after ≡ v.out.now)
    → after ≡ write_at u.out.now u.at bytes
given_back w same = same (sym w.buffer) ∙ w.written.buffer
