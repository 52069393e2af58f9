-- Laws of the lines of more outcomes, and of one more line in the buffer.
use Rattle.std.specs.Prelude.{◌≡◌, refl, List, [], ◌∷◌, ◌++◌, ℕ, ◌+◌, ◌≤◌, length}
use Rattle.std.proofs.Common.{◌∙◌, append_assoc, append-nil, le-leb, length-append, drop-drop}
use Rattle.std.proofs.Math.Seq.{take-append_seam, drop-append-add}
use Rattle.damper.specs.declared.Outcome.{Outcome}
use Rattle.line.specs.Line.{line_of, put_line, end_of}
use Rattle.printer.specs.Page.{counted, count_after, lines_after, page_after}

-- the count and the lines of outcomes in two parts: the second is counted on from the first
count_append : (n : ℕ) (l m : List Outcome) → count_after n (l ++ m) ≡ count_after (count_after n l) m
unfolding count_after
count_append n [] m = refl
count_append n (o ∷ l) m = count_append (counted n) l m

pub lines_append : (n : ℕ) (l m : List Outcome) → lines_after n (l ++ m) ≡ lines_after n l ++ lines_after (count_after n l) m
unfolding lines_after count_after
lines_append n [] m = refl
lines_append n (o ∷ l) m = simp (lines_append (counted n) l m, append_assoc)

-- The count `n`, the bytes `at` that are filled and the buffer `out` are those after the outcomes `os`.
pub record Filled (n₀ : ℕ) (out₀ : List ℕ) (os : List Outcome) (n at : ℕ) (out : List ℕ) : Type 0 where
  pub count : n ≡ count_after n₀ os
  pub used : at ≡ length (lines_after n₀ os)
  pub bytes : out ≡ page_after n₀ os out₀

-- one more line, where there is room for it
pub line_more : {n₀ : ℕ} {out₀ : List ℕ} {os : List Outcome} {n at : ℕ} {out : List ℕ} (o : Outcome) {m end : ℕ} {out' : List ℕ}
    → at + 64 ≤ length out → m ≡ counted n → end ≡ end_of out at m o.answer → out' ≡ put_line out at m o.answer
    → Filled n₀ out₀ os n at out → Filled n₀ out₀ (os ++ (o ∷ [])) m end out'
unfolding end_of put_line count_after lines_after page_after
line_more {n₀} {out₀} {os} {n} {at} {out} o {m} h em ee eo p =
    let fits = le-leb (at + 64) (length out) h in
    let lines : lines_after n₀ (os ++ (o ∷ [])) ≡ lines_after n₀ os ++ line_of m o.answer = lines_append n₀ os (o ∷ []) ∙ rw (append-nil, em, p.count) in
    record {
      count = rw (em, p.count, count_append);
      used = rw (ee, fits, lines, length-append (lines_after n₀ os), p.used);
      bytes = rw (eo, fits, lines, length-append (lines_after n₀ os), p.bytes, p.used, take-append_seam, drop-append-add, drop-drop);
    }
