-- What the closed statements of this crate share.
use Rattle.std.specs.Prelude.{◌≡◌, refl, Bool, true, false, not, ◌&&◌, List, [], ◌∷◌, ℕ, eqb}
use Rattle.std.proofs.Common.{sym, ◌∙◌, eqb-true, eq-eqb}
use Rattle.std.proofs.lemmas.Bool.{false≢true, not-true}
use Rattle.numbers.specs.Laws.{and_left, and_right, and_intro}
use Rattle.numbers.specs.Every.{Every, none, more}
use Rattle.hall.specs.Closed as Hall
use Rattle.line.specs.Line.{decimal, digits_within}
use Rattle.shift.specs.Shift.{right, left, binary, drive_line, lines_from, page_refusal, page_after}

-- `unfolding computation` opens drive, hall and page, so that closed calls compute
unfoldable pub computation : Unit {0}
unfolding Hall.computation decimal digits_within right left binary drive_line lines_from page_refusal page_after
computation = tt

-- Of one input, each as a row of numbers: what the product's definition gives, what a wrong one gives, and what document 02 says.
pub record Case : Type 0 where
  pub given : List ℕ
  pub wrong : List ℕ
  pub paper : List ℕ

-- the product's definition gives what the paper says, and the wrong one does not
abbrev pub Refuted : Case → Type 0
Refuted c = (c.given ≡ c.paper) × (c.wrong ≡ c.paper → ⊥)

-- whether two rows of numbers are the same
abbrev same : List ℕ → List ℕ → Bool
same [] [] = true
same [] (y ∷ ys) = false
same (x ∷ xs) [] = false
same (x ∷ xs) (y ∷ ys) = eqb x y && same xs ys

same_rows : (xs ys : List ℕ) → same xs ys ≡ true → xs ≡ ys
same_rows [] [] q = refl
same_rows [] (y ∷ ys) q = absurd (false≢true q)
same_rows (x ∷ xs) [] q = absurd (false≢true q)
same_rows (x ∷ xs) (y ∷ ys) q = rw (eqb-true x y (and_left (eqb x y) _ q), same_rows xs ys (and_right (eqb x y) _ q))

same_self : (xs : List ℕ) → same xs xs ≡ true
same_self [] = refl
same_self (x ∷ xs) = and_intro (eq-eqb x x refl) (same_self xs)

differ : (xs ys : List ℕ) → not (same xs ys) ≡ true → xs ≡ ys → ⊥
differ xs ys q e = let s : same xs ys ≡ true = rw e (same_self ys) in false≢true (sym (not-true _ q) ∙ s)

-- the test of a case, and of a table of them
abbrev refutes : Case → Bool
refutes c = same c.given c.paper && not (same c.wrong c.paper)

abbrev refutes_all : List Case → Bool
refutes_all [] = true
refutes_all (c ∷ cs) = refutes c && refutes_all cs

pub all_refuted : (cs : List Case) → refutes_all cs ≡ true → Every Refuted cs
all_refuted [] q = none
all_refuted (c ∷ cs) q =
    let here = and_left (refutes c) _ q in
    let right = same c.given c.paper in
    more
    (same_rows c.given c.paper (and_left right _ here), differ c.wrong c.paper (and_right right _ here))
    (all_refuted cs (and_right (refutes c) _ q))
