-- Laws of the shift page: how long each of its parts is, what it shows, and where each line stands.
use Rattle.std.specs.Prelude.{◌≡◌, false, List, [], ◌∷◌, ◌++◌, ℕ, zero, suc, ◌+◌, ◌-◌, ◌*◌, ◌/◌, ◌%◌, ◌≤◌, ◌<◌, ltb, eqb, length, get_or, take}
use Rattle.std.proofs.Math.Path.{refl, ap}
use Rattle.std.proofs.Common.{sym, ◌∙◌, append_assoc, append-nil, arith, not-suc-le-zero, le_of_suc-le-suc, div-one, add-zero, add_assoc, add-one, one-add, ltb-false, eqb-true, ne_eqb, length-append, length-take, length-drop, drop-drop, take-suc, take_at, drop_at}
use Rattle.std.proofs.Math.Nat.{sub-zero, zero-sub, suc-sub-suc, div-div-eq-div-mul, zero-add}
use Rattle.std.proofs.Math.ListN.{drop}
use Rattle.std.proofs.lemmas.List.{length-replicate, drop-append-le}
use Rattle.std.proofs.Math.Seq.{take-length, length-take-le, split_at}
use Rattle.numbers.specs.Numbers.{pick}
use Rattle.numbers.specs.Laws.{passed, cases}
use Rattle.line.specs.Text.{text}
use Rattle.line.specs.Line.{decimal, write_at}
use Rattle.line.specs.Laws.{decimal_length}
use Rattle.motion.specs.Motion.{to_percent}
use Rattle.rules.specs.Rank.{Source, backup, bus, tool, hand, run, forcing, fault}
use Rattle.damper.specs.declared.Drive.{Drive}
use Rattle.damper.specs.Record.{fresh_drive}
use Rattle.damper.specs.WellFormed.{well_formed}
use Rattle.hall.specs.Hall.{bad_row, at}
use Rattle.hall.specs.Laws.{row_few}
use Rattle.shift.specs.Shift as S

-- A field has as many columns as it is given.

pub right_length : (columns : ℕ) (t : List ℕ) → length (S.right columns t) ≡ columns
unfolding S.right
right_length columns t = simp (length-drop, length-append, length-replicate) (omega arith)

pub left_length : (columns : ℕ) (t : List ℕ) → length (S.left columns t) ≡ columns
unfolding S.left
left_length columns t = simp (length-take, length-append, length-replicate) (omega arith)

pub binary_length : (digits n : ℕ) → length (S.binary digits n) ≡ digits
unfolding S.binary
binary_length zero n = refl
binary_length (suc digits) n = ap suc (binary_length digits n)

-- "exactly 28 columns and a line feed", of every record
pub line_length : (number : ℕ) (d : Drive) → length (S.drive_line number d) ≡ 29
unfolding S.drive_line
line_length number d =
    cases (well_formed d)
    (λ e. rw e (simp (length-append, right_length, left_length, binary_length) refl))
    (λ e. rw e (simp (length-append, right_length) refl))

-- the line of a record that is not well formed
pub unformed_line : (number : ℕ) (d : Drive) → well_formed d ≡ false
    → S.drive_line number d ≡ S.right 2 (decimal number) ++ text " --- --- -------- --------\n"
unfolding S.drive_line
unformed_line number d e = rw e refl

-- Nothing of a text is cut off that has no more columns than it is given.

drop_blanks : (k n : ℕ) → drop k (S.blanks n) ≡ S.blanks (n - k)
drop_blanks zero n = rw (sub-zero n) refl
drop_blanks (suc k) zero = rw (zero-sub (suc k)) refl
drop_blanks (suc k) (suc n) = rw (suc-sub-suc n k) (drop_blanks k n)

pub right_is : (columns : ℕ) (t : List ℕ) → length t ≤ columns → S.right columns t ≡ S.blanks (columns - length t) ++ t
unfolding S.right
right_is columns t h =
    drop-append-le (length t) (S.blanks columns) t (rw (length-replicate {A = ℕ} columns 32) h)
    ∙ ap (λ (l : List ℕ). l ++ t) (drop_blanks (length t) columns)

-- so a number below 100 is shown whole in 2 columns, a byte and its percent in 3
pub number_shown : (number : ℕ) → number < 100 → S.right 2 (decimal number) ≡ S.blanks (2 - length (decimal number)) ++ decimal number
number_shown number h = right_is 2 (decimal number) (decimal_length 2 number (omega arith) (omega arith))

pub byte_shown : (v : ℕ) → v < 256 → S.right 3 (decimal v) ≡ S.blanks (3 - length (decimal v)) ++ decimal v
byte_shown v h = right_is 3 (decimal v) (decimal_length 3 v (omega arith) (omega arith))

pub percent_shown : (p : ℕ) → p < 256 → S.right 3 (decimal (to_percent p)) ≡ S.blanks (3 - length (decimal (to_percent p))) ++ decimal (to_percent p)
unfolding to_percent
percent_shown p h = byte_shown (to_percent p) (omega arith)

-- each name stands there whole, and blanks behind it
pub name_shown : (s : Source) → S.left 8 (S.name_of s) ≡ S.name_of s ++ S.blanks (8 - length (S.name_of s))
unfolding S.left
name_shown backup = refl
name_shown bus = refl
name_shown tool = refl
name_shown hand = refl
name_shown run = refl
name_shown forcing = refl
name_shown fault = refl

-- binary digits are 0 and 1
pub binary_digits : (digits n i : ℕ) → i < digits → (48 ≤ get_or (S.binary digits n) i 0) × (get_or (S.binary digits n) i 0 ≤ 49)
unfolding S.binary
binary_digits zero n i h = absurd (not-suc-le-zero h)
binary_digits (suc bit) n zero h = (omega arith, omega arith)
binary_digits (suc bit) n (suc i) h = binary_digits bit n i (le_of_suc-le-suc h)

-- and read from the first on they are the number
abbrev pub read : ℕ → List ℕ → ℕ
read n [] = n
read n (digit ∷ digits) = read (2 * n + (digit - 48)) digits

digit_read : (x : ℕ) → 48 + x - 48 ≡ x
digit_read x = omega arith

-- a quotient is its lowest binary digit and twice the next quotient
halved : (n w : ℕ) → n / w ≡ n / w % 2 + 2 * (n / (w * 2))
halved n w = rw (← (div-div-eq-div-mul n w 2)) (omega arith)

-- so eight digits make up the first quotient
joined : (n a b c d e f g i j k l m o p q : ℕ)
    → n ≡ i + 2 * a → a ≡ j + 2 * b → b ≡ k + 2 * c → c ≡ l + 2 * d → d ≡ m + 2 * e → e ≡ o + 2 * f → f ≡ p + 2 * g → g ≡ q
    → 2 * (2 * (2 * (2 * (2 * (2 * (2 * q + p) + o) + m) + l) + k) + j) + i ≡ n
joined n a b c d e f g i j k l m o p q s t u v w x y z = omega arith

pub binary_read : (n : ℕ) → n < 256 → read 0 (S.binary 8 n) ≡ n
unfolding S.binary
binary_read n h =
    rw (div-one n)
    (simp digit_read
    (joined n (n / 2) (n / 4) (n / 8) (n / 16) (n / 32) (n / 64) (n / 128) _ _ _ _ _ _ _ _
    (rw (div-one n) at (halved n 1)) (halved n 2) (halved n 4) (halved n 8) (halved n 16) (halved n 32) (halved n 64) (omega arith)))

-- The lines of a row: of two parts of it, how long they are, and with one drive more.

lines_append : (number : ℕ) (row more : List Drive) → S.lines_from number (row ++ more) ≡ S.lines_from number row ++ S.lines_from (number + length row) more
unfolding S.lines_from
lines_append number [] more = rw (add-zero number)
lines_append number (d ∷ row) more =
    rw (lines_append (number + 1) row more, add_assoc, one-add, append_assoc)

lines_length : (number : ℕ) (row : List Drive) → length (S.lines_from number row) ≡ 29 * length row
unfolding S.lines_from
lines_length number [] = refl
lines_length number (d ∷ row) = rw (length-append, line_length number d, lines_length (number + 1) row) (omega arith)

lines_more : (row : List Drive) (k : ℕ) → k < length row → S.lines_from 0 (take (k + 1) row) ≡ S.lines_from 0 (take k row) ++ S.drive_line k (at row k)
unfolding S.lines_from
lines_more row k h =
    rw (add-one, take-suc row k fresh_drive h, lines_append 0 (take k row), length-take-le k row (omega arith), zero-add k, append-nil)

-- A page that is not refused is of at most 64 drives, and has room for their lines.

page_fits : (drives bytes : ℕ) → S.page_refusal drives bytes ≡ 0 → (drives ≤ 64) × (29 * drives ≤ bytes)
unfolding S.page_refusal
page_fits drives bytes e =
    let r = passed (bad_row drives) 14 _ e (omega arith) in
    let p = passed (ltb bytes (29 * drives)) 17 _ r.1 (omega arith) in
    (row_few drives r.0, ltb-false bytes (29 * drives) p.0)

-- The page with the lines of the first `k` drives: at the start, after one line more and at the end.
module _ (row : List Drive) (page : List ℕ) where
  abbrev pub page_by : ℕ → List ℕ
  page_by k = S.lines_from 0 (take k row) ++ drop (29 * k) page

  pub page_start : page ≡ page_by 0
  unfolding S.lines_from
  page_start = refl

  -- the lines that the page has, all of them or, refused, none
  abbrev pub Lines : ℕ → Type 0
  Lines stop = stop ≡ pick (eqb (S.page_refusal (length row) (length page)) 0) (length row) 0

  module _ {stop : ℕ} (w : Lines stop) where
    pub lines_fit : (stop ≤ length row) × (stop ≤ 64) × (29 * stop ≤ length page)
    lines_fit =
        rw w
        (cases (eqb (S.page_refusal (length row) (length page)) 0)
        (λ h. let f = page_fits (length row) (length page) (eqb-true _ 0 h) in rw h (omega arith, f.0, f.1))
        (λ h. rw h (omega arith, omega arith, omega arith)))

    lines_by : (k : ℕ) → k ≤ stop → length (S.lines_from 0 (take k row)) ≡ 29 * k
    lines_by k h = lines_length 0 (take k row) ∙ ap (λ (n : ℕ). 29 * n) (length-take-le k row (omega (arith, lines_fit.0)))

    pub page_by_length : (k : ℕ) → k ≤ stop → length (page_by k) ≡ length page
    page_by_length k h = rw (length-append, lines_by k h, length-drop) (omega (arith, lines_fit.2))

    pub page_turn : (k : ℕ) → k < stop → write_at (page_by k) (29 * k) (S.drive_line k (at row k)) ≡ page_by (k + 1)
    page_turn k h =
        let lines : List ℕ = S.lines_from 0 (take k row) in
        let line : List ℕ = S.drive_line k (at row k) in
        let rest : List ℕ = drop (29 * k) page in
        let l : length lines ≡ 29 * k = lines_by k (omega arith) in
        let size : length line ≡ 29 = line_length k (at row k) in
        let next : 29 * k + 29 ≡ 29 * (k + 1) = omega arith in
        rw (take_at lines rest (29 * k) l, lines_more row k (omega (arith, lines_fit.0)))
        (ap (λ (t : List ℕ). (lines ++ line) ++ t)
        (sym (drop-drop (length line) (29 * k) (lines ++ rest))
        ∙ ap (λ (t : List ℕ). drop (length line) t) (drop_at lines rest (29 * k) l)
        ∙ drop-drop (length line) (29 * k) page
        ∙ ap (λ (n : ℕ). drop n page) (ap (λ (n : ℕ). 29 * k + n) size ∙ next)))

    pub page_end : (k : ℕ) → k ≡ stop → page_by k ≡ S.page_after row page
    unfolding S.page_after
    page_end k e =
        rw (e, w)
        (cases (eqb (S.page_refusal (length row) (length page)) 0)
        (λ h. rw (h, take-length row) (ap (λ (n : ℕ). S.lines_from 0 row ++ drop n page) (sym (lines_length 0 row))))
        (λ h. rw h (sym page_start)))

-- What the page is after the call: as long as before, each line in its place, the bytes behind the last as they were, and refused, the
-- whole page as it was.
module _ (row : List Drive) (page : List ℕ) where
  abbrev stop : ℕ
  stop = pick (eqb (S.page_refusal (length row) (length page)) 0) (length row) 0

  pub page_length : length (S.page_after row page) ≡ length page
  page_length = ap length (sym (page_end row page {stop = stop} refl stop refl)) ∙ page_by_length row page {stop = stop} refl stop (omega arith)

  pub page_refused : (S.page_refusal (length row) (length page) ≡ 0 → ⊥) → S.page_after row page ≡ page
  unfolding S.page_after
  page_refused h = rw (ne_eqb _ 0 h) refl

  module _ (accepted : S.page_refusal (length row) (length page) ≡ 0) where
    lines : S.page_after row page ≡ S.lines_from 0 row ++ drop (29 * length row) page
    unfolding S.page_after
    lines = rw accepted (ap (λ (n : ℕ). S.lines_from 0 row ++ drop n page) (lines_length 0 row))

    -- the lines before that of drive `i`, that line, and those behind it
    lines_around : (i : ℕ) → i < length row
        → S.lines_from 0 row ≡ S.lines_from 0 (take i row) ++ (S.drive_line i (at row i) ++ S.lines_from (i + 1) (drop (suc i) row))
    unfolding S.lines_from
    lines_around i h =
        ap (S.lines_from 0) (split_at row i fresh_drive h)
        ∙ rw (lines_append 0 (take i row), length-take-le i row (omega arith), zero-add i) refl

    pub page_line : (i : ℕ) → i < length row → take 29 (drop (29 * i) (S.page_after row page)) ≡ S.drive_line i (at row i)
    page_line i h =
        let front : List ℕ = S.lines_from 0 (take i row) in
        let line : List ℕ = S.drive_line i (at row i) in
        let back : List ℕ = S.lines_from (i + 1) (drop (suc i) row) in
        let rest : List ℕ = drop (29 * length row) page in
        let l : length front ≡ 29 * i = lines_length 0 (take i row) ∙ ap (λ (n : ℕ). 29 * n) (length-take-le i row (omega arith)) in
        rw (lines, lines_around i h, append_assoc front, append_assoc line, drop_at front (line ++ (back ++ rest)) (29 * i) l)
        (take_at line (back ++ rest) 29 (line_length i (at row i)))

    pub page_rest : drop (29 * length row) (S.page_after row page) ≡ drop (29 * length row) page
    page_rest = rw lines (drop_at (S.lines_from 0 row) _ (29 * length row) (lines_length 0 row))
