-- Proofs: the lines of the shift page, column by column, and the page.
use Rattle.std.specs.Prelude.{◌≡◌, refl, Bool, true, false, ◌||◌, List, [], ◌∷◌, ◌++◌, ℕ, zero, suc, ◌+◌, ◌-◌, ◌*◌, ◌/◌, ◌%◌, ◌^◌, ◌≤◌, ◌<◌, ltb, length, get_or, take, drop}
use Rattle.std.proofs.Common.{sym, ap, ◌∙◌, arith, lt-ltb, ltb-true, ltb-false}
use Rattle.numbers.specs.Laws.{cases, passed}
use Rattle.motion.specs.Motion.{to_percent}
use Rattle.rules.specs.Rank.{source_at}
use Rattle.damper.specs.declared.Drive.{Drive}
use Rattle.damper.specs.Tick.{bus_on, ruling, ruling_source, status_of}
use Rattle.line.specs.Line.{decimal, spaced}
use Rattle.line.specs.Laws.{decimal_small, decimal_more}
use Rattle.hall.specs.Hall.{bad_row}
use Rattle.hall.specs.Laws.{row_few}
use Rattle.shift.specs.Shift as S
use Rattle.shift.specs.Laws as L
use Rattle.sentences.specs.Words.{◌is◌, ◌is_not◌, first_that_fits}
use Rattle.sentences.specs.Paper as P1
use Rattle.sentences.specs.Rules.{same_ruling, same_bus}
use Rattle.sentences.specs.Ticks.{record_status}
use Rattle.sentences.specs.Forms.{same_formed, not_formed}
use Rattle.sentences_hall.specs.Paper as P
use Rattle.sentences_hall.specs.Refused.{same_page}

-- ── Numbers, to the right ──

decimal_two : (n : ℕ) → 10 ≤ n → n < 100 → decimal n ≡ (48 + n / 10) ∷ (48 + n % 10) ∷ []
decimal_two n l h = decimal_more n l ∙ rw (decimal_small (n / 10) (omega arith))

decimal_three : (n : ℕ) → 100 ≤ n → n < 1000 → decimal n ≡ (48 + n / 10 / 10) ∷ (48 + n / 10 % 10) ∷ (48 + n % 10) ∷ []
decimal_three n l h = decimal_more n (omega arith) ∙ rw (decimal_two (n / 10) (omega arith) (omega arith))

pub two_columns : (n : ℕ) → n < 100 → S.right 2 (decimal n) ≡ P.digit 10 n ∷ P.ones n ∷ []
unfolding S.right
two_columns n h =
    cases (ltb n 10)
    (λ e.
    let l = ltb-true n 10 e in
    let same : n % 10 ≡ n = omega arith in
    rw (decimal_small n l, e, same))
    (λ e.
    let l = ltb-false n 10 e in
    let same : n / 10 % 10 ≡ n / 10 = omega arith in
    rw (decimal_two n l h, e, same))

pub three_columns : (n : ℕ) → n < 256 → S.right 3 (decimal n) ≡ P.digit 100 n ∷ P.digit 10 n ∷ P.ones n ∷ []
unfolding S.right
three_columns n h =
    cases (ltb n 10)
    (λ e.
    let l = ltb-true n 10 e in
    let same : n % 10 ≡ n = omega arith in
    rw (decimal_small n l, e, lt-ltb n 100 (omega arith), same))
    (λ e.
    let l = ltb-false n 10 e in
    cases (ltb n 100)
    (λ f.
    let m = ltb-true n 100 f in
    let same : n / 10 % 10 ≡ n / 10 = omega arith in
    rw (decimal_two n l m, e, f, same))
    (λ f.
    let m = ltb-false n 100 f in
    let same : n / 10 / 10 ≡ n / 100 % 10 = omega arith in
    rw (decimal_three n m (omega arith), e, f, same)))

-- ── The name of who rules, to the left ──

abbrev letters : ℕ → List ℕ
letters r =
    P.letter r 0 ∷ P.letter r 1 ∷ P.letter r 2 ∷ P.letter r 3 ∷ P.letter r 4 ∷ P.letter r 5 ∷ P.letter r 6 ∷ P.letter r 7 ∷ []

name_columns : (r : ℕ) → r ≤ 6 → S.left 8 (S.name_of (source_at r)) ≡ letters r
unfolding S.left
name_columns zero h = refl
name_columns (suc zero) h = refl
name_columns (suc (suc zero)) h = refl
name_columns (suc (suc (suc zero))) h = refl
name_columns (suc (suc (suc (suc zero)))) h = refl
name_columns (suc (suc (suc (suc (suc zero))))) h = refl
name_columns (suc (suc (suc (suc (suc (suc zero)))))) h = refl
name_columns (suc (suc (suc (suc (suc (suc (suc r))))))) h = absurd (omega arith)

at_most_6 : (a b c d e f : Bool) → first_that_fits ((6, a) ∷ (5, b) ∷ (4, c) ∷ (3, d) ∷ (2, e) ∷ (1, f) ∷ (0, true) ∷ []) ≤ 6
at_most_6 true b c d e f = omega arith
at_most_6 false true c d e f = omega arith
at_most_6 false false true d e f = omega arith
at_most_6 false false false true e f = omega arith
at_most_6 false false false false true f = omega arith
at_most_6 false false false false false true = omega arith
at_most_6 false false false false false false = omega arith

same_now : (d : Drive) → ruling d ≡ P.ruling_now d
same_now d =
    same_ruling d.commands d.run.kind (bus_on d)
    ∙ ap (λ (b : Bool). first_that_fits (P1.commanders d.commands d.run.kind b)) (same_bus d.commands d.age d.params)

ruling_columns : (d : Drive) → S.left 8 (S.name_of (ruling_source d)) ≡ letters (P.ruling_now d)
ruling_columns d =
    let c = d.commands in
    ap (λ (r : ℕ). S.left 8 (S.name_of (source_at r))) (same_now d)
    ∙ name_columns (P.ruling_now d)
    (at_most_6 (c.fault is 1) (c.forcing is 2 || c.forcing is 3) (d.run.kind is_not 0) (c.hand is 1) (c.tool is 1)
    (P1.bus_active c d.age d.params))

-- ── The line ──

percent_few : (p : ℕ) → p < 256 → to_percent p < 256
unfolding to_percent
percent_few p h = omega arith

pub formed_line : (number : ℕ) (d : Drive) → number < 100 → d.position < 256 → P1.WellFormed d → S.drive_line number d ≡ P.line_of number d
unfolding S.drive_line S.binary
formed_line number d h p f =
    let two = two_columns number h in
    let position = three_columns d.position p in
    let percent = three_columns (to_percent d.position) (percent_few d.position p) in
    let name = ruling_columns d in
    rw ((same_formed d).1 f)
    (λ i. two i ++ (spaced (position i ∷ percent i ∷ name i ∷ S.binary 8 (status_of d) ∷ []) ++ (10 ∷ [])))

pub unformed_line : (number : ℕ) (d : Drive) → number < 100 → (P1.WellFormed d → ⊥) → S.drive_line number d ≡ P.line_without number
unformed_line number d h f = L.unformed_line number d (not_formed d f) ∙ rw (two_columns number h)

-- the status, bit by bit
module _ (d : Drive) where
  abbrev Shown : ℕ → Type 0
  Shown b = P1.Shown d.commands d.run.kind (P1.bus_active d.commands d.age d.params) b

  abbrev Says : ℕ → ℕ → Type 0
  Says column b = (Shown b → column ≡ 49) × ((Shown b → ⊥) → column ≡ 48)

  bit_column : (b : ℕ) → Says (P.binary (status_of d) b) b
  bit_column b = (
    λ x. let e = (record_status d b).1 x in omega arith,
    λ n.
        let x : status_of d / 2 ^ b % 2 ≡ 1 → ⊥ = λ e. n ((record_status d b).0 e) in
        even (status_of d / 2 ^ b) x,
  )
    where
      even : (m : ℕ) → (m % 2 ≡ 1 → ⊥) → 48 + m % 2 ≡ 48
      even m x = omega arith

  pub status_columns : (number : ℕ) → number < 100 → d.position < 256 → P1.WellFormed d
      → (k : ℕ) → k < 8 → Says (get_or (S.drive_line number d) (20 + k) 0) (7 - k)
  status_columns number h p f zero l = rw (formed_line number d h p f) (bit_column 7)
  status_columns number h p f (suc zero) l = rw (formed_line number d h p f) (bit_column 6)
  status_columns number h p f (suc (suc zero)) l = rw (formed_line number d h p f) (bit_column 5)
  status_columns number h p f (suc (suc (suc zero))) l = rw (formed_line number d h p f) (bit_column 4)
  status_columns number h p f (suc (suc (suc (suc zero)))) l = rw (formed_line number d h p f) (bit_column 3)
  status_columns number h p f (suc (suc (suc (suc (suc zero))))) l = rw (formed_line number d h p f) (bit_column 2)
  status_columns number h p f (suc (suc (suc (suc (suc (suc zero)))))) l = rw (formed_line number d h p f) (bit_column 1)
  status_columns number h p f (suc (suc (suc (suc (suc (suc (suc zero))))))) l = rw (formed_line number d h p f) (bit_column 0)
  status_columns number h p f (suc (suc (suc (suc (suc (suc (suc (suc k)))))))) l = absurd (omega arith)

-- ── The page ──
module _ (row : List Drive) (page : List ℕ) where
  abbrev judged : ℕ
  judged = first_that_fits (P.of_the_page (length row) (length page))

  pub refused_page : (k : ℕ) → judged ≡ suc k → S.page_after row page ≡ page
  refused_page k e = L.page_refused row page (λ z. let w = sym (same_page (length row) (length page) ∙ e) ∙ z in absurd (omega arith))

  module _ (ok : judged ≡ 0) where
    taken : S.page_refusal (length row) (length page) ≡ 0
    taken = same_page (length row) (length page) ∙ ok

    few : length row ≤ 64
    unfolding S.page_refusal
    few = row_few (length row) (passed (bad_row (length row)) 14 _ taken (omega arith)).0

    pub page_formed : (i : ℕ) → i < length row → (P.drive row i).position < 256 → P1.WellFormed (P.drive row i)
        → take 29 (drop (29 * i) (S.page_after row page)) ≡ P.line_of i (P.drive row i)
    page_formed i h p f = L.page_line row page taken i h ∙ formed_line i (P.drive row i) (omega (arith, few)) p f

    pub page_unformed : (i : ℕ) → i < length row → (P1.WellFormed (P.drive row i) → ⊥)
        → take 29 (drop (29 * i) (S.page_after row page)) ≡ P.line_without i
    page_unformed i h f = L.page_line row page taken i h ∙ unformed_line i (P.drive row i) (omega (arith, few)) f

    pub page_behind : drop (29 * length row) (S.page_after row page) ≡ drop (29 * length row) page
    page_behind = L.page_rest row page taken
