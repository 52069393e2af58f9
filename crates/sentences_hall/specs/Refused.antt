-- Proofs: when a call is refused itself, and when a list names a drive twice.
use Rattle.std.specs.Prelude.{◌≡◌, refl, ◌↔◌, Bool, true, false, not, ◌&&◌, ◌||◌, List, [], ◌∷◌, ◌++◌, ℕ, zero, suc, ◌+◌, ◌*◌, ◌≤◌, ◌<◌, ltb, eqb, length, get_or}
use Rattle.std.proofs.Common.{sym, ap, subst, ◌∙◌, append_assoc, arith, eqb-true, eq-eqb, ne_eqb, ltb-true, lt-ltb, le-ltb}
use Rattle.std.proofs.Math.Bool.{or_assoc, or-true}
use Rattle.std.proofs.lemmas.Bool.{false≢true}
use Rattle.numbers.specs.Numbers.{pick}
use Rattle.numbers.specs.Laws.{cases}
use Rattle.hall.specs.Hall.{Call, give, tick, bad_row, bad_number, is_tick, bad_event, named_in, names_twice, bad_quota, call_refusal}
use Rattle.shift.specs.Shift.{page_refusal}
use Rattle.sentences.specs.Words.{◌is◌, ◌exceeds◌, between, some_of, choose, first_that_fits}
use Rattle.sentences.specs.Paper as P1
use Rattle.sentences.specs.Refusals.{same_choice, same_kind}
use Rattle.sentences.specs.Rules.{at_most}
use Rattle.sentences_hall.specs.Paper as P

same_if : (a b : Bool) → (a ≡ true → b ≡ true) → (b ≡ true → a ≡ true) → a ≡ b
same_if true b f g = sym (f refl)
same_if false true f g = g refl
same_if false false f g = refl

-- ── A list that names a drive twice ──

-- a number that a list names splits it there
named_split : (x : ℕ) (list : List ℕ) → named_in x list ≡ true → (xs : List ℕ) × (zs : List ℕ) × (list ≡ xs ++ x ∷ zs)
unfolding named_in
named_split x [] e = absurd (false≢true e)
named_split x (y ∷ list) e =
    cases (eqb y x)
    (λ q. ([], list, ap (λ (k : ℕ). k ∷ list) (eqb-true y x q)))
    (λ q. let r = named_split x list (rw q at e) in (y ∷ r.0, r.1, ap (λ (l : List ℕ). y ∷ l) r.2))

named_amid : (x : ℕ) (xs zs : List ℕ) → named_in x (xs ++ x ∷ zs) ≡ true
unfolding named_in
named_amid x [] zs = ap (λ (b : Bool). b || named_in x zs) (eq-eqb x x refl)
named_amid x (y ∷ xs) zs = rw (named_amid x xs zs) (or-true (eqb y x))

split_twice : (list : List ℕ) → names_twice list ≡ true → P.NamedTwice list
unfolding names_twice
split_twice [] e = absurd (false≢true e)
split_twice (i ∷ list) e =
    cases (named_in i list)
    (λ q.
    let r = named_split i list q in
    record { number = i; before = []; amid = r.0; after = r.1; parts = ap (λ (l : List ℕ). i ∷ l) r.2 })
    (λ q.
    let t = split_twice list (rw q at e) in
    record { number = t.number; before = i ∷ t.before; amid = t.amid; after = t.after; parts = ap (λ (l : List ℕ). i ∷ l) t.parts })

twice_amid : (x : ℕ) (xs ys zs : List ℕ) → names_twice (xs ++ x ∷ ys ++ x ∷ zs) ≡ true
unfolding names_twice
twice_amid x [] ys zs = ap (λ (b : Bool). b || names_twice (ys ++ x ∷ zs)) (named_amid x ys zs)
twice_amid x (y ∷ xs) ys zs = rw (twice_amid x xs ys zs) (or-true (named_in y (xs ++ x ∷ ys ++ x ∷ zs)))

pub twice_named : (list : List ℕ) → (names_twice list ≡ true) ↔ P.NamedTwice list
twice_named list = (
  split_twice list,
  λ t. subst (λ (l : List ℕ). names_twice l ≡ true) (sym t.parts) (twice_amid t.number t.before t.amid t.after),
)

-- the same by how often a number stands there

often_append : (x : ℕ) (xs ys : List ℕ) → P.how_often x (xs ++ ys) ≡ P.how_often x xs + P.how_often x ys
often_append x [] ys = omega arith
often_append x (y ∷ xs) ys = rw (often_append x xs ys) (omega arith)

often_first : (x : ℕ) (zs : List ℕ) → P.how_often x (x ∷ zs) ≡ suc (P.how_often x zs)
often_first x zs = rw (eq-eqb x x refl) (omega arith)

often_split : (x : ℕ) (list : List ℕ) → 1 ≤ P.how_often x list
    → (xs : List ℕ) × (zs : List ℕ) × (list ≡ xs ++ x ∷ zs) × (P.how_often x list ≡ suc (P.how_often x zs))
often_split x [] h = absurd (omega arith)
often_split x (y ∷ list) h =
    cases (eqb y x)
    (λ q. ([], list, ap (λ (k : ℕ). k ∷ list) (eqb-true y x q), rw q (omega arith)))
    (λ q.
    let k : 1 ≤ 0 + P.how_often x list = rw q at h in
    let r = often_split x list (omega arith) in
    (y ∷ r.0, r.1, ap (λ (l : List ℕ). y ∷ l) r.2, ap (λ (b : Bool). choose b 1 0 + P.how_often x list) q ∙ omega (arith, r.3)))

some_found : (list : List ℕ) (f : ℕ → Bool) → some_of list f ≡ true → (x : ℕ) × (f x ≡ true)
some_found [] f e = absurd (false≢true e)
some_found (y ∷ list) f e = cases (f y) (λ q. (y, q)) (λ q. some_found list f (rw q at e))

some_amid : (f : ℕ → Bool) (x : ℕ) (xs zs : List ℕ) → f x ≡ true → some_of (xs ++ x ∷ zs) f ≡ true
some_amid f x [] zs e = rw e
some_amid f x (y ∷ xs) zs e = rw (some_amid f x xs zs e) (or-true (f y))

abbrev often : List ℕ → Bool
often list = some_of list (λ x. P.how_often x list exceeds 1)

often_amid : (x : ℕ) (xs ys zs : List ℕ) → often (xs ++ x ∷ ys ++ x ∷ zs) ≡ true
often_amid x xs ys zs =
    let list = xs ++ x ∷ ys ++ x ∷ zs in
    some_amid (λ y. P.how_often y list exceeds 1) x (xs ++ x ∷ ys) zs
    (lt-ltb 1 (P.how_often x list)
    (omega (arith, often_append x (xs ++ x ∷ ys) (x ∷ zs), often_append x xs (x ∷ ys), often_first x ys, often_first x zs)))

twice_by : (x : ℕ) (list xs rest ys zs : List ℕ) → list ≡ xs ++ x ∷ rest → rest ≡ ys ++ x ∷ zs → P.NamedTwice list
twice_by x list xs rest ys zs e f =
    record { number = x; before = xs; amid = ys; after = zs; parts = e ∙ rw f (sym (append_assoc xs (x ∷ ys) (x ∷ zs))) }

twice_often : (list : List ℕ) → often list ≡ true → P.NamedTwice list
twice_often list e =
    let f = some_found list (λ x. P.how_often x list exceeds 1) e in
    let x = f.0 in
    let h : 1 < P.how_often x list = ltb-true 1 (P.how_often x list) f.1 in
    let r = often_split x list (omega arith) in
    let t = often_split x r.1 (omega (arith, h, r.3)) in
    twice_by x list r.0 r.1 t.0 t.1 r.2 t.2

pub often_twice : (list : List ℕ) → (often list ≡ true) ↔ P.NamedTwice list
often_twice list = (
  twice_often list,
  λ t. subst (λ (l : List ℕ). often l ≡ true) (sym t.parts) (often_amid t.number t.before t.amid t.after),
)

same_twice : (list : List ℕ) → names_twice list ≡ often list
same_twice list =
    same_if (names_twice list) (often list)
    (λ e. (often_twice list).1 ((twice_named list).0 e))
    (λ e. (twice_named list).1 ((often_twice list).0 e))

-- ── The conditions, one by one ──

none_or_less : (n : ℕ) → ltb n 1 ≡ eqb n 0
none_or_less zero = refl
none_or_less (suc n) = le-ltb (suc n) 1 (omega arith) ∙ sym (ne_eqb (suc n) 0 (λ e. absurd (omega arith)))

pub same_row : (n : ℕ) → bad_row n ≡ (n is 0 || n exceeds 64)
same_row n = ap (λ (b : Bool). b || ltb 64 n) (none_or_less n)

pub same_number : (n : ℕ) (list : List ℕ) → bad_number n list ≡ some_of list (λ i. not (n exceeds i))
unfolding bad_number
same_number n [] = refl
same_number n (i ∷ list) = rw (at_most n i, same_number n list)

abbrev reader : List ℕ → ℕ
reader s = first_that_fits (P1.of_the_reader s)

kind_one : (b : Bool) (k : ℕ) → eqb (choose b k 0) 1 ≡ (b && eqb k 1)
kind_one true k = refl
kind_one false k = refl

pub same_tick : (s : List ℕ) → is_tick s ≡ P.accepted_tick s
same_tick s = ap (λ (k : ℕ). eqb k 1) (same_kind s) ∙ kind_one (reader s is 0) (get_or s 2 0)

same_event : (list s : List ℕ) (room : ℕ)
    → bad_event list s room ≡ (P.accepted_tick s || (length list exceeds 64 || length list exceeds room))
same_event list s room =
    or_assoc (is_tick s) (ltb 64 (length list)) (ltb room (length list))
    ∙ ap (λ (b : Bool). b || (ltb 64 (length list) || ltb room (length list))) (same_tick s)

outside : (x y : Bool) → not (not x && not y) ≡ (x || y)
outside true y = refl
outside false true = refl
outside false false = refl

same_quota : (q : ℕ) → bad_quota q ≡ not (between 1 64 q)
same_quota q = rw (at_most 1 q, at_most q 64) (sym (outside (ltb q 1) (ltb 64 q)))

-- ── In order ──

in_order_4 : (a b c t : Bool) → pick a 14 (pick b 15 (pick c 16 (pick t 19 0))) ≡ first_that_fits ((14, a) ∷ (15, b) ∷ (16, c) ∷ (19, t) ∷ [])
in_order_4 a b c t = simp same_choice

in_order_3 : (a b c : Bool) → pick a 14 (pick b 16 (pick c 18 0)) ≡ first_that_fits ((14, a) ∷ (16, b) ∷ (18, c) ∷ [])
in_order_3 a b c = simp same_choice

pub same_call : (n : ℕ) (c : Call) → call_refusal n c ≡ P.answer_to n c
unfolding call_refusal
same_call n (give list s room) =
    in_order_4 (bad_row n) (bad_number n list) (bad_event list s room) (names_twice list)
    ∙ (λ i. first_that_fits
    ((14, same_row n i) ∷ (15, same_number n list i) ∷ (16, same_event list s room i) ∷ (19, same_twice list i) ∷ []))
same_call n (tick quota room) =
    in_order_3 (bad_row n) (ltb room n) (bad_quota quota)
    ∙ (λ i. first_that_fits ((14, same_row n i) ∷ (16, ltb room n) ∷ (18, same_quota quota i) ∷ []))

in_order_2 : (a b : Bool) → pick a 14 (pick b 17 0) ≡ first_that_fits ((14, a) ∷ (17, b) ∷ [])
in_order_2 a b = simp same_choice

pub same_page : (drives bytes : ℕ) → page_refusal drives bytes ≡ first_that_fits (P.of_the_page drives bytes)
unfolding page_refusal
same_page drives bytes =
    in_order_2 (bad_row drives) (ltb bytes (29 * drives))
    ∙ (λ i. first_that_fits ((14, same_row drives i) ∷ (17, ltb bytes (29 * drives)) ∷ []))
