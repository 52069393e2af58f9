-- Laws of a list of drive numbers: which it names, when one of them stands at two places of it, of a pass over it, and of the list of all
-- places.
use Rattle.std.specs.Prelude.{◌≡◌, refl, Bool, true, false, ◌||◌, List, [], ◌∷◌, ◌++◌, ℕ, zero, suc, ◌+◌, ◌<◌, ◌≤◌, eqb, length, get_or, take}
use Rattle.std.proofs.Common.{sym, ap, ◌∙◌, arith, not-suc-le-zero, le_of_suc-le-suc, add-one, take-suc, take_all, length-take-le, get_or-take, eqb-true, eq-eqb, ne_eqb}
use Rattle.std.proofs.Math.Bool.{or-true}
use Rattle.std.proofs.lemmas.Bool.{false≢true, eqb-false}
use Rattle.numbers.specs.Laws.{cases, or_swap, or_cross, eqb_swap}
use Rattle.numbers.specs.FlagLaws.{no_flag}
use Rattle.numbers.specs.Places.{places_from}
use Rattle.hall.specs.Hall.{named_in, names_twice}
use Rattle.hall.specs.Laws.{good_at}

-- A list names the numbers that stand at its places.
pub named_at : (list : List ℕ) (k : ℕ) → k < length list → named_in (get_or list k 0) list ≡ true
unfolding named_in
named_at [] k h = absurd (not-suc-le-zero h)
named_at (i ∷ list) zero h = ap (λ (b : Bool). b || named_in i list) (eq-eqb i i refl)
named_at (i ∷ list) (suc k) h = rw (named_at list k (le_of_suc-le-suc h)) (or-true (eqb i (get_or list k 0)))

pub named_place : (i : ℕ) (list : List ℕ) → named_in i list ≡ true → (k : ℕ) × (k < length list) × (get_or list k 0 ≡ i)
unfolding named_in
named_place i [] e = absurd (false≢true e)
named_place i (j ∷ list) e =
    cases (eqb j i)
    (λ q. (0, omega arith, eqb-true j i q))
    (λ q. let r = named_place i list (rw q at e) in (suc r.0, omega (arith, r.1), r.2))

-- It names a drive twice where one number stands at two places of it, and only there.
pub twice_by : (list : List ℕ) (j k : ℕ) → j < k → k < length list → get_or list j 0 ≡ get_or list k 0 → names_twice list ≡ true
unfolding names_twice
twice_by [] j k h l e = absurd (not-suc-le-zero l)
twice_by (i ∷ list) j zero h l e = absurd (not-suc-le-zero h)
twice_by (i ∷ list) zero (suc k) h l e =
    let again : named_in i list ≡ true = rw e (named_at list k (le_of_suc-le-suc l)) in
    ap (λ (b : Bool). b || names_twice list) again
twice_by (i ∷ list) (suc j) (suc k) h l e = rw (twice_by list j k (le_of_suc-le-suc h) (le_of_suc-le-suc l) e) (or-true (named_in i list))

pub twice_places : (list : List ℕ) → names_twice list ≡ true
    → (j : ℕ) × (k : ℕ) × (j < k) × (k < length list) × (get_or list j 0 ≡ get_or list k 0)
unfolding names_twice
twice_places [] e = absurd (false≢true e)
twice_places (i ∷ list) e =
    cases (named_in i list)
    (λ q. let r = named_place i list q in (0, suc r.0, omega arith, omega (arith, r.1), sym r.2))
    (λ q. let r = twice_places list (rw q at e) in (suc r.0, suc r.1, omega (arith, r.2), omega (arith, r.3), r.4))

-- A pass over the list, at its entry `k`: the numbers met are those before.

named_last : (i x : ℕ) (list : List ℕ) → named_in i (list ++ (x ∷ [])) ≡ (eqb x i || named_in i list)
unfolding named_in
named_last i x [] = refl
named_last i x (j ∷ list) = rw (named_last i x list) (or_swap (eqb j i) (eqb x i) (named_in i list))

pub met_more : (i k : ℕ) (list : List ℕ) → k < length list → named_in i (take (k + 1) list) ≡ (eqb (get_or list k 0) i || named_in i (take k list))
met_more i k list h = rw (add-one, take-suc list k 0 h) (named_last i (get_or list k 0) (take k list))

twice_last : (x : ℕ) (list : List ℕ) → names_twice (list ++ (x ∷ [])) ≡ (named_in x list || names_twice list)
unfolding named_in names_twice
twice_last x [] = refl
twice_last x (i ∷ list) =
    rw (named_last i x list, twice_last x list, eqb_swap i x) (or_cross (eqb x i) (named_in i list) (named_in x list) (names_twice list))

-- an entry that was met stands at two places
pub met_again : (k : ℕ) (list : List ℕ) → k < length list → named_in (get_or list k 0) (take k list) ≡ true → names_twice list ≡ true
met_again k list h e =
    let r = named_place (get_or list k 0) (take k list) e in
    let size = length-take-le k list (omega arith) in
    let before : r.0 < k = omega (arith, r.1, size) in
    twice_by list r.0 k before h (sym (get_or-take k list r.0 0 before) ∙ r.2)

-- one that was not leaves no number at two places
pub met_once : (k : ℕ) (list : List ℕ) → k < length list → names_twice (take k list) ≡ false → named_in (get_or list k 0) (take k list) ≡ false
    → names_twice (take (k + 1) list) ≡ false
met_once k list h n e = rw (add-one, take-suc list k 0 h, twice_last (get_or list k 0) (take k list), e, n)

-- what the pass is proved by
pub ruleset pass = (good_at, met_more, met_again, met_once, no_flag, take_all)

-- The list of all places names each of them once.

not_before : (i j n : ℕ) → i < j → named_in i (places_from j n) ≡ false
unfolding named_in
not_before i j zero h = refl
not_before i j (suc n) h = rw (ne_eqb j i (λ f. omega arith)) (not_before i (j + 1) n (omega arith))

pub places_named : (i j n : ℕ) → j ≤ i → i < j + n → named_in i (places_from j n) ≡ true
unfolding named_in
places_named i j zero l h = absurd (omega arith)
places_named i j (suc n) l h =
    cases (eqb j i) (λ q. rw q) (λ q. let other = eqb-false j i q in rw q (places_named i (j + 1) n (omega arith) (omega arith)))

pub places_once : (j n : ℕ) → names_twice (places_from j n) ≡ false
unfolding names_twice
places_once j zero = refl
places_once j (suc n) = rw (not_before j (j + 1) n (omega arith)) (places_once (j + 1) n)
