-- Laws of the table: the range rule at each row, from one test of the whole table, and the search by number, which is the library's.
use Rattle.std.specs.Prelude.{◌≡◌, refl, Bool, true, false, ◌&&◌, List, [], ◌∷◌, map, ℕ, zero, suc, ◌+◌, ◌<◌, ◌≤◌, cond, Some, None, leb, ltb, eqb, length, get_or, set}
use Rattle.std.specs.List.{position_from, list_all, zip}
use Rattle.std.proofs.Common.{ap, subst, arith, not-suc-le-zero, le_of_suc-le-suc, eqb-true, leb-true, lt-ltb, le-ltb}
use Rattle.std.proofs.lemmas.Bool.{false≢true}
use Rattle.numbers.specs.Numbers.{pick}
use Rattle.numbers.specs.Laws.{and_left, and_right, and_intro}
use Rattle.table.specs.declared.Row.{Row}
use Rattle.table.specs.Table

-- a row of values that is in range has the table's length
pub all_length : (l : List Row) (p : List ℕ) → Table.all_in l p ≡ true → length p ≡ length l
unfolding Table.all_in
all_length [] [] e = refl
all_length [] (v ∷ p) e = absurd (false≢true e)
all_length (r ∷ l) [] e = absurd (false≢true e)
all_length (r ∷ l) (v ∷ p) e = ap suc (all_length l p (and_right (Table.in_range r v) _ e))

-- the range rule at each row, from the test of the whole table
pub range_at : (l : List Row) (p : List ℕ) (i : ℕ) → Table.all_in l p ≡ true → i < length l → Table.in_range (Table.row_at l i) (get_or p i 0) ≡ true
unfolding Table.all_in
range_at [] p i e h = absurd (not-suc-le-zero h)
range_at (r ∷ l) [] i e h = absurd (false≢true e)
range_at (r ∷ l) (v ∷ p) zero e h = and_left (Table.in_range r v) _ e
range_at (r ∷ l) (v ∷ p) (suc i) e h = range_at l p i (and_right (Table.in_range r v) _ e) (le_of_suc-le-suc h)

-- the bounds that the range rule gives
pub bounds : (r : Row) (v : ℕ) → Table.in_range r v ≡ true → (r.least ≤ v) × (v ≤ r.most)
bounds r v e = (leb-true _ _ (and_left (leb r.least v) _ e), leb-true _ _ (and_right (leb r.least v) _ e))

-- what inner functions ask of a row of values, and that a row in range has it
pub record Ranges (p : List ℕ) : Type 0 where
  pub backup : Table.backup_value p ≤ 100
  pub rate_least : 1 ≤ Table.rate p
  pub rate_most : Table.rate p ≤ 255
  pub low : Table.low p ≤ 255
  pub high : Table.high p ≤ 255

pub ranges : (p : List ℕ) → Table.all_in Table.rows p ≡ true → Ranges p
ranges p e =
    record {
      backup = most 5 (omega arith);
      rate_least = least 9 (omega arith);
      rate_most = most 9 (omega arith);
      low = most 10 (omega arith);
      high = most 11 (omega arith);
    }
  where
    least : (i : ℕ) → i < 12 → (Table.row_at Table.rows i).least ≤ get_or p i 0
    least i h = (bounds (Table.row_at Table.rows i) (get_or p i 0) (range_at Table.rows p i e h)).0

    most : (i : ℕ) → i < 12 → get_or p i 0 ≤ (Table.row_at Table.rows i).most
    most i h = (bounds (Table.row_at Table.rows i) (get_or p i 0) (range_at Table.rows p i e h)).1

-- one value changed within its range leaves all in range
pub all_set : (l : List Row) (p : List ℕ) (i v : ℕ) → Table.all_in l p ≡ true → Table.in_range (Table.row_at l i) v ≡ true → Table.all_in l (set p i v) ≡ true
unfolding Table.all_in
all_set [] [] i v e h = e
all_set [] (x ∷ p) i v e h = absurd (false≢true e)
all_set (r ∷ l) [] i v e h = absurd (false≢true e)
all_set (r ∷ l) (x ∷ p) zero v e h = and_intro h (and_right (Table.in_range r x) _ e)
all_set (r ∷ l) (x ∷ p) (suc i) v e h =
    and_intro (and_left (Table.in_range r x) _ e) (all_set l p i v (and_right (Table.in_range r x) _ e) h)

-- the search is the library's
pub place_from_is : (l : List Row) (i n : ℕ) → position_from (λ (r : Row). eqb r.number n) i l
    ≡ pick (ltb (Table.place_from l i n) (i + length l)) (Some (Table.place_from l i n)) None
unfolding Table.place_from
place_from_is [] i n = rw (le-ltb i (i + 0) (omega arith)) refl
place_from_is (r ∷ l) i n = go (eqb r.number n) (place_from_is l (i + 1) n)
  where
    go : (b : Bool)
        → position_from (λ (r : Row). eqb r.number n) (i + 1) l
        ≡ pick (ltb (Table.place_from l (i + 1) n) (i + 1 + length l)) (Some (Table.place_from l (i + 1) n)) None
        → cond b (Some i) (position_from (λ (r : Row). eqb r.number n) (i + 1) l)
        ≡ pick (ltb (pick b i (Table.place_from l (i + 1) n)) (i + suc (length l))) (Some (pick b i (Table.place_from l (i + 1) n))) None
    go true h = rw (lt-ltb i (i + suc (length l)) (omega arith)) refl
    go false h =
        let e : i + suc (length l) ≡ i + 1 + length l = omega arith in
        rw e h

pub place_of_is : (n : ℕ) → position_from (λ (r : Row). eqb r.number n) 0 Table.rows ≡ pick (Table.known n) (Some (Table.place_of n)) None
place_of_is n = place_from_is Table.rows 0 n

-- the test of the whole table is the library's over the rows beside their values
pub all_in_is : (l : List Row) (p : List ℕ) → length p ≡ length l → list_all (λ (q : Row × ℕ). Table.in_range q.0 q.1) (zip l p) ≡ Table.all_in l p
unfolding Table.all_in
all_in_is [] [] e = refl
all_in_is [] (v ∷ p) e = absurd (omega arith)
all_in_is (r ∷ l) [] e = absurd (omega arith)
all_in_is (r ∷ l) (v ∷ p) e = ap (λ b. Table.in_range r v && b) (all_in_is l p (omega arith))

-- the named places are those of the numbers
pub places : map Table.place_of (111 ∷ 115 ∷ 116 ∷ 117 ∷ 120 ∷ 121 ∷ 122 ∷ 201 ∷ 202 ∷ 203 ∷ 204 ∷ 205 ∷ []) ≡ (0 ∷ 1 ∷ 2 ∷ 3 ∷ 4 ∷ 5 ∷ 6 ∷ 7 ∷ 8 ∷ 9 ∷ 10 ∷ 11 ∷ [])
unfolding Table.place_from
places = refl

-- what holds of each row's number holds of every number of the table
abbrev pub EachNumber : (ℕ → Type 0) → List Row → Type 0
EachNumber P [] = Unit {0}
EachNumber P (r ∷ l) = P r.number × EachNumber P l

pub by_number : (P : ℕ → Type 0) (l : List Row) (i n : ℕ) → EachNumber P l → Table.place_from l i n < i + length l → P n
unfolding Table.place_from
by_number P [] i n ps h = absurd (omega arith)
by_number P (r ∷ l) i n ps h = go (eqb r.number n) refl h (λ k. by_number P l (i + 1) n ps.1 k)
  where
    go : (b : Bool) → eqb r.number n ≡ b → pick b i (Table.place_from l (i + 1) n) < i + suc (length l)
        → (Table.place_from l (i + 1) n < i + 1 + length l → P n) → P n
    go true e h ih = subst P (eqb-true _ n e) ps.0
    go false e h ih = ih (omega arith)
