-- Laws of the printed line: decimal digits one by one, how many there are, and one write after another.
use Rattle.std.specs.Prelude.{◌≡◌, refl, Bool, true, false, List, [], ◌∷◌, ◌++◌, ℕ, zero, suc, ◌+◌, ◌*◌, ◌/◌, ◌%◌, ◌^◌, ◌≤◌, ◌<◌, ltb, length, take, drop, set}
use Rattle.std.proofs.Common.{sym, ap, ◌∙◌, append_assoc, append-nil, arith, add_assoc, add-zero, add-one, lt-ltb, le-ltb, ltb-true, ltb-false, length-append, take-append-drop, length-take-le, take_at, drop_at, drop-drop}
use Rattle.std.proofs.Math.Nat.{pow-succ'}
use Rattle.std.proofs.lemmas.List.{set_split}
use Rattle.numbers.specs.Laws.{cases}
use Rattle.answer.specs.declared.Answer.TheVariants.{No, Done, Par, At, Tick, Report}
use Rattle.line.specs.Line as L

pub spaced_append : (vs ws : List ℕ) → L.spaced_values (vs ++ ws) ≡ L.spaced_values vs ++ L.spaced_values ws
spaced_append [] ws = refl
spaced_append (v ∷ vs) ws = rw (spaced_append vs ws, append_assoc (L.decimal v))

-- a bound above the number gives its digits whole, so any two such bounds give the same
within_step : (k j n : ℕ) → (10 ≤ n → L.digits_within k (n / 10) ≡ L.digits_within j (n / 10)) → L.digits_within (suc k) n ≡ L.digits_within (suc j) n
unfolding L.digits_within
within_step k j n e = go (ltb n 10) refl
  where
    go : (t : Bool) → ltb n 10 ≡ t → L.digits_within (suc k) n ≡ L.digits_within (suc j) n
    go true t = rw t
    go false t = rw (t, e (ltb-false n 10 t))

within_any : (k j n : ℕ) → n < k → n < j → L.digits_within k n ≡ L.digits_within j n
within_any zero j n a b = absurd (omega arith)
within_any (suc k) zero n a b = absurd (omega arith)
within_any (suc k) (suc j) n a b = within_step k j n (λ h. within_any k j (n / 10) (omega arith) (omega arith))

pub decimal_small : (n : ℕ) → n < 10 → L.decimal n ≡ (48 + n) ∷ []
unfolding L.decimal L.digits_within
decimal_small n h = rw (lt-ltb n 10 h)

pub decimal_more : (n : ℕ) → 10 ≤ n → L.decimal n ≡ L.decimal (n / 10) ++ ((48 + n % 10) ∷ [])
unfolding L.decimal L.digits_within
decimal_more n h = rw (le-ltb n 10 h) (rw (within_any n (suc (n / 10)) (n / 10) (omega arith) (omega arith)))

-- how many digits there are
pub digits_one : (n : ℕ) → n < 10 → length (L.decimal n) ≡ 1
digits_one n h = ap length (decimal_small n h)

pub digits_more : (n : ℕ) → 10 ≤ n → length (L.decimal n) ≡ length (L.decimal (n / 10)) + 1
digits_more n h = ap length (decimal_more n h) ∙ length-append (L.decimal (n / 10)) _

pub digits_some : (n : ℕ) → 1 ≤ length (L.decimal n)
digits_some n = cases (ltb n 10) (λ t. omega (arith, digits_one n (ltb-true n 10 t))) (λ t. omega (arith, digits_more n (ltb-false n 10 t)))

-- a number below a power of ten has no more digits than the power says
length_step : (k n : ℕ) → (10 ≤ n → length (L.decimal (n / 10)) ≤ k) → length (L.decimal n) ≤ suc k
length_step k n e =
    cases (ltb n 10)
    (λ t. omega (arith, digits_one n (ltb-true n 10 t)))
    (λ t. let h : 10 ≤ n = ltb-false n 10 t in omega (arith, digits_more n h, e h))

pub decimal_length : (k n : ℕ) → n < 10 ^ k → 1 ≤ k → length (L.decimal n) ≤ k
decimal_length zero n h l = absurd (omega arith)
decimal_length (suc zero) n h l = length_step zero n (λ g. absurd (omega arith))
decimal_length (suc (suc k)) n h l =
    let m : n < 10 * 10 ^ suc k = rw (pow-succ' 10 (suc k)) at h in
    length_step (suc k) n (λ g. decimal_length (suc k) (n / 10) (omega arith) (omega arith))

-- a byte has at most three digits, a value of 16 bits at most five, a count of 64 bits at most twenty
pub byte_digits : (v : ℕ) → v < 256 → length (L.decimal v) ≤ 3
byte_digits v h = decimal_length 3 v (omega arith) (omega arith)

pub value_digits : (v : ℕ) → v < 65536 → length (L.decimal v) ≤ 5
value_digits v h = decimal_length 5 v (omega arith) (omega arith)

pub count_digits : (n : ℕ) → n < 18446744073709551616 → length (L.decimal n) ≤ 20
count_digits n h = decimal_length 20 n (omega arith) (omega arith)

-- a store is a write of one byte
pub write_byte : (d : List ℕ) (at b : ℕ) → at < length d → set d at b ≡ L.write_at d at (b ∷ [])
write_byte d at b h = rw (set_split d at b, append_assoc, add-one)

-- one write after another is a write of both
pub write_write : (d : List ℕ) (at : ℕ) (xs ys : List ℕ) → at + length xs ≤ length d
    → L.write_at (L.write_at d at xs) (at + length xs) ys ≡ L.write_at d at (xs ++ ys)
write_write d at xs ys h =
    let n : ℕ = at + length xs in
    let p : List ℕ = take at d ++ xs in
    let w : List ℕ = p ++ drop n d in
    let l : length p ≡ n = simp length-append (omega (arith, length-take-le at d (omega arith))) in
    ap (λ (t : List ℕ). t ++ ys ++ drop (n + length ys) w) (take_at p (drop n d) n l)
    ∙ ap (λ (t : List ℕ). p ++ ys ++ t) (sym (drop-drop (length ys) n w) ∙ ap (λ (t : List ℕ). drop (length ys) t) (drop_at p (drop n d) n l) ∙ drop-drop (length ys) n d)
    ∙ simp (append_assoc, length-append, add_assoc)

-- what one function and then another has written, up to a place within the buffer
pub after_that : {d e f : List ℕ} {at p q : ℕ} {xs ys : List ℕ} → L.Written d e at p xs → L.Written e f p q ys → p ≤ length d
    → L.Written d f at q (xs ++ ys)
after_that {d} {e} {f} {at} {p} {q} {xs} {ys} v w h =
    record {
      place = rw (length-append xs ys) (omega (arith, v.place, w.place));
      buffer = w.buffer ∙ rw (v.buffer, v.place) (write_write d at xs ys (omega (arith, v.place)));
    }
