-- Laws of the records of a row of bytes.
use Rattle.std.specs.Prelude.{◌≡◌, refl, List, [], ◌∷◌, ◌++◌, ℕ, zero, suc, ◌+◌, ◌*◌, ◌-◌, ◌<◌, ◌≤◌, min, length, take, drop}
use Rattle.std.proofs.Common.{sym, ap, ◌∙◌, arith, not-suc-le-zero, drop_of_length-le, take-append-drop, length-take, length-drop, drop-drop, take_at, drop_at}
use Rattle.std.proofs.Math.Seq.{take-nil}
use Rattle.event.specs.Records.{records_of}

-- a row that is not empty: its first six bytes, or fewer where it has fewer, and the records of the rest
records_cons : (s : List ℕ) → 0 < length s → records_of s ≡ take 6 s ∷ records_of (drop 6 s)
unfolding records_of
records_cons [] h = absurd (not-suc-le-zero h)
records_cons (a ∷ []) h = refl
records_cons (a ∷ b ∷ []) h = refl
records_cons (a ∷ b ∷ c ∷ []) h = refl
records_cons (a ∷ b ∷ c ∷ d ∷ []) h = refl
records_cons (a ∷ b ∷ c ∷ d ∷ e ∷ []) h = refl
records_cons (a ∷ b ∷ c ∷ d ∷ e ∷ f ∷ s) h = refl

-- `n` elements or fewer, where there are fewer, said by their number
take_count : (n m : ℕ) (l : List ℕ) → length (take n l) ≡ m → take m l ≡ take n l
take_count n m l e = ap (take m) (sym (take-append-drop n l)) ∙ take_at (take n l) (drop n l) m e

drop_count : (n m : ℕ) (l : List ℕ) → length (take n l) ≡ m → drop m l ≡ drop n l
drop_count n m l e = ap (drop m) (sym (take-append-drop n l)) ∙ drop_at (take n l) (drop n l) m e

-- the records left at place `at` of the bytes: none, or one and those behind it
pub left_none : (n : ℕ) (s : List ℕ) (at : ℕ) → length s ≤ at → take n (records_of (drop at s)) ≡ []
unfolding records_of
left_none n s at h = rw (drop_of_length-le s h) (take-nil n)

pub left_more : (room i : ℕ) (s : List ℕ) (at m : ℕ) → i < room → at < length s → m ≡ min (length s - at) 6
    → take (room - i) (records_of (drop at s)) ≡ take m (drop at s) ∷ take (room - (i + 1)) (records_of (drop (at + m) s))
left_more room i s at m h k e =
    let more : room - i ≡ suc (room - (i + 1)) = omega arith in
    let size : length (take 6 (drop at s)) ≡ m = simp (length-take, length-drop) (omega arith) in
    rw (records_cons (drop at s) (simp length-drop (omega arith)), more, ← drop-drop m at s, take_count 6 m (drop at s) size, drop_count 6 m (drop at s) size)

-- whole records, and then any bytes
pub records_append : (k : ℕ) (s t : List ℕ) → length s ≡ 6 * k → records_of (s ++ t) ≡ records_of s ++ records_of t
unfolding records_of
records_append zero [] t h = refl
records_append zero (a ∷ s) t h = absurd (omega arith)
records_append (suc k) [] t h = absurd (omega arith)
records_append (suc k) (a ∷ []) t h = absurd (omega arith)
records_append (suc k) (a ∷ b ∷ []) t h = absurd (omega arith)
records_append (suc k) (a ∷ b ∷ c ∷ []) t h = absurd (omega arith)
records_append (suc k) (a ∷ b ∷ c ∷ d ∷ []) t h = absurd (omega arith)
records_append (suc k) (a ∷ b ∷ c ∷ d ∷ e ∷ []) t h = absurd (omega arith)
records_append (suc k) (a ∷ b ∷ c ∷ d ∷ e ∷ f ∷ s) t h =
    ap (λ (l : List (List ℕ)). (a ∷ b ∷ c ∷ d ∷ e ∷ f ∷ []) ∷ l) (records_append k s t (omega arith))

-- six bytes make one record at most
pub records_fit : (k : ℕ) (s : List ℕ) → length s ≤ 6 * k → length (records_of s) ≤ k
unfolding records_of
records_fit k [] h = omega arith
records_fit zero (a ∷ s) h = absurd (omega arith)
records_fit (suc k) (a ∷ []) h = omega arith
records_fit (suc k) (a ∷ b ∷ []) h = omega arith
records_fit (suc k) (a ∷ b ∷ c ∷ []) h = omega arith
records_fit (suc k) (a ∷ b ∷ c ∷ d ∷ []) h = omega arith
records_fit (suc k) (a ∷ b ∷ c ∷ d ∷ e ∷ []) h = omega arith
records_fit (suc k) (a ∷ b ∷ c ∷ d ∷ e ∷ f ∷ s) h = let r = records_fit k s (omega arith) in omega arith
