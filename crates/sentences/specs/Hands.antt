-- Proofs: what a host is handed.
use Rattle.std.specs.Prelude.{◌≡◌, refl, true, false, List, [], ◌∷◌, ◌++◌, ℕ, zero, suc, ◌+◌, ◌*◌, ◌/◌, ◌%◌, ◌≤◌, ◌<◌, min, length, take, drop}
use Rattle.std.proofs.Common.{arith, length-take, take-append-drop, take_at, drop_at}
use Rattle.event.specs.Records.{records_of}
use Rattle.answer.specs.Answer.{word_of, code_of, answer_of}
use Rattle.answer.specs.Laws.{Fits}
use Rattle.answer.specs.declared.Answer.{Answer}
use Rattle.answer.specs.declared.Answer.TheVariants.{No, Done, Par, At, Tick, Report}
use Rattle.damper.specs.declared.Outcome.{Outcome}
use Rattle.damper.specs.declared.Drive.{Drive}
use Rattle.damper.specs.Carry.{drive_after, answers_in}
use Rattle.host.specs.Host.{stepped}
use Rattle.replay.specs.Replay.{carried}
use Rattle.printer.specs.Page.{count_after, lines_after, page_after, answered}
use Rattle.printer.specs.Session.{given, kept, printed}
use Rattle.sentences.specs.Paper as P

pub same_word : (a : Answer) → word_of a ≡ (P.in_numbers a).0
same_word (No n) = refl
same_word Done = refl
same_word (Par v) = refl
same_word (At p c s) = refl
same_word (Tick p r m) = refl
same_word (Report p r m s) = refl

pub same_code : (a : Answer) → code_of a ≡ (P.in_numbers a).1
same_code (No n) = refl
same_code Done = refl
same_code (Par v) = refl
same_code (At p c s) = omega arith
same_code (Tick p r m) = omega arith
same_code (Report p r m s) = omega arith

-- the digits of base 256 of a number that has more, `k` of them
three : (f : ℕ → ℕ → ℕ → Answer) (k x y z : ℕ) → (x < 256) × (y < 256) × (z < 256)
    → (let n = 16777216 * k + (65536 * x + 256 * y + z) in f (n / 65536 % 256) (n / 256 % 256) (n % 256)) ≡ f x y z
three f k x y z h =
    let n = 16777216 * k + (65536 * x + 256 * y + z) in
    let x· : n / 65536 % 256 ≡ x = omega arith in
    let y· : n / 256 % 256 ≡ y = omega arith in
    let z· : n % 256 ≡ z = omega arith in
    rw (x·, y·, z·)

pub heard : (k : ℕ) (a : Answer) → P.Fits a → answer_of (P.in_numbers a).0 (P.how_many_codes a * k + (P.in_numbers a).1) ≡ a
heard k (No n) h = let e : (256 * k + n) % 256 ≡ n = omega arith in rw e
heard k Done h = refl
heard k (Par v) h = let e : (65536 * k + v) % 65536 ≡ v = omega arith in rw e
heard k (At p c s) h = three At k p c s h
heard k (Tick p r m) h = three Tick k p r m h
heard k (Report p r m s) h =
    let n = 4294967296 * k + (16777216 * p + 65536 * r + 256 * m + s) in
    let p· : n / 16777216 % 256 ≡ p = omega arith in
    let r· : n / 65536 % 256 ≡ r = omega arith in
    let m· : n / 256 % 256 ≡ m = omega arith in
    let s· : n % 256 ≡ s = omega arith in
    rw (p·, r·, m·, s·)

pub word_beyond : (w n : ℕ) → 5 ≤ w → answer_of w n ≡ answer_of 5 n
word_beyond zero n h = absurd (omega arith)
word_beyond (suc zero) n h = absurd (omega arith)
word_beyond (suc (suc zero)) n h = absurd (omega arith)
word_beyond (suc (suc (suc zero))) n h = absurd (omega arith)
word_beyond (suc (suc (suc (suc zero)))) n h = absurd (omega arith)
word_beyond (suc (suc (suc (suc (suc w))))) n h = refl

-- widths written a second time are those of the product
pub fits : (a : Answer) → P.Fits a → Fits a
fits (No n) h = h
fits Done h = h
fits (Par v) h = h
fits (At p c s) h = h
fits (Tick p r m) h = h
fits (Report p r m s) h = h

pub step_handed : (o : Outcome) → stepped o ≡ record { drive = o.drive; word = (P.in_numbers o.answer).0; code = (P.in_numbers o.answer).1 }
step_handed o = rw (same_word o.answer, same_code o.answer)

pub no_outcome : (d : Drive) → drive_after d [] ≡ d
unfolding drive_after
no_outcome d = refl

-- how many records a replay carries out, and which
pub replay_count : (s words codes : List ℕ) (n : ℕ) → P.Smallest (length (records_of s)) (length words) (length codes) n → length (carried s words codes) ≡ n
replay_count s words codes n x =
    simp length-take (least (length (records_of s)) (length words) (length codes) n x)
  where
    least : (a b c n : ℕ) → P.Smallest a b c n → min (min b c) a ≡ n
    least a b c n (P.the_first p q) = omega arith
    least a b c n (P.the_second p q) = omega arith
    least a b c n (P.the_third p q) = omega arith

pub replay_first : (s words codes : List ℕ) → carried s words codes ++ drop (min (length words) (length codes)) (records_of s) ≡ records_of s
replay_first s words codes = take-append-drop (min (length words) (length codes)) (records_of s)

-- the rows of a replay
pub no_answers : (number : Answer → ℕ) (row : List ℕ) → answers_in number [] row ≡ row
unfolding answers_in
no_answers number row = refl

pub more_answers : (number : Answer → ℕ) (o : Outcome) (os : List Outcome) (x : ℕ) (row : List ℕ)
    → answers_in number (o ∷ os) (x ∷ row) ≡ number o.answer ∷ answers_in number os row
unfolding answers_in
more_answers number o os x row = refl

-- what a turn of the program writes to its buffer
pub page_front : (n : ℕ) (os : List Outcome) (buf : List ℕ) → take (length (lines_after n os)) (page_after n os buf) ≡ lines_after n os
unfolding page_after
page_front n os buf = take_at (lines_after n os) _ _ refl

pub page_behind : (n : ℕ) (os : List Outcome) (buf : List ℕ)
    → drop (length (lines_after n os)) (page_after n os buf) ≡ drop (length (lines_after n os)) buf
unfolding page_after
page_behind n os buf = drop_at (lines_after n os) _ _ refl

pub turn_prints : (d : Drive) (n : ℕ) (k p buf : List ℕ) (ps : List (List ℕ))
    → (let os = given false d (k ++ p) in
    printed d n k (p ∷ ps)
    ≡ take (length (lines_after n os)) (page_after n os buf) ++ printed (drive_after d os) (count_after n os) (kept false (k ++ p)) ps)
unfolding printed
turn_prints d n k p buf ps = rw (page_front n (given false d (k ++ p)) buf)

pub last_turn_prints : (d : Drive) (n : ℕ) (k buf : List ℕ)
    → (let os = given true d k in printed d n k [] ≡ take (length (lines_after n os)) (page_after n os buf))
unfolding printed
last_turn_prints d n k buf = rw (page_front n (given true d k) buf)

pub answered_first : (s buf : List ℕ) → answered s buf ++ drop (length buf / 64) (records_of s) ≡ records_of s
answered_first s buf = take-append-drop (length buf / 64) (records_of s)
