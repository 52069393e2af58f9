-- Document 01, 'What the drive program prints': a line as its bytes, and where in a buffer it goes.
use Rattle.std.specs.Prelude.{◌≡◌, List, [], ◌∷◌, ◌++◌, map, Bool, ℕ, zero, suc, ◌+◌, ◌/◌, ◌%◌, leb, ltb, length, take, drop}
use Rattle.numbers.specs.Numbers.{pick}
use Rattle.answer.specs.Answer.{values_of}
use Rattle.answer.specs.declared.Answer.{Answer}
use Rattle.answer.specs.declared.Answer.TheVariants.{No, Done, Par, At, Tick, Report}

-- the decimal digits of a number in ASCII, the most significant first and no leading zero; `most` bounds how many
unfoldable pub digits_within : ℕ → ℕ → List ℕ
digits_within zero n = []
digits_within (suc most) n = pick (ltb n 10) ((48 + n) ∷ []) (digits_within most (n / 10) ++ ((48 + n % 10) ∷ []))

-- a number in decimal; n + 1 digits are always enough
unfoldable pub decimal : ℕ → List ℕ
decimal n = digits_within (suc n) n

-- "a space, then `ok`; `no N`; `par V`; `at P C S` ..; or `tick P R M S`": the space and the word
abbrev pub word : Answer → List ℕ
word (No n) = 32 ∷ 110 ∷ 111 ∷ []
word Done = 32 ∷ 111 ∷ 107 ∷ []
word (Par v) = 32 ∷ 112 ∷ 97 ∷ 114 ∷ []
word (At p c s) = 32 ∷ 97 ∷ 116 ∷ []
word (Tick p r m) = 32 ∷ 116 ∷ 105 ∷ 99 ∷ 107 ∷ []
word (Report p r m s) = 32 ∷ 116 ∷ 105 ∷ 99 ∷ 107 ∷ []

-- texts, each after a space
abbrev pub spaced : List (List ℕ) → List ℕ
spaced [] = []
spaced (t ∷ ts) = (32 ∷ t) ++ spaced ts

-- the values that follow the word, each after a space
abbrev pub spaced_values : List ℕ → List ℕ
spaced_values vs = spaced (map decimal vs)

-- "reported status or `-`": a tick with no report ends in a space and `-`
abbrev pub dash : Answer → List ℕ
dash (No n) = []
dash Done = []
dash (Par v) = []
dash (At p c s) = []
dash (Tick p r m) = 32 ∷ 45 ∷ []
dash (Report p r m s) = []

-- an answer's text
unfoldable pub text_of : Answer → List ℕ
text_of a = word a ++ (spaced_values (values_of a) ++ dash a)

-- "Each line is the record's count from 1", the answer's text, and a line feed
abbrev pub line_of : ℕ → Answer → List ℕ
line_of count a = decimal count ++ (text_of a ++ (10 ∷ []))

-- the buffer with these bytes from `at` on, and everything else kept
abbrev pub write_at : List ℕ → ℕ → List ℕ → List ℕ
write_at buf at bytes = take at buf ++ bytes ++ drop (at + length bytes) buf

-- what a function that writes these bytes leaves: the place after them, and the buffer
pub record Written (before after : List ℕ) (at end : ℕ) (bytes : List ℕ) : Type 0 where
  pub place : end ≡ at + length bytes
  pub buffer : after ≡ write_at before at bytes

-- the bytes that must be free for a line: more than any line has
abbrev pub room : ℕ
room = 64

abbrev pub room_at : List ℕ → ℕ → Bool
room_at buf at = leb (at + room) (length buf)

-- a line goes into the buffer where there is room; else the buffer is as it was
unfoldable pub put_line : List ℕ → ℕ → ℕ → Answer → List ℕ
put_line buf at count a = pick (room_at buf at) (write_at buf at (line_of count a)) buf

-- the place after the line, or `at` where it does not go in
unfoldable pub end_of : List ℕ → ℕ → ℕ → Answer → ℕ
end_of buf at count a = pick (room_at buf at) (at + length (line_of count a)) at
