-- Document 01, 'What the drive program prints': an answer's number and values.
use Rattle.std.specs.Prelude.{Bool, true, false, List, [], ◌∷◌, ℕ, zero, suc, ◌+◌, ◌*◌, ◌/◌, ◌%◌}
use Rattle.answer.specs.declared.Answer.{Answer}
use Rattle.answer.specs.declared.Answer.TheVariants.{No, Done, Par, At, Tick, Report}

-- the number of the refusal, N of `no N`; 0 for an accepted event
abbrev pub number_of : Answer → ℕ
number_of (No n) = n
number_of Done = 0
number_of (Par v) = 0
number_of (At p c s) = 0
number_of (Tick p r m) = 0
number_of (Report p r m s) = 0

-- the values of the printed line after its word, in order: `no N`, `ok`, `par V`, `at P C S`, `tick P R M -`, `tick P R M S`
abbrev pub values_of : Answer → List ℕ
values_of (No n) = n ∷ []
values_of Done = []
values_of (Par v) = v ∷ []
values_of (At p c s) = p ∷ c ∷ s ∷ []
values_of (Tick p r m) = p ∷ r ∷ m ∷ []
values_of (Report p r m s) = p ∷ r ∷ m ∷ s ∷ []

-- an answer as two numbers: its word, 0 `no`, 1 `ok`, 2 `par`, 3 `at`, 4 `tick` with `-`, 5 `tick` with a status, and its values,
-- each but the first a digit of base 256 behind the one before
abbrev pub word_of : Answer → ℕ
word_of (No n) = 0
word_of Done = 1
word_of (Par v) = 2
word_of (At p c s) = 3
word_of (Tick p r m) = 4
word_of (Report p r m s) = 5

abbrev pub packed_after : ℕ → List ℕ → ℕ
packed_after n [] = n
packed_after n (v ∷ vs) = packed_after (256 * n + v) vs

abbrev pub packed : List ℕ → ℕ
packed [] = 0
packed (v ∷ vs) = packed_after v vs

abbrev pub code_of : Answer → ℕ
code_of a = packed (values_of a)

-- the answer with this word and these values; every word from 5 on is a `tick` with a status
abbrev pub answer_of : ℕ → ℕ → Answer
answer_of zero n = No (n % 256)
answer_of (suc zero) n = Done
answer_of (suc (suc zero)) n = Par (n % 65536)
answer_of (suc (suc (suc zero))) n = At (n / 65536 % 256) (n / 256 % 256) (n % 256)
answer_of (suc (suc (suc (suc zero)))) n = Tick (n / 65536 % 256) (n / 256 % 256) (n % 256)
answer_of (suc (suc (suc (suc (suc w))))) n = Report (n / 16777216 % 256) (n / 65536 % 256) (n / 256 % 256) (n % 256)

-- "a spontaneous report is any answer of the tick's form with a status"
abbrev pub is_report : Answer → Bool
is_report (No n) = false
is_report Done = false
is_report (Par v) = false
is_report (At p c s) = false
is_report (Tick p r m) = false
is_report (Report p r m s) = true
