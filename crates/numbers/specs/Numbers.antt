-- The small words that the definitions of drive and hall are written in.
use Rattle.std.specs.Prelude.{Bool, true, false, ℕ, ◌+◌, ◌-◌, ◌/◌, ◌%◌, ◌^◌, min, leb, eqb}

-- `a` where the flag is set, else `b`
abbrev pub pick : {A : Type 0} → Bool → A → A → A
pick true a b = a
pick false a b = b

-- a flag held as a byte: set at 1, not set at 0, and no flag above
abbrev pub on : ℕ → Bool
on f = eqb f 1

abbrev pub is_flag : ℕ → Bool
is_flag f = leb f 1

-- the weight `w` where the flag is set, else 0
abbrev pub bit : Bool → ℕ → ℕ
bit c w = pick c w 0

-- flags held in one number: the flag `i` is its binary digit `i`, the lowest being 0
abbrev pub flag_at : ℕ → ℕ → Bool
flag_at flags i = on (flags / 2 ^ i % 2)

-- how far `a` and `b` are apart
abbrev pub distance : ℕ → ℕ → ℕ
distance a b = (a - b) + (b - a)

-- one more, for a count that stops at 65,535
abbrev pub next : ℕ → ℕ
next n = min (n + 1) 65535

-- `n` more, for a count that stops at 4,294,967,295
abbrev pub counted : ℕ → ℕ → ℕ
counted count n = min (count + n) 4294967295
