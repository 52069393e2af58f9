-- Closed rows: lists of readings to a record, and the answers, by computation. A float that is no whole number stands as its bit pattern.
use Rattle.std.specs.Prelude.{◌≡◌, refl, false, List, [], ◌∷◌, ◌++◌, ℕ, replicate, pos, Float}
use Rattle.std.specs.Float.{nan, inf, fin, binary32}
use Rattle.std.specs.Float.Ieee.{of_bits, neg}
use Rattle.flow.specs.declared.Reading.{Reading}
use Rattle.flow.specs.declared.Reading.TheVariants.{Flow, Share, Broken}
use Rattle.flow.specs.declared.FlowRecord.{FlowRecord}
use Rattle.flow.specs.Answer.{FlowAnswer, No, Silent, Report}
use Rattle.flow.specs.Flow.{whole, fresh_record, hear_of}
use Rattle.flow.specs.Closed.{computation}

abbrev f32 : ℕ → Float
f32 b = of_bits binary32 b

-- zero with the sign set, the smallest float above zero, and the next above 1,000,000
abbrev minus_zero : Float
minus_zero = f32 0x80000000

abbrev smallest : Float
smallest = f32 1

abbrev past_million : Float
past_million = f32 0x49742401

-- the answers to a list of readings
unfoldable pub answers : FlowRecord → List Reading → List FlowAnswer
answers r [] = []
answers r (got ∷ l) = (hear_of r got).answer ∷ answers (hear_of r got).state l

pub record Row : Type 0 where
  pub box : FlowRecord
  pub readings : List Reading
  pub gives : List FlowAnswer

abbrev row : FlowRecord → List Reading → List FlowAnswer → Row
row r l a = record { box = r; readings = l; gives = a }

abbrev box : ℕ → ℕ → ℕ → FlowRecord
box nominal cov time = fresh_record (whole nominal) (whole cov) time

abbrev with : Float → Float → Float → ℕ → ℕ → FlowRecord
with nominal cov last time sent = record { nominal = nominal; cov = cov; last = last; time = time; since = 65535; sent = sent }

-- nothing is due before the time
unfoldable pub time : List Row
time =
    row (box 100 1 10) (replicate 10 (Flow (whole 50))) (replicate 9 Silent ++ (Report (whole 50) 50 ∷ []))
    ∷ []

-- broken counts a tick, what is refused does not
unfoldable pub ticks : List Row
ticks =
    row (box 100 1 2) (Broken ∷ Flow (whole 5) ∷ []) (Silent ∷ Report (whole 5) 5 ∷ [])
    ∷ row (box 100 1 2) (Flow nan ∷ Share (whole 2) ∷ Flow (inf false) ∷ Flow (neg (whole 1)) ∷ Flow (whole 5) ∷ Flow (whole 5) ∷ [])
    (No 23 ∷ No 23 ∷ No 23 ∷ No 23 ∷ Silent ∷ Report (whole 5) 5 ∷ [])
    ∷ []

-- the difference is from the last flow sent and not from the reading before; at least is enough
unfoldable pub difference : List Row
difference =
    row (box 100 5 1) (Flow (whole 50) ∷ Flow (whole 53) ∷ Flow (whole 55) ∷ Flow (whole 51) ∷ Flow (whole 50) ∷ [])
    (Report (whole 50) 50 ∷ Silent ∷ Report (whole 55) 55 ∷ Silent ∷ Report (whole 50) 50 ∷ [])
    ∷ []

-- it is rounded: 1,000,000 less the smallest float is 1,000,000
unfoldable pub rounded : List Row
rounded =
    row (box 1 1000000 1) (Flow (whole 1000000) ∷ Flow smallest ∷ []) (Report (whole 1000000) 100 ∷ Report smallest 0 ∷ [])
    ∷ []

-- 0.53 and 0.59 of nominal 1 show 52 and 58, of nominal 1000 they are 530 and 590 and show 53 and 59
unfoldable pub percents : List Row
percents =
    row (box 1 1 1) (Share (f32 0x3f07ae14) ∷ []) (Report (f32 0x3f07ae14) 52 ∷ [])
    ∷ row (box 1 1 1) (Share (f32 0x3f170a3d) ∷ []) (Report (f32 0x3f170a3d) 58 ∷ [])
    ∷ row (box 1000 1 1) (Share (f32 0x3f07ae14) ∷ []) (Report (fin false 265 (pos 1)) 53 ∷ [])
    ∷ row (box 1000 1 1) (Share (f32 0x3f170a3d) ∷ []) (Report (fin false 295 (pos 1)) 59 ∷ [])
    ∷ []

-- both ends are in, and zero keeps its sign
unfoldable pub ends : List Row
ends =
    row (box 1000000 1 1) (Share (whole 1) ∷ Share (whole 0) ∷ []) (Report (whole 1000000) 100 ∷ Report (whole 0) 0 ∷ [])
    ∷ row (box 1 1 1) (Flow minus_zero ∷ Flow (whole 0) ∷ []) (Report minus_zero 0 ∷ Silent ∷ [])
    ∷ row (box 1000 1 1) (Share minus_zero ∷ []) (Report minus_zero 0 ∷ [])
    ∷ row (box 1 1 1) (Flow past_million ∷ Share (f32 0x3f800001) ∷ Share nan ∷ []) (No 23 ∷ No 23 ∷ No 23 ∷ [])
    ∷ []

-- 22 before 23
unfoldable pub refused : List Row
refused =
    row (box 1 1 0) (Flow nan ∷ []) (No 22 ∷ [])
    ∷ row (box 1 1 3601) (Broken ∷ []) (No 22 ∷ [])
    ∷ row (box 0 1 1) (Broken ∷ []) (No 22 ∷ [])
    ∷ row (fresh_record nan (whole 1) 1) (Broken ∷ []) (No 22 ∷ [])
    ∷ row (fresh_record (whole 1) (inf false) 1) (Broken ∷ []) (No 22 ∷ [])
    ∷ row (fresh_record past_million (whole 1) 1) (Broken ∷ []) (No 22 ∷ [])
    ∷ row (fresh_record (whole 1) (f32 0x3f7fffff) 1) (Broken ∷ []) (No 22 ∷ [])
    ∷ row (with (whole 1) (whole 1) nan 1 1) (Broken ∷ []) (No 22 ∷ [])
    ∷ row (with (whole 1) (whole 1) past_million 1 0) (Broken ∷ []) (No 22 ∷ [])
    ∷ row (with (whole 1) (whole 1) (whole 0) 1 2) (Broken ∷ []) (No 22 ∷ [])
    ∷ []

-- a last flow beside nothing sent is taken and not looked at; since stops at 65,535
unfoldable pub last : List Row
last =
    row (with (whole 100) (whole 50) (whole 7) 3600 0) (Broken ∷ Flow (whole 7) ∷ []) (Silent ∷ Report (whole 7) 7 ∷ [])
    ∷ []

-- what the flow box answers to each row, and what the row says
unfoldable pub answers_in : List Row → List (List FlowAnswer)
answers_in [] = []
answers_in (r ∷ l) = answers r.box r.readings ∷ answers_in l

unfoldable pub gives_in : List Row → List (List FlowAnswer)
gives_in [] = []
gives_in (r ∷ l) = r.gives ∷ gives_in l

pub time_rows : answers_in time ≡ gives_in time
unfolding computation answers answers_in gives_in time
time_rows = refl

pub ticks_rows : answers_in ticks ≡ gives_in ticks
unfolding computation answers answers_in gives_in ticks
ticks_rows = refl

pub difference_rows : answers_in difference ≡ gives_in difference
unfolding computation answers answers_in gives_in difference
difference_rows = refl

pub rounded_rows : answers_in rounded ≡ gives_in rounded
unfolding computation answers answers_in gives_in rounded
rounded_rows = refl

pub percents_rows : answers_in percents ≡ gives_in percents
unfolding computation answers answers_in gives_in percents
percents_rows = refl

pub ends_rows : answers_in ends ≡ gives_in ends
unfolding computation answers answers_in gives_in ends
ends_rows = refl

pub refused_rows : answers_in refused ≡ gives_in refused
unfolding computation answers answers_in gives_in refused
refused_rows = refl

pub last_rows : answers_in last ≡ gives_in last
unfolding computation answers answers_in gives_in last
last_rows = refl
