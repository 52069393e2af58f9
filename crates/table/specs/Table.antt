-- Document 01, 'The drive record': the table of parameters, its range rule and its fresh values.
use Rattle.std.specs.Prelude.{Bool, true, false, ◌&&◌, List, [], ◌∷◌, ℕ, ◌+◌, leb, ltb, eqb, get_or, length}
use Rattle.numbers.specs.Numbers.{pick}
use Rattle.table.specs.declared.Row.{Row}

abbrev pub row : ℕ → ℕ → ℕ → ℕ → Row
row n l m f = record { number = n; least = l; most = m; fresh = f }

-- the table: number, least, most, fresh. In order: DamperMode, OpenCloseDirection, ActPosCOV, MinRepTime, BackupMode, BackupValue,
-- StartSynchronization, Timeout, RepPer, Rate, Low, High.
abbrev pub rows : List Row
rows =
    row 111 1 4 1
    ∷ row 115 0 1 0
    ∷ row 116 1 100 1
    ∷ row 117 1 3600 10
    ∷ row 120 0 1 0
    ∷ row 121 0 100 0
    ∷ row 122 0 2 0
    ∷ row 201 1 7200 1860
    ∷ row 202 1 7200 900
    ∷ row 203 1 255 5
    ∷ row 204 0 255 0
    ∷ row 205 0 255 255
    ∷ []

abbrev pub row_at : List Row → ℕ → Row
row_at l i = get_or l i (row 0 0 0 0)

-- the numbers of Rate, Low and High
abbrev pub rate_number : ℕ
rate_number = (row_at rows 9).number

abbrev pub low_number : ℕ
low_number = (row_at rows 10).number

abbrev pub high_number : ℕ
high_number = (row_at rows 11).number

-- the range rule: `v` lies from least to most
abbrev pub in_range : Row → ℕ → Bool
in_range r v = leb r.least v && leb v r.most

-- "each parameter is in range": as many values as rows, each in the range of its row
unfoldable pub all_in : List Row → List ℕ → Bool
all_in [] [] = true
all_in [] (v ∷ vs) = false
all_in (r ∷ rs) [] = false
all_in (r ∷ rs) (v ∷ vs) = in_range r v && all_in rs vs

-- the place of the row with number `n`, counted from `i`; past the last row where none has it
unfoldable pub place_from : List Row → ℕ → ℕ → ℕ
place_from [] i n = i
place_from (r ∷ rs) i n = let rest = place_from rs (i + 1) n in pick (eqb r.number n) i rest

abbrev pub place_of : ℕ → ℕ
place_of n = place_from rows 0 n

-- "a number of the table"
abbrev pub known : ℕ → Bool
known n = ltb (place_of n) (length rows)

-- `v` is not "outside the table" for the parameter with number `n`
abbrev pub takes : ℕ → ℕ → Bool
takes n v = known n && in_range (row_at rows (place_of n)) v

abbrev pub fresh_of : List Row → List ℕ
fresh_of [] = []
fresh_of (r ∷ rs) = r.fresh ∷ fresh_of rs

-- the row of fresh values
abbrev pub fresh_values : List ℕ
fresh_values = fresh_of rows

-- the parameters by name, out of a row of twelve values
-- 111
abbrev pub damper_mode : List ℕ → ℕ
damper_mode p = get_or p 0 0

-- 115
abbrev pub open_close_direction : List ℕ → ℕ
open_close_direction p = get_or p 1 0

-- 116, in percent
abbrev pub act_pos_cov : List ℕ → ℕ
act_pos_cov p = get_or p 2 0

-- 117, in s, a tick each
abbrev pub min_rep_time : List ℕ → ℕ
min_rep_time p = get_or p 3 0

-- 120
abbrev pub backup_mode : List ℕ → ℕ
backup_mode p = get_or p 4 0

-- 121, in percent
abbrev pub backup_value : List ℕ → ℕ
backup_value p = get_or p 5 0

-- 122
abbrev pub start_synchronization : List ℕ → ℕ
start_synchronization p = get_or p 6 0

-- 201, in s, a tick each
abbrev pub timeout : List ℕ → ℕ
timeout p = get_or p 7 0

-- 202, in s, a tick each
abbrev pub rep_per : List ℕ → ℕ
rep_per p = get_or p 8 0

-- 203, in position units a tick
abbrev pub rate : List ℕ → ℕ
rate p = get_or p 9 0

-- 204, a position
abbrev pub low : List ℕ → ℕ
low p = get_or p 10 0

-- 205, a position
abbrev pub high : List ℕ → ℕ
high p = get_or p 11 0
