-- Documents 01 and 02: the number of each refusal.
use Rattle.std.specs.Prelude.{ℕ, Result, Ok, Err}
use Rattle.answer.specs.declared.refusal.Refusal.{Refusal}
use Rattle.answer.specs.declared.refusal.Refusal.TheVariants.{Record, Length, Mark, Kind, Unused, Value, Command, Percent, Property, Range, LowAboveHigh, RateInRun, Blocked, Row, Number, Call, Page, Quota, Twice, Bill, Unmoved}

abbrev pub number : Refusal → ℕ
number Record = 1
number Length = 2
number Mark = 3
number Kind = 4
number Unused = 5
number Value = 6
number Command = 7
number Percent = 8
number Property = 9
number Range = 10
number LowAboveHigh = 11
number RateInRun = 12
number Blocked = 13
number Row = 14
number Number = 15
number Call = 16
number Page = 17
number Quota = 18
number Twice = 19
number Bill = 20
number Unmoved = 21

-- 0 where nothing is refused, and otherwise the refusal's number
abbrev pub refused_by : {A : Type 0} → Result A Refusal → ℕ
refused_by (Ok a) = 0
refused_by (Err r) = number r
