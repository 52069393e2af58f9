-- The tally of the code as the number that stands for it.
use Rattle.std.specs.Prelude.{ℕ, ◌+◌, ◌*◌}
use Rattle.bill.specs.declared.Tally.{Tally}

-- 128 for each unit moved, and one for each drive before the first that has moved
abbrev pub packed : Tally → ℕ
packed t = 128 * t.total + t.first
