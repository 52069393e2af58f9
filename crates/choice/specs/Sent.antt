-- Which numbers of a hall tick are reports (document 02, W-201): after it they tell who was sent.
use Rattle.std.specs.Prelude.{Bool, List, ℕ, leb, get_or}

-- "65,536 + 256 × position + status for a report"
abbrev pub is_report_number : ℕ → Bool
is_report_number n = leb 65536 n

-- whether the number at place `i` is one
abbrev pub report_at : List ℕ → ℕ → Bool
report_at numbers i = is_report_number (get_or numbers i 0)
