-- Document 02, W-208, 'Sharing the actuator bill': the shares of a bill in whole cents, by the travel counts of the drives.
use Rattle.std.specs.Prelude.{Bool, List, ℕ, ◌+◌, ◌-◌, ◌*◌, ◌/◌, ◌%◌, length, get_or}
use Rattle.numbers.specs.Numbers.{pick}
use Rattle.numbers.specs.Places.{tabulate}
use Rattle.order.specs.Order.{larger_first, anyone, foremost}
use Rattle.bill.specs.Sums.{sum_below}

-- the count of a drive, and all counts together
abbrev pub count_in : List ℕ → ℕ → ℕ
count_in counts i = get_or counts i 0

abbrev pub total_of : List ℕ → ℕ
total_of counts = sum_below (length counts) (count_in counts)

-- "each gets the rounded-down share by travel", and what rounding down leaves of it
abbrev pub part : ℕ → List ℕ → ℕ → ℕ
part bill counts i = bill * count_in counts i / total_of counts

abbrev pub remainder : ℕ → List ℕ → ℕ → ℕ
remainder bill counts i = bill * count_in counts i % total_of counts

-- "left-over cents": the bill without those parts
abbrev pub left_over : ℕ → List ℕ → ℕ
left_over bill counts = bill - sum_below (length counts) (part bill counts)

-- ".. go one each to the largest remainders, lower number first": whether the drive `i` gets one of them
abbrev pub gets_one : ℕ → List ℕ → ℕ → Bool
gets_one bill counts i = foremost (larger_first (remainder bill counts)) anyone (length counts) (left_over bill counts) i

abbrev pub share_of : ℕ → List ℕ → ℕ → ℕ
share_of bill counts i = part bill counts i + pick (gets_one bill counts i) 1 0

-- the shares of all drives
unfoldable pub shares : ℕ → List ℕ → List ℕ
shares bill counts = tabulate (length counts) (share_of bill counts)
