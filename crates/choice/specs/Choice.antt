-- The choice of the code, on plain numbers.
use Rattle.std.specs.Prelude.{◌≡◌, Bool, true, false, not, ◌&&◌, List, ℕ, ◌+◌, ◌<◌, ◌≤◌, ltb, leb, length, get_or}
use Rattle.numbers.specs.Numbers.{pick}
use Rattle.numbers.specs.Places.{tabulate}
use Rattle.order.specs.Order.{larger_first, foremost}
use Rattle.order.specs.Keys.{key_of}
use Rattle.choice.specs.Sent.{report_at}

-- what stands for a drive until the choice is made, from whether it is due, its wait and its place: a key is a report's number by size
abbrev pub key_if : Bool → ℕ → ℕ → ℕ
key_if is_due wait i = pick is_due (65536 + key_of wait i) 0

abbrev pub number_in : List ℕ → ℕ → ℕ
number_in numbers i = get_or numbers i 0

-- what is asked of the first `n` numbers: no two reports among them are the same
pub record Distinct (numbers : List ℕ) (n : ℕ) : Type 0 where
  pub few : n ≤ 64
  pub room : n ≤ length numbers
  pub once : (i j : ℕ) → i < n → j < n → report_at numbers i ≡ true → number_in numbers i ≡ number_in numbers j → i ≡ j

-- the reports among the first `n` numbers lie from `low` on, and all numbers before `high`
pub record Spanned (numbers : List ℕ) (n low high : ℕ) : Type 0 where
  pub least : 65536 ≤ low
  pub above : (i : ℕ) → i < n → report_at numbers i ≡ true → low ≤ number_in numbers i
  pub below : (i : ℕ) → i < n → number_in numbers i < high

-- whether a report among the first `n` numbers goes: fewer larger ones than the quota go before it
abbrev pub goes : List ℕ → ℕ → ℕ → ℕ → Bool
goes numbers n quota i = foremost (larger_first (number_in numbers)) (report_at numbers) n quota i

-- the numbers with the reports that do not go set to 0, of the first `n`; and with those that are not larger than `bound`
unfoldable pub kept : List ℕ → ℕ → ℕ → List ℕ
kept numbers n quota =
    tabulate (length numbers) (λ i. pick (ltb i n && (report_at numbers i && not (goes numbers n quota i))) 0 (number_in numbers i))

unfoldable pub kept_above : List ℕ → ℕ → ℕ → List ℕ
kept_above numbers n bound =
    tabulate (length numbers) (λ i. pick (ltb i n && (report_at numbers i && leb (number_in numbers i) bound)) 0 (number_in numbers i))

-- the next report from `from` on, below `n`
pub record Next (numbers : List ℕ) (from n r : ℕ) : Type 0 where
  pub least : from ≤ r
  pub most : r ≤ n
  pub none : (i : ℕ) → from ≤ i → i < r → report_at numbers i ≡ false
  pub found : r < n → report_at numbers r ≡ true
