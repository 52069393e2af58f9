-- Document 02, W-208, 'Sharing the actuator bill': the call that shares a bill over the hall.
use Rattle.std.specs.Prelude.{not, ◌||◌, List, map, ℕ, ltb, eqb, length}
use Rattle.numbers.specs.Numbers.{pick}
use Rattle.damper.specs.declared.Drive.{Drive}
use Rattle.hall.specs.Hall.{bad_row}
use Rattle.bill.specs.Bill.{total_of, shares}

-- the counts of the drives: it "looks only at counts"
abbrev pub travels : List Drive → List ℕ
travels row = map (λ (d : Drive). d.travel) row

-- why a call is refused, with `places` in the row that is lent for the shares: "20 when the bill exceeds 1,000,000,000 cents or the share
-- row's length isn't the number of drives, after 14. 21 when no drive has moved"
unfoldable pub bill_refusal : List Drive → ℕ → ℕ → ℕ
bill_refusal row bill places =
    pick (bad_row (length row)) 14
    (pick (ltb 1000000000 bill || not (eqb places (length row))) 20 (pick (eqb (total_of (travels row)) 0) 21 0))

-- the row of shares after the call: "It fills a lent row of shares"; where it is refused it leaves "the row untouched"
unfoldable pub shares_after : List Drive → ℕ → List ℕ → List ℕ
shares_after row bill ws = pick (eqb (bill_refusal row bill (length ws)) 0) (shares bill (travels row)) ws
