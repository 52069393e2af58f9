-- Wrong ways to share a bill over a hall (W-208), each with a hall of which document 02 says otherwise.
use Rattle.std.specs.Prelude.{◌≡◌, refl, Bool, not, ◌&&◌, ◌||◌, List, [], ◌∷◌, map, ℕ, ◌+◌, ◌*◌, ◌/◌, ◌%◌, ◌^◌, ltb, leb, eqb, length, replicate}
use Rattle.numbers.specs.Numbers.{pick, bit}
use Rattle.numbers.specs.Every.{Every}
use Rattle.numbers.specs.Places.{tabulate}
use Rattle.table.specs.Table.{fresh_values}
use Rattle.rules.specs.declared.Commands.{Commands}
use Rattle.rules.specs.Commands.{no_commands, interlocked}
use Rattle.damper.specs.declared.Drive.{Drive}
use Rattle.damper.specs.Record.{drive, last, no_run}
use Rattle.damper.specs.WellFormed.{well_formed}
use Rattle.hall.specs.Hall.{bad_row}
use Rattle.order.specs.Order.{larger_first, anyone, foremost}
use Rattle.bill.specs.Bill.{count_in, total_of, part, remainder, left_over, shares}
use Rattle.hall_bill.specs.Closed as Bill
use Rattle.hall_bill.specs.HallBill.{travels, bill_refusal, shares_after}
use Rattle.refuted_hall.specs.Closed.{computation, Case, Refuted, all_refuted}

-- a call on a row of drives with a bill and a row of shares: its number, and the row after it
abbrev Call : Type 0
Call = List Drive → ℕ → List ℕ → List ℕ

abbrev given : Call
given row bill ws = bill_refusal row bill (length ws) ∷ shares_after row bill ws

-- a call with its operands left open: the counts, the number by drives, counts, bill and places, when the row is filled, and the shares
abbrev call_by : (List Drive → List ℕ) → (ℕ → List ℕ → ℕ → ℕ → ℕ) → (ℕ → Bool) → (ℕ → List ℕ → List ℕ) → Call
call_by counts refusal fills sharing row bill ws =
    let number = refusal (length row) (counts row) bill (length ws) in
    number ∷ pick (fills number) (sharing bill (counts row)) ws

-- the product's operands, of which its call is made
abbrev too_much : ℕ → ℕ → ℕ → Bool
too_much n bill places = ltb 1000000000 bill || not (eqb places n)

abbrev refusal_by : (ℕ → ℕ → ℕ → Bool) → ℕ → List ℕ → ℕ → ℕ → ℕ
refusal_by test n counts bill places = pick (bad_row n) 14 (pick (test n bill places) 20 (pick (eqb (total_of counts) 0) 21 0))

abbrev accepted : ℕ → Bool
accepted number = eqb number 0

pub own : (row : List Drive) (bill : ℕ) (ws : List ℕ) → given row bill ws ≡ call_by travels (refusal_by too_much) accepted shares row bill ws
unfolding bill_refusal shares_after
own row bill ws = refl

-- Wrong shares.

-- the rounded-down shares with one cent more for some: those that go first by an order
abbrev to_first : (ℕ → List ℕ → ℕ → ℕ → Bool) → Call
to_first before =
    call_by travels (refusal_by too_much) accepted
    (λ bill counts.
    tabulate (length counts)
    (λ i. part bill counts i + bit (foremost (before bill counts) anyone (length counts) (left_over bill counts) i) 1))

-- by the smallest remainder; by the remainder, the higher number first; by the number alone; by the count
abbrev smallest_first : Call
smallest_first =
    to_first (λ bill counts i j. let r = remainder bill counts in ltb (r j) (r i) || (eqb (r i) (r j) && ltb j i))

abbrev higher_first : Call
higher_first =
    to_first (λ bill counts i j. let r = remainder bill counts in ltb (r i) (r j) || (eqb (r i) (r j) && ltb i j))

abbrev first_drives : Call
first_drives = to_first (λ bill counts i j. ltb j i)

abbrev most_moved : Call
most_moved = to_first (λ bill counts i j. larger_first (count_in counts) i j)

-- each share by counts
abbrev each_by : (ℕ → List ℕ → ℕ → ℕ) → Call
each_by share = call_by travels (refusal_by too_much) accepted (λ bill counts. tabulate (length counts) (share bill counts))

-- all cents left over to one drive; none of them to any; each share rounded to the nearest
abbrev all_to_one : Call
all_to_one =
    each_by
    (λ bill counts i.
    part bill counts i
    + pick (foremost (larger_first (remainder bill counts)) anyone (length counts) 1 i) (left_over bill counts) 0)

abbrev kept_back : Call
kept_back = each_by part

abbrev to_the_nearest : Call
to_the_nearest = each_by (λ bill counts i. (2 * bill * count_in counts i + total_of counts) / (2 * total_of counts))

-- drives that are not well formed are left out
abbrev formed_only : Call
formed_only = call_by (λ row. map (λ (d : Drive). pick (well_formed d) d.travel 0) row) (refusal_by too_much) accepted shares

-- Wrong refusals.

abbrev refused_by : (ℕ → List ℕ → ℕ → ℕ → ℕ) → Call
refused_by refusal = call_by travels refusal accepted shares

-- 20 before 14; 21 before 20
abbrev twenty_first : Call
twenty_first =
    refused_by (λ n counts bill places. pick (too_much n bill places) 20 (pick (bad_row n) 14 (pick (eqb (total_of counts) 0) 21 0)))

abbrev twenty_one_sooner : Call
twenty_one_sooner =
    refused_by (λ n counts bill places. pick (bad_row n) 14 (pick (eqb (total_of counts) 0) 21 (pick (too_much n bill places) 20 0)))

-- the most cents are too many; a bill is judged by its lower 32 bits; a row with a place to spare is long enough
abbrev most_refused : Call
most_refused = refused_by (refusal_by (λ n bill places. leb 1000000000 bill || not (eqb places n)))

abbrev bill_of32_bits : Call
bill_of32_bits = refused_by (refusal_by (λ n bill places. ltb 1000000000 (bill % 2 ^ 32) || not (eqb places n)))

abbrev places_to_spare : Call
places_to_spare = refused_by (refusal_by (λ n bill places. ltb 1000000000 bill || ltb places n))

-- a bill of nothing is shared also where no drive has moved
abbrev nothing_shared : Call
nothing_shared = refused_by (λ n counts bill places. pick (eqb bill 0) 0 (refusal_by too_much n counts bill places))

-- the row is filled and the call refused by 21 then
abbrev filled_then_refused : Call
filled_then_refused = call_by travels (refusal_by too_much) (λ number. accepted number || eqb number 21) shares

-- drives with these counts, fresh but for them; one with forcing 4, which no event sets
abbrev counted : Commands → ℕ → Drive
counted c n = drive 0 fresh_values c 0 no_run 0 (last 0 0 0) 0 n

abbrev hall : List ℕ → List Drive
hall counts = map (counted no_commands) counts

abbrev broken : ℕ → Drive
broken n = counted (interlocked no_commands 0 4) n

-- a row, a bill, a row of shares before the call, and its number and the row after it by document 02
abbrev bill_by : Call → List Drive → ℕ → List ℕ → List ℕ → Case
bill_by wrong row bill ws after = record { given = given row bill ws; wrong = wrong row bill ws; paper = after }

abbrev nines : ℕ → List ℕ
nines n = replicate n 9

abbrev pub bill_table : List Case
bill_table =
    -- "left-over cents go one each to the largest remainders": of a bill of 28 the rounded-down shares are 15, 1 and 10, and leave 10, 10
    -- and 16 eighteenths of a cent
    bill_by smallest_first (hall (10 ∷ 1 ∷ 7 ∷ [])) 28 (nines 3) (0 ∷ 16 ∷ 1 ∷ 11 ∷ [])
    ∷ bill_by first_drives (hall (10 ∷ 1 ∷ 7 ∷ [])) 28 (nines 3) (0 ∷ 16 ∷ 1 ∷ 11 ∷ [])
    ∷ bill_by all_to_one (hall (10 ∷ 1 ∷ 7 ∷ [])) 28 (nines 3) (0 ∷ 16 ∷ 1 ∷ 11 ∷ [])
    -- "lower number first"
    ∷ bill_by higher_first (hall (10 ∷ 1 ∷ 7 ∷ [])) 28 (nines 3) (0 ∷ 16 ∷ 1 ∷ 11 ∷ [])
    -- of 27 they leave 0, 9 and 9
    ∷ bill_by most_moved (hall (10 ∷ 1 ∷ 7 ∷ [])) 27 (nines 3) (0 ∷ 15 ∷ 2 ∷ 10 ∷ [])
    -- "each gets the rounded-down share", "The shares add up to the bill, always."
    ∷ bill_by to_the_nearest (hall (1 ∷ 1 ∷ 1 ∷ [])) 2 (nines 3) (0 ∷ 1 ∷ 1 ∷ 0 ∷ [])
    ∷ bill_by kept_back (hall (1 ∷ 1 ∷ 1 ∷ [])) 2 (nines 3) (0 ∷ 1 ∷ 1 ∷ 0 ∷ [])
    -- it "looks only at counts"
    ∷ bill_by formed_only (counted no_commands 1 ∷ broken 3 ∷ []) 8 (nines 2) (0 ∷ 2 ∷ 6 ∷ [])
    -- "20 when the bill exceeds 1,000,000,000 cents or the share row's length isn't the number of drives, after 14"
    ∷ bill_by most_refused (hall (1 ∷ [])) 1000000000 (nines 1) (0 ∷ 1000000000 ∷ [])
    ∷ bill_by bill_of32_bits (hall (1 ∷ [])) (2 ^ 32 + 5) (nines 1) (20 ∷ 9 ∷ [])
    ∷ bill_by places_to_spare (hall (1 ∷ [])) 5 (nines 2) (20 ∷ 9 ∷ 9 ∷ [])
    ∷ bill_by twenty_first [] 5 (nines 1) (14 ∷ 9 ∷ [])
    ∷ bill_by twenty_one_sooner (hall (0 ∷ [])) 5 (nines 2) (20 ∷ 9 ∷ 9 ∷ [])
    -- "21 when no drive has moved; both leave the row untouched"
    ∷ bill_by nothing_shared (hall (0 ∷ 0 ∷ [])) 0 (nines 2) (21 ∷ 9 ∷ 9 ∷ [])
    ∷ bill_by filled_then_refused (hall (0 ∷ 0 ∷ [])) 5 (nines 2) (21 ∷ 9 ∷ 9 ∷ [])
    ∷ []

pub bills_refuted : Every Refuted bill_table
unfolding computation Bill.computation
bills_refuted = all_refuted bill_table refl
