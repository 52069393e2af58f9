-- Bills of small halls, corner by corner, by computation.
use Rattle.std.specs.Prelude.{◌≡◌, refl, List, [], ◌∷◌, map, ℕ, ◌+◌, ◌^◌, ◌≤◌, length, get_or, replicate}
use Rattle.std.proofs.Common.{arith}
use Rattle.damper.specs.declared.Drive.{Drive}
use Rattle.damper.specs.Record.{drive, last, no_run}
use Rattle.rules.specs.Commands.{no_commands}
use Rattle.table.specs.Table.{fresh_values}
use Rattle.hall_bill.specs.Closed.{computation}
use Rattle.hall_bill.specs.HallBill.{bill_refusal, shares_after}

-- fresh drives but for their counts
abbrev pub hall : List ℕ → List Drive
hall counts = map (drive 0 fresh_values no_commands 0 no_run 0 (last 0 0 0) 0) counts

-- the number that a call answers with, and the row of shares after it
abbrev shown : List ℕ → ℕ → List ℕ → List ℕ
shown counts bill ws = bill_refusal (hall counts) bill (length ws) ∷ shares_after (hall counts) bill ws

-- counts, a bill, the row of shares before the call, and what is shown of it then
pub record Corner : Type 0 where
  pub counts : List ℕ
  pub bill : ℕ
  pub before : List ℕ
  pub after : List ℕ
  pub is : shown counts bill before ≡ after

abbrev gives : (counts : List ℕ) (bill : ℕ) (ws after : List ℕ) → shown counts bill ws ≡ after → Corner
gives counts bill ws after e = record { counts = counts; bill = bill; before = ws; after = after; is = e }

pub corners : List Corner
unfolding computation
corners =
    -- of the remainders 0, 9 and 9 (eighteenths of a cent) the first 9 gets the cent left over
    gives (10 ∷ 1 ∷ 7 ∷ []) 27 (9 ∷ 9 ∷ 9 ∷ []) (0 ∷ 15 ∷ 2 ∷ 10 ∷ []) refl
    -- of 10, 10 and 16 the last and the first
    ∷ gives (10 ∷ 1 ∷ 7 ∷ []) 28 (9 ∷ 9 ∷ 9 ∷ []) (0 ∷ 16 ∷ 1 ∷ 11 ∷ []) refl
    -- all alike: by number
    ∷ gives (1 ∷ 1 ∷ 1 ∷ 1 ∷ []) 2 (9 ∷ 9 ∷ 9 ∷ 9 ∷ []) (0 ∷ 1 ∷ 1 ∷ 0 ∷ 0 ∷ []) refl
    -- one alone has moved; a bill of nothing
    ∷ gives (0 ∷ 4294967295 ∷ []) 1000000000 (9 ∷ 9 ∷ []) (0 ∷ 0 ∷ 1000000000 ∷ []) refl
    ∷ gives (3 ∷ 5 ∷ []) 0 (9 ∷ 9 ∷ []) (0 ∷ 0 ∷ 0 ∷ []) refl
    -- no drive and 65; 14 before 20
    ∷ gives [] 5 [] (14 ∷ []) refl
    ∷ gives (replicate 65 1) 1000000001 [] (14 ∷ []) refl
    -- a cent too much; a bill of 2^32 + 5, whose lower half is 5; a place too few and one too many; 20 before 21
    ∷ gives (1 ∷ 1 ∷ []) 1000000001 (9 ∷ 9 ∷ []) (20 ∷ 9 ∷ 9 ∷ []) refl
    ∷ gives (1 ∷ 1 ∷ []) (2 ^ 32 + 5) (9 ∷ 9 ∷ []) (20 ∷ 9 ∷ 9 ∷ []) refl
    ∷ gives (1 ∷ 1 ∷ []) 5 (9 ∷ []) (20 ∷ 9 ∷ []) refl
    ∷ gives (0 ∷ 0 ∷ []) 5 (9 ∷ 9 ∷ 9 ∷ []) (20 ∷ 9 ∷ 9 ∷ 9 ∷ []) refl
    -- no drive has moved, also with a bill of nothing
    ∷ gives (0 ∷ 0 ∷ []) 5 (9 ∷ 9 ∷ []) (21 ∷ 9 ∷ 9 ∷ []) refl
    ∷ gives (0 ∷ 0 ∷ []) 0 (9 ∷ 9 ∷ []) (21 ∷ 9 ∷ 9 ∷ []) refl
    ∷ []

-- That a larger bill lowers no share is not so: the cent that was left over of 27 goes to others of 28.
abbrev NoneLowered : Type 0
NoneLowered = (row : List Drive) (ws : List ℕ) (bill more i : ℕ)
    → bill_refusal row bill (length ws) ≡ 0 → bill_refusal row more (length ws) ≡ 0
    → bill ≤ more → get_or (shares_after row bill ws) i 0 ≤ get_or (shares_after row more ws) i 0

pub one_lowered : NoneLowered → ⊥
unfolding computation
one_lowered h =
    let lower : 2 ≤ 1 = h (hall (10 ∷ 1 ∷ 7 ∷ [])) (9 ∷ 9 ∷ 9 ∷ []) 27 28 1 refl refl (omega arith) in
    omega arith
