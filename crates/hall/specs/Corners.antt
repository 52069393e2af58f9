-- When a call is refused itself, corner by corner, by computation.
use Rattle.std.specs.Prelude.{◌≡◌, refl, List, [], ◌∷◌, ◌++◌, map, ℕ}
use Rattle.numbers.specs.Places.{places_from}
use Rattle.event.specs.Event.{event, bytes_of}
use Rattle.answer.specs.Answer.{number_of}
use Rattle.damper.specs.Record.{fresh_drive}
use Rattle.damper.specs.Step.{step_of}
use Rattle.hall.specs.Closed.{computation}
use Rattle.hall.specs.Hall.{Call, give, tick, call_refusal}
use Rattle.hall.specs.Turns.{tick_bytes, turns_of}

-- how many drives, the call, and what refuses it
pub record Corner : Type 0 where
  pub drives : ℕ
  pub call : Call
  pub number : ℕ

abbrev corner : ℕ → Call → ℕ → Corner
corner n c r = record { drives = n; call = c; number = r }

abbrev setpoint : List ℕ
setpoint = bytes_of (event 2 128 0 0)

-- a tick with an unused byte that is not 0
abbrev damaged : List ℕ
damaged = bytes_of (event 1 0 0 1)

abbrev pub table : List Corner
table =
    -- rows of none, of 64 and of 65
    corner 0 (tick 8 0) 14
    ∷ corner 64 (tick 8 64) 0
    ∷ corner 65 (give [] setpoint 0) 14
    -- a number that is the row's length, beside an accepted tick
    ∷ corner 8 (give (8 ∷ []) tick_bytes 1) 15
    -- an accepted tick, also with an empty list; a damaged one is for the drives to refuse
    ∷ corner 1 (give [] tick_bytes 0) 16
    ∷ corner 1 (give (0 ∷ []) damaged 1) 0
    -- another event with an empty list
    ∷ corner 1 (give [] setpoint 0) 0
    -- 64 entries and 65, which cannot do without a repeat; an answer row that is a place short
    ∷ corner 64 (give (places_from 0 64) setpoint 64) 0
    ∷ corner 64 (give (places_from 0 64 ++ (0 ∷ [])) setpoint 65) 16
    ∷ corner 2 (give (1 ∷ 0 ∷ []) setpoint 1) 16
    -- a drive named twice, only by the first and the last entry
    ∷ corner 8 (give (7 ∷ 3 ∷ 5 ∷ 7 ∷ []) setpoint 4) 19
    -- quotas of none and of 65; 16 before 18
    ∷ corner 2 (tick 0 2) 18
    ∷ corner 2 (tick 65 2) 18
    ∷ corner 2 (tick 0 1) 16
    ∷ []

pub corners : map (λ (c : Corner). call_refusal c.drives c.call) table ≡ map (λ (c : Corner). c.number) table
unfolding computation
corners = refl

-- the damaged tick is refused by the drive, by 5
pub damaged_refused : number_of (step_of fresh_drive damaged).answer ≡ 5
unfolding computation
damaged_refused = refl

-- the empty list has no turns
pub none_given : turns_of (fresh_drive ∷ []) (give [] setpoint 0) ≡ []
unfolding computation
none_given = refl
