-- What a hall tick does to one drive and whom it sends, corner by corner, by computation.
use Rattle.std.specs.Prelude.{◌≡◌, refl, Bool, true, false, List, [], ◌∷◌, ℕ, length, set}
use Rattle.numbers.specs.Places.{tabulate}
use Rattle.table.specs.Table.{fresh_values}
use Rattle.rules.specs.Commands.{no_commands, interlocked}
use Rattle.damper.specs.declared.Drive.{Drive}
use Rattle.damper.specs.declared.Outcome.{Outcome}
use Rattle.damper.specs.Record.{drive, last, no_run, fresh_drive, with_counts, with_wait}
use Rattle.hall.specs.Closed.{computation}
use Rattle.hall.specs.Hall.{tick}
use Rattle.hall.specs.Quota.{hall_ticked, sends}
use Rattle.hall.specs.Turns.{hall_tick, turn, turns_of, tick_number}

-- a drive with MinRepTime 1, due at the next tick for want of a report, that waited `w` hall ticks; one that is not due; one that is not
-- well formed
abbrev quick : ℕ → Drive
quick w = drive 0 (set fresh_values 3 1) no_commands 0 no_run 0 (last 0 0 0) w 0

abbrev undue : ℕ → Drive
undue w = with_wait fresh_drive w

abbrev broken : ℕ → Drive
broken w = drive 0 fresh_values (interlocked no_commands 0 4) 0 no_run 0 (last 0 0 0) w 0

-- since, whether there is a last report, wait and the number after a hall tick
abbrev shown : Outcome → List ℕ
shown o = o.drive.since ∷ o.drive.last.reported ∷ o.drive.wait ∷ tick_number o.answer ∷ []

-- a drive, whether it is sent, and what is shown of it then
pub record Ticked : Type 0 where
  pub before : Drive
  pub sent : Bool
  pub after : List ℕ
  pub is : shown (hall_ticked sent before) ≡ after

abbrev gives : (d : Drive) (sent : Bool) (after : List ℕ) → shown (hall_ticked sent d) ≡ after → Ticked
gives d sent after e = record { before = d; sent = sent; after = after; is = e }

pub ticked : List Ticked
unfolding computation
ticked =
    -- sent: a report of position 0 and status 32
    gives (quick 7) true (0 ∷ 1 ∷ 0 ∷ 65568 ∷ []) refl
    -- held
    ∷ gives (quick 7) false (1 ∷ 0 ∷ 8 ∷ 0 ∷ []) refl
    ∷ gives (quick 65535) false (1 ∷ 0 ∷ 65535 ∷ 0 ∷ []) refl
    -- not due
    ∷ gives (undue 7) false (1 ∷ 0 ∷ 0 ∷ 0 ∷ []) refl
    -- not well formed
    ∷ gives (broken 9) false (0 ∷ 0 ∷ 9 ∷ 1 ∷ []) refl
    ∷ []

-- whom a hall tick with this quota sends of a row, place by place
abbrev sent : ℕ → List Drive → List Bool
sent quota row = tabulate (length row) (sends quota row)

pub record Choice : Type 0 where
  pub row : List Drive
  pub quota : ℕ
  pub who : List Bool
  pub is : sent quota row ≡ who

abbrev choice : (row : List Drive) (quota : ℕ) (who : List Bool) → sent quota row ≡ who → Choice
choice row quota who e = record { row = row; quota = quota; who = who; is = e }

pub choices : List Choice
unfolding computation
choices =
    -- the longest wait, and of equal ones the lower number
    choice (quick 3 ∷ quick 5 ∷ []) 1 (false ∷ true ∷ []) refl
    ∷ choice (quick 5 ∷ quick 5 ∷ []) 1 (true ∷ false ∷ []) refl
    -- then the next longest, and not the lowest number
    ∷ choice (quick 0 ∷ quick 1 ∷ quick 7 ∷ quick 1 ∷ []) 2 (false ∷ true ∷ true ∷ false ∷ []) refl
    ∷ choice (quick 0 ∷ quick 1 ∷ quick 7 ∷ quick 1 ∷ []) 3 (false ∷ true ∷ true ∷ true ∷ []) refl
    -- all that are due, if they are no more than the quota
    ∷ choice (quick 0 ∷ undue 9 ∷ quick 2 ∷ []) 2 (true ∷ false ∷ true ∷ []) refl
    ∷ choice (quick 0 ∷ quick 0 ∷ []) 64 (true ∷ true ∷ []) refl
    -- one that is not due, and one that is not well formed, take no place, wait as they may
    ∷ choice (undue 9 ∷ broken 9 ∷ quick 0 ∷ []) 1 (false ∷ false ∷ true ∷ []) refl
    ∷ choice (undue 9 ∷ broken 9 ∷ []) 2 (false ∷ false ∷ []) refl
    -- by the waits from before the tick: 65,534, which rises to 65,535, goes behind one that has stopped there
    ∷ choice (quick 65534 ∷ quick 65535 ∷ []) 1 (false ∷ true ∷ []) refl
    -- due by since as it has risen: MinRepTime 10 is reached from 9, and not from 8
    ∷ choice (with_counts fresh_drive 0 9 ∷ with_counts fresh_drive 0 8 ∷ []) 1 (true ∷ false ∷ []) refl
    ∷ []

-- "One call ticks them all", each as it is sent or not
pub all_ticked : turns_of (quick 0 ∷ quick 1 ∷ []) (tick 1 2) ≡ turn (hall_tick false) 0 ∷ turn (hall_tick true) 1 ∷ []
unfolding computation
all_ticked = refl
