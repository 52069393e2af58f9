-- The reports of a drive of a hall, as its share of the calls decides them, where that says which hall ticks send: no drive record, step or
-- answer stands here.
use Rattle.std.specs.Prelude.{List, [], ◌∷◌, ℕ, ◌+◌, eqb}
use Rattle.numbers.specs.Numbers.{pick}
use Rattle.event.specs.declared.Event.{Event}
use Rattle.event.specs.Event.{event_in}
use Rattle.hall.specs.Turns.{Given, bytes, hall_tick, tick_bytes}
use Rattle.history.specs.Readings.{position_in, status_in, judgement}
use Rattle.history.specs.Log.{Entry, entry}

-- the reports of what a drive is given, `n` records having come before it, of which `h` were accepted: an event record brings none, a hall
-- tick that sends the position and the status that it leaves
unfoldable pub shared_log_from : ℕ → List Event → List Given → List Entry
shared_log_from n h [] = []
shared_log_from n h (bytes s ∷ gs) = shared_log_from (n + 1) (pick (eqb (judgement h s) 0) (event_in s ∷ h) h) gs
shared_log_from n h (hall_tick sent ∷ gs) =
    let h' = event_in tick_bytes ∷ h in
    let rest = shared_log_from (n + 1) h' gs in
    pick sent (entry (n + 1) (position_in h') (status_in h') ∷ rest) rest

-- the log of a drive that was fresh at first
abbrev pub shared_log : List Given → List Entry
shared_log gs = shared_log_from 0 [] gs
