-- Document 02, W-208: drives that count their moves wrongly, each refused by "The count equals the sum of all its moves in the list of
-- events, up to that cap" on a list from a fresh drive on, or, where the cap is what is wrong, by one tick from a record close to it.
use Rattle.std.specs.Prelude.{◌≡◌, refl, Bool, not, ◌&&◌, List, [], ◌∷◌, ℕ, ◌+◌, ◌-◌, ◌%◌, min, eqb}
use Rattle.std.proofs.Common.{eqb-true}
use Rattle.std.proofs.lemmas.Bool.{eqb-false, not-true}
use Rattle.numbers.specs.Numbers.{pick, distance, counted}
use Rattle.numbers.specs.Laws.{and_left, and_right}
use Rattle.table.specs.Table.{rate}
use Rattle.event.specs.Kinds as Kind
use Rattle.event.specs.Event.{event_in}
use Rattle.damper.specs.declared.Drive.{Drive}
use Rattle.damper.specs.Record.{drive, fresh_drive, with_setpoint}
use Rattle.damper.specs.Tick.{due}
use Rattle.damper.specs.Step.{outcome, done, restarted, obeyed, step_of}
use Rattle.damper.specs.Carry.{Step, outcomes, drive_after}
use Rattle.history.specs.Readings.{travel_in, history_of}
use Rattle.refuted.specs.Events.{tick, bad_tick, setpoint, restart}
use Rattle.refuted.specs.Closed.{computation, Each, each}
use Rattle.refuted.specs.Wrong.{accepts, only, leaving}

-- the sentence, of any drive: the count after a list is the sum of the moves that the list makes
abbrev pub Counted : Step → List (List ℕ) → Type 0
Counted step l = (drive_after fresh_drive (outcomes step fresh_drive l)).travel ≡ min (travel_in (history_of l)) 4294967295

-- and of one event given to any record: it rises by the way moved
abbrev pub CountedFrom : Step → Drive → List ℕ → Type 0
CountedFrom step d s = let n = (step d s).drive in n.travel ≡ counted d.travel (distance d.position n.position)

abbrev with_travel : Drive → ℕ → Drive
with_travel d v = drive d.position d.params d.commands d.age d.run d.since d.last d.wait v

-- clears the count at a restart
abbrev pub restart_clears_travel : Step
restart_clears_travel = only Kind.restart (λ d e. done (with_travel (restarted d) 0))

-- counts only the moves that are reported
abbrev pub counts_reported : Step
counts_reported = leaving (λ d m. with_travel m (pick (due m) m.travel d.travel))

-- counts Rate at each tick
abbrev pub counts_rate : Step
counts_rate = leaving (λ d m. with_travel m (counted d.travel (rate d.params)))

-- subtracts a move that falls
abbrev pub counts_net : Step
counts_net = leaving (λ d m. with_travel m ((d.travel + m.position) - d.position))

-- counts the ticks at which it moves
abbrev pub counts_moves : Step
counts_moves = leaving (λ d m. with_travel m (pick (eqb m.position d.position) d.travel (d.travel + 1)))

-- counts Rate at a tick that is refused, too
abbrev pub counts_refused : Step
counts_refused d s =
    let o = step_of d s in
    pick (not (accepts d s) && eqb (event_in s).kind Kind.tick)
    (outcome (with_travel d (counted d.travel (rate d.params))) o.answer)
    o

-- counts the way that a setpoint asks for, when it comes
abbrev pub counts_asked : Step
counts_asked = only Kind.setpoint (λ d e. done (with_travel (obeyed d e) (counted d.travel (distance d.position e.a))))

-- begins at 0 again behind 4,294,967,295
abbrev pub wraps : Step
wraps = leaving (λ d m. with_travel m ((d.travel + distance d.position m.position) % 4294967296))

-- stops at 65,535, as the other counts do
abbrev pub stops_early : Step
stops_early = leaving (λ d m. with_travel m (min m.travel 65535))

pub record Row : Type 0 where
  pub step : Step
  pub list : List (List ℕ)

abbrev row : Step → List (List ℕ) → Row
row f l = record { step = f; list = l }

abbrev pub table : List Row
table =
    row restart_clears_travel (setpoint 255 ∷ tick ∷ restart ∷ [])
    ∷ row counts_reported (setpoint 255 ∷ tick ∷ [])
    ∷ row counts_rate (setpoint 3 ∷ tick ∷ tick ∷ [])
    ∷ row counts_net (setpoint 255 ∷ tick ∷ setpoint 0 ∷ tick ∷ [])
    ∷ row counts_moves (setpoint 255 ∷ tick ∷ tick ∷ [])
    ∷ row counts_refused (setpoint 255 ∷ bad_tick ∷ [])
    ∷ row counts_asked (setpoint 255 ∷ [])
    ∷ []

abbrev counts : Step → List (List ℕ) → Bool
counts step l = eqb (drive_after fresh_drive (outcomes step fresh_drive l)).travel (min (travel_in (history_of l)) 4294967295)

-- Each counts its list wrongly, and the drive as it is counts it rightly.
pub refuted : Each (λ r. (Counted r.step r.list → ⊥) × Counted step_of r.list) table
unfolding computation
refuted =
    each (λ r. (Counted r.step r.list → ⊥) × Counted step_of r.list)
    (λ r. not (counts r.step r.list) && counts step_of r.list)
    (λ r q. (
      eqb-false _ _ (not-true (counts r.step r.list) (and_left (not (counts r.step r.list)) _ q)),
      eqb-true _ _ (and_right (not (counts r.step r.list)) _ q),
    ))
    table
    refl

-- A fresh drive with a setpoint of 255 and that count: a tick moves it by 5.
abbrev pub having : ℕ → Drive
having v = with_travel (with_setpoint fresh_drive 255) v

pub record RowFrom : Type 0 where
  pub step : Step
  pub count : ℕ

abbrev pub table_from : List RowFrom
table_from = record { step = wraps; count = 4294967293 } ∷ record { step = stops_early; count = 65533 } ∷ []

abbrev counts_from : Step → ℕ → Bool
counts_from step v =
    let n = (step (having v) tick).drive in
    eqb n.travel (counted v (distance (having v).position n.position))

pub refuted_from : Each (λ r. (CountedFrom r.step (having r.count) tick → ⊥) × CountedFrom step_of (having r.count) tick) table_from
unfolding computation
refuted_from =
    each (λ r. (CountedFrom r.step (having r.count) tick → ⊥) × CountedFrom step_of (having r.count) tick)
    (λ r. not (counts_from r.step r.count) && counts_from step_of r.count)
    (λ r q. (
      eqb-false _ _ (not-true (counts_from r.step r.count) (and_left (not (counts_from r.step r.count)) _ q)),
      eqb-true _ _ (and_right (not (counts_from r.step r.count)) _ q),
    ))
    table_from
    refl
