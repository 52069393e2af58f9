-- 'It gets there' in a hall, by computation: a drive that is forced open arrives in K hall ticks, at some of which its report is held, and
-- stays.
use Rattle.std.specs.Prelude.{◌≡◌, refl, Bool, true, false, ◌&&◌, List, [], ◌∷◌, ◌++◌, map, ℕ, length, replicate, set}
use Rattle.std.proofs.Common.{arith}
use Rattle.numbers.specs.Every.{Every}
use Rattle.table.specs.Table.{fresh_values}
use Rattle.event.specs.Event.{event, bytes_of}
use Rattle.event.specs.Kinds as Kind
use Rattle.rules.specs.Commands.{no_commands}
use Rattle.rules.specs.Rank.{forcing}
use Rattle.damper.specs.declared.Drive.{Drive}
use Rattle.damper.specs.Record.{drive, last, no_run}
use Rattle.damper.specs.WellFormed.{well_formed}
use Rattle.arrival.specs.Arrival.{Ruled, Test, drives_found, RuledForK, Settles, tick_accepted}
use Rattle.arrival.specs.Witnesses as Arrival
use Rattle.arrival.specs.Witnesses.{each_ruled}
use Rattle.hall.specs.Closed as Hall
use Rattle.hall.specs.Hall.{Call, give, tick, at}
use Rattle.hall.specs.Turns.{Given, bytes, hall_tick, hall_after, share, hall_step}
use Rattle.shares.specs.Arrival.{tick_given, rate_given, ticks_of, rows_after, share_settles}

unfoldable computation : Unit {0}
unfolding Hall.computation Arrival.computation rows_after
computation = tt

-- a closed drive with a Rate of 100, whose K is 3, that is due at every tick: MinRepTime and RepPer are 1
abbrev always_due : Drive
always_due = drive 0 (set (set (set fresh_values 3 1) 8 1) 9 100) no_commands 0 no_run 0 (last 1 0 32) 0 0

abbrev two : List Drive
two = always_due ∷ always_due ∷ []

-- an event given to the drive at place 1, and a hall tick of quota 1, which sends the two in turn
abbrev giving : ℕ → ℕ → ℕ → Call
giving kind a c = give (1 ∷ []) (bytes_of (event kind a 0 c)) 1

abbrev ticks : Call
ticks = tick 1 2

-- place 1 is held, sent and held; a call that names a drive 7 is refused
abbrev calls : List Call
calls = giving Kind.forcing 3 0 ∷ ticks ∷ give (7 ∷ []) (bytes_of (event Kind.forcing 0 0 0)) 1 ∷ ticks ∷ ticks ∷ []

-- then Rate is written, and place 1 is sent and held
abbrev later : List Call
later = giving Kind.write 203 1 ∷ ticks ∷ ticks ∷ []

abbrev arrived : List Drive
arrived = hall_after two calls

abbrev positions : List (List Drive) → List ℕ
positions rows = map (λ (row : List Drive). (at row 1).position) rows

-- The conditions hold, so that by the theorem place 1 stands open.
pub forced : RuledForK hall_step tick_given rate_given (at two 1) forcing 255 (share two 1 calls)
unfolding computation
forced = record { ruled = each_ruled forcing 255 _ refl refl; unwritten = refl; enough = omega arith }

pub forced_settles : (at arrived 1).position ≡ 255
unfolding computation
forced_settles = (share_settles two 1 (omega arith) refl (omega arith) forcing 255 calls forced).0

pub forced_open : (length (ticks_of two 1 calls) ≡ 3)
    × (positions (rows_after two calls) ≡ 0 ∷ 100 ∷ 100 ∷ 200 ∷ 255 ∷ [])
unfolding computation
forced_open = (refl, refl)

pub stays_open : Every (Ruled forcing 255) (ticks_of arrived 1 later)
    × (length (drives_found hall_step rate_given (at arrived 1) (share arrived 1 later)) ≡ 1)
    × (positions (rows_after arrived later) ≡ replicate 3 255)
unfolding computation
stays_open = (each_ruled forcing 255 _ refl refl, refl, refl)

-- Two wordings that are false of what a drive is given: that a hall tick which holds its report is no tick, and that a write of Rate by an
-- event call is none.
abbrev sent_only : Test Given
sent_only d (bytes s) = tick_accepted d s
sent_only d (hall_tick sent) = well_formed d && sent

abbrev never : Test Given
never d g = false

-- forcing, and a hall tick that is sent or not
abbrev forced_then : ℕ → Bool → List Given
forced_then a sent = bytes (bytes_of (event Kind.forcing a 0 0)) ∷ hall_tick sent ∷ []

-- sent three times while it is forced open, and held between them while it is forced shut, the drive stands at 100
pub held_uncounted_refuted : Settles hall_step sent_only rate_given always_due → ⊥
unfolding computation
held_uncounted_refuted s =
    let gs = forced_then 3 true ++ (forced_then 2 false ++ (forced_then 3 true ++ (forced_then 2 false ++ forced_then 3 true))) in
    let r : RuledForK hall_step sent_only rate_given always_due forcing 255 gs =
    record { ruled = each_ruled forcing 255 _ refl refl; unwritten = refl; enough = omega arith } in
    let p : ◌≡◌ {A = ℕ} 100 255 = (s forcing 255 gs r).0 in
    omega arith

-- forced open for three hall ticks after Rate was written to 1, it stands at 3
pub rate_overlooked_refuted : Settles hall_step tick_given never always_due → ⊥
unfolding computation
rate_overlooked_refuted s =
    let gs = bytes (bytes_of (event Kind.write 203 0 1)) ∷ (forced_then 3 false ++ (hall_tick false ∷ hall_tick false ∷ [])) in
    let r : RuledForK hall_step tick_given never always_due forcing 255 gs =
    record { ruled = each_ruled forcing 255 _ refl refl; unwritten = refl; enough = omega arith } in
    let p : ◌≡◌ {A = ℕ} 3 255 = (s forcing 255 gs r).0 in
    omega arith
