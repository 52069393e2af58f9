-- Document 02, W-207, 'It gets there', of a drive's share of hall calls, whether its reports are held or sent.
use Rattle.std.specs.Prelude.{◌≡◌, Bool, true, false, ℕ, ◌<◌, length}
use Rattle.std.proofs.Common.{ap, ◌∙◌}
use mathlib.Core.List.{List, [], ◌∷◌, ◌++◌}
use Rattle.numbers.specs.Numbers.{pick}
use Rattle.numbers.specs.Every.{Every, none, more, every_front, every_rest}
use Rattle.table.specs.Table.{rate}
use Rattle.motion.specs.Motion.{toward}
use Rattle.rules.specs.Rank.{Source}
use Rattle.damper.specs.declared.Drive.{Drive}
use Rattle.damper.specs.WellFormed.{well_formed}
use Rattle.damper.specs.Tick.{advance}
use Rattle.damper.specs.Step.{tick_with}
use Rattle.invariant.specs.Effects.{advance_params}
use Rattle.arrival.specs.Arrival.{tick_target, Ruled, Test, drives_found, after, RuledForK, Settles, tick_accepted, rate_written}
use Rattle.arrival.specs.Laws.{advance_toward, found_append, Moves, Toward, ruled_toward, formed, stands, settles}
use Rattle.arrival.specs.Theorem.{step_moves}
use Rattle.hall.specs.Hall.{Call, at}
use Rattle.hall.specs.Quota.{hall_ticked}
use Rattle.hall.specs.Turns.{Given, bytes, hall_tick, turns_of, row_after, turns_in, hall_after, shared_out, share, hall_step}
use Rattle.hall.specs.Laws.{row_length}
use Rattle.shares.specs.Shares.{shared_append, turns_drive, share_drive, hall_length}
use Rattle.shares.specs.WaitLaws.{formed_ticked}

-- of what a drive of a hall is given: an accepted tick, which a hall tick of a well-formed drive is, and an accepted write of Rate
abbrev pub tick_given : Test Given
tick_given d (bytes s) = tick_accepted d s
tick_given d (hall_tick sent) = well_formed d

abbrev pub rate_given : Test Given
rate_given d (bytes s) = rate_written d s
rate_given d (hall_tick sent) = false

-- the drives that the accepted ticks of the share of place `i` find
abbrev pub ticks_of : List Drive → ℕ → List Call → List Drive
ticks_of row i cs = drives_found hall_step tick_given (at row i) (share row i cs)

-- the row after each of a list of calls
unfoldable pub rows_after : List Drive → List Call → List (List Drive)
rows_after row [] = []
rows_after row (c ∷ cs) = let next = row_after hall_step row (turns_of row c) in next ∷ rows_after next cs

-- a hall tick moves a drive as a tick does, sent or held
ticked_position : (sent : Bool) (d : Drive) → well_formed d ≡ true → (hall_ticked sent d).drive.position ≡ (advance d).drive.position
unfolding hall_ticked tick_with
ticked_position true d w = rw w
ticked_position false d w = rw w

ticked_params : (sent : Bool) (d : Drive) → well_formed d ≡ true → (hall_ticked sent d).drive.params ≡ d.params
unfolding hall_ticked tick_with
ticked_params true d w = rw w (advance_params d)
ticked_params false d w = rw w (advance_params d)

pub hall_moves : Moves hall_step tick_given rate_given
hall_moves = record { formed = wf; position = pos; kept = same }
  where
    wf : (d : Drive) (g : Given) → well_formed d ≡ true → well_formed (hall_step d g).drive ≡ true
    wf d (bytes s) w = step_moves.formed d s w
    wf d (hall_tick sent) w = formed_ticked d sent ∙ w

    pos : (d : Drive) (g : Given) → well_formed d ≡ true
        → (hall_step d g).drive.position ≡ pick (tick_given d g) (toward d.position (tick_target d) (rate d.params)) d.position
    pos d (bytes s) w = step_moves.position d s w
    pos d (hall_tick sent) w = ticked_position sent d w ∙ advance_toward d ∙ rw w

    same : (d : Drive) (g : Given) → well_formed d ≡ true → rate_given d g ≡ false → rate (hall_step d g).drive.params ≡ rate d.params
    same d (bytes s) w n = step_moves.kept d s w n
    same d (hall_tick sent) w n = ap rate (ticked_params sent d w)

-- For every well-formed drive at a position of a byte, whatever it is given.
pub given_settles : (d : Drive) → well_formed d ≡ true → d.position < 256 → Settles hall_step tick_given rate_given d
given_settles = settles hall_moves

-- the drive at place `i` stands at `t`
abbrev pub StandsAt : ℕ → ℕ → List Drive → Type 0
StandsAt i t row = (at row i).position ≡ t

module _ (i : ℕ) (t : ℕ) where
  -- the drive at place `i` stays while each tick of its share finds the target `t`
  rows_stand : (row : List Drive) (cs : List Call) → i < length row → well_formed (at row i) ≡ true → StandsAt i t row
      → Every (Toward t) (ticks_of row i cs) → Every (StandsAt i t) (rows_after row cs)
  unfolding rows_after turns_in
  rows_stand row [] h w e ts = none
  rows_stand row (c ∷ cs) h w e ts =
      let us = turns_of row c in
      let d = at row i in
      let next = row_after hall_step row us in
      let own = shared_out i us in
      let gs = share next i cs in
      let now = drives_found hall_step tick_given d own in
      let later = drives_found hall_step tick_given (after hall_step d own) gs in
      let all : Every (Toward t) (now ++ later) =
      rw (shared_append i us (turns_in next cs), found_append hall_step tick_given d own gs) at ts in
      let here : at next i ≡ after hall_step d own = turns_drive row us i h in
      let there : StandsAt i t next = rw here (stands hall_moves t d own w e (every_front now later all)) in
      let rest : Every (Toward t) (ticks_of next i cs) = rw here (every_rest now later all) in
      more there (rows_stand next cs (rw (row_length hall_step row us) h) (rw here (formed hall_moves d own w)) there rest)

-- For every row, every place of it that holds such a drive, every source and target, and all lists of calls: "the drive stands at that
-- target after the last of them and stays while that commander and target rule".
module _ (row : List Drive) (i : ℕ) (h : i < length row) (w : well_formed (at row i) ≡ true) (b : (at row i).position < 256) where
  pub share_settles : (c : Source) (t : ℕ) (cs : List Call)
      → RuledForK hall_step tick_given rate_given (at row i) c t (share row i cs)
      → (let row' = hall_after row cs in
      StandsAt i t row'
      × ((cs' : List Call) → Every (Ruled c t) (ticks_of row' i cs') → Every (StandsAt i t) (rows_after row' cs')))
  share_settles c t cs r =
      let d = at row i in
      let gs = share row i cs in
      let row' = hall_after row cs in
      let here : at row' i ≡ after hall_step d gs = share_drive row cs i h in
      let there : StandsAt i t row' = rw here (given_settles d w b c t gs r).0 in
      let formed' : well_formed (at row' i) ≡ true = rw here (formed hall_moves d gs w) in
      (there, λ cs' us. rows_stand i t row' cs' (rw (hall_length row cs) h) formed' there (ruled_toward us))
