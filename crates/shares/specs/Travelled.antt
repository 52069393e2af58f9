-- Document 02, W-208: "The count equals the sum of all its moves in the list of events, up to that cap", of each drive of a hall.
use Rattle.std.specs.Prelude.{◌≡◌, refl, Bool, true, false, not, List, [], ◌∷◌, map, ℕ, ◌+◌, ◌≤◌, ◌<◌, min, length}
use Rattle.std.proofs.Common.{arith}
use Rattle.numbers.specs.Numbers.{distance, counted}
use Rattle.numbers.specs.Laws.{cases, and_left, and_right}
use Rattle.numbers.specs.Places.{implies}
use Rattle.damper.specs.declared.Drive.{Drive}
use Rattle.damper.specs.Record.{fresh_drive}
use Rattle.damper.specs.WellFormed.{well_formed}
use Rattle.damper.specs.Step.{tick_with}
use Rattle.damper.specs.Carry.{outcomes, drive_after}
use Rattle.invariant.specs.Effects.{advance_travel}
use Rattle.hall.specs.Hall as H
use Rattle.hall.specs.Hall.{Call, at}
use Rattle.hall.specs.Quota.{due_now, hall_ticked}
use Rattle.hall.specs.Turns.{Given, bytes, hall_tick, tick_bytes, bytes_in, hall_after, share, events_for, hall_step}
use Rattle.history.specs.Readings.{travel_in, history_of}
use Rattle.history.specs.Claim.{Trace, moment_of, accepted, trace_on}
use Rattle.history.specs.Facts.{Good}
use Rattle.history.specs.Theorem.{facts, fresh_good}
use Rattle.history.specs.Travel.{Counts, step_counts, way_along, travel_along, travel_next}
use Rattle.shares.specs.Shares.{share_drive, share_answers}
use Rattle.shares.specs.Theorem.{fitting, share_fits, facts_hall}
use Rattle.shares.specs.PageRead.{share_accepted}

-- a hall tick, sent or held, moves the drive as a tick does and counts that move
tick_counts : (d : Drive) (sent : Bool) → d.travel ≤ 4294967295
    → (hall_ticked sent d).drive.travel ≡ counted d.travel (distance d.position (hall_ticked sent d).drive.position)
unfolding hall_ticked tick_with
tick_counts d true b = cases (well_formed d) (λ w. rw w (advance_travel d)) (λ w. rw w (omega arith))
tick_counts d false b = cases (well_formed d) (λ w. rw w (advance_travel d)) (λ w. rw w (omega arith))

pub hall_counts : Counts hall_step
hall_counts d (bytes s) b = step_counts d s b
hall_counts d (hall_tick sent) b = tick_counts d sent b

-- From any row of records: the count of each drive rises by the way that it moves, up to the cap.
pub share_travels : (row : List Drive) (cs : List Call) (i : ℕ) → i < length row → (at row i).travel ≤ 4294967295
    → (at (hall_after row cs) i).travel
    ≡ min ((at row i).travel + way_along (at row i) (outcomes hall_step (at row i) (share row i cs))) 4294967295
share_travels row cs i h b = rw (share_drive row cs i h) (travel_along hall_step hall_counts (share row i cs) (at row i) b)

-- Over all that a drive is given.
travelled : (gs : List Given) (d : Drive) (t : Trace) → Good d t → fitting d gs ≡ true
    → d.travel ≡ min (travel_in (accepted t)) 4294967295
    → (drive_after d (outcomes hall_step d gs)).travel
    ≡ min (travel_in (accepted (trace_on t (map bytes_in gs) (outcomes hall_step d gs)))) 4294967295
unfolding outcomes drive_after trace_on fitting
travelled [] d t g q w = w
travelled (bytes s ∷ gs) d t g q w =
    let x = bytes s in
    let o = hall_step d x in
    let n = (facts d t s g).good in
    travelled gs o.drive (moment_of s o ∷ t) n (and_right (not (H.is_tick s)) _ q) (travel_next hall_step hall_counts d t s x g n w)
travelled (hall_tick sent ∷ gs) d t g q w =
    let x = hall_tick sent in
    let o = hall_step d x in
    let n = (facts_hall d t g sent (and_left (implies sent (due_now d)) _ q)).good in
    travelled gs o.drive (moment_of tick_bytes o ∷ t) n (and_right (implies sent (due_now d)) _ q)
    (travel_next hall_step hall_counts d t tick_bytes x g n w)

-- Of a drive that was fresh at first: after every list of calls its count is the sum of all the moves that the event records of its own
-- share make, up to the cap.
pub share_travel : (row : List Drive) (cs : List Call) (i : ℕ) → i < length row → at row i ≡ fresh_drive
    → (at (hall_after row cs) i).travel ≡ min (travel_in (history_of (events_for (length row) i cs))) 4294967295
unfolding travel_in accepted
share_travel row cs i h fresh =
    rw (← (share_accepted row cs i h), share_answers row cs i h, share_drive row cs i h, fresh)
    (travelled (share row i cs) fresh_drive [] fresh_good (rw (← fresh) (share_fits cs row i h)) refl)
