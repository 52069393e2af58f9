-- Document 02, W-204: "Each drive keeps how many hall ticks in a row it was due and not sent, stopping at 65,535; fresh, sent or not due it
-- is 0", and "Restart clears the wait; otherwise only hall ticks change it", over every list of calls, read off the drive's own trace.
use Rattle.std.specs.Prelude.{◌≡◌, Bool, true, false, ◌&&◌, List, [], ◌∷◌, map, ℕ, ◌+◌, ◌<◌, min, length}
use Rattle.std.proofs.Math.Path.{refl}
use Rattle.std.proofs.Common.{◌∙◌, arith}
use Rattle.std.proofs.Math.Bool.{not}
use Rattle.std.proofs.lemmas.Bool.{not-true}
use Rattle.numbers.specs.Numbers.{pick, next}
use Rattle.numbers.specs.Laws.{and_left, and_right}
use Rattle.numbers.specs.Places.{implies}
use Rattle.damper.specs.declared.Drive.{Drive}
use Rattle.damper.specs.Record.{fresh_drive}
use Rattle.damper.specs.Tick.{advance, due}
use Rattle.damper.specs.Step.{refusal_of, step_of}
use Rattle.damper.specs.Carry.{outcomes, drive_after}
use Rattle.invariant.specs.Effects.{refusal_wf}
use Rattle.hall.specs.Hall as H
use Rattle.hall.specs.Hall.{Call, at}
use Rattle.hall.specs.Quota.{due_now, hall_ticked}
use Rattle.hall.specs.Turns.{Given, bytes, hall_tick, tick_bytes, bytes_in, hall_after, share, hall_step}
use Rattle.history.specs.Readings.{is_tick, is_restart, judgement}
use Rattle.history.specs.Claim.{Trace, moment_of, accepted, accepted_as, reports, due_in, trace_on}
use Rattle.history.specs.Facts.{Good, judged, due_read}
use Rattle.history.specs.Theorem.{facts, fresh_good}
use Rattle.shares.specs.Shares.{share_drive, share_answers}
use Rattle.shares.specs.WaitLaws.{restart, wait_event, wait_tick}
use Rattle.shares.specs.Theorem.{share_trace, fitting, share_fits, tick_accepted, no_tick_in, facts_hall, sent_reports}

-- how many hall ticks in a row the drive was due and not sent, up to now, read off its trace: an accepted restart begins anew, and so does
-- a tick at which it is sent or not due
unfoldable pub wait_of : Trace → ℕ
wait_of [] = 0
wait_of (m ∷ t) =
    pick (accepted_as is_restart m t) 0
    (pick (accepted_as is_tick m t) (pick (due_in m t && not (reports m)) (wait_of t + 1) 0) (wait_of t))

-- the wait after an event and after a hall tick, capped and not
event_law : (r : Bool) (a n : ℕ) → a ≡ min n 65535 → pick r 0 a ≡ min (pick r 0 n) 65535
event_law true a n e = refl
event_law false a n e = e

tick_law : (b : Bool) (a n : ℕ) → a ≡ min n 65535 → pick b (next a) 0 ≡ min (pick b (n + 1) 0) 65535
tick_law true a n e = omega arith
tick_law false a n e = refl

-- What one thing given does to the wait of a drive that agrees with its trace.
module _ (d : Drive) (t : Trace) (g : Good d t) (w : d.wait ≡ min (wait_of t) 65535) where
  waited_event : (s : List ℕ) → H.is_tick s ≡ false → let o = step_of d s in o.drive.wait ≡ min (wait_of (moment_of s o ∷ t)) 65535
  unfolding wait_of
  waited_event s n =
      let same : refusal_of d s ≡ judgement (accepted t) s = refusal_wf d s g.wf ∙ judged d t s g in
      wait_event d s
      ∙ event_law (restart d s) d.wait (wait_of t) w
      ∙ rw (no_tick_in t s (step_of d s) n, same)

  waited_tick : (sent : Bool) → let o = hall_ticked sent d in o.drive.wait ≡ min (wait_of (moment_of tick_bytes o ∷ t)) 65535
  unfolding wait_of
  waited_tick sent =
      let o = hall_ticked sent d in
      wait_tick d sent
      ∙ rw (g.wf, tick_accepted t, sent_reports d sent g.wf, ← (due_read d t tick_bytes g (tick_accepted t) refl o))
      (tick_law (due (advance d).drive && not sent) d.wait (wait_of t) w)

-- Over all that a drive is given.
waited : (gs : List Given) (d : Drive) (t : Trace) → Good d t → fitting d gs ≡ true → d.wait ≡ min (wait_of t) 65535
    → (drive_after d (outcomes hall_step d gs)).wait ≡ min (wait_of (trace_on t (map bytes_in gs) (outcomes hall_step d gs))) 65535
unfolding outcomes drive_after trace_on fitting
waited [] d t g q w = w
waited (bytes s ∷ gs) d t g q w =
    let o = step_of d s in
    let n = not-true (H.is_tick s) (and_left (not (H.is_tick s)) _ q) in
    waited gs o.drive (moment_of s o ∷ t) (facts d t s g).good (and_right (not (H.is_tick s)) _ q) (waited_event d t g w s n)
waited (hall_tick sent ∷ gs) d t g q w =
    let o = hall_ticked sent d in
    let f = facts_hall d t g sent (and_left (implies sent (due_now d)) _ q) in
    waited gs o.drive (moment_of tick_bytes o ∷ t) f.good (and_right (implies sent (due_now d)) _ q) (waited_tick d t g w sent)

-- The drive keeps that number, "stopping at 65,535".
pub share_wait : (row : List Drive) (cs : List Call) (i : ℕ) → i < length row → at row i ≡ fresh_drive
    → (at (hall_after row cs) i).wait ≡ min (wait_of (share_trace row i cs)) 65535
unfolding wait_of
share_wait row cs i h fresh =
    rw (share_answers row cs i h, share_drive row cs i h, fresh)
    (waited (share row i cs) fresh_drive [] fresh_good (rw (← fresh) (share_fits cs row i h)) refl)
