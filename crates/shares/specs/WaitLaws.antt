-- What changes the wait of a drive, at one turn (document 02, W-204): "Restart clears the wait; otherwise only hall ticks change it".
use Rattle.std.specs.Prelude.{◌≡◌, Bool, ◌&&◌, List, ℕ, eqb}
use Rattle.std.proofs.Common.{◌∙◌, eqb-true}
use Rattle.std.proofs.Math.Bool.{true, false, and-false}
use Rattle.std.proofs.lemmas.Bool.{eqb-false}
use Rattle.numbers.specs.Numbers.{pick, next}
use Rattle.numbers.specs.Laws.{cases, and_left, and_right}
use Rattle.event.specs.Kinds as Kind
use Rattle.event.specs.Event.{event_in}
use Rattle.event.specs.Laws.{admitted}
use Rattle.damper.specs.declared.Drive.{Drive}
use Rattle.damper.specs.WellFormed.{well_formed}
use Rattle.damper.specs.Tick.{advance, due, status_of}
use Rattle.damper.specs.Step.{tick_with, refusal_of, step_of}
use Rattle.damper.specs.Laws.{refusal_none}
use Rattle.invariant.specs.Effects.{wait_after_lem, step_refused, step_accepted}
use Rattle.invariant.specs.Kept.{wf_report, wf_advance}
use Rattle.hall.specs.Quota.{due_now, wait_after, hall_ticked}

-- an accepted restart
abbrev pub restart : Drive → List ℕ → Bool
restart d s = eqb (refusal_of d s) 0 && eqb (event_in s).kind Kind.restart

module _ (d : Drive) where
  -- over an event, accepted or refused
  pub wait_event : (s : List ℕ) → (step_of d s).drive.wait ≡ pick (restart d s) 0 d.wait
  wait_event s =
      cases (eqb (refusal_of d s) 0)
      (λ q.
      let z = eqb-true _ 0 q in
      rw (step_accepted d s z, q) (wait_after_lem d (event_in s) (admitted (event_in s) (refusal_none d s z).2).kind))
      (λ q. rw (step_refused d s (eqb-false _ 0 q), q))

  -- over a hall tick; "a drive not well formed keeps it"
  pub wait_tick : (sent : Bool) → (hall_ticked sent d).drive.wait ≡ pick (well_formed d) (wait_after (due (advance d).drive) sent d.wait) d.wait
  unfolding hall_ticked
  wait_tick sent = cases (well_formed d) (λ w. rw w) (λ w. rw w)

  -- "sent or not due it is 0"
  pub wait_sent : well_formed d ≡ true → (hall_ticked true d).drive.wait ≡ 0
  wait_sent w = wait_tick true ∙ rw (w, and-false (due (advance d).drive))

  pub wait_undue : (sent : Bool) → well_formed d ≡ true → due_now d ≡ false → (hall_ticked sent d).drive.wait ≡ 0
  unfolding due_now
  wait_undue sent w n = let u : due (advance d).drive ≡ false = rw w at n in wait_tick sent ∙ rw (w, u)

  -- due and not sent it rises by one, "stopping at 65,535"
  pub wait_held : due_now d ≡ true → (hall_ticked false d).drive.wait ≡ next d.wait
  unfolding due_now
  wait_held n = wait_tick false ∙ rw (and_left (well_formed d) _ n, and_right (well_formed d) _ n)

  -- a hall tick, too, leaves a record as well formed as it was
  pub formed_ticked : (sent : Bool) → well_formed (hall_ticked sent d).drive ≡ well_formed d
  unfolding hall_ticked tick_with well_formed
  formed_ticked true = cases (well_formed d) (λ w. rw w (wf_report (advance d).drive (wf_advance d w) (status_of (advance d).drive))) (λ w. rw w w)
  formed_ticked false = cases (well_formed d) (λ w. rw w (wf_advance d w)) (λ w. rw w w)
