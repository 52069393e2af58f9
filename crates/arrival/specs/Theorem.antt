-- Document 02, W-207: "If one commander rules with one target for K ticks in a row, Rate unwritten, the drive stands at that target after the
-- last of them and stays while that commander and target rule", of every well-formed drive at a position of a byte.
use Rattle.std.specs.Prelude.{◌≡◌, true, ℕ, ◌<◌}
use Rattle.std.proofs.Math.Path.{refl}
use Rattle.std.proofs.Common.{sym, ◌∙◌}
use Rattle.std.proofs.Math.Bool.{false}
use mathlib.Core.List.{List}
use Rattle.std.proofs.Math.Dec.{eqb}
use borrow.Author.Tests.{eqb-true, eqb-false}
use Rattle.numbers.specs.Numbers.{pick}
use Rattle.numbers.specs.Laws.{cases, and_left, not_false, pick_elim}
use Rattle.table.specs.Table.{rows, place_from, known, rate_number, rate}
use Rattle.table.specs.Laws.{all_length}
use Rattle.event.specs.declared.Event.{Event}
use Rattle.event.specs.Kinds as Kind
use Rattle.event.specs.Event.{event_in, bad_kind, value_of}
use Rattle.event.specs.Laws.{admitted}
use Rattle.rules.specs.RefusalLaws.{state_passed, refusal_passed}
use Rattle.damper.specs.declared.Drive.{Drive}
use Rattle.damper.specs.WellFormed.{well_formed}
use Rattle.damper.specs.Tick.{advance}
use Rattle.damper.specs.Step.{refusal_of, step_of}
use Rattle.damper.specs.Laws.{wf_in, refusal_none}
use Rattle.invariant.specs.Effects.{params_after, position_after, step_refused, step_accepted, refusal_wf}
use Rattle.invariant.specs.Kept.{param_after, wf_step}
use Rattle.history.specs.Readings.{is_write}
use Rattle.arrival.specs.Arrival.{Settles, tick_accepted, rate_written}
use Rattle.arrival.specs.Laws.{advance_toward, Moves, settles}

module _ (d : Drive) (s : List ℕ) where
  abbrev e : Event
  e = event_in s

  kind : refusal_of d s ≡ 0 → bad_kind e.kind ≡ false
  kind z = (admitted e (refusal_none d s z).2).kind

  step_position : (step_of d s).drive.position ≡ pick (tick_accepted d s) (advance d).drive.position d.position
  step_position =
      cases (eqb (refusal_of d s) 0)
      (λ q. let z = eqb-true _ 0 q in rw (step_accepted d s z, q) (position_after d e (kind z)))
      (λ q. rw (step_refused d s (eqb-false _ 0 q), q))

  -- what a write that is accepted writes is in the table
  written_known : well_formed d ≡ true → refusal_of d s ≡ 0 → eqb e.kind Kind.write ≡ true → known e.a ≡ true
  written_known w z k =
      let p = state_passed e _ _ _ _ _ (refusal_passed s _ _ _ _ _ (sym (refusal_wf d s w) ∙ z)).1 in
      and_left (known e.a) _ (not_false _ (rw k at p.range))

  step_rate : well_formed d ≡ true → rate_written d s ≡ false → rate (step_of d s).drive.params ≡ rate d.params
  unfolding place_from
  step_rate w n =
      cases (eqb (refusal_of d s) 0)
      (λ q.
      let z = eqb-true _ 0 q in
      let n' : is_write rate_number e ≡ false = rw q at n in
      rw (step_accepted d s z, params_after d e (kind z))
      (pick_elim (λ (p : List ℕ). rate p ≡ rate d.params) (eqb e.kind 8)
      (λ k.
      let other : eqb e.a rate_number ≡ false = rw k at n' in
      param_after d.params e.a (value_of e) (all_length rows d.params (wf_in d w)) (written_known w z k) 9 rate_number refl refl ∙ rw other)
      (λ k. refl)))
      (λ q. rw (step_refused d s (eqb-false _ 0 q)))

-- a step is such
pub step_moves : Moves step_of tick_accepted rate_written
step_moves =
    record {
      formed = wf_step;
      position = λ d s w. step_position d s ∙ rw (advance_toward d);
      kept = step_rate;
    }

-- For every such drive, every source and target, and all lists of event records.
pub drive_settles : (d : Drive) → well_formed d ≡ true → d.position < 256 → Settles step_of tick_accepted rate_written d
drive_settles = settles step_moves
