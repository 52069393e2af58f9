-- What an event has passed that none of 9 to 13 fits, and bytes that none of 2 to 13 fits.
use Rattle.std.specs.Prelude.{◌≡◌, Bool, false, List, ℕ, eqb}
use Rattle.std.proofs.Common.{arith, eqb-true}
use Rattle.std.proofs.lemmas.Bool.{eqb-false}
use Rattle.numbers.specs.Laws.{cases, passed}
use Rattle.event.specs.declared.Event.{Event}
use Rattle.event.specs.Event.{record_refusal, event_in}
use Rattle.rules.specs.Refusal.{wrong_property, outside_table, low_above_high, rate_in_run, run_forbidden, state_refusal, refusal}

-- by Low, High, whether a run is on and whether one is forbidden
pub record Passed (e : Event) (low high : ℕ) (running forbidden : Bool) : Type 0 where
  pub range : outside_table e ≡ false
  pub order : low_above_high e low high ≡ false
  pub rate : rate_in_run e running ≡ false
  pub run : run_forbidden e forbidden ≡ false

pub state_passed : (e : Event) (mode low high : ℕ) (running forbidden : Bool) → state_refusal e mode low high running forbidden ≡ 0
    → Passed e low high running forbidden
unfolding state_refusal
state_passed e mode low high running forbidden h =
    let s = passed (wrong_property e mode) 9 _ h (omega arith) in
    let t = passed (outside_table e) 10 _ s.1 (omega arith) in
    let u = passed (low_above_high e low high) 11 _ t.1 (omega arith) in
    let v = passed (rate_in_run e running) 12 _ u.1 (omega arith) in
    record { range = t.0; order = u.0; rate = v.0; run = (passed (run_forbidden e forbidden) 13 _ v.1 (omega arith)).0 }

pub refusal_passed : (s : List ℕ) (mode low high : ℕ) (running forbidden : Bool) → refusal s mode low high running forbidden ≡ 0
    → (record_refusal s ≡ 0) × (state_refusal (event_in s) mode low high running forbidden ≡ 0)
unfolding refusal
refusal_passed s mode low high running forbidden q =
    cases (eqb (record_refusal s) 0) (λ t. (eqb-true _ _ t, rw t at q)) (λ t. absurd (eqb-false _ _ t (rw t at q)))
