-- Document 02, W-208: "Each drive counts the position units it has moved, up to 4,294,967,295, where the count stays; .. The count equals
-- the sum of all its moves in the list of events, up to that cap."
use Rattle.std.specs.Prelude.{◌≡◌, refl, ℕ, ◌+◌, ◌≤◌, min, eqb}
use Rattle.std.proofs.Common.{sym, ◌∙◌, eqb-true, ne_eqb}
use Rattle.std.proofs.Math.Path.{ap}
use mathlib.Core.List.{List, [], ◌∷◌}
use native.Mathlib.Omega.{arith}
use Rattle.std.proofs.lemmas.Bool.{eqb-false}
use Rattle.numbers.specs.Numbers.{distance, counted}
use Rattle.numbers.specs.Laws.{cases}
use Rattle.event.specs.Event.{event_in}
use Rattle.event.specs.Laws.{admitted}
use Rattle.damper.specs.declared.Drive.{Drive}
use Rattle.damper.specs.declared.Outcome.{Outcome}
use Rattle.damper.specs.Record.{fresh_drive}
use Rattle.damper.specs.Tick.{advance}
use Rattle.damper.specs.Step.{refusal_of, applied, step_of}
use Rattle.damper.specs.Laws.{refusal_none}
use Rattle.damper.specs.Carry.{StepOn, outcomes, drive_after}
use Rattle.invariant.specs.Effects as F
use Rattle.history.specs.Readings.{position_in, travel_in, judgement, history_of}
use Rattle.history.specs.Claim as C
use Rattle.history.specs.Claim.{moment_of}
use Rattle.history.specs.Facts.{Good}
use Rattle.history.specs.Theorem.{facts, fresh_good}
use Rattle.history.specs.Standing.{history}

-- ── One event ──

-- A step counts its move: whatever it is given, and whatever record whose count has 32 bits, the count rises by the way from the position
-- before to that after.
abbrev pub Counts : {A : Type 0} → StepOn A → Type 0
Counts {A} step =
    (d : Drive) (x : A) → d.travel ≤ 4294967295
    → (step d x).drive.travel ≡ counted d.travel (distance d.position (step d x).drive.position)

-- "No other event moves the damper": and none changes the count
pub travel_kept : (d : Drive) (s : List ℕ) → (refusal_of d s ≡ 0 → (event_in s).kind ≡ 1 → ⊥)
    → ((step_of d s).drive.travel ≡ d.travel) × ((step_of d s).drive.position ≡ d.position)
travel_kept d s other =
    cases (eqb (refusal_of d s) 0)
    (λ q.
    let z = eqb-true _ 0 q in
    let k = (admitted (event_in s) (refusal_none d s z).2).kind in
    let i = ne_eqb (event_in s).kind 1 (other z) in
    rw (F.step_accepted d s z) (F.travel_after d (event_in s) k ∙ rw i, F.position_after d (event_in s) k ∙ rw i))
    (λ q. rw (F.step_refused d s (eqb-false _ 0 q)) (refl, refl))

-- an accepted tick counts its move
pub travel_ticks : (d : Drive) (s : List ℕ) → refusal_of d s ≡ 0 → (event_in s).kind ≡ 1
    → (step_of d s).drive.travel ≡ counted d.travel (distance d.position (step_of d s).drive.position)
travel_ticks d s z e =
    let k = (admitted (event_in s) (refusal_none d s z).2).kind in
    let travel : (applied d (event_in s)).drive.travel ≡ (advance d).drive.travel = F.travel_after d (event_in s) k ∙ rw e in
    let position : (applied d (event_in s)).drive.position ≡ (advance d).drive.position = F.position_after d (event_in s) k ∙ rw e in
    rw (F.step_accepted d s z)
    (travel ∙ F.advance_travel d ∙ ap (λ (p : ℕ). counted d.travel (distance d.position p)) (sym position))

pub step_counts : Counts step_of
step_counts d s b =
    cases (eqb (refusal_of d s) 0)
    (λ q.
    let z = eqb-true _ 0 q in
    cases (eqb (event_in s).kind 1)
    (λ i. travel_ticks d s z (eqb-true _ 1 i))
    (λ i. let k = travel_kept d s (λ _ e. eqb-false _ 1 i e) in omega (arith, k.0, k.1)))
    (λ q. let k = travel_kept d s (λ z _. eqb-false _ 0 q z) in omega (arith, k.0, k.1))

-- ── From any record ──

-- the way from a record along what came of it
unfoldable pub way_along : Drive → List Outcome → ℕ
way_along d [] = 0
way_along d (o ∷ os) = distance d.position o.drive.position + way_along o.drive os

module _ {A : Type 0} (step : StepOn A) (counts : Counts step) where
  -- the count after them all: what it was and that way, up to the cap
  pub travel_along : (l : List A) (d : Drive) → d.travel ≤ 4294967295
      → (drive_after d (outcomes step d l)).travel ≡ min (d.travel + way_along d (outcomes step d l)) 4294967295
  unfolding outcomes drive_after way_along
  travel_along [] d b = omega arith
  travel_along (x ∷ l) d b =
      let o = step d x in
      let one = counts d x b in
      let rest = travel_along l o.drive (omega arith) in
      omega arith

  count_more : (x w v n : ℕ) → v ≡ min x 4294967295 → n ≡ counted v w → n ≡ min (x + w) 4294967295
  count_more x w v n e f = omega arith

  -- a count that is the sum read off the list stays that sum
  pub travel_next : (d : Drive) (t : C.Trace) (s : List ℕ) (x : A) → (let o = step d x in
      Good d t → Good o.drive (moment_of s o ∷ t)
      → d.travel ≡ min (travel_in (C.accepted t)) 4294967295
      → o.drive.travel ≡ min (travel_in (C.accepted (moment_of s o ∷ t))) 4294967295)
  unfolding travel_in C.accepted
  travel_next d t s x g n w =
      let o = step d x in
      let h = C.accepted t in
      let fits : d.travel ≤ 4294967295 = omega (arith, w) in
      let from = g.position in
      let to = n.position in
      cases (eqb (judgement h s) 0)
      (λ q.
      let to' : o.drive.position ≡ position_in (event_in s ∷ h) = rw q at to in
      let way : distance d.position o.drive.position ≡ distance (position_in h) (position_in (event_in s ∷ h)) = rw (to', from) in
      rw q (count_more (travel_in h) _ _ _ w (counts d x fits ∙ ap (counted d.travel) way)))
      (λ q.
      let to' : o.drive.position ≡ position_in h = rw q at to in
      let none : distance d.position o.drive.position ≡ 0 = rw (to', from) (omega arith) in
      rw q (counts d x fits ∙ ap (counted d.travel) none ∙ omega (arith, w)))

-- ── A drive that was fresh at first ──

travels : (l : List (List ℕ)) (d : Drive) (t : C.Trace) → Good d t → d.travel ≡ min (travel_in (C.accepted t)) 4294967295
    → (drive_after d (outcomes step_of d l)).travel ≡ min (travel_in (C.accepted (C.trace_on t l (outcomes step_of d l)))) 4294967295
unfolding outcomes drive_after C.trace_on
travels [] d t g w = w
travels (s ∷ ss) d t g w =
    let n = (facts d t s g).good in
    travels ss (step_of d s).drive (moment_of s (step_of d s) ∷ t) n (travel_next step_of step_counts d t s s g n w)

-- After every list of event records, of any bytes, the count is the sum of all the moves that the list makes, up to the cap.
pub travel_whole : (l : List (List ℕ))
    → (drive_after fresh_drive (outcomes step_of fresh_drive l)).travel ≡ min (travel_in (history_of l)) 4294967295
unfolding travel_in C.accepted
travel_whole l = rw (← (history l)) (travels l fresh_drive [] fresh_good refl)
