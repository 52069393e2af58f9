-- Wordings of a recording and of its findings that look right and are wrong, each with a recording that shows it.
use Rattle.std.specs.Prelude.{◌≡◌, refl, Bool, true, false, List, [], ◌∷◌, ℕ}
use Rattle.answer.specs.declared.Answer.{Answer}
use Rattle.answer.specs.declared.Answer.TheVariants.{No, Done, Par, At, Tick, Report}
use Rattle.history.specs.Closed.{readings}
use Rattle.history.specs.Claim.{Position, accepted}
use Rattle.audit.specs.Audit.{fresh_audit, audit_of}
use Rattle.recording.specs.Recording.{Heard, shown_in, heard_as, Tells}
use Rattle.recording.specs.Witnesses.{computation, tick, setpoint, read}

-- the positions that the records of a recording show one after the other, `shown` telling what an answer shows after a position
abbrev positions_by : (ℕ → Answer → ℕ) → ℕ → List Heard → List ℕ
positions_by shown p [] = []
positions_by shown p (x ∷ l) = let q = shown p x.answer in q ∷ positions_by shown q l

-- A refused record shows position 0.
abbrev refusal_shows_zero : ℕ → Answer → ℕ
refusal_shows_zero p (No n) = 0
refusal_shows_zero p Done = p
refusal_shows_zero p (Par v) = p
refusal_shows_zero p (At q c s) = q
refusal_shows_zero p (Tick q r m) = q
refusal_shows_zero p (Report q r m s) = q

-- A setpoint, a tick to 5 and a record that is refused: the damper stands at 5, and would be found to have moved to 0.
abbrev refused_at_five : List Heard
refused_at_five = setpoint 255 Done ∷ tick (Tick 5 1 1) ∷ record { bytes = []; answer = No 2 } ∷ []

pub refusal_shows_zero_is_wrong : (positions_by shown_in 0 refused_at_five ≡ 0 ∷ 5 ∷ 5 ∷ []) × (positions_by refusal_shows_zero 0 refused_at_five ≡ 0 ∷ 5 ∷ 0 ∷ [])
refusal_shows_zero_is_wrong = (refl, refl)

-- A read shows no position.
abbrev read_shows_none : ℕ → Answer → ℕ
read_shows_none p (No n) = p
read_shows_none p Done = p
read_shows_none p (Par v) = p
read_shows_none p (At q c s) = p
read_shows_none p (Tick q r m) = q
read_shows_none p (Report q r m s) = q

-- A fresh drive that a read shows at 5: it has moved without a tick, and would not be found to.
pub read_shows_none_is_wrong : (positions_by shown_in 0 (read (At 5 2 32) ∷ []) ≡ 5 ∷ []) × (positions_by read_shows_none 0 (read (At 5 2 32) ∷ []) ≡ 0 ∷ [])
read_shows_none_is_wrong = (refl, refl)

-- A finding is true where its sentence holds.
abbrev TellsHolding : Bool → Type 0 → Type 0
TellsHolding true S = S
TellsHolding false S = S → ⊥

-- A fresh drive and a tick that leaves it at 0: no other position is found, and the sentence about the position holds.
abbrev first : Heard
first = tick (Tick 0 0 0)

pub tells_holding_is_wrong : (let f = (audit_of fresh_audit first.bytes first.answer).findings.position in
    Tells f (Position (heard_as [] first) []) × (TellsHolding f (Position (heard_as [] first) []) → ⊥))
unfolding computation readings accepted
tells_holding_is_wrong = (refl, λ f. f refl)
