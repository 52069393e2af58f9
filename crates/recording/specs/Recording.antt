-- A recording of a drive, ours or another: event records, and the answers that its printed lines give. Of such a drive nothing else is
-- known, its drive record least of all. Its trace is one that the claim of demand 3 speaks of; what is found in it tells which sentences
-- of the claim hold.
use Rattle.std.specs.Prelude.{◌≡◌, Bool, true, false, List, [], ◌∷◌, map, ℕ}
use Rattle.answer.specs.declared.Answer.{Answer}
use Rattle.answer.specs.declared.Answer.TheVariants.{No, Done, Par, At, Tick, Report}
use Rattle.damper.specs.declared.Outcome.{Outcome}
use Rattle.history.specs.Readings.{is_tick}
use Rattle.history.specs.Claim.{Moment, Trace, accepted_as, position_after, reports, Spacing, Waiting, Move, Position, Content, Due, Refusal}
use Rattle.audit.specs.declared.Audit.{Audit}
use Rattle.audit.specs.declared.Findings.{Findings}
use Rattle.audit.specs.Audit.{audit_of}

-- one record of a recording: its bytes, and the answer that it is said to have got
pub record Heard : Type 0 where
  pub bytes : List ℕ
  pub answer : Answer

-- the event records of a recording
abbrev pub records_in : List Heard → List (List ℕ)
records_in l = map (λ x. x.bytes) l

-- the recording of a list of records and of what they gave
unfoldable pub recording_of : List (List ℕ) → List Outcome → List Heard
recording_of [] os = []
recording_of (s ∷ l) [] = []
recording_of (s ∷ l) (o ∷ os) = record { bytes = s; answer = o.answer } ∷ recording_of l os

-- the position after an answer, `p` being the one before: where a line shows no position, the damper is where it was last shown, so that a
-- move there is found at the next line that shows one, if it is not undone by then
abbrev pub shown_in : ℕ → Answer → ℕ
shown_in p (No n) = p
shown_in p Done = p
shown_in p (Par v) = p
shown_in p (At q c s) = q
shown_in p (Tick q r m) = q
shown_in p (Report q r m s) = q

-- the record `x` of a recording, which came after the trace `t`
abbrev pub heard_as : Trace → Heard → Moment
heard_as t x = record { bytes = x.bytes; answer = x.answer; position = shown_in (position_after t) x.answer }

-- the trace of a recording, after the trace `t`
unfoldable pub trace_from : Trace → List Heard → Trace
trace_from t [] = t
trace_from t (x ∷ l) = trace_from (heard_as t x ∷ t) l

-- of a drive that was fresh at first
abbrev pub trace_heard : List Heard → Trace
trace_heard l = trace_from [] l

-- a finding and its sentence: where it is true the sentence does not hold, where it is false it does
abbrev pub Tells : Bool → Type 0 → Type 0
Tells true S = S → ⊥
Tells false S = S

-- what the findings at the record `m`, which came after the trace `t`, tell of the claim's sentences there. The two halves of "No other
-- event moves the damper or sends a spontaneous report" each have one. `Formed` has none: it follows from `Refusal`. `answer` is no
-- sentence of the claim: it is demand 2's, see Same.antt.
pub record Told (m : Moment) (t : Trace) (f : Findings) : Type 0 where
  pub spacing : Tells f.spacing (Spacing m t)
  pub waiting : Tells f.waiting (Waiting m t)
  pub moving : Tells f.moving (Move m t)
  pub position : Tells f.position (Position m t)
  pub content : Tells f.content (Content m t)
  pub othermove : Tells f.othermove (accepted_as is_tick m t ≡ false → m.position ≡ position_after t)
  pub otherreport : Tells f.otherreport (accepted_as is_tick m t ≡ false → reports m ≡ false)
  pub due : Tells f.due (Due m t)
  pub refusal : Tells f.refusal (Refusal m t)

-- at each record of a recording, which came after the trace `t`: as many findings as records
abbrev pub ToldFrom : Trace → List Heard → List Findings → Type 0
ToldFrom t [] [] = Unit {0}
ToldFrom t [] (f ∷ fs) = ⊥
ToldFrom t (x ∷ l) [] = ⊥
ToldFrom t (x ∷ l) (f ∷ fs) = Told (heard_as t x) t f × ToldFrom (heard_as t x ∷ t) l fs

-- no sentence is found to fail; `answer` is no sentence
pub record Clean (f : Findings) : Type 0 where
  pub spacing : f.spacing ≡ false
  pub waiting : f.waiting ≡ false
  pub moving : f.moving ≡ false
  pub position : f.position ≡ false
  pub content : f.content ≡ false
  pub othermove : f.othermove ≡ false
  pub otherreport : f.otherreport ≡ false
  pub due : f.due ≡ false
  pub refusal : f.refusal ≡ false

-- the audit carried over a recording: what it finds at each record
unfoldable pub findings_from : Audit → List Heard → List Findings
findings_from a [] = []
findings_from a (x ∷ l) = let r = audit_of a x.bytes x.answer in r.findings ∷ findings_from r.audit l

-- the audit after a recording
unfoldable pub audit_after : Audit → List Heard → Audit
audit_after a [] = a
audit_after a (x ∷ l) = audit_after (audit_of a x.bytes x.answer).audit l
