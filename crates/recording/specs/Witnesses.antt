-- That no finding is idle: for each a recording of a few records whose last one it is found at.
use Rattle.std.specs.Prelude.{◌≡◌, refl, Bool, List, [], ◌∷◌, map, ℕ}
use Rattle.numbers.specs.Numbers.{pick}
use Rattle.event.specs.Kinds as Kind
use Rattle.event.specs.Event.{event, bytes_of}
use Rattle.answer.specs.declared.Answer.{Answer}
use Rattle.answer.specs.declared.Answer.TheVariants.{No, Done, At, Tick, Report}
use Rattle.damper.specs.Closed as Drive
use Rattle.audit.specs.declared.Findings.{Findings}
use Rattle.audit.specs.Audit.{fresh_audit, met_by, findings_of, followed, audit_of}
use Rattle.recording.specs.Recording.{Heard, findings_from}

-- the findings by name
pub data Finding : Type 0 where
  spacing : Finding
  waiting : Finding
  moving : Finding
  position : Finding
  content : Finding
  othermove : Finding
  otherreport : Finding
  due : Finding
  refusal : Finding
  answer : Finding

-- those that are true, in their order
abbrev named : Bool → Finding → List Finding → List Finding
named b n l = pick b (n ∷ l) l

abbrev pub names_in : Findings → List Finding
names_in f =
    named f.spacing spacing
    (named f.waiting waiting
    (named f.moving moving
    (named f.position position
    (named f.content content
    (named f.othermove othermove
    (named f.otherreport otherreport
    (named f.due due
    (named f.refusal refusal
    (named f.answer answer [])))))))))

-- what is found at each record of a recording
abbrev pub found_in : List Heard → List (List Finding)
found_in l = map names_in (findings_from fresh_audit l)

-- `unfolding computation` opens the drive and the audit, so that a recording computes
unfoldable pub computation : Unit {0}
unfolding Drive.computation met_by findings_of followed audit_of findings_from
computation = tt

-- the records, with what they are answered
abbrev pub tick : Answer → Heard
tick y = record { bytes = bytes_of (event Kind.tick 0 0 0); answer = y }

abbrev pub setpoint : ℕ → Answer → Heard
setpoint v y = record { bytes = bytes_of (event Kind.setpoint v 0 0); answer = y }

abbrev pub read : Answer → Heard
read y = record { bytes = bytes_of (event Kind.read_position 0 0 0); answer = y }

abbrev min_rep_time : ℕ → Heard
min_rep_time v = record { bytes = bytes_of (event Kind.write 117 0 v); answer = Done }

-- two reports at ticks in a row under MinRepTime 2: the second one is too near, and not due
pub spacing_found : found_in (min_rep_time 2 ∷ tick (Tick 0 0 0) ∷ tick (Report 0 0 0 32) ∷ tick (Report 0 0 0 32) ∷ [])
    ≡ [] ∷ [] ∷ [] ∷ (spacing ∷ due ∷ answer ∷ []) ∷ []
unfolding computation
spacing_found = refl

-- no first report after MinRepTime ticks, where it is due
pub waiting_found : found_in (min_rep_time 2 ∷ tick (Tick 0 0 0) ∷ tick (Tick 0 0 0) ∷ []) ≡ [] ∷ [] ∷ (waiting ∷ due ∷ answer ∷ []) ∷ []
unfolding computation
waiting_found = refl

-- 4 in place of 5 on the way to 255, so that the position is another too
pub moving_found : found_in (setpoint 255 Done ∷ tick (Tick 4 1 1) ∷ []) ≡ [] ∷ (moving ∷ position ∷ answer ∷ []) ∷ []
unfolding computation
moving_found = refl

-- then 10, which the list reads there, but 4 and 5 are 9
pub moving_only : found_in (setpoint 255 Done ∷ tick (Tick 4 1 1) ∷ tick (Tick 10 1 1) ∷ [])
    ≡ [] ∷ (moving ∷ position ∷ answer ∷ []) ∷ (moving ∷ []) ∷ []
unfolding computation
moving_only = refl

-- then another event: nothing moves, and the position is still another
pub position_found : found_in (setpoint 255 Done ∷ tick (Tick 4 1 1) ∷ setpoint 255 Done ∷ [])
    ≡ [] ∷ (moving ∷ position ∷ answer ∷ []) ∷ (position ∷ []) ∷ []
unfolding computation
position_found = refl

-- then a read that shows the right one
pub othermove_found : found_in (setpoint 255 Done ∷ tick (Tick 4 1 1) ∷ read (At 5 2 0) ∷ [])
    ≡ [] ∷ (moving ∷ position ∷ answer ∷ []) ∷ (othermove ∷ []) ∷ []
unfolding computation
othermove_found = refl

-- a report of status 0 where the bus is not active
pub content_found : found_in (min_rep_time 1 ∷ tick (Report 0 0 0 0) ∷ []) ≡ [] ∷ (content ∷ answer ∷ []) ∷ []
unfolding computation
content_found = refl

-- a setpoint that is answered by a report
pub otherreport_found : found_in (setpoint 0 (Report 0 0 0 0) ∷ []) ≡ (otherreport ∷ answer ∷ []) ∷ []
unfolding computation
otherreport_found = refl

-- a first report before MinRepTime ticks
pub due_found : found_in (tick (Report 0 0 0 32) ∷ []) ≡ (due ∷ answer ∷ []) ∷ []
unfolding computation
due_found = refl

-- a setpoint that is refused
pub refusal_found : found_in (setpoint 0 (No 5) ∷ []) ≡ (refusal ∷ answer ∷ []) ∷ []
unfolding computation
refusal_found = refl

-- a tick that shows another ruling rank
pub answer_found : found_in (tick (Tick 0 1 0) ∷ []) ≡ (answer ∷ []) ∷ []
unfolding computation
answer_found = refl
