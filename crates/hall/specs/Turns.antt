-- Document 02, W-201: what the calls on a hall give its drives, the rows after them, and each drive's share of them.
use Rattle.std.specs.Prelude.{Bool, true, ◌&&◌, List, [], ◌∷◌, ◌++◌, map, ℕ, ◌+◌, ◌*◌, eqb, length, get_or, set}
use Rattle.numbers.specs.Numbers.{pick}
use Rattle.numbers.specs.Places.{tabulate}
use Rattle.answer.specs.declared.Answer.{Answer}
use Rattle.answer.specs.Answer.{number_of, values_of, is_report}
use Rattle.event.specs.Kinds as Kind
use Rattle.event.specs.Event.{event, bytes_of}
use Rattle.damper.specs.declared.Drive.{Drive}
use Rattle.damper.specs.declared.Outcome.{Outcome}
use Rattle.damper.specs.Step.{step_of}
use Rattle.damper.specs.Carry.{StepOn, answers_in}
use Rattle.hall.specs.Hall.{Call, give, tick, named_in, carried_out, at}
use Rattle.hall.specs.Quota.{hall_ticked, sends}

-- what a drive is given: an event record, or a hall tick, which sends its report or not
pub data Given : Type 0 where
  bytes : List ℕ → Given
  hall_tick : Bool → Given

-- what it does with that
abbrev pub hall_step : Drive → Given → Outcome
hall_step d (bytes s) = step_of d s
hall_step d (hall_tick sent) = hall_ticked sent d

-- given to the drive at one place of the row
pub record Turn : Type 0 where
  pub place : ℕ
  pub given : Given

abbrev pub turn : Given → ℕ → Turn
turn g i = record { place = i; given = g }

-- as an event record: a hall tick is a tick
abbrev pub tick_bytes : List ℕ
tick_bytes = bytes_of (event Kind.tick 0 0 0)

abbrev pub bytes_in : Given → List ℕ
bytes_in (bytes s) = s
bytes_in (hall_tick sent) = tick_bytes

-- what a call on a row of drives asks for: "to a list of drives, in list order"; "ticks them all", and sends those that the row before it
-- says; "Drives are numbered from 0"
abbrev pub turns_asked : List Drive → Call → List Turn
turns_asked row (give list s room) = map (turn (bytes s)) list
turns_asked row (tick quota room) = tabulate (length row) (λ i. turn (hall_tick (sends quota row i)) i)

-- its turns; where it is refused itself "nothing is touched"
unfoldable pub turns_of : List Drive → Call → List Turn
turns_of row c = pick (carried_out (length row) c) (turns_asked row c) []

-- what a turn gives, and the row after it: the place gets the drive that the step leaves from the drive standing there then
abbrev pub taken : StepOn Given → List Drive → Turn → Outcome
taken step row t = step (at row t.place) t.given

abbrev pub row_with : StepOn Given → List Drive → Turn → List Drive
row_with step row t = set row t.place (taken step row t).drive

-- what turns give, one after the other, each on the row that the one before left
unfoldable pub turned : StepOn Given → List Drive → List Turn → List Outcome
turned step row [] = []
turned step row (t ∷ ts) = taken step row t ∷ turned step (row_with step row t) ts

-- the row after them; "A drive not named keeps every field."
unfoldable pub row_after : StepOn Given → List Drive → List Turn → List Drive
row_after step row [] = row
row_after step row (t ∷ ts) = row_after step (row_with step row t) ts

-- the number of a tick's answer: "0 silent, 65,536 + 256 × position + status for a report, 1 for a drive not well formed" (which is
-- all that can refuse a tick), position and status being the first and the fourth value
abbrev pub tick_number : Answer → ℕ
tick_number a = pick (is_report a) (65536 + 256 * get_or (values_of a) 0 0 + get_or (values_of a) 3 0) (number_of a)

-- "one answer number (0 or the refusal) per entry"; "one number per drive"
abbrev pub answer_number : Call → Answer → ℕ
answer_number (give list s room) a = number_of a
answer_number (tick quota room) a = tick_number a

-- the answer row after a call on a row of drives; "Further places of the row keep their content."
unfoldable pub answers_after : StepOn Given → List Drive → Call → List ℕ → List ℕ
answers_after step row c answers = answers_in (answer_number c) (turned step row (turns_of row c)) answers

-- A list of calls, each on the row that the one before left.

-- the turns of them all
unfoldable pub turns_in : List Drive → List Call → List Turn
turns_in row [] = []
turns_in row (c ∷ cs) = let ts = turns_of row c in ts ++ turns_in (row_after hall_step row ts) cs

-- the row after them
unfoldable pub hall_after : List Drive → List Call → List Drive
hall_after row [] = row
hall_after row (c ∷ cs) = hall_after (row_after hall_step row (turns_of row c)) cs

-- what their turns gave
unfoldable pub hall_turned : List Drive → List Call → List Outcome
hall_turned row [] = []
hall_turned row (c ∷ cs) = let ts = turns_of row c in turned hall_step row ts ++ hall_turned (row_after hall_step row ts) cs

-- The share of the drive at place `i`: "its own share of the hall's calls; a hall call refused itself belongs to no share".

-- what its turns among these give, in order
unfoldable pub shared_out : ℕ → List Turn → List Given
shared_out i [] = []
shared_out i (t ∷ ts) = let rest = shared_out i ts in pick (eqb t.place i) (t.given ∷ rest) rest

-- what these turns gave, of what all of them gave
unfoldable pub own_of : ℕ → List Turn → List Outcome → List Outcome
own_of i [] os = []
own_of i (t ∷ ts) [] = []
own_of i (t ∷ ts) (o ∷ os) = let rest = own_of i ts os in pick (eqb t.place i) (o ∷ rest) rest

-- its share of a list of calls on a row, with each hall tick sent or not by the row before it, and what its turns gave
abbrev pub share : List Drive → ℕ → List Call → List Given
share row i cs = shared_out i (turns_in row cs)

abbrev pub own : List Drive → ℕ → List Call → List Outcome
own row i cs = own_of i (turns_in row cs) (hall_turned row cs)

-- Its share as event records, which the calls and the number of drives decide alone.

-- whether a call is for the drive at place `i`, a hall tick being for each; and the event record that it gives them
abbrev pub is_for : ℕ → Call → Bool
is_for i (give list s room) = named_in i list
is_for i (tick quota room) = true

abbrev pub record_in : Call → List ℕ
record_in (give list s room) = s
record_in (tick quota room) = tick_bytes

-- those that calls on `n` drives give it
unfoldable pub events_for : ℕ → ℕ → List Call → List (List ℕ)
events_for n i [] = []
events_for n i (c ∷ cs) = let rest = events_for n i cs in pick (carried_out n c && is_for i c) (record_in c ∷ rest) rest
