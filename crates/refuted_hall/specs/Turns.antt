-- Wrong turns of a hall call, wrong answer rows and wrong shares, each with calls of which document 02 says otherwise. The hall has three
-- drives, of which the second is not well formed.
use Rattle.std.specs.Prelude.{refl, Bool, false, ◌||◌, List, [], ◌∷◌, ◌++◌, map, reverse, ℕ, ◌-◌, ltb, eqb, length, get_or, set, take, replicate}
use Rattle.numbers.specs.Numbers.{pick, bit}
use Rattle.numbers.specs.Every.{Every}
use Rattle.numbers.specs.Places.{places_from, tabulate}
use Rattle.table.specs.Table.{fresh_values}
use Rattle.answer.specs.declared.Answer.{Answer}
use Rattle.answer.specs.Answer.{number_of}
use Rattle.event.specs.Event.{event, bytes_of}
use Rattle.event.specs.Kinds as Kind
use Rattle.rules.specs.Commands.{no_commands, interlocked}
use Rattle.damper.specs.declared.Drive.{Drive}
use Rattle.damper.specs.declared.Outcome.{Outcome}
use Rattle.damper.specs.Record.{drive, last, fresh_drive, with_commands, no_run}
use Rattle.damper.specs.Carry.{answers_in}
use Rattle.hall.specs.Hall.{Call, give, tick, call_refusal, carried_out, at}
use Rattle.hall.specs.Quota.{sends}
use Rattle.hall.specs.Turns.{Given, bytes, hall_tick, hall_step, Turn, turn, bytes_in, turns_asked, turns_of, row_with, turned, row_after, answers_after, shared_out, share, own}
use Rattle.refuted_hall.specs.Closed.{computation, Case, Refuted, all_refuted}

-- whether what a drive is given sends its report
abbrev sent_in : Given → Bool
sent_in (bytes s) = false
sent_in (hall_tick sent) = sent

-- Wrong turns.

abbrev Turns : Type 0
Turns = List Drive → Call → List Turn

-- carried out where it is refused by 14 or 15
abbrev given_below16 : Turns
given_below16 row c = pick (ltb (call_refusal (length row) c) 16) (turns_asked row c) []

-- a list that names a drive twice is given, and refused then
abbrev given_then_refused : Turns
given_then_refused row c = pick (carried_out (length row) c || eqb (call_refusal (length row) c) 19) (turns_asked row c) []

-- so is the event to the first of such a list, the repeat being found on the way
abbrev first_given : Turns
first_given row c =
    let n = length row in
    pick (carried_out n c) (turns_asked row c) (pick (eqb (call_refusal n c) 19) (take 1 (turns_asked row c)) [])

-- ticked before the quota is looked at
abbrev ticked_then_refused : Turns
ticked_then_refused row c = pick (carried_out (length row) c || eqb (call_refusal (length row) c) 18) (turns_asked row c) []

-- entry k of the list goes to drive k
abbrev place_by_entry : Turns
place_by_entry row (give list s room) = tabulate (length list) (turn (bytes s))
place_by_entry row (tick quota room) = turns_of row (tick quota room)

-- the event goes to each drive of the row
abbrev whole_row : Turns
whole_row row (give list s room) = tabulate (length row) (turn (bytes s))
whole_row row (tick quota room) = turns_of row (tick quota room)

-- the last drive is not ticked
abbrev last_skipped : Turns
last_skipped row (give list s room) = turns_of row (give list s room)
last_skipped row (tick quota room) = take (length row - 1) (turns_of row (tick quota room))

-- who is sent is judged at each turn, on the row that the turns before left
abbrev turns_from : ℕ → List Drive → List ℕ → List Turn
turns_from quota row [] = []
turns_from quota row (i ∷ places) =
    let t = turn (hall_tick (sends quota row i)) i in
    t ∷ turns_from quota (row_with hall_step row t) places

abbrev as_the_row_stands : Turns
as_the_row_stands row (give list s room) = turns_of row (give list s room)
as_the_row_stands row (tick quota room) = turns_from quota row (places_from 0 (length row))

-- three drives that are due, for want of a report
abbrev due : List Drive
due = replicate 3 (drive 0 (set fresh_values 3 1) no_commands 0 no_run 0 (last 0 0 0) 0 0)

-- the places that send
abbrev sending : List Turn → List ℕ
sending [] = []
sending (t ∷ ts) = pick (sent_in t.given) (t.place ∷ sending ts) (sending ts)

-- a call on so many fresh drives, and the places that have a turn by document 02, in order
abbrev turns_by : Turns → ℕ → Call → List ℕ → Case
turns_by wrong n c places = record {
  given = map (λ (t : Turn). t.place) (turns_of (replicate n fresh_drive) c);
  wrong = map (λ (t : Turn). t.place) (wrong (replicate n fresh_drive) c);
  paper = places;
}

abbrev calibration : List ℕ
calibration = bytes_of (event Kind.calibration 0 0 0)

abbrev pub turn_table : List Case
turn_table =
    -- "nothing is touched", "nothing touched", "before any drive is ticked"
    turns_by given_below16 3 (give (0 ∷ 3 ∷ []) calibration 2) []
    ∷ turns_by given_then_refused 8 (give (7 ∷ 3 ∷ 7 ∷ []) calibration 3) []
    ∷ turns_by first_given 8 (give (7 ∷ 3 ∷ 7 ∷ []) calibration 3) []
    ∷ turns_by ticked_then_refused 2 (tick 65 2) []
    -- "to a list of drives, in list order", "A drive not named keeps every field."
    ∷ turns_by place_by_entry 3 (give (2 ∷ 0 ∷ []) calibration 2) (2 ∷ 0 ∷ [])
    ∷ turns_by whole_row 3 (give (2 ∷ 0 ∷ []) calibration 2) (2 ∷ 0 ∷ [])
    -- "One call ticks them all"
    ∷ turns_by last_skipped 3 (tick 1 3) (0 ∷ 1 ∷ 2 ∷ [])
    -- W-210: by the row before the tick
    ∷ record { given = sending (turns_of due (tick 1 3)); wrong = sending (as_the_row_stands due (tick 1 3)); paper = 0 ∷ [] }
    ∷ []

pub turns_refuted : Every Refuted turn_table
unfolding computation
turns_refuted = all_refuted turn_table refl

-- Wrong answer rows.

abbrev Answers : Type 0
Answers = List Drive → Call → List ℕ → List ℕ

-- further places are cleared
abbrev tail_cleared : Answers
tail_cleared row c answers = answers_after hall_step row c (replicate (length answers) 0)

-- the row is cleared and the call refused then
abbrev cleared_then_refused : Answers
cleared_then_refused row c answers =
    pick (carried_out (length row) c) (answers_after hall_step row c answers) (replicate (length answers) 0)

-- 1 for every refusal
abbrev one_for_each : Answer → ℕ
one_for_each a = pick (eqb (number_of a) 0) 0 1

abbrev one_for_every_refusal : Answers
one_for_every_refusal row c answers = answers_in one_for_each (turned hall_step row (turns_of row c)) answers

-- forcing 4, which no event sets
abbrev broken : Drive
broken = with_commands fresh_drive (interlocked no_commands 0 4) 0 no_run

abbrev hall : List Drive
hall = fresh_drive ∷ broken ∷ fresh_drive ∷ []

-- a tick with an unused byte that is not 0
abbrev damaged : List ℕ
damaged = bytes_of (event Kind.tick 0 0 1)

-- a call on the hall, its answer row before, and after it by document 02
abbrev answers_by : Answers → Call → List ℕ → List ℕ → Case
answers_by wrong c answers after = record { given = answers_after hall_step hall c answers; wrong = wrong hall c answers; paper = after }

abbrev pub answer_table : List Case
answer_table =
    -- "Further places of the row keep their content."
    answers_by tail_cleared (give (2 ∷ 1 ∷ []) calibration 4) (9 ∷ 9 ∷ 9 ∷ 9 ∷ []) (0 ∷ 1 ∷ 9 ∷ 9 ∷ [])
    -- "nothing is touched"
    ∷ answers_by cleared_then_refused (give (0 ∷ 3 ∷ []) calibration 2) (9 ∷ 9 ∷ []) (9 ∷ 9 ∷ [])
    -- "one answer number (0 or the refusal) per entry": 5 for an unused byte that is not 0
    ∷ answers_by one_for_every_refusal (give (0 ∷ 1 ∷ []) damaged 2) (9 ∷ 9 ∷ []) (5 ∷ 1 ∷ [])
    ∷ []

pub answers_refuted : Every Refuted answer_table
unfolding computation
answers_refuted = all_refuted answer_table refl

-- Wrong shares.

abbrev Share : Type 0
Share = List Drive → ℕ → List Call → List Given

-- the latest call first
abbrev latest_first : Share
latest_first row i cs = reverse (share row i cs)

-- a call that is refused itself belongs to the shares of those that it names
abbrev asked : List Drive → List Call → List Turn
asked row [] = []
asked row (c ∷ cs) = turns_asked row c ++ asked (row_after hall_step row (turns_of row c)) cs

abbrev refused_shared : Share
refused_shared row i cs = shared_out i (asked row cs)

abbrev setpoint : List ℕ
setpoint = bytes_of (event Kind.setpoint 128 0 0)

-- a setpoint for drives 2 and 0, a calibration that lists a drive 3, a hall tick that sends none
abbrev calls : List Call
calls = give (2 ∷ 0 ∷ []) setpoint 2 ∷ give (0 ∷ 3 ∷ []) calibration 2 ∷ tick 1 3 ∷ []

-- the kinds of the share of drive 0, and by document 02: 2 setpoint, 6 calibration, 1 tick
abbrev kinds : List Given → List ℕ
kinds gs = map (λ g. get_or (bytes_in g) 2 0) gs

abbrev share_by : Share → List ℕ → Case
share_by wrong paper = record { given = kinds (share hall 0 calls); wrong = kinds (wrong hall 0 calls); paper = paper }

-- who is sent at a hall tick is judged by the row before all calls
abbrev sent_by_the_first_row : Share
sent_by_the_first_row row i [] = []
sent_by_the_first_row row i (c ∷ cs) = shared_out i (turns_of row c) ++ sent_by_the_first_row row i cs

-- at which of its hall ticks a drive is sent: 1 if so
abbrev sent_ticks : List Given → List ℕ
sent_ticks gs = map (λ g. bit (sent_in g) 1) gs

-- everything given to the drive as it was at first, and not to the one that the thing before left
abbrev each_from_the_start : List Drive → ℕ → List Call → List Outcome
each_from_the_start row i cs = map (hall_step (at row i)) (share row i cs)

-- the positions that the share of drive 0 leaves, one after the other
abbrev positions : List Outcome → List ℕ
positions os = map (λ (o : Outcome). o.drive.position) os

abbrev pub share_table : List Case
share_table =
    -- "its own share of the hall's calls; a hall call refused itself belongs to no share"
    share_by latest_first (2 ∷ 1 ∷ [])
    ∷ share_by refused_shared (2 ∷ 1 ∷ [])
    -- W-210: each hall tick sends by the row that it finds
    ∷ (let ticks = tick 1 3 ∷ tick 1 3 ∷ tick 1 3 ∷ [] in
    record { given = sent_ticks (share due 1 ticks); wrong = sent_ticks (sent_by_the_first_row due 1 ticks); paper = 0 ∷ 1 ∷ 0 ∷ [] })
    -- Rate is 5: the tick moves the damper as the setpoint before it says
    ∷ record { given = positions (own hall 0 calls); wrong = positions (each_from_the_start hall 0 calls); paper = 0 ∷ 5 ∷ [] }
    ∷ []

pub shares_refuted : Every Refuted share_table
unfolding computation
shares_refuted = all_refuted share_table refl
