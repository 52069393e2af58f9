-- A hall of three by computation: a fresh drive, one that is not well formed and one that is open, under calls, refused ones among them,
-- and three hall ticks, of which each of the first two holds back a report that is due.
use Rattle.std.specs.Prelude.{◌≡◌, refl, true, false, List, [], ◌∷◌, ◌++◌, map, ℕ, ◌+◌, ◌*◌, eqb, get_or, replicate, set, take, drop}
use Rattle.numbers.specs.Numbers.{pick}
use Rattle.table.specs.Table.{fresh_values}
use Rattle.event.specs.declared.Event.{Event}
use Rattle.event.specs.Event.{event_in}
use Rattle.rules.specs.Commands.{no_commands, interlocked}
use Rattle.rules.specs.Report.{Sent, silent, sent}
use Rattle.answer.specs.declared.Answer.{Answer}
use Rattle.answer.specs.declared.Answer.TheVariants.{Done, Tick, Report}
use Rattle.damper.specs.declared.Drive.{Drive}
use Rattle.damper.specs.declared.Outcome.{Outcome}
use Rattle.damper.specs.Record.{drive, last, no_run, fresh_drive}
use Rattle.hall.specs.Closed as Closed
use Rattle.hall.specs.EventLaws.{turns_in_to16, all_once}
use Rattle.hall.specs.Hall as H
use Rattle.hall.specs.Hall.{Call, give, call_refusal, at}
use Rattle.hall.specs.Turns.{Given, bytes, hall_tick, hall_step, Turn, bytes_in, turns_of, row_after, answers_after, turns_in, hall_after, hall_turned, share, own, events_for}
use Rattle.line.specs.Text.{text}
use Rattle.line.specs.Line.{decimal, digits_within}
use Rattle.shift.specs.Shift.{right, left, binary, drive_line, lines_from, page_refusal, page_after}
use Rattle.history.specs.Readings.{position_in, travel_in, status_in, judgement, history_of}
use Rattle.history.specs.Closed.{readings}
use Rattle.history.specs.Log.{Entry, entry}
use Rattle.history.specs.Claim.{reports_from}
use Rattle.shares.specs.SharedLog.{shared_log_from, shared_log}
use Rattle.shares.specs.HostLog.{read_off, Lent, host_log}
use Rattle.shares.specs.PageRead.{line_in}

-- `unfolding computation` opens drive and hall, and what is read off the calls
unfoldable computation : Unit {0}
unfolding Closed.computation all_once turns_in_to16 reports_from host_log
computation = tt

-- the event records, as bytes
abbrev tick : List ℕ
tick = 0x5a ∷ 0xc3 ∷ 1 ∷ 0 ∷ 0 ∷ 0 ∷ []

abbrev setpoint : ℕ → List ℕ
setpoint a = 0x5a ∷ 0xc3 ∷ 2 ∷ a ∷ 0 ∷ 0 ∷ []

abbrev calibration : List ℕ
calibration = 0x5a ∷ 0xc3 ∷ 6 ∷ 0 ∷ 0 ∷ 0 ∷ []

-- MinRepTime 1
abbrev every_tick : List ℕ
every_tick = 0x5a ∷ 0xc3 ∷ 8 ∷ 117 ∷ 0 ∷ 1 ∷ []

-- forcing 4, which no event sets
abbrev broken : Drive
broken = drive 0 fresh_values (interlocked no_commands 0 4) 0 no_run 0 (last 0 0 0) 0 0

-- at position 200, with Rate 128, so that a run takes two ticks
abbrev opened : Drive
opened = drive 200 (set fresh_values 9 128) no_commands 0 no_run 0 (last 0 0 0) 0 0

abbrev hall : List Drive
hall = fresh_drive ∷ broken ∷ opened ∷ []

abbrev calls : List Call
calls =
    give (0 ∷ 2 ∷ []) every_tick 3
    ∷ give (2 ∷ 0 ∷ []) (setpoint 128) 4
    -- there is no drive 3
    ∷ give (0 ∷ 3 ∷ []) (setpoint 255) 2
    ∷ give (2 ∷ []) calibration 2
    -- drive 2 is named twice
    ∷ give (2 ∷ 0 ∷ 2 ∷ []) calibration 3
    ∷ give (1 ∷ []) (setpoint 7) 1
    -- a tick is no event for a list, and two answers have no room in a row of one
    ∷ give (0 ∷ []) tick 1
    ∷ give (0 ∷ 2 ∷ []) calibration 1
    -- drives 0 and 2 are due, neither has waited: the lower number goes
    ∷ H.tick 1 3
    -- three numbers have no room in a row of two, and a quota is at least 1
    ∷ H.tick 2 2
    ∷ H.tick 0 3
    -- both are due again, and drive 2 waited longer
    ∷ H.tick 1 5
    -- both once more, and both go
    ∷ H.tick 2 3
    ∷ []

-- which of them are refused
pub refusals : map (call_refusal 3) calls ≡ 0 ∷ 0 ∷ 15 ∷ 0 ∷ 19 ∷ 0 ∷ 16 ∷ 16 ∷ 0 ∷ 16 ∷ 18 ∷ 0 ∷ 0 ∷ []
unfolding computation
refusals = refl

-- the three shares: a refused call is in none; as event records, by the calls alone
pub shares : (share hall 0 calls ≡ map bytes (every_tick ∷ setpoint 128 ∷ []) ++ map hall_tick (true ∷ false ∷ true ∷ []))
    × (share hall 1 calls ≡ bytes (setpoint 7) ∷ map hall_tick (false ∷ false ∷ false ∷ []))
    × (share hall 2 calls ≡ map bytes (every_tick ∷ setpoint 128 ∷ calibration ∷ []) ++ map hall_tick (false ∷ true ∷ true ∷ []))
    × (events_for 3 2 calls ≡ every_tick ∷ setpoint 128 ∷ calibration ∷ tick ∷ tick ∷ tick ∷ [])
unfolding computation
shares = (refl, refl, refl, refl)

-- the fifth call alone has a repeat, and all of them do what W-201 has the others do
abbrev others : List Call
others = take 4 calls ++ drop 5 calls

pub repeats : (all_once calls ≡ false)
    × (all_once others ≡ true)
    × (hall_after hall calls ≡ row_after hall_step hall (turns_in_to16 hall others))
unfolding computation
repeats = (refl, refl, refl)

-- each call's answer row, which held 9 at each place before
abbrev room_of : Call → ℕ
room_of (give list s room) = room
room_of (H.tick quota room) = room

abbrev answer_rows : List Drive → List Call → List (List ℕ)
answer_rows row [] = []
answer_rows row (c ∷ cs) =
    answers_after hall_step row c (replicate (room_of c) 9) ∷ answer_rows (row_after hall_step row (turns_of row c)) cs

-- "65,536 + 256 × position + status for a report"
abbrev report : ℕ → ℕ → ℕ
report p s = 65536 + 256 * p + s

-- the fresh drive reports 5, is held at 10 and reports 15; the open one is held at 72 in calibration, reports 0 and, its run being over,
-- 128; the broken one is refused by 1
pub answers : answer_rows hall calls
    ≡ (0 ∷ 0 ∷ 9 ∷ [])
    ∷ (0 ∷ 0 ∷ 9 ∷ 9 ∷ [])
    ∷ (9 ∷ 9 ∷ [])
    ∷ (0 ∷ 9 ∷ [])
    ∷ (9 ∷ 9 ∷ 9 ∷ [])
    ∷ (1 ∷ [])
    ∷ (9 ∷ [])
    ∷ (9 ∷ [])
    ∷ (report 5 0 ∷ 1 ∷ 0 ∷ [])
    ∷ (9 ∷ 9 ∷ [])
    ∷ (9 ∷ 9 ∷ 9 ∷ [])
    ∷ (0 ∷ 1 ∷ report 0 0 ∷ 9 ∷ 9 ∷ [])
    ∷ (report 15 0 ∷ 1 ∷ report 128 0 ∷ [])
    ∷ []
unfolding computation
answers = refl

-- the waits after the first hall tick, the second and the third
abbrev waits_after : ℕ → List ℕ
waits_after k = map (λ (d : Drive). d.wait) (hall_after hall (take k calls))

pub waits : (waits_after 9 ≡ 0 ∷ 0 ∷ 1 ∷ []) × (waits_after 12 ≡ 1 ∷ 0 ∷ 0 ∷ []) × (waits_after 13 ≡ 0 ∷ 0 ∷ 0 ∷ [])
unfolding computation
waits = (refl, refl, refl)

-- the broken drive keeps its record
pub kept : at (hall_after hall calls) 1 ≡ broken
unfolding computation
kept = refl

-- position, run and ticks left of a drive
abbrev standing : Drive → List ℕ
standing d = d.position ∷ d.run.kind ∷ d.run.left ∷ []

-- the fresh drive is on its way to 128, the open one has come there from 0 and its run is over
pub stand : (standing (at (hall_after hall calls) 0) ≡ 15 ∷ 0 ∷ 0 ∷ [])
    × (standing (at (hall_after hall calls) 2) ≡ 128 ∷ 0 ∷ 0 ∷ [])
unfolding computation
stand = (refl, refl)

-- the answers of the fresh drive's own turns
abbrev answers_of : List Outcome → List Answer
answers_of os = map (λ (o : Outcome). o.answer) os

pub owned : answers_of (own hall 0 calls) ≡ Done ∷ Done ∷ Report 5 1 1 0 ∷ Tick 10 1 1 ∷ Report 15 1 1 0 ∷ []
unfolding computation
owned = refl

-- its reports, numbered within its share, and read off it
pub log : (reports_from 0 (own hall 0 calls) ≡ entry 3 5 0 ∷ entry 5 15 0 ∷ [])
    × (shared_log (share hall 0 calls) ≡ entry 3 5 0 ∷ entry 5 15 0 ∷ [])
unfolding computation readings shared_log_from
log = (refl, refl)

-- Numbered among all turns of the hall its reports would be the seventh and the thirteenth, beside those of drive 2.
pub numbered_by_the_hall : reports_from 0 (hall_turned hall calls)
    ≡ entry 7 5 0 ∷ entry 12 0 0 ∷ entry 13 15 0 ∷ entry 15 128 0 ∷ []
unfolding computation
numbered_by_the_hall = refl

-- A log that notes the report of every hall tick would have the one that is held, at 10.
abbrev every_tick_noted : ℕ → List Event → List Given → List Entry
every_tick_noted n h [] = []
every_tick_noted n h (bytes s ∷ gs) = every_tick_noted (n + 1) (pick (eqb (judgement h s) 0) (event_in s ∷ h) h) gs
every_tick_noted n h (hall_tick sending ∷ gs) =
    let h' = event_in tick ∷ h in
    entry (n + 1) (position_in h') (status_in h') ∷ every_tick_noted (n + 1) h' gs

pub held_noted : every_tick_noted 0 [] (share hall 0 calls) ≡ entry 3 5 0 ∷ entry 4 10 0 ∷ entry 5 15 0 ∷ []
unfolding computation readings
held_noted = refl

-- a drive that no call names has no share, and keeps its record
abbrev elsewhere : List Call
elsewhere = give (0 ∷ 1 ∷ []) (setpoint 7) 2 ∷ []

pub unnamed : (share hall 2 elsewhere ≡ []) × (at (hall_after hall elsewhere) 2 ≡ opened)
unfolding computation
unnamed = (refl, refl)

-- A list that names a drive twice leaves the row as it was; without the repeat it leaves one row, whatever its order, in which the drives
-- that it names calibrate.
abbrev calibrating : List ℕ → List Drive
calibrating list = hall_after hall (give list calibration 3 ∷ [])

abbrev runs : List Drive → List (List ℕ)
runs row = map (λ (d : Drive). d.run.kind ∷ d.run.left ∷ []) row

pub pasted : (calibrating (2 ∷ 0 ∷ 2 ∷ []) ≡ hall)
    × (calibrating (2 ∷ 0 ∷ []) ≡ calibrating (0 ∷ 2 ∷ []))
    × (runs (calibrating (2 ∷ 0 ∷ [])) ≡ (1 ∷ 51 ∷ []) ∷ (0 ∷ 0 ∷ []) ∷ (1 ∷ 2 ∷ []) ∷ [])
unfolding computation
pasted = (refl, refl, refl)

-- What a host notes that lends rows with old reports in them: what its hall ticks report, also of a damper that is closed without
-- status, and nothing of a report that is held back or of the drive that is not well formed.
abbrev lent : List Lent
lent = map (λ c. record { call = c; row = replicate (room_of c) (report 7 1) }) calls

pub host_logs : (host_log hall 0 lent ≡ sent 5 0 ∷ sent 15 0 ∷ [])
    × (host_log hall 1 lent ≡ [])
    × (host_log hall 2 lent ≡ sent 0 0 ∷ sent 128 0 ∷ [])
unfolding computation
host_logs = (refl, refl, refl)

-- A host that reads its row also after a hall tick which is refused itself would note, twice, what stood in it before.
abbrev heard_anyhow : ℕ → Call → List ℕ → Sent
heard_anyhow i (give list s room) answers = silent
heard_anyhow i (H.tick quota room) answers = read_off (get_or answers i 0)

abbrev noted_anyhow : List Drive → ℕ → List Lent → List Sent
noted_anyhow row i [] = []
noted_anyhow row i (l ∷ ls) =
    heard_anyhow i l.call (answers_after hall_step row l.call l.row)
    ∷ noted_anyhow (row_after hall_step row (turns_of row l.call)) i ls

pub refused_tick_read : drop 8 (noted_anyhow hall 0 lent) ≡ sent 5 0 ∷ sent 7 1 ∷ sent 7 1 ∷ silent ∷ sent 15 0 ∷ []
unfolding computation
refused_tick_read = refl

-- How far the drives have travelled (W-208): the fresh one as far as its share makes it move, a move with a report that is held among them;
-- the one that was open, from 200 to 0 and then to 128.
pub travelled : (map (λ (d : Drive). d.travel) (hall_after hall calls) ≡ 15 ∷ 0 ∷ 328 ∷ [])
    × (travel_in (history_of (events_for 3 0 calls)) ≡ 15)
unfolding computation readings
travelled = (refl, refl)

-- The shift page afterwards, with a byte behind its lines; and the line of the fresh drive, read off its share.
pub page : page_after (hall_after hall calls) (replicate 88 9)
    ≡ text " 0  15   6 bus      00000000\n 1 --- --- -------- --------\n 2 128  50 bus      00000000\n" ++ (9 ∷ [])
unfolding computation decimal digits_within right left binary drive_line lines_from page_refusal page_after
page = refl

pub line : line_in 0 (history_of (events_for 3 0 calls)) ≡ text " 0  15   6 bus      00000000\n"
unfolding computation readings decimal digits_within right left binary
line = refl

-- Decided by all turns of the hall it would show the calibration of drive 2.
pub line_of_the_hall : line_in 0 (history_of (map (λ (t : Turn). bytes_in t.given) (turns_in hall calls)))
    ≡ text " 0   0   0 run      00000100\n"
unfolding computation readings decimal digits_within right left binary
line_of_the_hall = refl
