-- Wrong drives, each a step that differs from the right one in one thing. The comment over each says what it does, the sentence of
-- the claim that refuses it, and the list of event records on which it does.
use Rattle.std.specs.Prelude.{Bool, false, not, ◌&&◌, ◌||◌, List, ℕ, ◌+◌, ◌*◌, ◌/◌, leb, ltb, eqb, get_or}
use Rattle.numbers.specs.Numbers.{pick, on, distance}
use Rattle.table.specs.Table.{place_of, act_pos_cov, min_rep_time, timeout}
use Rattle.event.specs.declared.Event.{Event}
use Rattle.event.specs.Kinds as Kind
use Rattle.event.specs.Event.{event_in}
use Rattle.motion.specs.Motion.{to_position, to_percent, motor}
use Rattle.rules.specs.Rank.{active_byte, ruling_rank}
use Rattle.rules.specs.Report.{status, differs, silent, sent}
use Rattle.answer.specs.declared.Answer.TheVariants.{No, Par, At, Report}
use Rattle.damper.specs.declared.Last.{Last}
use Rattle.damper.specs.declared.Drive.{Drive}
use Rattle.damper.specs.declared.Outcome.{Outcome}
use Rattle.damper.specs.Record.{last, drive, with_counts, with_position, with_setpoint, with_tool, with_hand}
use Rattle.damper.specs.Tick.{aged, bus_on, ruling, moved, advance, status_of, due, reported}
use Rattle.damper.specs.Step.{outcome, done, tick_with, restarted, obeyed, refusal_of, step_of}
use Rattle.damper.specs.Carry.{Step}

-- In what a wrong drive differs from the right one.

abbrev pub accepts : Drive → List ℕ → Bool
accepts d s = eqb (refusal_of d s) 0

-- in the accepted events of kind `k`, which do `f`
abbrev pub only : ℕ → (Drive → Event → Outcome) → Step
only k f d s = pick (accepts d s && eqb (event_in s).kind k) (f d (event_in s)) (step_of d s)

-- in the record that steps 1 to 3 of a tick leave and in whether it reports: by the record before the tick and the one after step 3
abbrev pub ticking : (Drive → Drive → Drive) → (Drive → Drive → Bool) → Step
ticking f g =
    only Kind.tick
    (λ d e.
    let a = advance d in
    let m = f d a.drive in
    tick_with (g d m) (record { drive = m; rank = a.rank; motor = a.motor }))

-- in that record alone
abbrev pub leaving : (Drive → Drive → Drive) → Step
leaving f = ticking f (λ d m. due m)

-- in whether a tick reports alone
abbrev pub reporting : (Drive → Drive → Bool) → Step
reporting g = ticking (λ d m. m) g

-- in the position and the status that a report gives
abbrev pub giving : (Drive → Drive → ℕ) → (Drive → Drive → ℕ) → Step
giving p s =
    only Kind.tick
    (λ d e.
    let a = advance d in
    let m = a.drive in
    pick (due m) (outcome (reported m) (Report (p d m) a.rank a.motor (s d m))) (tick_with false a))

-- the last report
abbrev pub with_last : Drive → Last → Drive
with_last d l = drive d.position d.params d.commands d.age d.run d.since l d.wait d.travel

-- Document 01, "Which idlers get caught?"

-- never moves; `move` and `position`: a setpoint, a tick
abbrev pub never_moves : Step
never_moves = leaving (λ d m. with_position m d.position)

-- moves rightly from 0 and idles later; `move`: a setpoint, two ticks
abbrev pub idles_later : Step
idles_later = leaving (λ d m. pick (eqb d.position 0) m (with_position m d.position))

-- idles later, and its reports stop with the first; `waiting`: MinRepTime 1, a setpoint, two ticks
abbrev pub idles_silent : Step
idles_silent =
    ticking (λ d m. pick (eqb d.position 0) m (with_position m d.position)) (λ d m. due m && not (on m.last.reported))

-- refuses everything; `refusal`: a tick
abbrev pub refuses_all : Step
refuses_all d s = outcome d (No 2)

-- refuses everything, by the number of an accepted event; `waiting`: MinRepTime 1, a tick
abbrev pub refuses_by_zero : Step
refuses_by_zero d s = outcome d (No 0)

-- answers everything by `ok`; `waiting`: MinRepTime 1, a tick
abbrev pub answers_alike : Step
answers_alike d s = done (step_of d s).drive

-- stores a setpoint as a stale one; `move`: a setpoint, a tick
abbrev pub stale_setpoint : Step
stale_setpoint = only Kind.setpoint (λ d e. done (with_counts (obeyed d e) 65535 d.since))

-- reports as if since had reached its stop; `spacing`: a tick, a setpoint, a tick
abbrev pub invents_since : Step
invents_since = reporting (λ d m. due (with_counts m m.age 65535))

-- Document 01, 'Errors that builders of drives make'.

-- starts the wait anew at each movement; `waiting`: MinRepTime 2, a setpoint, two ticks
abbrev pub waits_anew : Step
waits_anew = leaving (λ d m. pick (eqb m.position d.position) m (with_counts m m.age 0))

-- measures ActPosCOV from the previous tick; `waiting`: MinRepTime 1, Rate 1, a setpoint, four ticks
abbrev pub changes_from_tick_before : Step
changes_from_tick_before = reporting (λ d m. due (with_last m (last m.last.reported d.position m.last.status)))

-- lets a refused setpoint refresh the age; `move`: Timeout 1, a setpoint, a tick, a refused setpoint, a tick
abbrev pub refused_refreshes : Step
refused_refreshes d s =
    let o = step_of d s in
    pick (not (accepts d s) && eqb (event_in s).kind Kind.setpoint) (outcome (with_counts d 0 d.since) o.answer) o

-- takes a normal write as a release; `move`: an override, a normal write, a tick
abbrev pub write_releases : Step
write_releases = only Kind.lte_setpoint (λ d e. let m = obeyed d e in done (pick (eqb e.c Kind.normal) (with_tool m 0 0) m))

-- counts a read as a report; `waiting`: MinRepTime 1, a read, a tick
abbrev pub read_counts : Step
read_counts = only Kind.read_position (λ d e. outcome (reported d) (At d.position (to_percent d.position) (status_of d)))

-- answers a read by a report; `others`: a read
abbrev pub read_reports : Step
read_reports = only Kind.read_position (λ d e. outcome (reported d) (Report d.position (ruling d) 0 (status_of d)))

-- Moves.

-- moves as soon as it gets a setpoint; `others`: a setpoint
abbrev pub setpoint_moves : Step
setpoint_moves = only Kind.setpoint (λ d e. let m = obeyed d e in done (moved m (ruling m)))

-- goes to the backup at the age of Timeout, while the setpoint is alive; `move`: Timeout 1, a setpoint, a tick
abbrev pub backup_early : Step
backup_early =
    leaving
    (λ d m.
    let a = aged d in
    let bus = on a.commands.stored && ltb a.age (timeout a.params) in
    with_position m (moved a (ruling_rank (active_byte a.commands a.run.kind bus))).position)

-- rounds the percent of a normal write down; `move`: a normal write of 1 %, a tick
abbrev pub writes_rounded_down : Step
writes_rounded_down =
    only Kind.lte_setpoint (λ d e. done (pick (eqb e.c Kind.normal) (with_setpoint d (255 * e.b / 100)) (obeyed d e)))

-- closes the damper at a restart; `others`: a setpoint, a tick, a restart
abbrev pub restart_closes : Step
restart_closes = only Kind.restart (λ d e. done (with_position (restarted d) 0))

-- Reports.

-- moves and never reports; `waiting`: MinRepTime 1, a setpoint, a tick
abbrev pub never_reports : Step
never_reports = reporting (λ d m. false)

-- reports the position before the move; `content`: MinRepTime 1, a setpoint, a tick
abbrev pub position_before : Step
position_before = giving (λ d m. d.position) (λ d m. status_of m)

-- reports the run before step 3; `content`: MinRepTime 1, Rate 255, a calibration, a tick
abbrev pub status_before : Step
status_before = giving (λ d m. m.position) (λ d m. status m.commands d.run.kind (bus_on m))

-- sends no periodic report; `due`: MinRepTime 1, RepPer 1, two ticks
abbrev pub never_periodic : Step
never_periodic =
    reporting
    (λ d m.
    let l = m.last in
    leb (min_rep_time m.params) m.since
    && differs (act_pos_cov m.params) m.position (status_of m) (pick (on l.reported) (sent l.position l.status) silent))

-- reports every MinRepTime ticks, without cause; `due`: MinRepTime 1, two ticks
abbrev pub reports_always : Step
reports_always = reporting (λ d m. leb (min_rep_time m.params) m.since)

-- takes ActPosCOV as a position for its change-of-value test, so that a smaller change is reported too; `due`: MinRepTime 1, ActPosCOV
-- 2, a setpoint, a tick, a setpoint 5 further, a tick
abbrev pub changes_by_position : Step
changes_by_position =
    reporting
    (λ d m.
    due m
    || (leb (min_rep_time m.params) m.since && leb (to_position (act_pos_cov m.params)) (distance m.position m.last.position)))

-- keeps since at a restart; `due`: MinRepTime 2, a tick, a restart, a tick
abbrev pub restart_keeps_since : Step
restart_keeps_since = only Kind.restart (λ d e. done (with_counts (restarted d) 0 d.since))

-- keeps the last report at a restart; `due` and `waiting`: MinRepTime 1, a tick, a restart, a tick
abbrev pub restart_keeps_last : Step
restart_keeps_last = only Kind.restart (λ d e. done (with_last (restarted d) d.last))

-- stores the value of the hand with hand off, so that the record is not well formed; `formed`: hand off, a tick
abbrev pub hand_off_stores : Step
hand_off_stores = only Kind.hand (λ d e. done (with_hand d e.a e.b))

-- Refused by demand 2 alone: answers that are neither a report nor a refusal, and the motor.

-- answers the reads by `ok`
abbrev pub reads_alike : Step
reads_alike d s = pick (accepts d s && leb Kind.read_position (event_in s).kind) (done d) (step_of d s)

-- reads percent 0
abbrev pub reads_percent_zero : Step
reads_percent_zero = only Kind.read_position (λ d e. outcome d (At d.position 0 (status_of d)))

-- reads the percent rounded down
abbrev pub reads_percent_down : Step
reads_percent_down = only Kind.read_position (λ d e. outcome d (At d.position (100 * d.position / 255) (status_of d)))

-- reads status 0
abbrev pub reads_status_zero : Step
reads_status_zero = only Kind.read_position (λ d e. outcome d (At d.position (to_percent d.position) 0))

-- reads the parameter of the table's next row
abbrev pub reads_next_row : Step
reads_next_row = only Kind.read_parameter (λ d e. outcome d (Par (get_or d.params (place_of e.a + 1) 0)))

-- does not exchange the motor's 1 and 2 under OpenCloseDirection 1
abbrev pub motor_not_exchanged : Step
motor_not_exchanged =
    only Kind.tick
    (λ d e.
    let a = advance d in
    let m = a.drive in
    tick_with (due m) (record { drive = m; rank = a.rank; motor = motor 0 d.position m.position }))
