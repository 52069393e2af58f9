-- Document 01, 'The drive record': the fresh drive, and the record with one group of its fields changed. antt has no record
-- update, so the other definitions build records by these.
use Rattle.std.specs.Prelude.{List, ℕ, set}
use Rattle.numbers.specs.Numbers.{pick, distance, counted}
use Rattle.table.specs.Table.{fresh_values}
use Rattle.rules.specs.declared.Commands.{Commands}
use Rattle.rules.specs.Commands.{no_commands, interlocked, handed, overridden, written}
use Rattle.rules.specs.Rank.{forbids_run}
use Rattle.damper.specs.declared.Run.{Run}
use Rattle.damper.specs.declared.Last.{Last}
use Rattle.damper.specs.declared.Drive.{Drive}

-- a run with its ticks left, and no run
abbrev pub run : ℕ → ℕ → Run
run r n = record { kind = r; left = n }

abbrev pub no_run : Run
no_run = run 0 0

-- a last report: whether there is one, its position and its status
abbrev pub last : ℕ → ℕ → ℕ → Last
last v p s = record { reported = v; position = p; status = s }

-- position, parameters, commands, age of the setpoint, run, ticks since the last report (document 01: since), last report; and of
-- document 02, W-204: "how many hall ticks in a row it was due and not sent"; W-208: "the position units it has moved"
abbrev pub drive : ℕ → List ℕ → Commands → ℕ → Run → ℕ → Last → ℕ → ℕ → Drive
drive p q c a r s l w t = record { position = p; params = q; commands = c; age = a; run = r; since = s; last = l; wait = w; travel = t }

-- "a fresh one has position 0, defaults below, since 0, nothing else set"; W-204: "fresh .. it is 0"; W-208: "a fresh drive has 0"
abbrev pub fresh_drive : Drive
fresh_drive = drive 0 fresh_values no_commands 0 no_run 0 (last 0 0 0) 0 0

-- the age of the setpoint and since
abbrev pub with_counts : Drive → ℕ → ℕ → Drive
with_counts d a s = drive d.position d.params d.commands a d.run s d.last d.wait d.travel

-- the position, placed there: nothing is counted
abbrev pub with_position : Drive → ℕ → Drive
with_position d p = drive p d.params d.commands d.age d.run d.since d.last d.wait d.travel

-- the position after a move, and the travel with it, "up to 4,294,967,295, where the count stays"
abbrev pub with_move : Drive → ℕ → Drive
with_move d p =
    drive p d.params d.commands d.age d.run d.since d.last d.wait (counted d.travel (distance d.position p))

-- a report of the present position and of status `s`: it "goes out, and since becomes 0"
abbrev pub with_report : Drive → ℕ → Drive
with_report d s = drive d.position d.params d.commands d.age d.run 0 (last 1 d.position s) d.wait d.travel

-- since and the last report, as they were heard
abbrev pub with_heard : Drive → ℕ → Last → Drive
with_heard d s l = drive d.position d.params d.commands d.age d.run s l d.wait d.travel

-- the parameter at one place of the row
abbrev pub with_param : Drive → ℕ → ℕ → Drive
with_param d i v = drive d.position (set d.params i v) d.commands d.age d.run d.since d.last d.wait d.travel

-- commands, the age of the setpoint and the run
abbrev pub with_commands : Drive → Commands → ℕ → Run → Drive
with_commands d c a r = drive d.position d.params c a r d.since d.last d.wait d.travel

-- the run
abbrev pub with_run : Drive → Run → Drive
with_run d r = with_commands d d.commands d.age r

-- "store a bus setpoint with age 0"
abbrev pub with_setpoint : Drive → ℕ → Drive
with_setpoint d v = with_commands d (written d.commands v) 0 d.run

-- the override of the tool, its flag and value
abbrev pub with_tool : Drive → ℕ → ℕ → Drive
with_tool d t y = with_commands d (overridden d.commands t y) d.age d.run

-- the hand flag and value
abbrev pub with_hand : Drive → ℕ → ℕ → Drive
with_hand d h x = with_commands d (handed d.commands h x) d.age d.run

-- fault flag and forcing; "Fault 1 and forcing 2 or 3 end a run": none goes on where it is forbidden
abbrev pub with_interlocks : Drive → ℕ → ℕ → Drive
with_interlocks d f g =
    let c = interlocked d.commands f g in
    with_commands d c d.age (pick (forbids_run c) no_run d.run)

-- the wait
abbrev pub with_wait : Drive → ℕ → Drive
with_wait d w = drive d.position d.params d.commands d.age d.run d.since d.last w d.travel

-- "Restart keeps position and parameters, clears all else and sets since to 0"; W-204: "Restart clears the wait"; W-208: "restart keeps it"
abbrev pub cleared : Drive → Drive
cleared d = drive d.position d.params no_commands 0 no_run 0 (last 0 0 0) 0 d.travel
