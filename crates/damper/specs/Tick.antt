-- Document 01, 'One tick, in order': advance (steps 1 to 3), due and report (step 4).
use Rattle.std.specs.Prelude.{Bool, not, ◌&&◌, ◌||◌, ℕ, ◌-◌, leb, eqb, get_or}
use Rattle.numbers.specs.Numbers.{pick, on, next}
use Rattle.table.specs.Table.{open_close_direction, act_pos_cov, min_rep_time, timeout, rep_per, rate}
use Rattle.motion.specs.Motion.{toward, motor}
use Rattle.rules.specs.Rank.{Source, source_at, bus_active, active_byte, ruling_rank, targets}
use Rattle.rules.specs.Report.{status, changed}
use Rattle.damper.specs.declared.Run.{Run}
use Rattle.damper.specs.declared.Last.{Last}
use Rattle.damper.specs.declared.Drive.{Drive}
use Rattle.damper.specs.declared.Advanced.{Advanced}
use Rattle.damper.specs.Record.{run, with_counts, with_move, with_run, with_report}

-- step 1: "Since rises by one, and so does age if there is a setpoint."
unfoldable pub aged : Drive → Drive
aged d = with_counts d (pick (on d.commands.stored) (next d.age) d.age) (next d.since)

-- whether the bus is active, taken from the record as it is
abbrev pub bus_on : Drive → Bool
bus_on d = bus_active d.commands d.age (timeout d.params)

-- the ruling rank of the record as it is
abbrev pub ruling : Drive → ℕ
ruling d = ruling_rank (active_byte d.commands d.run.kind (bus_on d))

-- the source at that rank (document 02: ruling commander)
abbrev pub ruling_source : Drive → Source
ruling_source d = source_at (ruling d)

-- the target at a rank
unfoldable pub target_at : Drive → ℕ → ℕ
target_at d rank = get_or (targets d.commands d.run.kind d.position d.params) rank 0

-- step 2, toward the target at a rank; W-208: the move is counted
unfoldable pub moved : Drive → ℕ → Drive
moved d rank = with_move d (toward d.position (target_at d rank) (rate d.params))

-- step 3: "A run loses one tick and ends at 0."
unfoldable pub ran_down : Run → Run
ran_down r = run (pick (leb r.left 1) 0 r.kind) (r.left - 1)

-- steps 1 to 3: the record after them, the "ruling rank during the move" and the motor
unfoldable pub advance : Drive → Advanced
advance d =
    let a = aged d in
    let r = ruling a in
    let m = with_run (moved a r) (ran_down d.run) in
    record { drive = m; rank = r; motor = motor (open_close_direction d.params) d.position m.position }

-- the status, "taken from the record as it is (in a tick, after step 3)"
abbrev pub status_of : Drive → ℕ
status_of d = status d.commands d.run.kind (bus_on d)

-- "no report yet; 100 × the distance from the last reported position is at least 255 × ActPosCOV; status differs": the record and its
-- status `s` against the last report `l`
abbrev pub differs_from : Drive → ℕ → Last → Bool
differs_from d s l =
    (not (on l.reported) || changed (act_pos_cov d.params) d.position l.position) || not (eqb s l.status)

-- step 4, with the status after steps 1 to 3: "if since is at least MinRepTime and one of these holds: ..; since is at least RepPer"
unfoldable pub due_with : Drive → ℕ → Bool
due_with d s =
    leb (min_rep_time d.params) d.since && (differs_from d s d.last || leb (rep_per d.params) d.since)

abbrev pub due : Drive → Bool
due d = due_with d (status_of d)

-- step 4: "A report goes out, and since becomes 0"
abbrev pub reported : Drive → Drive
reported d = with_report d (status_of d)
