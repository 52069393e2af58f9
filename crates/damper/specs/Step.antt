-- Document 01: what one event record does to a drive, and what it answers.
use Rattle.std.specs.Prelude.{Bool, true, false, List, ℕ, eqb, get_or}
use Rattle.numbers.specs.Numbers.{pick, on, bit}
use Rattle.table.specs.Table.{place_of, damper_mode, start_synchronization, rate, low, high}
use Rattle.event.specs.declared.Event.{Event}
use Rattle.event.specs.Kinds as Kind
use Rattle.event.specs.Event.{event_in, value_of}
use Rattle.motion.specs.Motion.{to_position, to_percent, run_ticks}
use Rattle.rules.specs.Rank.{running, start_run, forbids_run}
use Rattle.rules.specs.Refusal.{refusal}
use Rattle.damper.specs.declared.Drive.{Drive}
use Rattle.damper.specs.declared.Advanced.{Advanced}
use Rattle.answer.specs.declared.Answer.{Answer}
use Rattle.answer.specs.declared.Answer.TheVariants.{No, Done, Par, At, Tick, Report}
use Rattle.damper.specs.declared.Outcome.{Outcome}
use Rattle.damper.specs.Record.{run, with_run, with_param, with_setpoint, with_tool, with_hand, with_interlocks, cleared}
use Rattle.damper.specs.WellFormed.{well_formed}
use Rattle.damper.specs.Tick.{advance, due, reported, status_of}

abbrev pub outcome : Drive → Answer → Outcome
outcome d x = record { drive = d; answer = x }

-- an accepted event that is no tick and no read answers `ok`
abbrev pub done : Drive → Outcome
done d = outcome d Done

-- step 4 of a tick that advanced, whether it is due being known: `tick P R M S`, position after, ruling rank during the move,
-- motor, reported status or `-`
unfoldable pub tick_with : Bool → Advanced → Outcome
tick_with true a = outcome (reported a.drive) (Report a.drive.position a.rank a.motor (status_of a.drive))
tick_with false a = outcome a.drive (Tick a.drive.position a.rank a.motor)

-- kind 1
unfoldable pub ticked : Drive → Outcome
ticked d = let a = advance d in tick_with (due a.drive) a

-- kind 3: "0 normal write, 1 override, 2 release"; "Kind 2 and command 0 store a bus setpoint with age 0, also under an
-- override; only release ends the override."
unfoldable pub commanded : Drive → ℕ → ℕ → Drive
commanded d b c =
    let on = eqb c Kind.override in
    pick (eqb c Kind.normal) (with_setpoint d (to_position b)) (with_tool d (bit on 1) (pick on (to_position b) 0))

-- "Calibration sets a run of K ticks toward 0, anew if one is going."
unfoldable pub calibrated : Drive → Drive
calibrated d = with_run d (run 1 (run_ticks (rate d.params)))

-- "StartSynchronization 1 or 2 then starts a run of K ticks toward 0 or 255."
unfoldable pub restarted : Drive → Drive
restarted d =
    let r = start_run (start_synchronization d.params) in
    with_run (cleared d) (run r (pick (running r) (run_ticks (rate d.params)) 0))

-- what an accepted event that is no tick and no read does to the record, kinds 2 to 9 in order
unfoldable pub obeyed : Drive → Event → Drive
obeyed d e =
    pick (eqb e.kind Kind.setpoint) (with_setpoint d e.a)
    (pick (eqb e.kind Kind.lte_setpoint) (commanded d e.b e.c)
    (pick (eqb e.kind Kind.forcing) (with_interlocks d d.commands.fault e.a)
    (pick (eqb e.kind Kind.hand) (with_hand d e.a (pick (on e.a) e.b 0))
    (pick (eqb e.kind Kind.calibration) (calibrated d)
    (pick (eqb e.kind Kind.fault) (with_interlocks d e.a d.commands.forcing)
    (pick (eqb e.kind Kind.write) (with_param d (place_of e.a) (value_of e))
    (restarted d)))))))

-- what each accepted event does to the record and what it answers: `tick P R M S`, `at P C S`, `par V`, and `ok` for kinds 2 to 9
unfoldable pub applied : Drive → Event → Outcome
applied d e =
    pick (eqb e.kind Kind.tick) (ticked d)
    (pick (eqb e.kind Kind.read_position) (outcome d (At d.position (to_percent d.position) (status_of d)))
    (pick (eqb e.kind Kind.read_parameter) (outcome d (Par (get_or d.params (place_of e.a) 0)))
    (done (obeyed d e))))

-- the first of 2 to 13 that fits by what the record holds, 0 if none does
abbrev pub judged_by : Drive → List ℕ → ℕ
judged_by d s =
    refusal s (damper_mode d.params) (low d.params) (high d.params) (running d.run.kind) (forbids_run d.commands)

-- the first of 1 to 13 that fits, 0 if none does; 1: "The drive record is not well formed."
unfoldable pub refusal_of : Drive → List ℕ → ℕ
refusal_of d s = pick (well_formed d) (judged_by d s) 1

-- "The answer is the first that fits and the same drive record."
unfoldable pub step_of : Drive → List ℕ → Outcome
step_of d s =
    pick (eqb (refusal_of d s) 0) (applied d (event_in s)) (outcome d (No (refusal_of d s)))
