-- Document 01, 'Who commands', "Read off the list of events (accepted ones only, after the last restart)". A history is the
-- accepted events, the latest first; no reading looks at a drive record, a step or an answer.
use Rattle.std.specs.Prelude.{Bool, false, not, ◌&&◌, ◌||◌, List, [], ◌∷◌, ℕ, ◌+◌, ltb, eqb, get_or}
use Rattle.numbers.specs.Numbers.{pick, on, bit, distance}
use Rattle.table.specs.declared.Row.{Row}
use Rattle.table.specs.Table.{rows, damper_mode, start_synchronization, timeout, rate, low, high}
use Rattle.event.specs.declared.Event.{Event}
use Rattle.event.specs.Kinds as Kind
use Rattle.event.specs.Event.{value_of, event_in}
use Rattle.motion.specs.Motion.{to_position, run_ticks, toward}
use Rattle.rules.specs.declared.Commands.{Commands}
use Rattle.rules.specs.Commands.{commands}
use Rattle.rules.specs.Rank.{Source, source_at, running, start_run, forced, forbids_run, bus_active, active_byte, ruling_rank, targets}
use Rattle.rules.specs.Report.{status}
use Rattle.rules.specs.Refusal.{refusal}

-- which events say what
abbrev pub is_tick : Event → Bool
is_tick e = eqb e.kind Kind.tick

abbrev pub is_restart : Event → Bool
is_restart e = eqb e.kind Kind.restart

abbrev pub is_fault : Event → Bool
is_fault e = eqb e.kind Kind.fault

abbrev pub is_forcing : Event → Bool
is_forcing e = eqb e.kind Kind.forcing

abbrev pub is_hand : Event → Bool
is_hand e = eqb e.kind Kind.hand

-- "the tool's being command 1 or 2"
abbrev pub is_tool : Event → Bool
is_tool e = eqb e.kind Kind.lte_setpoint && not (eqb e.c Kind.normal)

-- "kind 2 or command 0"
abbrev pub is_setpoint : Event → Bool
is_setpoint e = eqb e.kind Kind.setpoint || (eqb e.kind Kind.lte_setpoint && eqb e.c Kind.normal)

-- a parameter write of number `n`
abbrev pub is_write : ℕ → Event → Bool
is_write n e = eqb e.kind Kind.write && eqb e.a n

-- a calibration, or a restart, with which a run may start and before which none counts
abbrev pub is_start : Event → Bool
is_start e = eqb e.kind Kind.calibration || eqb e.kind Kind.restart

-- "fault 1 or forcing 2 or 3"
abbrev pub ends_run : Event → Bool
ends_run e = (is_fault e && eqb e.a 1) || (is_forcing e && forced e.a)

-- the latest event of a history that `p` holds of, with the events after it and those before it
pub data Found : Type 0 where
  nothing : Found
  found : List Event → Event → List Event → Found

abbrev pub below : Event → Found → Found
below e nothing = nothing
below e (found after x before) = found (e ∷ after) x before

unfoldable pub latest : (Event → Bool) → List Event → Found
latest p [] = nothing
latest p (e ∷ h) = pick (p e) (found [] e h) (below e (latest p h))

-- "after the last restart"
abbrev pub after_in : List Event → Found → List Event
after_in h nothing = h
after_in h (found after x before) = after

unfoldable pub current : List Event → List Event
current h = after_in h (latest is_restart h)

-- what a value is by its latest event, `none` without one
abbrev pub value_in : {A : Type 0} → A → (Event → A) → Found → A
value_in none of nothing = none
value_in none of (found after x before) = of x

-- "fault, forcing, hand and tool are as their latest event says .. and off without one"
unfoldable pub fault_in : List Event → ℕ
fault_in h = value_in 0 (λ e. e.a) (latest is_fault (current h))

unfoldable pub forcing_in : List Event → ℕ
forcing_in h = value_in 0 (λ e. e.a) (latest is_forcing (current h))

unfoldable pub hand_in : List Event → ℕ
hand_in h = value_in 0 (λ e. e.a) (latest is_hand (current h))

unfoldable pub hand_value : List Event → ℕ
hand_value h = value_in 0 (λ e. pick (on e.a) e.b 0) (latest is_hand (current h))

unfoldable pub tool_in : List Event → ℕ
tool_in h = value_in 0 (λ e. bit (eqb e.c Kind.override) 1) (latest is_tool (current h))

unfoldable pub tool_value : List Event → ℕ
tool_value h = value_in 0 (λ e. pick (eqb e.c Kind.override) (to_position e.b) 0) (latest is_tool (current h))

-- "The setpoint is that of the latest kind 2 or command 0": whether there is one, and its position
unfoldable pub setpoint_in : List Event → ℕ
setpoint_in h = value_in 0 (λ e. 1) (latest is_setpoint (current h))

unfoldable pub setpoint_value : List Event → ℕ
setpoint_value h = value_in 0 (λ e. pick (eqb e.kind Kind.setpoint) e.a (to_position e.b)) (latest is_setpoint (current h))

-- what the latest commands say
abbrev pub commands_in : List Event → Commands
commands_in h =
    commands (fault_in h) (forcing_in h) (hand_in h) (hand_value h) (tool_in h) (tool_value h) (setpoint_in h) (setpoint_value h)

-- "a parameter is its latest write, or the fresh value", past every restart
unfoldable pub parameter_in : List Event → Row → ℕ
parameter_in h r = value_in r.fresh value_of (latest (is_write r.number) h)

abbrev pub parameters_of : List Event → List Row → List ℕ
parameters_of h [] = []
parameters_of h (r ∷ rs) = parameter_in h r ∷ parameters_of h rs

unfoldable pub parameters : List Event → List ℕ
parameters h = parameters_of h rows

-- how many ticks
unfoldable pub ticks : List Event → ℕ
ticks [] = 0
ticks (e ∷ h) = let n = ticks h in pick (is_tick e) (n + 1) n

-- the ticks that followed the event found
abbrev pub ticks_after : Found → ℕ
ticks_after nothing = 0
ticks_after (found after x before) = ticks after

unfoldable pub setpoint_age : List Event → ℕ
setpoint_age h = ticks_after (latest is_setpoint (current h))

-- "Bus is active if there is a setpoint and no more than Timeout ticks followed it, the present one counted": at a tick, of the
-- history with that tick
unfoldable pub bus_in : List Event → Bool
bus_in h = bus_active (commands_in h) (setpoint_age h) (timeout (parameters h))

-- whether one of the events ends a run
unfoldable pub ended : List Event → Bool
ended [] = false
ended (e ∷ h) = ends_run e || ended h

-- the run that an event starts, `q` being the parameters before it: "Calibration runs toward 0, a restart's run as
-- StartSynchronization stood then"
abbrev pub started_by : Event → List ℕ → ℕ
started_by e q = pick (eqb e.kind Kind.calibration) 1 (start_run (start_synchronization q))

-- "A run is active if after its latest start .. no fault 1 or forcing 2 or 3 came and fewer than K ticks passed .., K taken from
-- the Rate at that start": the run, 0 if none is active
abbrev pub run_of : Found → ℕ
run_of nothing = 0
run_of (found after x before) =
    pick (not (ended after) && ltb (ticks after) (run_ticks (rate (parameters before)))) (started_by x (parameters before)) 0

unfoldable pub run_in : List Event → ℕ
run_in h = run_of (latest is_start h)

-- the ruling rank at a tick `t` after the history `h`: the bus counts that tick, the run only those "before the present event"
unfoldable pub rank_at : Event → List Event → ℕ
rank_at t h = ruling_rank (active_byte (commands_in h) (run_in h) (bus_in (t ∷ h)))

-- the target at a tick, the present position being `p`
unfoldable pub target_from : ℕ → Event → List Event → ℕ
target_from p t h = get_or (targets (commands_in h) (run_in h) p (parameters h)) (rank_at t h) 0

-- "position starts at 0, a tick changes it by step 2 below with the target and Rate read here, and no other event does"
unfoldable pub position_in : List Event → ℕ
position_in [] = 0
position_in (e ∷ h) =
    let p = position_in h in
    pick (is_tick e) (toward p (target_from p e h) (rate (parameters h))) p

-- document 02, W-208: "the sum of all its moves in the list of events": from the position before each event to that after it
unfoldable pub travel_in : List Event → ℕ
travel_in [] = 0
travel_in (e ∷ h) = travel_in h + distance (position_in h) (position_in (e ∷ h))

-- "the status that a tick leaves ..; for it the present tick counts among those a run has passed": of the history with that tick
unfoldable pub status_in : List Event → ℕ
status_in h = status (commands_in h) (run_in h) (bus_in h)

-- the source that rules as the list stands, no tick to come being counted
unfoldable pub ruling_source_in : List Event → Source
ruling_source_in h = source_at (ruling_rank (active_byte (commands_in h) (run_in h) (bus_in h)))

-- "Refusals 2 to 13 are judged by what is read here": of the bytes of a record that comes after the history, 0 if accepted
unfoldable pub judgement : List Event → List ℕ → ℕ
judgement h s =
    refusal s (damper_mode (parameters h)) (low (parameters h)) (high (parameters h)) (running (run_in h)) (forbids_run (commands_in h))

-- the history that a list of records leaves, after the history `h`: those of its events that are accepted
unfoldable pub history_from : List Event → List (List ℕ) → List Event
history_from h [] = h
history_from h (s ∷ ss) = history_from (pick (eqb (judgement h s) 0) (event_in s ∷ h) h) ss

abbrev pub history_of : List (List ℕ) → List Event
history_of l = history_from [] l
