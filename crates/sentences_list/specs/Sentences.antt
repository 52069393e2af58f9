-- The list of events: document 01, 'Who commands', "Read off the list of events ..", and W-208's sum of all moves, each sentence a theorem
-- for every list. On one side the product's definition, on the other the sentence as `Paper` says it a second time. A `↔` fixes the
-- definition: what it gives fits the sentence, and nothing else does. Where there is an equation instead, `reading` and `has_log` say that
-- something fits.
--
-- How to read it: crates/sentences/specs/Sentences.antt.
--   `L.` these sentences in their second form (Paper.antt); `P.` document 01 in its second form (crates/sentences/specs/Paper.antt); `R.`
--   and `C.` the product's definitions, of what is read off a list of events and of the claim
-- Histories and traces have the latest first: `e ∷ h` is the event e after the history h, `m ∷ t` the record m after the trace t.
use Rattle.std.specs.Prelude.{◌≡◌, ◌↔◌, Bool, List, [], ◌∷◌, ◌++◌, map, reverse, ℕ, ◌/◌, ◌%◌, ◌^◌, min, length}
use Rattle.std.proofs.Common.{ap, subst, ◌∙◌}
use Rattle.table.specs.declared.Row.{Row}
use Rattle.event.specs.declared.Event.{Event}
use Rattle.rules.specs.declared.Commands.{Commands}
use Rattle.rules.specs.Rank.{Source}
use Rattle.damper.specs.Record.{fresh_drive}
use Rattle.damper.specs.Step.{step_of}
use Rattle.damper.specs.Carry.{outcomes, drive_after}
use Rattle.history.specs.Readings as R
use Rattle.history.specs.Log.{Entry, log_in}
use Rattle.history.specs.Claim as C
use Rattle.history.specs.Travel.{travel_whole}
use Rattle.sentences.specs.Words.{◌exceeds◌, choose, first_that_fits}
use Rattle.sentences.specs.Paper as P
use Rattle.sentences_list.specs.Paper as L
use Rattle.sentences_list.specs.Latest as Latest
use Rattle.sentences_list.specs.Values as Values
use Rattle.sentences_list.specs.Runs as Runs
use Rattle.sentences_list.specs.Judging as Judging
use Rattle.sentences_list.specs.Moves as Moves
use Rattle.sentences_list.specs.Logs as Logs
use Rattle.sentences_list.specs.Accepts.{accepted_fit, accepted_fits}

-- ── What was said last ──

-- "after the last restart"
pub after_restart : (h now : List Event) → (R.current h ≡ now) ↔ L.AfterRestart h now
after_restart h now = Latest.now_read h now

-- "fault, forcing, hand and tool are as their latest event says, .. and off without one"
module _ (h now : List Event) (a : L.AfterRestart h now) (v : ℕ) where
  pub fault : (R.fault_in h ≡ v) ↔ L.LatestSays (L.OfKind 7) L.a_of 0 now v
  fault = Values.fault_read h now a v

  pub forcing : (R.forcing_in h ≡ v) ↔ L.LatestSays (L.OfKind 4) L.a_of 0 now v
  forcing = Values.forcing_read h now a v

  pub hand : (R.hand_in h ≡ v) ↔ L.LatestSays (L.OfKind 5) L.a_of 0 now v
  hand = Values.hand_read h now a v

  pub hand_value : (R.hand_value h ≡ v) ↔ L.LatestSays (L.OfKind 5) L.hand_value 0 now v
  hand_value = Values.hand_value_read h now a v

  -- "The setpoint is that of the latest kind 2 or command 0."
  pub setpoint : (R.setpoint_in h ≡ v) ↔ L.LatestSays L.Setpoint (λ e. 1) 0 now v
  setpoint = Values.setpoint_read h now a v

  pub setpoint_value : (R.setpoint_value h ≡ v) ↔ L.LatestSays L.Setpoint L.setpoint_value 0 now v
  setpoint_value = Values.setpoint_value_read h now a v

  -- "the tool's being command 1 or 2", "accepted ones only"
  module _ (accepted : L.Accepted h) where
    pub tool : (R.tool_in h ≡ v) ↔ L.LatestSays L.Tool L.tool_flag 0 now v
    tool = Values.tool_read h now a v (Judging.each_now a (Judging.tools accepted.1))

    pub tool_value : (R.tool_value h ≡ v) ↔ L.LatestSays L.Tool L.tool_value 0 now v
    tool_value = Values.tool_value_read h now a v (Judging.each_now a (Judging.tools accepted.1))

-- these together
pub commands : (h : List Event) → L.Accepted h → (c : Commands) → (R.commands_in h ≡ c) ↔ L.CommandsRead h c
commands h a c =
    let t = (accepted_fit h a).tools in
    (λ e. subst (L.CommandsRead h) e (Values.has_commands h t), λ w. Values.commands_are h c w t)

-- ── Parameters ──

-- "a parameter is its latest write, or the fresh value", "past every restart"
pub parameter : (h : List Event) (r : Row) (v : ℕ)
    → (R.parameter_in h r ≡ v) ↔ L.LatestSays (L.Write r.number) L.written_value r.fresh h v
parameter h r v = Values.parameter_read h r v

pub parameters : (h : List Event) (q : List ℕ) → (R.parameters h ≡ q) ↔ L.Parameters h q
parameters h q = (λ e. subst (L.Parameters h) e (Values.has_parameters h), λ w. Values.parameters_are h w)

-- ── Ticks, bus and run ──

-- "1 tick: one second passes."
pub ticks : (l : List Event) → R.ticks l ≡ length (L.ticks l)
ticks l = Runs.same_ticks l

-- the ticks that followed the setpoint
pub setpoint_age : (h now after : List Event) (e : Event) (before : List Event) → L.AfterRestart h now
    → L.Latest L.Setpoint now after e before → R.setpoint_age h ≡ length (L.ticks after)
setpoint_age h now after e before a w = Runs.age_is h now a w

pub no_setpoint_age : (h now : List Event) → L.AfterRestart h now → L.Without L.Setpoint now → R.setpoint_age h ≡ 0
no_setpoint_age h now a w = Runs.no_age h now a w

-- "Bus is active if there is a setpoint and no more than Timeout ticks followed it, the present one counted": at the tick `t`, of the list
-- before it, and of a list as it stands
pub bus_at_tick : (t : Event) (h : List Event) → t.kind ≡ 1 → (b : Bool) → (R.bus_in (t ∷ h) ≡ b) ↔ L.Bus 1 h b
bus_at_tick t h k b = rw (Runs.bus_at_tick t h k) (Runs.bus_read 1 h b)

pub bus : (h : List Event) (b : Bool) → (R.bus_in h ≡ b) ↔ L.Bus 0 h b
bus h b = rw (Runs.bus_stands h) (Runs.bus_read 0 h b)

-- "A run is active if after its latest start (a restart with StartSynchronization 1 or 2 counts) no fault 1 or forcing 2 or 3 came and
-- fewer than K ticks passed before the present event, K taken from the Rate at that start. Calibration runs toward 0, a restart's run as
-- StartSynchronization stood then."
pub run : (h : List Event) (r : ℕ) → (R.run_in h ≡ r) ↔ L.Run 0 h r
run h r = rw (Runs.run_stands h) (Runs.run_read 0 h r)

-- "for it the present tick counts among those a run has passed"
pub run_with_tick : (t : Event) (h : List Event) → t.kind ≡ 1 → (r : ℕ) → (R.run_in (t ∷ h) ≡ r) ↔ L.Run 1 h r
run_with_tick t h k r = rw (Runs.run_at_tick t h k) (Runs.run_read 1 h r)

-- ── What is refused, and what is accepted ──

-- "Refusals 2 to 13 are judged by what is read here"
pub judgement : (h : List Event) (s : List ℕ) (n : ℕ) → (R.judgement h s ≡ n) ↔ L.Judged h s n
judgement h s n = (Judging.has_judgement h s n, Judging.judgement_is h s n)

-- "accepted ones only": of records in their order, also after records `k` that left the history `old`, and of the records of a trace, the
-- latest first
pub history : (l : List (List ℕ)) (h : List Event) → (R.history_of l ≡ h) ↔ L.History (reverse l) h
history l h = rw (Judging.history_from l []) (Judging.history_read (reverse l) h)

pub history_on : (k : List (List ℕ)) (old : List Event) → L.History k old → (l : List (List ℕ)) (h : List Event)
    → (R.history_from old l ≡ h) ↔ L.History (reverse l ++ k) h
history_on k old w l h = Judging.history_on k old w l h

pub accepted : (t : C.Trace) (h : List Event) → (C.accepted t ≡ h) ↔ L.History (map (λ (m : C.Moment). m.bytes) t) h
accepted t h = rw (Judging.accepted_given t) (Judging.history_read (map (λ (m : C.Moment). m.bytes) t) h)

-- ── Who commands, the target, the position and the status ──

-- every history that records leave gives all that is read below, whatever is counted
pub reading : (passed followed : ℕ) (h : List Event) → L.Accepted h
    → (c : Commands) × (run : ℕ) × (bus : Bool) × (q : List ℕ) × L.Read passed followed h c run bus q
reading m n h a = (R.commands_in h, Runs.run_at m h, Runs.bus_at n h, R.parameters h, Moves.has_read m n h (accepted_fit h a))

-- the ruling rank at the tick `t`: the bus counts that tick, the run only those "before the present event"
pub rank : (t : Event) (h : List Event) → t.kind ≡ 1 → L.Accepted h → {c : Commands} {run : ℕ} {bus : Bool} {q : List ℕ}
    → L.Read 0 1 h c run bus q → R.rank_at t h ≡ first_that_fits (P.commanders c run bus)
rank t h k a w = Moves.rank_is t h k (accepted_fit h a) w

-- "with the target .. read here"
pub target : (t : Event) (h : List Event) → t.kind ≡ 1 → L.Accepted h → (p x : ℕ) → (R.target_from p t h ≡ x) ↔ L.Target h p x
target t h k a p x = Moves.target_read t h k (accepted_fit h a) p x

-- "position starts at 0, a tick changes it by step 2 below with the target and Rate read here, and no other event does"
pub position : (h : List Event) → L.Accepted h → (p : ℕ) → (R.position_in h ≡ p) ↔ L.Position h p
position h a p = Moves.position_read h (accepted_fits h a) p

-- Document 02, W-208: "the sum of all its moves in the list of events"
pub travel : (h : List Event) → L.Accepted h → (n : ℕ) → (R.travel_in h ≡ n) ↔ L.Travel h n
travel h a n = Moves.travel_read h (accepted_fits h a) n

-- "The count equals the sum .., up to that cap": of a drive that was fresh at first, after every list of records
pub travel_count : (l : List (List ℕ)) (h : List Event) (n : ℕ) → L.History (reverse l) h → L.Travel h n
    → (drive_after fresh_drive (outcomes step_of fresh_drive l)).travel ≡ choose (n exceeds 4294967295) 4294967295 n
travel_count l h n w x =
    travel_whole l
    ∙ ap (λ (y : ℕ). min y 4294967295) (ap R.travel_in ((history l h).1 w) ∙ (travel h (reverse l, w) n).1 x)
    ∙ Moves.capped n

-- "So is the status that a tick leaves, in the layout below; for it the present tick counts among those a run has passed."
pub status_of_tick : (t : Event) (h : List Event) → t.kind ≡ 1 → L.Accepted h → (s : ℕ) → (R.status_in (t ∷ h) ≡ s) ↔ L.TickStatus h s
status_of_tick t h k a s =
    let f = accepted_fit h a in
    (λ e. subst (L.TickStatus h) e (Moves.has_tick_status t h k f), Moves.tick_status_is t h k f s)

-- the status of a list as it stands, and the source that rules then
pub status_bit : (h : List Event) → L.Accepted h → {c : Commands} {run : ℕ} {bus : Bool} {q : List ℕ} → L.Read 0 0 h c run bus q → (i : ℕ)
    → (R.status_in h / 2 ^ i % 2 ≡ 1) ↔ P.Shown c run bus i
status_bit h a w i = Moves.status_bit h (accepted_fit h a) w i

pub ruling_source : (h : List Event) → L.Accepted h → {c : Commands} {run : ℕ} {bus : Bool} {q : List ℕ} → L.Read 0 0 h c run bus q
    → (s : Source) → (R.ruling_source_in h ≡ s) ↔ L.Ranked s (first_that_fits (P.commanders c run bus))
ruling_source h a w s = Moves.ruling_read h (accepted_fit h a) w s

-- ── The reports ──

-- step 4, of what is read here: every list of records has such a log, and it is the one read off
pub has_log : (l : List (List ℕ)) → (k : List L.Told) × (es : List Entry) × L.Log (reverse l) k es
has_log l = Logs.has_log accepted_fits (reverse l)

pub log : (l : List (List ℕ)) (k : List L.Told) (es : List Entry) → L.Log (reverse l) k es → log_in l ≡ reverse es
log l k es x = Logs.log_is accepted_fits l k es x
