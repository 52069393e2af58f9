-- The claim of demand 3 refuses each wrong drive of a table, by the sentence that the table names.
use Rattle.std.specs.Prelude.{◌≡◌, refl, true, not, List, [], ◌∷◌, ℕ, replicate}
use Rattle.damper.specs.Step.{step_of}
use Rattle.damper.specs.Carry.{Step}
use Rattle.history.specs.Claim.{Trace, Claim, trace_of}
use Rattle.refuted.specs.Events.{tick, setpoint, bad_setpoint, normal_write, override, hand_off, calibration, restart, read_position, act_pos_cov, min_rep_time, timeout, rep_per, rate}
use Rattle.refuted.specs.Closed.{computation, Each, all, each}
use Rattle.refuted.specs.Wrong as W
use Rattle.refuted.specs.Sentences.{Sentence, spacing, waiting, move, position, content, others, due, refusal, formed, Latest, broken_in, latest, latest_law}

-- a wrong drive, the sentence of the claim that refuses it, and a list of event records at whose last one the sentence fails
pub record Row : Type 0 where
  pub step : Step
  pub sentence : Sentence
  pub list : List (List ℕ)

abbrev pub row : Step → Sentence → List (List ℕ) → Row
row f s l = record { step = f; sentence = s; list = l }

abbrev pub table : List Row
table =
    row W.never_moves move (setpoint 255 ∷ tick ∷ [])
    ∷ row W.never_moves position (setpoint 255 ∷ tick ∷ [])
    ∷ row W.idles_later move (setpoint 255 ∷ tick ∷ tick ∷ [])
    ∷ row W.idles_silent (waiting 1) (min_rep_time 1 ∷ setpoint 255 ∷ tick ∷ tick ∷ [])
    ∷ row W.refuses_all refusal (tick ∷ [])
    ∷ row W.refuses_by_zero (waiting 1) (min_rep_time 1 ∷ tick ∷ [])
    ∷ row W.answers_alike (waiting 1) (min_rep_time 1 ∷ tick ∷ [])
    ∷ row W.stale_setpoint move (setpoint 255 ∷ tick ∷ [])
    ∷ row W.invents_since (spacing 1) (tick ∷ setpoint 255 ∷ tick ∷ [])
    ∷ row W.waits_anew (waiting 2) (min_rep_time 2 ∷ setpoint 255 ∷ tick ∷ tick ∷ [])
    ∷ row W.changes_from_tick_before (waiting 1) (min_rep_time 1 ∷ rate 1 ∷ setpoint 255 ∷ replicate 4 tick)
    ∷ row W.refused_refreshes move (timeout 1 ∷ setpoint 255 ∷ tick ∷ bad_setpoint 255 ∷ tick ∷ [])
    ∷ row W.write_releases move (override 100 ∷ normal_write 0 ∷ tick ∷ [])
    ∷ row W.read_counts (waiting 1) (min_rep_time 1 ∷ read_position ∷ tick ∷ [])
    ∷ row W.read_reports others (read_position ∷ [])
    ∷ row W.never_reports (waiting 1) (min_rep_time 1 ∷ setpoint 255 ∷ tick ∷ [])
    ∷ row W.setpoint_moves others (setpoint 255 ∷ [])
    ∷ row W.backup_early move (timeout 1 ∷ setpoint 255 ∷ tick ∷ [])
    ∷ row W.writes_rounded_down move (normal_write 1 ∷ tick ∷ [])
    ∷ row W.restart_closes others (setpoint 255 ∷ tick ∷ restart ∷ [])
    ∷ row W.position_before content (min_rep_time 1 ∷ setpoint 255 ∷ tick ∷ [])
    ∷ row W.status_before content (min_rep_time 1 ∷ rate 255 ∷ calibration ∷ tick ∷ [])
    ∷ row W.never_periodic due (min_rep_time 1 ∷ rep_per 1 ∷ tick ∷ tick ∷ [])
    ∷ row W.reports_always due (min_rep_time 1 ∷ tick ∷ tick ∷ [])
    ∷ row W.changes_by_position due (min_rep_time 1 ∷ act_pos_cov 2 ∷ setpoint 5 ∷ tick ∷ setpoint 10 ∷ tick ∷ [])
    ∷ row W.restart_keeps_since due (min_rep_time 2 ∷ tick ∷ restart ∷ tick ∷ [])
    ∷ row W.restart_keeps_last due (min_rep_time 1 ∷ tick ∷ restart ∷ tick ∷ [])
    ∷ row W.restart_keeps_last (waiting 1) (min_rep_time 1 ∷ tick ∷ restart ∷ tick ∷ [])
    ∷ row W.hand_off_stores formed (hand_off 7 ∷ tick ∷ [])
    ∷ []

-- the sentence does not hold at the last record, and so the claim does not hold of the trace
abbrev pub Refuted : Row → Type 0
Refuted r = let t = trace_of r.step r.list in (Latest r.sentence t → ⊥) × (Claim t → ⊥)

refuted_by : (s : Sentence) (t : Trace) → broken_in s t ≡ true → (Latest s t → ⊥) × (Claim t → ⊥)
refuted_by s t q = (latest_law s t q, λ c. latest_law s t q (latest s t c))

-- The claim refuses each drive of the table.
pub refuted : Each Refuted table
unfolding computation
refuted =
    each Refuted (λ r. broken_in r.sentence (trace_of r.step r.list))
    (λ r. refuted_by r.sentence (trace_of r.step r.list))
    table
    refl

-- On the same lists the row's own test is not set for the right drive.
pub right : all (λ (r : Row). not (broken_in r.sentence (trace_of step_of r.list))) table ≡ true
unfolding computation
right = refl
