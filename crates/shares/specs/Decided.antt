-- The shares of a hall of drives that were fresh at first are decided by the calls, and so is the log that a host keeps of each drive.
use Rattle.std.specs.Prelude.{◌≡◌, Bool, true, ◌&&◌, ◌||◌, List, [], ◌∷◌, ◌++◌, ℕ, ◌+◌, ◌<◌, eqb}
use Rattle.std.proofs.Math.Path.{refl, sym}
use Rattle.std.proofs.Common.{ap, ◌∙◌}
use Rattle.std.proofs.Math.Bool.{false, and-true}
use Rattle.std.proofs.Math.ListN.{length}
use Rattle.numbers.specs.Numbers.{pick}
use Rattle.numbers.specs.Laws.{cases}
use Rattle.numbers.specs.Places.{tabulate, implies}
use Rattle.numbers.specs.PlaceLaws.{implies_by, count_same, tab_length, tab_at}
use Rattle.numbers.specs.Counts as Counts
use Rattle.event.specs.declared.Event.{Event}
use Rattle.rules.specs.Report.{Sent, silent, sent}
use Rattle.order.specs.Order.{larger_first}
use Rattle.damper.specs.declared.Drive.{Drive}
use Rattle.damper.specs.Record.{fresh_drive}
use Rattle.damper.specs.Tick.{advance, due}
use Rattle.damper.specs.Step.{refusal_of, step_of}
use Rattle.damper.specs.Carry.{outcomes, drive_after}
use Rattle.invariant.specs.Effects.{refusal_wf}
use Rattle.hall.specs.Hall.{Call, give, tick, carried_out, at}
use Rattle.hall.specs.Quota.{due_now, wait_at, due_at, hall_ticked, sends}
use Rattle.hall.specs.QuotaLaws.{sent_due}
use Rattle.hall.specs.Turns.{Given, bytes, hall_tick, hall_step, tick_bytes, turns_of, row_after, turns_in, shared_out, share}
use Rattle.hall.specs.Laws.{row_length}
use Rattle.history.specs.Readings.{judgement}
use Rattle.history.specs.Log.{ReportState, report_state}
use Rattle.history.specs.LogLaws.{refused_accepted, refused_state, passed_accepted, passed_state}
use Rattle.history.specs.Claim.{Trace, moment_of, accepted, report_in, or_earlier, since, last_report}
use Rattle.history.specs.Waits.{silent_in}
use Rattle.history.specs.Facts.{Good, judged, due_read}
use Rattle.history.specs.Theorem.{facts, due_sends, holds, fresh_good}
use Rattle.shares.specs.Shares.{turns_drive}
use Rattle.shares.specs.Once.{reaches, gives, turn_shared, share_once}
use Rattle.shares.specs.WaitLaws.{wait_event, wait_tick}
use Rattle.shares.specs.SharedLog.{shared_log}
use Rattle.shares.specs.Theorem.{tick_accepted, facts_hall, sent_reports}
use Rattle.shares.specs.HostLog.{Lent, calls_of, host_log, sent_in, host_log_lem}
use Rattle.shares.specs.HallList.{Told, told, nothing_told, due_told, told_by, told_at, sends_told, given_told, told_all, told_after, share_from, share_in}

-- what the trace of a drive tells
abbrev told_in : Trace → Drive → Told
told_in t d = told (accepted t) (report_state (since t) (last_report t)) d.wait

same_told : {h h' : List Event} {k k' : ReportState} {w w' : ℕ} → h ≡ h' → k ≡ k' → w ≡ w' → told h k w ≡ told h' k' w'
same_told a b c = λ j. told (a j) (b j) (c j)

-- the state of the reports after a tick that reports or not
tick_state : (q : Bool) (n : ℕ) (x y : Sent) (p s : ℕ) → (q ≡ true → x ≡ sent p s) → (q ≡ false → x ≡ silent)
    → report_state (pick (q || false) 0 (n + 1)) (or_earlier x y) ≡ pick q (report_state 0 (sent p s)) (report_state (n + 1) y)
tick_state true n x y p s a b = rw (a refl)
tick_state false n x y p s a b = rw (b refl)

module _ (d : Drive) (t : Trace) (g : Good d t) where
  -- it is due where its trace tells so
  due_told_lem : due_now d ≡ due_told (told_in t d)
  unfolding due_now accepted
  due_told_lem = rw g.wf (due_read d t tick_bytes g (tick_accepted t) refl (hall_ticked false d) ∙ rw (tick_accepted t))

  -- after an event record
  event_told : (s : List ℕ) → let o = step_of d s in told_in (moment_of s o ∷ t) o.drive ≡ told_by (told_in t d) (bytes s)
  event_told s =
      let o = step_of d s in
      let m = moment_of s o in
      let w = holds d t s o (facts d t s g) (due_sends d t s g) in
      let same : refusal_of d s ≡ judgement (accepted t) s = refusal_wf d s g.wf ∙ judged d t s g in
      cases (eqb (judgement (accepted t) s) 0)
      (λ j. rw j (same_told (passed_accepted m t w j) (passed_state m t w j) (wait_event d s ∙ rw (same, j))))
      (λ j. rw j (same_told (refused_accepted m t w j) (refused_state m t w j) (wait_event d s ∙ rw (same, j))))

  -- after a hall tick
  tick_told : (go : Bool) → implies go (due_now d) ≡ true
      → (let o = hall_ticked go d in told_in (moment_of tick_bytes o ∷ t) o.drive ≡ told_by (told_in t d) (hall_tick go))
  unfolding accepted Counts.since last_report due_now
  tick_told go q =
      let o = hall_ticked go d in
      let f = facts_hall d t g go q in
      let says = sent_reports d go g.wf in
      let is_due : due (advance d).drive ≡ due_told (told_in t d) = rw g.wf at due_told_lem in
      same_told
      (rw (tick_accepted t))
      (rw (tick_accepted t, says)
      (tick_state go (since t) (report_in o.answer) (last_report t) _ _
      (λ e. f.content (says ∙ e) ∙ rw (tick_accepted t))
      (λ e. silent_in o.answer (says ∙ e))))
      (wait_tick d go ∙ rw (g.wf, is_due))

-- a hall tick that sends finds the drive due
abbrev sends_due : Drive → Given → Bool
sends_due d (bytes s) = true
sends_due d (hall_tick go) = implies go (due_now d)

-- a drive is as the calls tell, by a trace that it agrees with
record Tells (d : Drive) (x : Told) : Type 0 where
  trace : Trace
  good : Good d trace
  tells : told_in trace d ≡ x

fresh_tells : Tells fresh_drive nothing_told
unfolding accepted Counts.since last_report
fresh_tells = record { trace = []; good = fresh_good; tells = refl }

module _ (d : Drive) (x : Told) (a : Tells d x) where
  due_by : due_now d ≡ due_told x
  due_by = due_told_lem d a.trace a.good ∙ ap due_told a.tells

  wait_by : d.wait ≡ x.wait
  wait_by = ap (λ (y : Told). y.wait) a.tells

  -- after what a hall gives it
  given_told_lem : (g : Given) → sends_due d g ≡ true → Tells (hall_step d g).drive (told_by x g)
  given_told_lem (bytes s) q =
      record {
        trace = moment_of s (step_of d s) ∷ a.trace;
        good = (facts d a.trace s a.good).good;
        tells = event_told d a.trace a.good s ∙ ap (λ (y : Told). told_by y (bytes s)) a.tells;
      }
  given_told_lem (hall_tick go) q =
      record {
        trace = moment_of tick_bytes (hall_ticked go d) ∷ a.trace;
        good = (facts_hall d a.trace a.good go q).good;
        tells = tick_told d a.trace a.good go q ∙ ap (λ (y : Told). told_by y (hall_tick go)) a.tells;
      }

-- A hall is as the calls tell, drive by drive.
record AllTold (row : List Drive) (xs : List Told) : Type 0 where
  size : length xs ≡ length row
  each : (i : ℕ) → i < length row → Tells (at row i) (told_at xs i)

module _ (row : List Drive) (xs : List Told) (a : AllTold row xs) where
  abbrev n : ℕ
  n = length row

  -- so a hall tick sends whom they tell
  before_told : (i j : ℕ) → i < n → j < n
      → due_at row j && larger_first (wait_at row) i j ≡ due_told (told_at xs j) && larger_first (λ k. (told_at xs k).wait) i j
  before_told i j k l =
      rw (due_by (at row j) (told_at xs j) (a.each j l), wait_by (at row i) (told_at xs i) (a.each i k), wait_by (at row j) (told_at xs j) (a.each j l))

  sends_told_lem : (quota i : ℕ) → i < n → sends quota row i ≡ sends_told quota xs i
  unfolding sends
  sends_told_lem quota i l =
      rw (a.size, due_by (at row i) (told_at xs i) (a.each i l), count_same _ _ n (λ j k. before_told i j l k))

  -- and a call gives what they tell
  same_given : (i : ℕ) → i < n → (c : Call) → given_told xs i c ≡ pick (reaches row i c) (gives row i c ∷ []) []
  same_given i l (give list s room) = rw a.size
  same_given i l (tick quota room) = rw (sends_told_lem quota i l, a.size, and-true (carried_out n (tick quota room)))

  gives_due : (i : ℕ) (c : Call) → sends_due (at row i) (gives row i c) ≡ true
  gives_due i (give list s room) = refl
  gives_due i (tick quota room) = implies_by (sends quota row i) _ (sent_due quota row i)

  -- after it they tell of the row that it leaves
  call_told : (c : Call) → AllTold (row_after hall_step row (turns_of row c)) (told_after xs c)
  unfolding outcomes drive_after
  call_told c =
      let row' = row_after hall_step row (turns_of row c) in
      let size : length row' ≡ n = row_length hall_step row (turns_of row c) in
      record {
        size = tab_length (length xs) _ ∙ a.size ∙ sym size;
        each = λ i k.
            let l : i < n = rw size at k in
            rw (turns_drive row (turns_of row c) i l, turn_shared row i l c, tab_at (length xs) (λ j. told_all (told_at xs j) (given_told xs j c)) nothing_told i (rw a.size l), same_given i l c)
            (cases (reaches row i c)
            (λ q. rw q (given_told_lem (at row i) (told_at xs i) (a.each i l) (gives row i c) (gives_due i c)))
            (λ q. rw q (a.each i l)));
      }

share_told : (cs : List Call) (row : List Drive) (xs : List Told) → AllTold row xs → (i : ℕ) → i < length row → share row i cs ≡ share_from xs i cs
unfolding share_from turns_in shared_out
share_told [] row xs a i l = refl
share_told (c ∷ cs) row xs a i l =
    let row' = row_after hall_step row (turns_of row c) in
    share_once row i l c cs
    ∙ (λ j. sym (same_given row xs a i l c) j
    ++ share_told cs row' (told_after xs c) (call_told row xs a c) i (rw (row_length hall_step row (turns_of row c)) l) j)

-- For every hall of drives that were fresh at first and every list of calls: each drive's share is decided by the calls.
pub share_decided : (row : List Drive) → ((i : ℕ) → i < length row → at row i ≡ fresh_drive) → (cs : List Call) (i : ℕ) → i < length row
    → share row i cs ≡ share_in (length row) i cs
share_decided row fresh cs i l =
    share_told cs row (tabulate (length row) (λ j. nothing_told))
    record {
      size = tab_length (length row) (λ j. nothing_told);
      each = λ j k. rw (fresh j k, tab_at (length row) (λ j. nothing_told) nothing_told j k) fresh_tells;
    }
    i l

-- So is the log that a host keeps of it, whatever the lent rows held.
pub hall_log_decided : (row : List Drive) → ((i : ℕ) → i < length row → at row i ≡ fresh_drive) → (ls : List Lent) (i : ℕ) → i < length row
    → host_log row i ls ≡ sent_in (shared_log (share_in (length row) i (calls_of ls)))
hall_log_decided row fresh ls i l =
    host_log_lem row ls i l (fresh i l) ∙ ap (λ (gs : List Given). sent_in (shared_log gs)) (share_decided row fresh (calls_of ls) i l)
