-- "What was promised of one drive's list of events now holds, for each drive that was fresh at first, of its own share of the hall's
-- calls": whatever the other drives were, and whatever the calls list and have room for. Of waiting, W-204 leaves what its quota allows: a
-- hall tick sends only drives that are due, and "a last tick that breaks that limb always finds its drive due", here at one moment.
use Rattle.std.specs.Prelude.{◌≡◌, Bool, true, false, not, ◌&&◌, ◌||◌, List, [], ◌∷◌, ◌++◌, map, ℕ, ◌+◌, ◌<◌, ltb, eqb, length}
use Rattle.std.proofs.Math.Path.{refl}
use Rattle.std.proofs.Common.{sym, ◌∙◌, zero-add, eqb-true}
use Rattle.std.proofs.lemmas.List.{length-map}
use Rattle.std.proofs.lemmas.Bool.{eqb-false, not-true}
use Rattle.numbers.specs.Laws.{cases, and_left, and_right, and_intro, or_left}
use Rattle.numbers.specs.Places.{implies}
use Rattle.numbers.specs.PlaceLaws.{implied, implies_by}
use Rattle.event.specs.Event.{event_in, form_of, data_refusal, record_refusal}
use Rattle.event.specs.Laws.{admitted}
use Rattle.rules.specs.Report.{silent}
use Rattle.answer.specs.Answer.{is_report}
use Rattle.rules.specs.Refusal.{state_refusal, refusal}
use Rattle.rules.specs.RefusalLaws.{refusal_passed}
use Rattle.damper.specs.declared.Drive.{Drive}
use Rattle.damper.specs.declared.Outcome.{Outcome}
use Rattle.damper.specs.Record.{fresh_drive}
use Rattle.damper.specs.WellFormed.{well_formed}
use Rattle.damper.specs.Step.{tick_with, applied, refusal_of, step_of}
use Rattle.damper.specs.Laws.{refusal_none}
use Rattle.damper.specs.CarryLaws.{outcomes_length}
use Rattle.damper.specs.Carry.{outcomes, drive_after}
use Rattle.invariant.specs.Effects.{report_after, step_accepted, step_refused, refusal_wf}
use Rattle.hall.specs.Hall.{Call, give, tick, is_tick, tick_refusal, call_refusal, at}
use Rattle.hall.specs.Quota.{due_now, hall_ticked, sends}
use Rattle.hall.specs.QuotaLaws.{sent_due}
use Rattle.hall.specs.Turns.{Given, bytes, hall_tick, turn, tick_bytes, bytes_in, turns_of, row_after, turns_in, hall_after, shared_out, share, own, hall_step}
use Rattle.hall.specs.Laws.{event_passed, row_length}
use Rattle.hall.specs.TickLaws.{tick_shared}
use Rattle.history.specs.Readings as Readings
use Rattle.history.specs.Readings.{judgement}
use Rattle.history.specs.Claim.{Moment, Trace, moment_of, accepted, accepted_as, report_in, Waiting, due_in, HallHolds, HallClaim, trace_on, reports_from}
use Rattle.history.specs.Waits.{silent_in}
use Rattle.history.specs.Facts.{Good, Facts, due_read, facts_tick, facts_wait}
use Rattle.history.specs.Theorem.{facts, hall_holds, trace_length, fresh_good}
use Rattle.shares.specs.Shares.{shared_append, turns_drive, share_drive, share_answers}
use Rattle.shares.specs.SharedLog.{shared_log_from, shared_log}

-- the trace of the drive at place `i`, built from the hall's own turns: what they give, their answers and the positions that they leave
abbrev pub share_trace : List Drive → ℕ → List Call → Trace
share_trace row i cs = trace_on [] (map bytes_in (share row i cs)) (own row i cs)

-- What a hall gives a drive: no event record that is a tick, and of hall ticks only those that find the drive due send a report.
unfoldable pub fitting : Drive → List Given → Bool
fitting d [] = true
fitting d (bytes s ∷ gs) = not (is_tick s) && fitting (hall_step d (bytes s)).drive gs
fitting d (hall_tick sent ∷ gs) = implies sent (due_now d) && fitting (hall_step d (hall_tick sent)).drive gs

fitting_append : (d : Drive) (gs hs : List Given) → fitting d gs ≡ true → fitting (drive_after d (outcomes hall_step d gs)) hs ≡ true
    → fitting d (gs ++ hs) ≡ true
unfolding fitting outcomes drive_after
fitting_append d [] hs p q = q
fitting_append d (bytes s ∷ gs) hs p q =
    and_intro (and_left (not (is_tick s)) _ p) (fitting_append (hall_step d (bytes s)).drive gs hs (and_right (not (is_tick s)) _ p) q)
fitting_append d (hall_tick sent ∷ gs) hs p q =
    and_intro (and_left (implies sent (due_now d)) _ p)
    (fitting_append (hall_step d (hall_tick sent)).drive gs hs (and_right (implies sent (due_now d)) _ p) q)

-- an accepted event call gives no tick
pub no_tick : (n : ℕ) (list s : List ℕ) (room : ℕ) → call_refusal n (give list s room) ≡ 0 → is_tick s ≡ false
unfolding call_refusal
no_tick n list s room e =
    or_left (is_tick s) _ (or_left (is_tick s || ltb 64 (length list)) _ (event_passed n list s room _ e).2)

events_fit : (i : ℕ) (s : List ℕ) → is_tick s ≡ false → (d : Drive) (list : List ℕ) → fitting d (shared_out i (map (turn (bytes s)) list)) ≡ true
unfolding fitting shared_out
events_fit i s t d [] = refl
events_fit i s t d (j ∷ list) =
    cases (eqb j i) (λ q. rw (q, t) (events_fit i s t (step_of d s).drive list)) (λ q. rw q (events_fit i s t d list))

call_fits : (row : List Drive) (i : ℕ) → i < length row → (c : Call) → fitting (at row i) (shared_out i (turns_of row c)) ≡ true
unfolding turns_of call_refusal fitting shared_out
call_fits row i b (give list s room) =
    cases (eqb (call_refusal (length row) (give list s room)) 0)
    (λ q. rw q (events_fit i s (no_tick (length row) list s room (eqb-true _ 0 q)) (at row i) list))
    (λ q. rw q)
call_fits row i b (tick quota room) =
    let n = length row in
    cases (eqb (tick_refusal n quota room) 0)
    (λ q.
    rw (q, tick_shared (λ x. hall_tick (sends quota row x)) n i b)
    (and_intro (implies_by (sends quota row i) _ (sent_due quota row i)) refl))
    (λ q. rw q)

pub share_fits : (cs : List Call) (row : List Drive) (i : ℕ) → i < length row → fitting (at row i) (share row i cs) ≡ true
unfolding turns_in shared_out fitting
share_fits [] row i b = refl
share_fits (c ∷ cs) row i b =
    let ts = turns_of row c in
    let row' = row_after hall_step row ts in
    let later = share_fits cs row' i (rw (row_length hall_step row ts) b) in
    rw (shared_append i ts (turns_in row' cs))
    (fitting_append (at row i) (shared_out i ts) (share row' i cs) (call_fits row i b c) (rw (turns_drive row ts i b) at later))

-- "Only accepted ticks count", and a hall tick is one: no well-formed drive refuses it.
pub tick_accepted : (t : Trace) → judgement (accepted t) tick_bytes ≡ 0
unfolding judgement refusal record_refusal data_refusal form_of state_refusal
tick_accepted t = refl

-- bytes that are no tick are none that the list accepts
pub no_tick_in : (t : Trace) (s : List ℕ) (o : Outcome) → is_tick s ≡ false → accepted_as Readings.is_tick (moment_of s o) t ≡ false
unfolding judgement
no_tick_in t s o n =
    cases (eqb (judgement (accepted t) s) 0)
    (λ q.
    let k : eqb (event_in s).kind 1 ≡ false = rw (refusal_passed s _ _ _ _ _ (eqb-true _ 0 q)).0 at n in
    rw (q, k))
    (λ q. rw q)

-- What one thing given does to a drive that agrees with its trace.
module _ (d : Drive) (t : Trace) (g : Good d t) where
  pub facts_hall : (sent : Bool) → implies sent (due_now d) ≡ true → Facts d t tick_bytes (hall_ticked sent d)
  unfolding hall_ticked due_now
  facts_hall sent q =
      rw g.wf
      (facts_wait (facts_tick d t tick_bytes sent g (tick_accepted t) refl (λ e. and_right (well_formed d) _ (implied sent (due_now d) q e))) _)

-- The claim and the agreement of drive and trace, over all that a drive is given.
claims : (gs : List Given) (d : Drive) (t : Trace) → Good d t → fitting d gs ≡ true → HallClaim t
    → HallClaim (trace_on t (map bytes_in gs) (outcomes hall_step d gs))
unfolding outcomes trace_on fitting
claims [] d t g q c = c
claims (bytes s ∷ gs) d t g q c =
    let o = step_of d s in
    let f = facts d t s g in
    claims gs o.drive (moment_of s o ∷ t) f.good (and_right (not (is_tick s)) _ q) (hall_holds d t s o f, c)
claims (hall_tick sent ∷ gs) d t g q c =
    let o = hall_ticked sent d in
    let f = facts_hall d t g sent (and_left (implies sent (due_now d)) _ q) in
    claims gs o.drive (moment_of tick_bytes o ∷ t) f.good (and_right (implies sent (due_now d)) _ q) (hall_holds d t tick_bytes o f, c)

goods : (gs : List Given) (d : Drive) (t : Trace) → Good d t → fitting d gs ≡ true
    → Good (drive_after d (outcomes hall_step d gs)) (trace_on t (map bytes_in gs) (outcomes hall_step d gs))
unfolding outcomes drive_after trace_on fitting
goods [] d t g q = g
goods (bytes s ∷ gs) d t g q =
    let o = step_of d s in
    goods gs o.drive (moment_of s o ∷ t) (facts d t s g).good (and_right (not (is_tick s)) _ q)
goods (hall_tick sent ∷ gs) d t g q =
    let o = hall_ticked sent d in
    let f = facts_hall d t g sent (and_left (implies sent (due_now d)) _ q) in
    goods gs o.drive (moment_of tick_bytes o ∷ t) f.good (and_right (implies sent (due_now d)) _ q)

module _ (row : List Drive) (cs : List Call) (i : ℕ) (h : i < length row) (fresh : at row i ≡ fresh_drive) where
  fits : fitting fresh_drive (share row i cs) ≡ true
  fits = rw (← fresh) (share_fits cs row i h)

  -- The sentences of demand 3 hold of it, that about waiting where step 4 would not report.
  pub share_claim : HallClaim (share_trace row i cs)
  share_claim = rw (share_answers row cs i h, fresh) (claims (share row i cs) fresh_drive [] fresh_good fits tt)

  -- The drive agrees with it.
  pub share_good : Good (at (hall_after row cs) i) (share_trace row i cs)
  share_good =
      rw (share_answers row cs i h, share_drive row cs i h, fresh)
      (goods (share row i cs) fresh_drive [] fresh_good fits)

-- "a last tick that breaks that limb always finds its drive due": of any trace, where the sentence about waiting is broken, step 4 would
-- report; and of a drive that agrees with its trace, the hall tick found it due (over every list of calls in Waiting.antt)
pub broken_due : (m : Moment) (t : Trace) → HallHolds m t → (Waiting m t → ⊥) → due_in m t ≡ true
broken_due m t h b = cases (due_in m t) (λ q. q) (λ q. absurd (b (h.waiting q)))

pub finds_due : (d : Drive) (t : Trace) → Good d t → (sent : Bool) → implies sent (due_now d) ≡ true
    → (Waiting (moment_of tick_bytes (hall_ticked sent d)) t → ⊥) → due_now d ≡ true
unfolding due_now
finds_due d t g sent q b =
    let o = hall_ticked sent d in
    let h = hall_holds d t tick_bytes o (facts_hall d t g sent q) in
    and_intro g.wf (due_read d t tick_bytes g (tick_accepted t) refl o ∙ broken_due (moment_of tick_bytes o) t h b)

-- The trace has as many records as the share, whatever the drive was.
pub share_whole : (row : List Drive) (cs : List Call) (i : ℕ) → i < length row → length (share_trace row i cs) ≡ length (share row i cs)
share_whole row cs i h =
    let gs = share row i cs in
    let size : length (map bytes_in gs) ≡ length gs = length-map gs bytes_in in
    rw (share_answers row cs i h)
    (trace_length (map bytes_in gs) (outcomes hall_step (at row i) gs) [] (outcomes_length hall_step (at row i) gs ∙ sym size) ∙ zero-add _ ∙ size)

-- an event other than a tick is answered by no report
pub quiet : (d : Drive) (s : List ℕ) → is_tick s ≡ false → report_in (step_of d s).answer ≡ silent
quiet d s t =
    cases (eqb (refusal_of d s) 0)
    (λ e.
    let z = eqb-true _ 0 e in
    let f = refusal_none d s z in
    let r = (refusal_passed s _ _ _ _ _ (sym (refusal_wf d s f.0) ∙ z)).0 in
    let k : eqb (event_in s).kind 1 ≡ false = rw r at t in
    rw (step_accepted d s z) (silent_in (applied d (event_in s)).answer (report_after d (event_in s) (admitted (event_in s) f.2).kind ∙ rw k)))
    (λ e. rw (step_refused d s (eqb-false _ 0 e)))

-- a hall tick is answered by a report just where it sends one
pub sent_reports : (d : Drive) (sent : Bool) → well_formed d ≡ true → is_report (hall_ticked sent d).answer ≡ sent
unfolding hall_ticked tick_with
sent_reports d true w = rw w
sent_reports d false w = rw w

logs : (gs : List Given) (d : Drive) (t : Trace) (n : ℕ) → Good d t → fitting d gs ≡ true
    → reports_from n (outcomes hall_step d gs) ≡ shared_log_from n (accepted t) gs
unfolding outcomes reports_from shared_log_from accepted fitting
logs [] d t n g q = refl
logs (bytes s ∷ gs) d t n g q =
    let o = step_of d s in
    rw (quiet d s (not-true (is_tick s) (and_left (not (is_tick s)) _ q)))
    (logs gs o.drive (moment_of s o ∷ t) (n + 1) (facts d t s g).good (and_right (not (is_tick s)) _ q))
logs (hall_tick true ∷ gs) d t n g q =
    let o = hall_ticked true d in
    let f = facts_hall d t g true (and_left (due_now d) _ q) in
    let rest = logs gs o.drive (moment_of tick_bytes o ∷ t) (n + 1) f.good (and_right (due_now d) _ q) in
    rw (f.content (sent_reports d true g.wf), rest, tick_accepted t)
logs (hall_tick false ∷ gs) d t n g q =
    let o = hall_ticked false d in
    let f = facts_hall d t g false refl in
    let rest = logs gs o.drive (moment_of tick_bytes o ∷ t) (n + 1) f.good q in
    rw (silent_in o.answer (sent_reports d false g.wf), rest, tick_accepted t)

-- The drive's reports are those hall ticks of its share that send, each numbered by its place in the share.
pub share_log : (row : List Drive) (cs : List Call) (i : ℕ) → i < length row → at row i ≡ fresh_drive
    → reports_from 0 (own row i cs) ≡ shared_log (share row i cs)
unfolding accepted
share_log row cs i h fresh =
    rw (share_answers row cs i h, fresh) (logs (share row i cs) fresh_drive [] 0 fresh_good (fits row cs i h fresh))
