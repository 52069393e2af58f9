-- Document 02, W-204: the bound "replaces the waiting limb for halls". What it leaves of that limb: of a drive that was fresh at first, and
-- not restarted meanwhile, of hall ticks in a row whose quotas add up to the number of drives or more at least one does not break the old
-- sentence about waiting, and so of as many as the row has drives; and "a last tick that breaks that limb always finds its drive due".
use Rattle.std.specs.Prelude.{◌≡◌, refl, Bool, true, false, not, List, [], ◌∷◌, ◌++◌, map, ℕ, ◌+◌, ◌<◌, ◌≤◌, ltb, length}
use Rattle.std.proofs.Common.{sym, subst, ap, ◌∙◌, append_assoc, arith, ltb-true, ltb-false}
use Rattle.std.proofs.lemmas.Bool.{false≢true, not-true}
use Rattle.std.proofs.lemmas.List.{append_cancel_right}
use Rattle.numbers.specs.Laws.{cases, and_left, and_right, and_intro}
use Rattle.numbers.specs.Places.{implies}
use Rattle.numbers.specs.Counts as Counts
use Rattle.numbers.specs.CountLaws.{quiet_last}
use Rattle.damper.specs.declared.Drive.{Drive}
use Rattle.damper.specs.declared.Outcome.{Outcome}
use Rattle.damper.specs.Record.{fresh_drive}
use Rattle.damper.specs.Step.{step_of}
use Rattle.damper.specs.Carry.{outcomes, drive_after}
use Rattle.invariant.specs.Effects.{refusal_wf}
use Rattle.hall.specs.Hall as H
use Rattle.hall.specs.Hall.{Call, tick, call_refusal, at}
use Rattle.hall.specs.Quota.{due_now, hall_ticked, sends}
use Rattle.hall.specs.Turns.{Given, bytes, hall_tick, hall_step, tick_bytes, bytes_in, turns_of, turns_in, hall_after, shared_out, share}
use Rattle.hall.specs.TickLaws.{tick_shared}
use Rattle.history.specs.Readings.{is_tick, is_restart}
use Rattle.history.specs.Claim.{Moment, Trace, moment_of, accepted_as, reports, ticks_in, Waiting, trace_on}
use Rattle.history.specs.Facts.{Good, good_time, judged}
use Rattle.history.specs.Theorem.{facts}
use Rattle.shares.specs.Shares.{shared_append, share_append, hall_length, share_drive, share_answers}
use Rattle.shares.specs.WaitLaws.{restart}
use Rattle.shares.specs.Bound.{ticks_given, due_at_each, sent_at_one, restarted, quotas_in, sent_in_quotas, sent_in_time}
use Rattle.shares.specs.Theorem.{share_trace, fitting, share_fits, tick_accepted, no_tick_in, facts_hall, share_good, finds_due, sent_reports}

-- among the moments of `new`, which came after `old`: the sentence about waiting is broken at each accepted tick, and no restart is accepted
pub data Broken (old : Trace) : Trace → Type 0 where
  none : Broken old []
  at_tick : {m : Moment} {new : Trace} → accepted_as is_tick m (new ++ old) ≡ true → (Waiting m (new ++ old) → ⊥) → Broken old new
      → Broken old (m ∷ new)
  other : {m : Moment} {new : Trace} → accepted_as is_tick m (new ++ old) ≡ false → accepted_as is_restart m (new ++ old) ≡ false
      → Broken old new → Broken old (m ∷ new)

-- the first of them, and the later ones
broken_split : (new : Trace) (m : Moment) (old : Trace) → Broken old (new ++ (m ∷ [])) → Broken old (m ∷ []) × Broken (m ∷ old) new
broken_split [] m old b = (b, none)
broken_split (x ∷ new) m old (at_tick k w b) =
    let r = broken_split new m old b in
    let same : (new ++ (m ∷ [])) ++ old ≡ new ++ (m ∷ old) = append_assoc new (m ∷ []) old in
    (r.0, at_tick (rw same at k) (subst (λ (t : Trace). Waiting x t → ⊥) same w) r.1)
broken_split (x ∷ new) m old (other k w b) =
    let r = broken_split new m old b in
    let same : (new ++ (m ∷ [])) ++ old ≡ new ++ (m ∷ old) = append_assoc new (m ∷ []) old in
    (r.0, other (rw same at k) (rw same at w) r.1)

ticks_split : (new : Trace) (m : Moment) (old : Trace) → ticks_in (new ++ (m ∷ [])) old ≡ ticks_in new (m ∷ old) + ticks_in (m ∷ []) old
unfolding Counts.ticks_in
ticks_split [] m old = omega arith
ticks_split (x ∷ new) m old =
    let r = ticks_split new m old in
    rw (append_assoc new (m ∷ []) old)
    (cases (accepted_as is_tick x (new ++ (m ∷ old))) (λ q. rw q (omega arith)) (λ q. rw q r))

-- the moments of what a drive is given, the latest first
abbrev grown : Drive → List Given → Trace
grown d gs = trace_on [] (map bytes_in gs) (outcomes hall_step d gs)

trace_parts : (ss : List (List ℕ)) (os : List Outcome) (t : Trace) → trace_on t ss os ≡ trace_on [] ss os ++ t
unfolding trace_on
trace_parts [] os t = refl
trace_parts (s ∷ ss) [] t = refl
trace_parts (s ∷ ss) (o ∷ os) t =
    let m = moment_of s o in
    trace_parts ss os (m ∷ t) ∙ sym (append_assoc (trace_on [] ss os) (m ∷ []) t) ∙ ap (λ (u : Trace). u ++ t) (sym (trace_parts ss os (m ∷ [])))

grown_parts : (d : Drive) (g : Given) (gs : List Given) → let o = hall_step d g in
    grown d (g ∷ gs) ≡ grown o.drive gs ++ (moment_of (bytes_in g) o ∷ [])
unfolding trace_on outcomes
grown_parts d g gs = let o = hall_step d g in trace_parts (map bytes_in gs) (outcomes hall_step o.drive gs) (moment_of (bytes_in g) o ∷ [])

-- what a drive is given in two parts
trace_append : (gs hs : List Given) (d : Drive) (t : Trace) → let os = outcomes hall_step d gs in
    trace_on t (map bytes_in (gs ++ hs)) (outcomes hall_step d (gs ++ hs))
    ≡ trace_on (trace_on t (map bytes_in gs) os) (map bytes_in hs) (outcomes hall_step (drive_after d os) hs)
unfolding trace_on outcomes drive_after
trace_append [] hs d t = refl
trace_append (g ∷ gs) hs d t = let o = hall_step d g in trace_append gs hs o.drive (moment_of (bytes_in g) o ∷ t)

-- At one moment.
module _ (d : Drive) (t : Trace) (g : Good d t) where
  -- an event other than a tick: it is no tick that the list accepts, and no restart that the drive does
  event_first : (s : List ℕ) → H.is_tick s ≡ false → let m = moment_of s (step_of d s) in Broken t (m ∷ [])
      → (restart d s ≡ false) × (ticks_in (m ∷ []) t ≡ 0)
  unfolding Counts.ticks_in
  event_first s n (at_tick k w b) = absurd (false≢true (sym (no_tick_in t s (step_of d s) n) ∙ k))
  event_first s n (other k r b) = (rw (refusal_wf d s g.wf ∙ judged d t s g) r, rw k)

-- a report breaks no wait, of a drive after it that agrees with its trace
report_waits : (d : Drive) (m : Moment) (t : Trace) → Good d (m ∷ t) → reports m ≡ true → Waiting m t
report_waits d m t g e row old s k n q =
    let l = quiet_last (accepted_as is_tick) (λ y u. reports y) (accepted_as is_restart) m t row old s (rw n (good_time d (m ∷ t) g)) q in
    absurd (false≢true (sym l.1 ∙ e))

module _ (d : Drive) (t : Trace) (g : Good d t) where
  -- a hall tick: it finds the drive due and does not send it
  tick_first : (sent : Bool) → implies sent (due_now d) ≡ true → let m = moment_of tick_bytes (hall_ticked sent d) in Broken t (m ∷ [])
      → (due_now d ≡ true) × (sent ≡ false) × (ticks_in (m ∷ []) t ≡ 1)
  unfolding Counts.ticks_in
  tick_first sent q (other k r b) = absurd (false≢true (sym k ∙ rw (tick_accepted t)))
  tick_first sent q (at_tick k w b) =
      let o = hall_ticked sent d in
      let m = moment_of tick_bytes o in
      let good = (facts_hall d t g sent q).good in (
        finds_due d t g sent q w,
        cases sent (λ e. absurd (w (report_waits o.drive m t good (sent_reports d sent g.wf ∙ e)))) (λ e. e),
        rw k,
      )

-- Over what a drive is given: it is due at each hall tick, sent at none and not restarted.
record HeldBack (d : Drive) (t : Trace) (gs : List Given) : Type 0 where
  is_due : due_at_each d gs ≡ true
  unsent : sent_at_one gs ≡ false
  unrestarted : restarted d gs ≡ false
  count : ticks_in (grown d gs) t ≡ ticks_given gs

held_back : (gs : List Given) (d : Drive) (t : Trace) → Good d t → fitting d gs ≡ true → Broken t (grown d gs) → HeldBack d t gs
unfolding fitting due_at_each sent_at_one restarted ticks_given outcomes trace_on Counts.ticks_in
held_back [] d t g q b = record { is_due = refl; unsent = refl; unrestarted = refl; count = refl }
held_back (bytes s ∷ gs) d t g q b =
    let o = step_of d s in
    let m = moment_of s o in
    let whole = grown_parts d (bytes s) gs in
    let two = broken_split (grown o.drive gs) m t (rw whole at b) in
    let first = event_first d t g s (not-true (H.is_tick s) (and_left (not (H.is_tick s)) _ q)) two.0 in
    let rest = held_back gs o.drive (m ∷ t) (facts d t s g).good (and_right (not (H.is_tick s)) _ q) two.1 in
    record {
      is_due = rest.is_due;
      unsent = rest.unsent;
      unrestarted = rw first.0 rest.unrestarted;
      count = ap (λ (u : Trace). ticks_in u t) whole ∙ ticks_split (grown o.drive gs) m t ∙ omega (arith, first.1, rest.count);
    }
held_back (hall_tick sent ∷ gs) d t g q b =
    let o = hall_ticked sent d in
    let m = moment_of tick_bytes o in
    let whole = grown_parts d (hall_tick sent) gs in
    let two = broken_split (grown o.drive gs) m t (rw whole at b) in
    let fit = and_left (implies sent (due_now d)) _ q in
    let first = tick_first d t g sent fit two.0 in
    let rest = held_back gs o.drive (m ∷ t) (facts_hall d t g sent fit).good (and_right (implies sent (due_now d)) _ q) two.1 in
    record {
      is_due = and_intro first.0 rest.is_due;
      unsent = rw first.1 rest.unsent;
      unrestarted = rest.unrestarted;
      count = ap (λ (u : Trace). ticks_in u t) whole ∙ ticks_split (grown o.drive gs) m t ∙ omega (arith, first.2, rest.count);
    }

share_grown : (row : List Drive) (before after : List Call) (i : ℕ) → i < length row → let row' = hall_after row before in
    share_trace row i (before ++ after) ≡ grown (at row' i) (share row' i after) ++ share_trace row i before
share_grown row before after i h =
    let whole = share_answers row (before ++ after) i h in
    let part = share_answers row before i h in
    rw (whole, part, share_append row i before after, share_drive row before i h)
    (trace_append (share row i before) (share (hall_after row before) i after) (at row i) [] ∙ trace_parts _ _ _)

-- "a last tick that breaks that limb always finds its drive due", over every list of calls: the last of them is a hall tick that is carried
-- out, its moment is the latest of the drive's trace, and where the sentence about waiting is broken there, the drive was due before it.
pub share_finds_due : (row : List Drive) (cs : List Call) (i quota room : ℕ) → i < length row → at row i ≡ fresh_drive
    → call_refusal (length row) (tick quota room) ≡ 0
    → (let row' = hall_after row cs in
    let d = at row' i in
    let m = moment_of tick_bytes (hall_ticked (sends quota row' i) d) in
    (share_trace row i (cs ++ (tick quota room ∷ [])) ≡ m ∷ share_trace row i cs)
    × ((Waiting m (share_trace row i cs) → ⊥) → due_now d ≡ true))
unfolding turns_of turns_in shared_out fitting trace_on outcomes
share_finds_due row cs i quota room h fresh c =
    let row' = hall_after row cs in
    let last = tick quota room ∷ [] in
    let size : length row' ≡ length row = hall_length row cs in
    let b : i < length row' = rw size h in
    let go = sends quota row' in
    let given : share row' i last ≡ hall_tick (go i) ∷ [] =
    shared_append i (turns_of row' (tick quota room)) [] ∙ rw (size, c, ← size, tick_shared (λ x. hall_tick (go x)) (length row') i b) in
    let fit : fitting (at row' i) (hall_tick (go i) ∷ []) ≡ true = rw given at (share_fits last row' i b) in (
      share_grown row cs last i h ∙ rw given,
      finds_due (at row' i) (share_trace row i cs) (share_good row cs i h fresh) (go i) (and_left (implies (go i) (due_now (at row' i))) _ fit),
    )

-- Of hall ticks in a row that each break the old sentence, the drive having been fresh at first and not restarted between them (`Broken` has
-- no accepted restart), the quotas are together less than the number of drives.
module _ (row : List Drive) (before after : List Call) (i : ℕ) (h : i < length row) (fresh : at row i ≡ fresh_drive) (new : Trace)
    (e : share_trace row i (before ++ after) ≡ new ++ share_trace row i before) (b : Broken (share_trace row i before) new) where
  abbrev t : Trace
  t = share_trace row i before

  abbrev row' : List Drive
  row' = hall_after row before

  abbrev gs : List Given
  gs = share row' i after

  size : length row' ≡ length row
  size = hall_length row before

  good : Good (at row' i) t
  good = share_good row before i h fresh

  same : new ≡ grown (at row' i) gs
  same = append_cancel_right new (grown (at row' i) gs) t (sym e ∙ share_grown row before after i h)

  held : HeldBack (at row' i) t gs
  held = held_back gs (at row' i) t good (share_fits after row' i (rw size h)) (rw same at b)

  pub quotas_bound : quotas_in (length row) after < length row
  quotas_bound =
      cases (ltb (quotas_in (length row) after) (length row))
      (λ q. ltb-true _ _ q)
      (λ q.
      let enough : length row' ≤ quotas_in (length row') after = rw size (ltb-false _ _ q) in
      let sent = sent_in_quotas row' after i (rw size h) good.wf enough held.is_due held.unrestarted in
      absurd (false≢true (sym held.unsent ∙ sent)))

  -- W-204: so not at as many as the row has drives.
  pub waiting_bound : ticks_in new t < length row
  waiting_bound =
      cases (ltb (ticks_in new t) (length row))
      (λ q. ltb-true _ _ q)
      (λ q.
      let many : ticks_in new t ≡ ticks_given gs = ap (λ (u : Trace). ticks_in u t) same ∙ held.count in
      let enough : length row ≤ ticks_given gs = omega (arith, many, ltb-false (ticks_in new t) (length row) q) in
      let sent = sent_in_time row' after i (rw size h) good.wf (omega (arith, enough, size)) held.is_due held.unrestarted in
      absurd (false≢true (sym held.unsent ∙ sent)))
