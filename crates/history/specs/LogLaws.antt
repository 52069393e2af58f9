-- The log is decided by the list: the reports of a drive whose trace meets the claim are those read off the event records alone.
use Rattle.std.specs.Prelude.{◌≡◌, refl, Bool, true, false, ◌||◌, List, [], ◌∷◌, ℕ, ◌+◌, eqb}
use Rattle.std.proofs.Common.{◌∙◌}
use Rattle.numbers.specs.Numbers.{pick}
use Rattle.numbers.specs.Laws.{cases}
use Rattle.numbers.specs.Counts as Counts
use Rattle.event.specs.declared.Event.{Event}
use Rattle.event.specs.Event.{event_in}
use Rattle.rules.specs.Report.{Sent, silent, sent}
use Rattle.damper.specs.declared.Drive.{Drive}
use Rattle.damper.specs.declared.Outcome.{Outcome}
use Rattle.damper.specs.Record.{fresh_drive}
use Rattle.damper.specs.Step.{step_of}
use Rattle.damper.specs.Carry.{Step, outcomes}
use Rattle.history.specs.Readings as R
use Rattle.history.specs.Log as L
use Rattle.history.specs.Claim as C
use Rattle.history.specs.Claim.{moment_of}
use Rattle.history.specs.Waits.{silent_in}
use Rattle.history.specs.Theorem.{demand_3}

-- the state after a restart `r`, a report `q` or a tick `t`, `x` being what the answer reports
state_law : (r q t : Bool) (n : ℕ) (x y : Sent) (p s : ℕ) → (q ≡ true → x ≡ sent p s) → (q ≡ false → x ≡ silent)
    → L.report_state (pick (q || r) 0 (pick t (n + 1) n)) (pick r silent (C.or_earlier x y))
    ≡ pick r (L.report_state 0 silent) (pick q (L.report_state 0 (sent p s)) (L.report_state (pick t (n + 1) n) y))
state_law true true t n x y p s a b = refl
state_law true false t n x y p s a b = refl
state_law false true t n x y p s a b = rw (a refl)
state_law false false t n x y p s a b = rw (b refl)

entry_law : (q : Bool) (n p s : ℕ) (x : Sent) (es : List L.Entry) → (q ≡ true → x ≡ sent p s) → (q ≡ false → x ≡ silent)
    → C.entries_of n x es ≡ pick q (L.entry n p s ∷ es) es
entry_law true n p s x es a b = rw (a refl)
entry_law false n p s x es a b = rw (b refl)

-- the state after a trace
abbrev state_in : C.Trace → L.ReportState
state_in t = L.report_state (C.since t) (C.last_report t)

module _ (m : C.Moment) (t : C.Trace) (w : C.Holds m t) where
  abbrev h : List Event
  h = C.accepted t

  abbrev e : Event
  e = event_in m.bytes

  -- a record that is refused tells nothing
  module _ (j : eqb (R.judgement h m.bytes) 0 ≡ false) where
    quiet : C.reports m ≡ false
    quiet = (w.others (rw j)).1

    pub refused_entry : (n : ℕ) (es : List L.Entry) → C.entries_of n (C.report_in m.answer) es ≡ es
    refused_entry n es = rw (silent_in m.answer quiet)

    pub refused_accepted : C.accepted (m ∷ t) ≡ h
    unfolding C.accepted
    refused_accepted = rw j

    pub refused_state : state_in (m ∷ t) ≡ state_in t
    unfolding Counts.since C.last_report
    refused_state = rw (j, quiet, silent_in m.answer quiet)

  -- one that is accepted tells what the list says
  module _ (j : eqb (R.judgement h m.bytes) 0 ≡ true) where
    pub passed_accepted : C.accepted (m ∷ t) ≡ e ∷ h
    unfolding C.accepted
    passed_accepted = rw j

    reports_read : C.reports m ≡ L.reports_at e h (state_in t)
    reports_read =
        cases (R.is_tick e)
        (λ k. w.due (rw (j, k)) ∙ rw (k, passed_accepted))
        (λ k. (w.others (rw (j, k))).1 ∙ rw k)

    sent_read : C.reports m ≡ true → C.report_in m.answer ≡ sent (R.position_in (e ∷ h)) (R.status_in (e ∷ h))
    sent_read q = w.content q ∙ rw passed_accepted

    pub passed_entry : (n : ℕ) (es : List L.Entry)
        → C.entries_of n (C.report_in m.answer) es
        ≡ pick (L.reports_at e h (state_in t)) (L.entry n (R.position_in (e ∷ h)) (R.status_in (e ∷ h)) ∷ es) es
    passed_entry n es = rw (← reports_read) (entry_law (C.reports m) n _ _ _ es sent_read (silent_in m.answer))

    pub passed_state : state_in (m ∷ t) ≡ L.state_after e h (state_in t)
    unfolding Counts.since C.last_report
    passed_state =
        rw (← reports_read, j)
        (state_law (R.is_restart e) (C.reports m) (R.is_tick e) (C.since t) _ (C.last_report t) _ _ sent_read (silent_in m.answer))

-- a claim about a longer trace is one about what it began with
claim_before : (l : List (List ℕ)) (os : List Outcome) (t : C.Trace) → C.Claim (C.trace_on t l os) → C.Claim t
unfolding C.trace_on
claim_before [] os t c = c
claim_before (s ∷ l) [] t c = c
claim_before (s ∷ l) (o ∷ os) t c = (claim_before l os (moment_of s o ∷ t) c).1

log_from : (step : Step) (l : List (List ℕ)) (d : Drive) (t : C.Trace) (n : ℕ) → C.Claim (C.trace_on t l (outcomes step d l))
    → C.reports_from n (outcomes step d l) ≡ L.log_from n (C.accepted t) (state_in t) l
unfolding outcomes C.trace_on C.reports_from L.log_from
log_from step [] d t n c = refl
log_from step (s ∷ l) d t n c =
    let o = step d s in
    let m = moment_of s o in
    let w = (claim_before l (outcomes step o.drive l) (m ∷ t) c).0 in
    let rest = log_from step l o.drive (m ∷ t) (n + 1) c in
    cases (eqb (R.judgement (C.accepted t) s) 0)
    (λ j.
    rw j
    (passed_entry m t w j (n + 1) _
    ∙ rw (rest, passed_accepted m t w j, passed_state m t w j)))
    (λ j.
    rw j
    (refused_entry m t w j (n + 1) _
    ∙ rw (rest, refused_accepted m t w j, refused_state m t w j)))

-- For every list of event records, any drive whose trace meets the claim sends the reports that the list decides, no others.
pub log_decided : (step : Step) (l : List (List ℕ)) → C.Claim (C.trace_of step l) → C.log_of step l ≡ L.log_in l
unfolding C.accepted Counts.since C.last_report
log_decided step l c = log_from step l fresh_drive [] 0 c

-- The reports of the proved drive are those read off the list.
pub log_read : (l : List (List ℕ)) → C.log_of step_of l ≡ L.log_in l
log_read l = log_decided step_of l (demand_3 l)
