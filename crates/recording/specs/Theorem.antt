-- For every recording of any drive, the audit finds at each record exactly the sentences of the claim that fail there.
use Rattle.std.specs.Prelude.{◌≡◌, refl, Bool, true, false, List, [], ◌∷◌, ℕ}
use Rattle.std.proofs.Common.{sym, ◌∙◌}
use Rattle.numbers.specs.Every.{Every, none, more}
use Rattle.table.specs.Table.{rate}
use Rattle.event.specs.Event.{event_in}
use Rattle.answer.specs.Answer.{number_of, word_of, code_of}
use Rattle.damper.specs.Tick.{status_of}
use Rattle.history.specs.Readings as R
use Rattle.history.specs.Claim as C
use Rattle.history.specs.Agree.{status_agrees}
use Rattle.history.specs.Facts.{time_range, not_one, differs_law}
use Rattle.audit.specs.declared.Audit.{Audit}
use Rattle.audit.specs.declared.Findings.{Findings}
use Rattle.audit.specs.declared.Met.{Met}
use Rattle.audit.specs.declared.Said.{Said}
use Rattle.audit.specs.Audit.{fresh_audit, findings_of, audit_of}
use Rattle.recording.specs.Recording.{Heard, heard_as, trace_from, trace_heard, Tells, Told, ToldFrom, Clean, findings_from, audit_after}
use Rattle.recording.specs.Told.{where_told, unless_told, equal_told, unset_told, same_told, sent_told, move_told, spacing_told, waiting_told}
use Rattle.recording.specs.Follows.{Follows, Says, Meets, fresh_follows, meets, heard_says, follows_on}

module _ (a : Audit) (t : C.Trace) (f : Follows a t) (x : C.Moment) (m : Met) (g : Meets m x t) (y : Said) (z : Says y x) where
  -- what is found at a record is what fails there
  told : (word code : ℕ) → Told x t (findings_of a m y word code)
  unfolding findings_of
  told word code =
      let now = C.accepted (x ∷ t) in
      let before = C.position_after t in
      let target = R.target_from before (event_in x.bytes) (C.accepted t) in
      let tick = C.accepted_as R.is_tick x t in
      let time = time_range m.drive now g.wf g.agrees in
      let status = status_agrees _ _ g.wf g.agrees in
      let differs = differs_law m.drive (status_of m.drive) a.drive.last in
      record {
        spacing = rw (z.reports, g.tick, f.apart, g.agrees.params) (spacing_told x t time.1);
        waiting =
            rw (differs, status, z.reports, g.tick, f.since, f.last, g.position, g.agrees.params)
            (waiting_told x t time.0 time.1);
        moving =
            rw (g.tick, z.position)
            (where_told tick _ _ (λ k. rw (g.moved k) (move_told x.position before target (rate (C.in_force x t)))));
        position = rw (z.position, g.position) (equal_told x.position (R.position_in now));
        content =
            rw z.reports
            (where_told (C.reports x) _ _
            (λ e. rw (z.sent e, status, g.position) (sent_told y.position y.status (R.position_in now) (R.status_in now))));
        othermove = rw (g.tick, z.position, f.seen) (unless_told tick _ (x.position ≡ before) (equal_told x.position before));
        otherreport = rw (g.tick, z.reports) (unless_told tick (C.reports x) (C.reports x ≡ false) (unset_told (C.reports x)));
        due =
            rw (g.tick, z.reports)
            (where_told tick _ (C.reports x ≡ C.due_in x t) (λ k. rw (g.due k) (same_told (C.reports x) (C.due_in x t))));
        refusal = rw (z.number, g.number) (equal_told (number_of x.answer) (R.judgement (C.accepted t) x.bytes));
      }

-- One record after a trace that the audit has followed.
module _ (a : Audit) (t : C.Trace) (f : Follows a t) (x : Heard) where
  -- the audit takes it
  taken : (audit_of a x.bytes x.answer).refusal ≡ 0
  unfolding audit_of
  taken = rw f.wf

  -- its findings tell which sentences fail
  pub told_next : Told (heard_as t x) t (audit_of a x.bytes x.answer).findings
  unfolding audit_of
  told_next = rw f.wf (told a t f _ _ (meets a t f x) _ (heard_says a t f x) (word_of x.answer) (code_of x.answer))

  -- and the audit has followed it
  pub follows_next : Follows (audit_of a x.bytes x.answer).audit (heard_as t x ∷ t)
  unfolding audit_of
  follows_next = rw f.wf (follows_on a t f _ _ (meets a t f x) _ (heard_says a t f x))

-- after any trace that the audit has followed
tells_from : (l : List Heard) (a : Audit) (t : C.Trace) → Follows a t → ToldFrom t l (findings_from a l)
unfolding findings_from
tells_from [] a t f = tt
tells_from (x ∷ l) a t f = (told_next a t f x, tells_from l _ (heard_as t x ∷ t) (follows_next a t f x))

-- For every recording of any drive, each finding of the audit is true exactly where its sentence fails.
pub audit_tells : (l : List Heard) → ToldFrom [] l (findings_from fresh_audit l)
audit_tells l = tells_from l fresh_audit [] fresh_follows

-- it takes any record after a trace that it has followed and a recording
taken_after : (l : List Heard) (a : Audit) (t : C.Trace) → Follows a t → (x : Heard)
    → (audit_of (audit_after a l) x.bytes x.answer).refusal ≡ 0
unfolding audit_after
taken_after [] a t f x = taken a t f x
taken_after (y ∷ l) a t f x = taken_after l _ (heard_as t y ∷ t) (follows_next a t f y) x

-- After any recording the audit takes any record, whatever it was answered.
pub audit_taken : (l : List Heard) (x : Heard) → (audit_of (audit_after fresh_audit l) x.bytes x.answer).refusal ≡ 0
audit_taken l x = taken_after l fresh_audit [] fresh_follows x

-- a sentence that holds is not found
unfound : (b : Bool) {S : Type 0} → Tells b S → S → b ≡ false
unfound true k s = absurd (k s)
unfound false k s = refl

module _ (m : C.Moment) (t : C.Trace) (f : Findings) (k : Told m t f) where
  -- where nothing is found, all sentences hold
  clean_holds : Clean f → C.Holds m t
  unfolding R.judgement
  clean_holds c =
      let refusal : C.Refusal m t = rw c.refusal at k.refusal in
      record {
        spacing = rw c.spacing at k.spacing;
        waiting = rw c.waiting at k.waiting;
        move = rw c.moving at k.moving;
        position = rw c.position at k.position;
        content = rw c.content at k.content;
        others = λ e. ((rw c.othermove at k.othermove) e, (rw c.otherreport at k.otherreport) e);
        due = rw c.due at k.due;
        refusal = refusal;
        formed = λ e. not_one m.bytes _ _ _ _ _ (sym refusal ∙ e);
      }

  -- where all hold, nothing is found
  pub holds_clean : C.Holds m t → Clean f
  holds_clean h =
      record {
        spacing = unfound f.spacing k.spacing h.spacing;
        waiting = unfound f.waiting k.waiting h.waiting;
        moving = unfound f.moving k.moving h.move;
        position = unfound f.position k.position h.position;
        content = unfound f.content k.content h.content;
        othermove = unfound f.othermove k.othermove (λ e. (h.others e).0);
        otherreport = unfound f.otherreport k.otherreport (λ e. (h.others e).1);
        due = unfound f.due k.due h.due;
        refusal = unfound f.refusal k.refusal h.refusal;
      }

-- after a trace that meets the claim, findings that are clean make the longer one meet it
clean_from : (l : List Heard) (t : C.Trace) (fs : List Findings) → ToldFrom t l fs → Every Clean fs → C.Claim t → C.Claim (trace_from t l)
unfolding trace_from
clean_from [] t fs k e c = c
clean_from (x ∷ l) t [] k e c = absurd k
clean_from (x ∷ l) t (f ∷ fs) k (more p ps) c = clean_from l (heard_as t x ∷ t) fs k.1 ps (clean_holds _ t f k.0 p, c)

-- A recording in which nothing is found meets the claim.
pub audit_clean : (l : List Heard) → Every Clean (findings_from fresh_audit l) → C.Claim (trace_heard l)
audit_clean l e = clean_from l [] _ (audit_tells l) e tt

-- a claim about a longer trace is one about what it began with
claim_before : (l : List Heard) (t : C.Trace) → C.Claim (trace_from t l) → C.Claim t
unfolding trace_from
claim_before [] t c = c
claim_before (x ∷ l) t c = (claim_before l (heard_as t x ∷ t) c).1

-- where the longer one meets it, the findings are clean
complete_from : (l : List Heard) (t : C.Trace) (fs : List Findings) → ToldFrom t l fs → C.Claim (trace_from t l) → Every Clean fs
unfolding trace_from
complete_from [] t [] k c = none
complete_from [] t (f ∷ fs) k c = absurd k
complete_from (x ∷ l) t [] k c = absurd k
complete_from (x ∷ l) t (f ∷ fs) k c =
    more (holds_clean _ t f k.0 (claim_before l (heard_as t x ∷ t) c).0) (complete_from l (heard_as t x ∷ t) fs k.1 c)

-- In a recording that meets the claim nothing is found.
pub audit_complete : (l : List Heard) → C.Claim (trace_heard l) → Every Clean (findings_from fresh_audit l)
audit_complete l c = complete_from l [] _ (audit_tells l) c
