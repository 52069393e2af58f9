-- The proved drive's own recording of any list of event records: the audit finds nothing in it.
use Rattle.std.specs.Prelude.{◌≡◌, refl, Bool, true, false, ◌&&◌, List, [], ◌∷◌, ℕ, eqb}
use Rattle.std.proofs.Common.{sym, ap, ◌∙◌, eqb-true, eq-eqb}
use Rattle.std.proofs.lemmas.Bool.{eqb-false}
use Rattle.numbers.specs.Numbers.{on, is_flag}
use Rattle.numbers.specs.Laws.{cases, and_left, and_right, flag_off}
use Rattle.numbers.specs.Every.{Every, none, more}
use Rattle.event.specs.declared.Event.{Event}
use Rattle.event.specs.Event.{event_in, bad_kind}
use Rattle.event.specs.Laws.{admitted, record_passed}
use Rattle.rules.specs.Report.{Sent, silent, sent}
use Rattle.rules.specs.RefusalLaws.{refusal_passed}
use Rattle.answer.specs.declared.Answer.{Answer}
use Rattle.answer.specs.Answer.{word_of, code_of}
use Rattle.damper.specs.declared.Advanced.{Advanced}
use Rattle.damper.specs.declared.Drive.{Drive}
use Rattle.damper.specs.declared.Last.{Last}
use Rattle.damper.specs.Record.{last, drive, fresh_drive}
use Rattle.damper.specs.WellFormed.{well_formed, last_fits}
use Rattle.damper.specs.Tick.{advance, due}
use Rattle.damper.specs.Step.{tick_with, ticked, applied, refusal_of, step_of}
use Rattle.damper.specs.Carry.{outcomes}
use Rattle.invariant.specs.Effects as F
use Rattle.invariant.specs.Kept as K
use Rattle.history.specs.Claim as C
use Rattle.history.specs.Claim.{moment_of}
use Rattle.history.specs.Facts.{Good, last_of}
use Rattle.history.specs.Theorem.{facts, due_sends, holds, fresh_good}
use Rattle.audit.specs.declared.Audit.{Audit}
use Rattle.audit.specs.declared.Findings.{Findings}
use Rattle.audit.specs.Audit.{fresh_audit, met_by, findings_of, nothing, followed, audit_of}
use Rattle.recording.specs.Recording.{Heard, recording_of, shown_in, heard_as, trace_from, trace_heard, Clean, findings_from}
use Rattle.recording.specs.Follows.{Follows, fresh_follows}
use Rattle.recording.specs.Theorem.{told_next, follows_next, holds_clean}

-- The position that an answer of the drive shows, or else the one before, is the drive's.
tick_shown : (b : Bool) (a : Advanced) (p : ℕ) → shown_in p (tick_with b a).answer ≡ (tick_with b a).drive.position
unfolding tick_with
tick_shown true a p = refl
tick_shown false a p = refl

applied_shown : (d : Drive) (e : Event) → bad_kind e.kind ≡ false
    → shown_in d.position (applied d e).answer ≡ (applied d e).drive.position
unfolding applied ticked
applied_shown d e ok =
    cases (eqb e.kind 1)
    (λ k. rw k (tick_shown (due (advance d).drive) (advance d) d.position))
    (λ k.
    rw k
    (cases (eqb e.kind 10)
    (λ r. rw r)
    (λ r. rw r (cases (eqb e.kind 11) (λ u. rw u) (λ u. rw u (sym (rw (k, r, u) at (F.position_after d e ok))))))))

step_shown : (d : Drive) (s : List ℕ) → well_formed d ≡ true → shown_in d.position (step_of d s).answer ≡ (step_of d s).drive.position
step_shown d s w =
    cases (eqb (refusal_of d s) 0)
    (λ q.
    let j = eqb-true _ 0 q in
    let z = refusal_passed s _ _ _ _ _ (sym (F.refusal_wf d s w) ∙ j) in
    rw (F.step_accepted d s j) (applied_shown d (event_in s) (admitted (event_in s) (record_passed s z.0).1).kind))
    (λ q. rw (F.step_refused d s (eqb-false _ 0 q)))

-- Two drive records that agree with one trace are the same, but for the wait, of which a trace says nothing.

-- a last report that is well formed is the one that is read there
abbrev last_from : Sent → Last
last_from silent = last 0 0 0
last_from (sent p s) = last 1 p s

last_whole : (l : Last) → last_fits l ≡ true → l ≡ last_from (last_of l)
unfolding last_fits
last_whole l h =
    cases (on l.reported)
    (λ z. let r = eqb-true l.reported 1 z in rw z (λ i. last (r i) l.position l.status))
    (λ z.
    let k : (is_flag l.reported && eqb l.position 0) && eqb l.status 0 ≡ true = rw z at h in
    let b = and_left (is_flag l.reported && eqb l.position 0) _ k in
    let r = eqb-true _ 0 (sym (flag_off l.reported (eqb-false l.reported 1 z)) ∙ and_left (is_flag l.reported) _ b) in
    let p = eqb-true _ 0 (and_right (is_flag l.reported) _ b) in
    let s = eqb-true _ 0 (and_right (is_flag l.reported && eqb l.position 0) _ k) in
    rw z (λ i. last (r i) (p i) (s i)))

pub same_drive : (a : Audit) (d : Drive) (t : C.Trace) → Follows a t → Good d t → a.drive.wait ≡ d.wait
    → a.drive.travel ≡ d.travel → a.drive ≡ d
same_drive a d t f g w v =
    let p = f.position ∙ sym g.position in
    let q = f.agrees.params ∙ sym g.agrees.params in
    let c = f.agrees.commands ∙ sym g.agrees.commands in
    let n = f.agrees.age ∙ sym g.agrees.age in
    let r = f.agrees.run ∙ sym g.agrees.run in
    let s = f.since ∙ sym g.since in
    let l = last_whole _ (K.parts _ f.wf).last ∙ ap last_from (f.last ∙ sym g.last) ∙ sym (last_whole _ (K.parts _ g.wf).last) in
    λ i. drive (p i) (q i) (c i) (n i) (r i) (s i) (l i) (w i) (v i)

-- findings that are clean, and none of another answer, are none
none_found : (f : Findings) → Clean f → f.answer ≡ false → f ≡ nothing
none_found f c e =
    λ i.
    record {
      spacing = c.spacing i;
      waiting = c.waiting i;
      moving = c.moving i;
      position = c.position i;
      content = c.content i;
      othermove = c.othermove i;
      otherreport = c.otherreport i;
      due = c.due i;
      refusal = c.refusal i;
      answer = e i;
    }

-- the answer of document 01's drive is not found to be another
same_answer : (a : Audit) (s : List ℕ) (y : Answer) → well_formed a.drive ≡ true → (step_of a.drive s).answer ≡ y
    → (audit_of a s y).findings.answer ≡ false
unfolding audit_of findings_of met_by
same_answer a s y w e = rw (w, e, eq-eqb (word_of y) (word_of y) refl, eq-eqb (code_of y) (code_of y) refl)

-- the audit keeps the wait of document 01's drive
pub wait_kept : (a : Audit) (s : List ℕ) (y : Answer) → well_formed a.drive ≡ true
    → (audit_of a s y).audit.drive.wait ≡ (step_of a.drive s).drive.wait
unfolding audit_of followed met_by
wait_kept a s y w = rw w

-- and its travel
pub travel_kept : (a : Audit) (s : List ℕ) (y : Answer) → well_formed a.drive ≡ true
    → (audit_of a s y).audit.drive.travel ≡ (step_of a.drive s).drive.travel
unfolding audit_of followed met_by
travel_kept a s y w = rw w

-- what is heard of a record is what happened, its position too
pub own_heard : (d : Drive) (t : C.Trace) (s : List ℕ) → Good d t
    → moment_of s (step_of d s) ≡ heard_as t record { bytes = s; answer = (step_of d s).answer }
own_heard d t s g =
    let p : (step_of d s).drive.position ≡ shown_in (C.position_after t) (step_of d s).answer = rw g.trace (sym (step_shown d s g.wf)) in
    λ i. record { bytes = s; answer = (step_of d s).answer; position = p i }

-- the same of a list after the trace of a drive
trace_from_lem : (l : List (List ℕ)) (d : Drive) (t : C.Trace) → Good d t
    → trace_from t (recording_of l (outcomes step_of d l)) ≡ C.trace_on t l (outcomes step_of d l)
unfolding outcomes recording_of trace_from C.trace_on
trace_from_lem [] d t g = refl
trace_from_lem (s ∷ l) d t g = rw (← own_heard d t s g) (trace_from_lem l _ (moment_of s (step_of d s) ∷ t) (facts d t s g).good)

-- The trace of the proved drive's own recording is the drive's trace: the lines show all positions that the claim speaks of.
pub own_trace : (l : List (List ℕ)) → trace_heard (recording_of l (outcomes step_of fresh_drive l)) ≡ C.trace_of step_of l
own_trace l = trace_from_lem l fresh_drive [] fresh_good

-- an audit and a drive of the same trace, carried over a list: nothing is found
found_from : (l : List (List ℕ)) (a : Audit) (d : Drive) (t : C.Trace) → Follows a t → Good d t → a.drive.wait ≡ d.wait
    → a.drive.travel ≡ d.travel → Every (λ f. f ≡ nothing) (findings_from a (recording_of l (outcomes step_of d l)))
unfolding outcomes recording_of findings_from
found_from [] a d t f g w v = none
found_from (s ∷ l) a d t f g w v =
    let o = step_of d s in
    let x : Heard = record { bytes = s; answer = o.answer } in
    let e = same_drive a d t f g w v in
    let h = own_heard d t s g in
    let k = facts d t s g in
    let c = holds_clean _ t _ (told_next a t f x) (rw h at (holds d t s o k (due_sends d t s g))) in
    more (none_found _ c (same_answer a s o.answer f.wf (rw e)))
    (found_from l _ o.drive (heard_as t x ∷ t) (follows_next a t f x) (rw h at k.good) (wait_kept a s o.answer f.wf ∙ rw e)
    (travel_kept a s o.answer f.wf ∙ rw e))

-- For every list of event records, the audit finds nothing in what the proved drive, fresh at first, answers to them.
pub own_clean : (l : List (List ℕ)) → Every (λ f. f ≡ nothing) (findings_from fresh_audit (recording_of l (outcomes step_of fresh_drive l)))
own_clean l = found_from l fresh_audit fresh_drive [] fresh_follows fresh_good refl refl
