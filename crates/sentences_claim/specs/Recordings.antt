-- Proofs: an audit carried over a recording finds the sentences that fail.
use Rattle.std.specs.Prelude.{◌≡◌, refl, ◌↔◌, Bool, true, false, ℕ, suc, length}
use Rattle.std.proofs.Common.{sym, ap, ◌∙◌, arith}
use Rattle.std.proofs.lemmas.Bool.{false≢true}
use mathlib.Core.List.{List, [], ◌∷◌, ◌++◌, append-nil, head-eq_of_cons-eq, tail-eq_of_cons-eq}
use Rattle.std.proofs.Math.Seq.{append_snoc}
use Rattle.answer.specs.declared.Answer.{Answer}
use Rattle.answer.specs.declared.Answer.TheVariants.{No, Done, Par, At, Tick, Report}
use Rattle.history.specs.Claim as C
use Rattle.audit.specs.declared.Audit.{Audit}
use Rattle.audit.specs.declared.Findings.{Findings}
use Rattle.audit.specs.Audit.{fresh_audit, audit_of}
use Rattle.recording.specs.Recording.{Heard, shown_in, heard_as, trace_from, trace_heard, Tells, Told, ToldFrom, findings_from, audit_after}
use Rattle.recording.specs.Follows.{Follows, fresh_follows}
use Rattle.recording.specs.Theorem.{told_next, follows_next}
use Rattle.sentences_claim.specs.Paper as S
use Rattle.sentences_claim.specs.Tests.{same_before}
use Rattle.numbers.specs.CountLaws.{nil_split}
use Rattle.sentences_claim.specs.Holds as Holds

shown_is : {p : ℕ} {y : Answer} {q : ℕ} → S.Shows p y q → shown_in p y ≡ q
shown_is (S.refused n) = refl
shown_is S.ok = refl
shown_is (S.parameter v) = refl
shown_is (S.position q c s) = refl
shown_is (S.tick q r m) = refl
shown_is (S.report q r m s) = refl

shows_shown : (p : ℕ) (y : Answer) → S.Shows p y (shown_in p y)
shows_shown p (No n) = S.refused n
shows_shown p Done = S.ok
shows_shown p (Par v) = S.parameter v
shows_shown p (At q c s) = S.position q c s
shows_shown p (Tick q r m) = S.tick q r m
shows_shown p (Report q r m s) = S.report q r m s

heard_shows : (t : C.Trace) (y : Answer) → S.Shows (S.position_after t) y (shown_in (C.position_after t) y)
heard_shows t y = rw (← same_before t) (shows_shown (C.position_after t) y)

-- the moment of a record
moment_is : (t : C.Trace) (s : List ℕ) (y : Answer) (p : ℕ) → S.Shows (S.position_after t) y p → heard_as t (S.heard s y) ≡ S.moment s y p
moment_is t s y p h =
    let e : shown_in (C.position_after t) y ≡ p = ap (λ q. shown_in q y) (same_before t) ∙ shown_is h in
    λ i. S.moment s y (e i)

-- ── Carried over a recording ──

pub recorded_on : (l : List Heard) {k : List Heard} {a : Audit} {t : C.Trace} → S.Recorded fresh_audit k a t
    → S.Recorded fresh_audit (k ++ l) (audit_after a l) (trace_from t l)
unfolding audit_after trace_from
recorded_on [] {k} g = rw append-nil g
recorded_on (x ∷ l) {k} {a} {t} g =
    rw (← append_snoc k x l) (recorded_on l (S.next g x.bytes x.answer _ (heard_shows t x.answer)))

audit_snoc : (l : List Heard) (x : Heard) (a : Audit)
    → audit_after a (l ++ (x ∷ [])) ≡ (audit_of (audit_after a l) x.bytes x.answer).audit
unfolding audit_after
audit_snoc [] x a = refl
audit_snoc (z ∷ l) x a = audit_snoc l x (audit_of a z.bytes z.answer).audit

trace_snoc : (l : List Heard) (x : Heard) (t : C.Trace) → trace_from t (l ++ (x ∷ [])) ≡ heard_as (trace_from t l) x ∷ trace_from t l
unfolding trace_from
trace_snoc [] x t = refl
trace_snoc (z ∷ l) x t = trace_snoc l x (heard_as t z ∷ t)

pub recorded_only : {l : List Heard} {a : Audit} {t : C.Trace} → S.Recorded fresh_audit l a t
    → (a ≡ audit_after fresh_audit l) × (t ≡ trace_heard l)
unfolding audit_after trace_from
recorded_only S.nothing = (refl, refl)
recorded_only (S.next {l} {a} {t} g s y p h) =
    let e = recorded_only g in (
      ap (λ (z : Audit). (audit_of z s y).audit) e.0 ∙ sym (audit_snoc l (S.heard s y) fresh_audit),
      sym (ap (λ m. m ∷ t) (moment_is t s y p h)) ∙ ap (λ u. heard_as u (S.heard s y) ∷ u) e.1 ∙ sym (trace_snoc l (S.heard s y) []),
    )

pub carried : (l : List Heard) (a : Audit) (t : C.Trace)
    → ((audit_after fresh_audit l ≡ a) × (trace_heard l ≡ t)) ↔ S.Recorded fresh_audit l a t
carried l a t = (
  λ e. rw (← e.0, ← e.1) (recorded_on l S.nothing),
  λ g. let e = recorded_only g in (sym e.0, sym e.1),
)

pub findings_none : (a : Audit) → findings_from a [] ≡ []
unfolding findings_from
findings_none a = refl

pub findings_snoc : (l : List Heard) (x : Heard) (a : Audit)
    → findings_from a (l ++ (x ∷ [])) ≡ findings_from a l ++ ((audit_of (audit_after a l) x.bytes x.answer).findings ∷ [])
unfolding findings_from audit_after
findings_snoc [] x a = refl
findings_snoc (z ∷ l) x a = rw (findings_snoc l x (audit_of a z.bytes z.answer).audit)

-- ── What is found ──

follows : {l : List Heard} {a : Audit} {t : C.Trace} → S.Recorded fresh_audit l a t → Follows a t
follows S.nothing = fresh_follows
follows (S.next {l} {a} {t} g s y p h) = rw (← moment_is t s y p h) (follows_next a t (follows g) (S.heard s y))

found : (b : Bool) {X Y : Type 0} → Tells b X → X ↔ Y → S.Found b Y
found true k e =
    record { fails = (λ q y. k (e.1 y), λ n. refl); holds = (λ q. absurd (false≢true (sym q)), λ y. absurd (k (e.1 y))) }
found false k e =
    record { fails = (λ q. absurd (false≢true q), λ n. absurd (n (e.0 k))); holds = (λ q. e.0 k, λ y. refl) }

told_by : (b : Bool) {X Y : Type 0} → S.Found b Y → X ↔ Y → Tells b X
told_by true k e = λ x. k.fails.0 refl (e.0 x)
told_by false k e = e.1 (k.holds.0 refl)

pub same_told : (m : C.Moment) (t : C.Trace) (f : Findings) → Told m t f ↔ S.Finds m t f
same_told m t f = (
  λ k. record {
    spacing = found f.spacing k.spacing (Holds.same_spacing m t);
    waiting = found f.waiting k.waiting (Holds.same_waiting m t);
    moving = found f.moving k.moving (Holds.same_moving m t);
    position = found f.position k.position (Holds.same_position m t);
    content = found f.content k.content (Holds.same_content m t);
    othermove = found f.othermove k.othermove (Holds.same_other_move m t);
    otherreport = found f.otherreport k.otherreport (Holds.same_other_report m t);
    due = found f.due k.due (Holds.same_due m t);
    refusal = found f.refusal k.refusal (Holds.same_refusal m t);
  },
  λ k. record {
    spacing = told_by f.spacing k.spacing (Holds.same_spacing m t);
    waiting = told_by f.waiting k.waiting (Holds.same_waiting m t);
    moving = told_by f.moving k.moving (Holds.same_moving m t);
    position = told_by f.position k.position (Holds.same_position m t);
    content = told_by f.content k.content (Holds.same_content m t);
    othermove = told_by f.othermove k.othermove (Holds.same_other_move m t);
    otherreport = told_by f.otherreport k.otherreport (Holds.same_other_report m t);
    due = told_by f.due k.due (Holds.same_due m t);
    refusal = told_by f.refusal k.refusal (Holds.same_refusal m t);
  },
)

pub finds : {l : List Heard} {a : Audit} {t : C.Trace} → S.Recorded fresh_audit l a t → (s : List ℕ) (y : Answer) (p : ℕ)
    → S.Shows (S.position_after t) y p → S.Finds (S.moment s y p) t (audit_of a s y).findings
finds {l} {a} {t} g s y p h = rw (← moment_is t s y p h) ((same_told _ t _).0 (told_next a t (follows g) (S.heard s y)))

-- ── At each record ──

-- the product's form, by the records before
record ToldAt (t : C.Trace) (l : List Heard) (fs : List Findings) : Type 0 where
  pub as_many : length fs ≡ length l
  pub each : (front : List Heard) (x : Heard) (rest : List Heard) (before : List Findings) (f : Findings) (behind : List Findings)
      → l ≡ front ++ (x ∷ rest) → fs ≡ before ++ (f ∷ behind) → length before ≡ length front
      → Told (heard_as (trace_from t front) x) (trace_from t front) f

told_first : (t : C.Trace) (x z : Heard) (f g : Findings) → z ≡ x → g ≡ f → Told (heard_as t z) t g → Told (heard_as t x) t f
told_first t x z f g e h k = rw (← e, ← h) k

told_more : (t : C.Trace) (z : Heard) (l : List Heard) (g : Findings) (fs : List Findings) → Told (heard_as t z) t g
    → ToldAt (heard_as t z ∷ t) l fs
    → (front : List Heard) (x : Heard) (rest : List Heard) (before : List Findings) (f : Findings) (behind : List Findings)
    → z ∷ l ≡ front ++ (x ∷ rest) → g ∷ fs ≡ before ++ (f ∷ behind) → length before ≡ length front
    → Told (heard_as (trace_from t front) x) (trace_from t front) f
unfolding trace_from
told_more t z l g fs k more [] x rest [] f behind e h n = told_first t x z f g (head-eq_of_cons-eq e) (head-eq_of_cons-eq h) k
told_more t z l g fs k more [] x rest (b ∷ before) f behind e h n = absurd (omega arith)
told_more t z l g fs k more (y ∷ front) x rest [] f behind e h n = absurd (omega arith)
told_more t z l g fs k more (y ∷ front) x rest (b ∷ before) f behind e h n =
    let same : z ≡ y = head-eq_of_cons-eq e in
    rw (← same) (more.each front x rest before f behind (tail-eq_of_cons-eq e) (tail-eq_of_cons-eq h) (omega arith))

told_at : (l : List Heard) (t : C.Trace) (fs : List Findings) → ToldFrom t l fs → ToldAt t l fs
unfolding trace_from
told_at [] t [] k = record { as_many = refl; each = λ front x rest before f behind e h n. absurd (nil_split front x rest e) }
told_at [] t (f ∷ fs) k = absurd k
told_at (z ∷ l) t [] k = absurd k
told_at (z ∷ l) t (g ∷ fs) k =
    let more = told_at l (heard_as t z ∷ t) fs k.1 in
    record { as_many = ap suc more.as_many; each = told_more t z l g fs k.0 more }

at_told : (l : List Heard) (t : C.Trace) (fs : List Findings) → ToldAt t l fs → ToldFrom t l fs
unfolding trace_from
at_told [] t [] k = tt
at_told [] t (f ∷ fs) k = absurd (let n = k.as_many in omega arith)
at_told (z ∷ l) t [] k = absurd (let n = k.as_many in omega arith)
at_told (z ∷ l) t (g ∷ fs) k = (
  k.each [] z l [] g fs refl refl refl,
  at_told l (heard_as t z ∷ t) fs
      record {
        as_many = let n = k.as_many in omega arith;
        each =
            λ front x rest before f behind e h n.
            k.each (z ∷ front) x rest (g ∷ before) f behind (ap (λ u. z ∷ u) e) (ap (λ u. g ∷ u) h) (ap suc n);
      },
)

pub same_tells : (l : List Heard) (fs : List Findings) → ToldFrom [] l fs ↔ S.FindsAll l fs
same_tells l fs = (there, back)
  where
    there : ToldFrom [] l fs → S.FindsAll l fs
    there k =
        let at = told_at l [] fs k in
        record {
          as_many = at.as_many;
          each =
              λ front x rest before f behind e h n a t p g sh.
              let u : trace_heard front ≡ t = sym (recorded_only g).1 in
              rw (← moment_is t x.bytes x.answer p sh) ((same_told _ t f).0 (rw u at (at.each front x rest before f behind e h n)));
        }

    back : S.FindsAll l fs → ToldFrom [] l fs
    back k =
        at_told l [] fs
        record {
          as_many = k.as_many;
          each =
              λ front x rest before f behind e h n.
              let t = trace_heard front in
              (same_told (heard_as t x) t f).1
              (k.each front x rest before f behind e h n (audit_after fresh_audit front) t _ (recorded_on front S.nothing)
              (heard_shows t x.answer));
        }
