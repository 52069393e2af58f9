-- Proofs: the claim at each place of a trace, the trace of a drive, and its log.
use Rattle.std.specs.Prelude.{◌≡◌, ◌↔◌, ℕ, zero, suc, ◌+◌, ◌≤◌, length, drop}
use Rattle.std.proofs.Math.Path.{refl, sym, ap}
use Rattle.std.proofs.Common.{subst, ◌∙◌, arith, length-append, drop-drop}
use mathlib.Core.List.{List, [], ◌∷◌, ◌++◌, append-nil, nil≢cons, head-eq_of_cons-eq, tail-eq_of_cons-eq}
use Rattle.std.proofs.Math.Numerals.{add-one}
use Rattle.std.proofs.Math.Seq.{drop-nil, append_snoc}
use Rattle.numbers.specs.Says.{unset}
use Rattle.numbers.specs.Laws.{cases}
use Rattle.event.specs.declared.Event.{Event}
use Rattle.damper.specs.declared.Drive.{Drive}
use Rattle.damper.specs.declared.Outcome.{Outcome}
use Rattle.damper.specs.Record.{fresh_drive}
use Rattle.damper.specs.Step.{step_of}
use Rattle.damper.specs.Carry.{Step, outcomes, drive_after}
use Rattle.history.specs.Readings.{history_of}
use Rattle.history.specs.Log.{Entry, entry, log_in}
use Rattle.damper.specs.CarryLaws.{outcomes_length}
use Rattle.history.specs.Claim as C
use Rattle.history.specs.Claim.{moment_of}
use Rattle.history.specs.Waits.{silent_in}
use Rattle.history.specs.Theorem.{demand_3}
use Rattle.history.specs.Standing.{accepted_read}
use Rattle.history.specs.LogLaws.{log_read}
use Rattle.recording.specs.Recording.{recording_of}
use Rattle.sentences.specs.Paper as P
use Rattle.sentences_claim.specs.Paper as S
use Rattle.sentences_claim.specs.Tests.{reports, report_gives, gives_in, same_events}
use Rattle.sentences_claim.specs.Holds.{same_holds, same_hall_holds}

-- ── At each place ──

module _ (Here : C.Moment → C.Trace → Type 0) where
  first_place : (x m : C.Moment) (t old : C.Trace) → x ∷ t ≡ m ∷ old → Here x t → Here m old
  first_place x m t old e h =
      let hd : x ≡ m = head-eq_of_cons-eq e in
      let tl : t ≡ old = tail-eq_of_cons-eq e in
      rw (← hd, ← tl) h

  pub places_more : (x : C.Moment) (t : C.Trace) → Here x t → S.Everywhere Here t → S.Everywhere Here (x ∷ t)
  places_more x t h f zero m old e = first_place x m t old e h
  places_more x t h f (suc i) m old e = f i m old e

  pub no_places : S.Everywhere Here []
  no_places i m old e = absurd (nil≢cons (sym (drop-nil i) ∙ e))

pub same_claim : (t : C.Trace) → C.Claim t ↔ S.Everywhere S.Holds t
same_claim t = (there t, back t)
  where
    there : (t : C.Trace) → C.Claim t → S.Everywhere S.Holds t
    there [] c = no_places S.Holds
    there (m ∷ t) c = places_more S.Holds m t ((same_holds m t).0 c.0) (there t c.1)

    back : (t : C.Trace) → S.Everywhere S.Holds t → C.Claim t
    back [] f = tt
    back (m ∷ t) f = ((same_holds m t).1 (f 0 m t refl), back t (λ i x old e. f (suc i) x old e))

pub same_hall_claim : (t : C.Trace) → C.HallClaim t ↔ S.Everywhere S.HallHolds t
same_hall_claim t = (there t, back t)
  where
    there : (t : C.Trace) → C.HallClaim t → S.Everywhere S.HallHolds t
    there [] c = no_places S.HallHolds
    there (m ∷ t) c = places_more S.HallHolds m t ((same_hall_holds m t).0 c.0) (there t c.1)

    back : (t : C.Trace) → S.Everywhere S.HallHolds t → C.HallClaim t
    back [] f = tt
    back (m ∷ t) f = ((same_hall_holds m t).1 (f 0 m t refl), back t (λ i x old e. f (suc i) x old e))

-- by two places: the later report at `i`, the earlier one `j` records behind it
pub two_reports : (t : C.Trace) → S.Everywhere S.Holds t → (i j : ℕ) (m x : C.Moment) (now old : C.Trace)
    → drop i t ≡ m ∷ now → drop (suc (i + j)) t ≡ x ∷ old → S.Reports x → S.Reports m
    → S.clock (x ∷ old) + P.MinRepTime (S.in_force m now) ≤ S.clock (m ∷ now)
two_reports t h i j m x now old e f r q =
    let g : suc (i + j) ≡ i + suc j = omega arith in
    let k : drop j now ≡ x ∷ old = ap (drop (suc j)) (sym e) ∙ drop-drop (suc j) i t ∙ ap (λ (n : ℕ). drop n t) (sym g) ∙ f in
    (h i m now e).spacing j x old k r q

-- ── The trace of a drive ──

traced_on : (l : List (List ℕ)) (os : List Outcome) {k : List (List ℕ)} {ps : List Outcome} {first t : C.Trace} → length os ≡ length l
    → S.Traced first k ps t → S.Traced first (k ++ l) (ps ++ os) (C.trace_on t l os)
unfolding C.trace_on
traced_on [] [] {k} {ps} e g = rw (append-nil k, append-nil ps) g
traced_on [] (o ∷ os) e g = absurd (omega arith)
traced_on (s ∷ l) [] e g = absurd (omega arith)
traced_on (s ∷ l) (o ∷ os) {k} {ps} e g = rw (← append_snoc k s l, ← append_snoc ps o os) (traced_on l os (omega arith) (S.next g s o))

traced_snoc : (l : List (List ℕ)) (os : List Outcome) (s : List ℕ) (o : Outcome) (t : C.Trace) → length os ≡ length l
    → C.trace_on t (l ++ (s ∷ [])) (os ++ (o ∷ [])) ≡ moment_of s o ∷ C.trace_on t l os
unfolding C.trace_on
traced_snoc [] [] s o t e = refl
traced_snoc [] (p ∷ os) s o t e = absurd (omega arith)
traced_snoc (x ∷ l) [] s o t e = absurd (omega arith)
traced_snoc (x ∷ l) (p ∷ os) s o t e = traced_snoc l os s o (moment_of x p ∷ t) (omega arith)

traced_only : {first : C.Trace} {l : List (List ℕ)} {os : List Outcome} {t : C.Trace} → S.Traced first l os t
    → (length os ≡ length l) × (C.trace_on first l os ≡ t)
unfolding C.trace_on
traced_only S.nothing = (refl, refl)
traced_only {first = first} (S.next {l} {os} g s o) =
    let e = traced_only g in
    (simp length-append (omega (arith, e.0)), traced_snoc l os s o first e.0 ∙ ap (λ u. moment_of s o ∷ u) e.1)

pub same_traced : (first : C.Trace) (l : List (List ℕ)) (os : List Outcome) (t : C.Trace) → length os ≡ length l
    → (C.trace_on first l os ≡ t) ↔ S.Traced first l os t
same_traced first l os t n = (λ e. subst (S.Traced first l os) e (traced_on l os n S.nothing), λ g. (traced_only g).1)

module _ (step : Step) (first : Drive) where
  given_on : (l : List (List ℕ)) {k : List (List ℕ)} {d : Drive} {t : C.Trace} → S.Given step first k d t
      → S.Given step first (k ++ l) (drive_after d (outcomes step d l)) (C.trace_on t l (outcomes step d l))
  unfolding outcomes drive_after C.trace_on
  given_on [] {k} g = rw append-nil g
  given_on (s ∷ l) {k} g = rw (← append_snoc k s l) (given_on l (S.next g s))

  trace_snoc : (l : List (List ℕ)) (s : List ℕ) (d : Drive) (t : C.Trace)
      → C.trace_on t (l ++ (s ∷ [])) (outcomes step d (l ++ (s ∷ [])))
      ≡ moment_of s (step (drive_after d (outcomes step d l)) s) ∷ C.trace_on t l (outcomes step d l)
  unfolding outcomes drive_after C.trace_on
  trace_snoc [] s d t = refl
  trace_snoc (x ∷ l) s d t = trace_snoc l s (step d x).drive (moment_of x (step d x) ∷ t)

  drive_snoc : (l : List (List ℕ)) (s : List ℕ) (d : Drive)
      → drive_after d (outcomes step d (l ++ (s ∷ []))) ≡ (step (drive_after d (outcomes step d l)) s).drive
  unfolding outcomes drive_after
  drive_snoc [] s d = refl
  drive_snoc (x ∷ l) s d = drive_snoc l s (step d x).drive

  given_only : {l : List (List ℕ)} {d : Drive} {t : C.Trace} → S.Given step first l d t
      → (d ≡ drive_after first (outcomes step first l)) × (t ≡ C.trace_on [] l (outcomes step first l))
  unfolding outcomes drive_after C.trace_on
  given_only S.nothing = (refl, refl)
  given_only (S.next {l = l} g s) =
      let e = given_only g in (
        ap (λ (x : Drive). (step x s).drive) e.0 ∙ sym (drive_snoc l s first),
        (λ i. moment_of s (step (e.0 i) s) ∷ e.1 i) ∙ sym (trace_snoc l s first []),
      )

  pub given_trace : (l : List (List ℕ)) (t : C.Trace)
      → (C.trace_on [] l (outcomes step first l) ≡ t) ↔ ((d : Drive) × S.Given step first l d t)
  given_trace l t = (λ e. (_, subst (S.Given step first l _) e (given_on l S.nothing)), λ g. sym (given_only g.1).1)

  pub given_drive : (l : List (List ℕ)) (d : Drive) (t : C.Trace) → S.Given step first l d t → drive_after first (outcomes step first l) ≡ d
  given_drive l d t g = sym (given_only g).0

  -- the accepted events of the list
  pub given_events : (l : List (List ℕ)) (d : Drive) (t : C.Trace) (h : List Event) → S.Given step first l d t
      → (history_of l ≡ h) ↔ S.Events t h
  unfolding C.accepted
  given_events l d t h g =
      let read = accepted_read l (outcomes step first l) [] (outcomes_length step first l) in
      let e : C.accepted t ≡ history_of l = ap C.accepted (given_only g).1 ∙ read in
      let k = same_events t h in
      (λ q. k.0 (e ∙ q), λ x. sym e ∙ k.1 x)

  -- ── The log ──

  logged_on : (l : List (List ℕ)) (d : Drive) (t : C.Trace) (es : List Entry) → S.Logged t es
      → S.Logged (C.trace_on t l (outcomes step d l)) (es ++ C.reports_from (length t) (outcomes step d l))
  unfolding outcomes C.trace_on C.reports_from
  logged_on [] d t es g = rw append-nil g
  logged_on (s ∷ l) d t es g =
      let o = step d s in
      let m = moment_of s o in
      cases (C.reports m)
      (λ q.
      let r = report_gives m.answer q in
      let e = entry (length t + 1) r.0 r.1 in
      rw (r.3, ← append_snoc es e (C.reports_from (length t + 1) (outcomes step o.drive l)))
      (rw (← add-one (length t)) at (logged_on l o.drive (m ∷ t) (es ++ (e ∷ [])) (S.report m g r.2))))
      (λ q.
      rw (silent_in m.answer q)
      (rw (← add-one (length t)) at (logged_on l o.drive (m ∷ t) es (S.silent m g ((unset _ (reports m)).0 q)))))

  -- ── The recording ──

  recorded_on : (l : List (List ℕ)) (d : Drive) (t : C.Trace)
      → S.recording t ++ recording_of l (outcomes step d l) ≡ S.recording (C.trace_on t l (outcomes step d l))
  unfolding outcomes C.trace_on recording_of
  recorded_on [] d t = append-nil (S.recording t)
  recorded_on (s ∷ l) d t =
      sym (append_snoc (S.recording t) (S.heard s (step d s).answer) _) ∙ recorded_on l (step d s).drive (moment_of s (step d s) ∷ t)

  pub same_recording : (l : List (List ℕ)) (d : Drive) (t : C.Trace) → S.Given step first l d t
      → recording_of l (outcomes step first l) ≡ S.recording t
  same_recording l d t g = recorded_on l first [] ∙ ap S.recording (sym (given_only g).1)

-- the log of a trace
log_at : C.Trace → List Entry
log_at [] = []
log_at (m ∷ t) = log_at t ++ C.entries_of (length t + 1) (C.report_in m.answer) []

logged_only : {t : C.Trace} {es : List Entry} → S.Logged t es → log_at t ≡ es
unfolding log_at
logged_only S.nothing = refl
logged_only (S.report m g r) = rw (logged_only g, gives_in r)
logged_only (S.silent m g n) = rw (logged_only g, silent_in m.answer ((unset _ (reports m)).1 n), append-nil)

pub same_log : (step : Step) (l : List (List ℕ)) (es : List Entry) → (C.log_of step l ≡ es) ↔ S.Logged (C.trace_of step l) es
same_log step l es = (
  λ e. subst (S.Logged (C.trace_of step l)) e (logged_on step fresh_drive l fresh_drive [] [] S.nothing),
  λ g. sym (logged_only (logged_on step fresh_drive l fresh_drive [] [] S.nothing)) ∙ logged_only g,
)

-- ── The proved drive ──

pub all_hold : (l : List (List ℕ)) (d : Drive) (t : C.Trace) → S.Given step_of fresh_drive l d t → S.Everywhere S.Holds t
all_hold l d t g = rw ((given_trace step_of fresh_drive l t).1 (d, g)) at ((same_claim (C.trace_of step_of l)).0 (demand_3 l))

pub log_holds : (l : List (List ℕ)) (d : Drive) (t : C.Trace) → S.Given step_of fresh_drive l d t → S.Logged t (log_in l)
log_holds l d t g = rw ((given_trace step_of fresh_drive l t).1 (d, g)) at ((same_log step_of l (log_in l)).0 (log_read l))
