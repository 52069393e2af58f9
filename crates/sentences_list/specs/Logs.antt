-- Proofs: the reports that the list decides.
use Rattle.std.specs.Prelude.{◌≡◌, refl, ◌↔◌, Bool, true, false, ℕ, zero, suc, ◌+◌, eqb, length}
use Rattle.std.proofs.Common.{sym, ap, subst, ◌∙◌, arith, add-zero, add-one, eqb-true, eq-eqb, ne_eqb}
use Rattle.std.proofs.lemmas.Bool.{false≢true, eqb-false}
use mathlib.Core.List.{List, [], ◌∷◌, ◌++◌, reverse, reverse_aux, append-nil}
use Rattle.numbers.specs.Numbers.{pick}
use Rattle.numbers.specs.Laws.{cases}
use Rattle.event.specs.declared.Event.{Event}
use Rattle.event.specs.Event as E
use Rattle.rules.specs.Report.{Sent, silent, sent, report_due}
use Rattle.history.specs.Readings as R
use Rattle.history.specs.Log as G
use Rattle.sentences.specs.Paper as P
use Rattle.sentences.specs.Rules.{same_due_silent, same_due_sent}
use Rattle.sentences_list.specs.Paper as L
use Rattle.sentences_list.specs.Values.{parameters_are, has_parameters}
use Rattle.sentences_list.specs.Runs.{same_ticks, parameters_tick}
use Rattle.sentences_list.specs.Judging.{judgement_is, has_judgement}
use Rattle.sentences_list.specs.Moves.{Fits, more, fit, position_is, position_read, tick_status_is, has_tick_status}

-- the product's state after told events
pub state_of : List L.Told → G.ReportState
state_of [] = G.report_state 0 silent
state_of (m ∷ k) =
    let x = state_of k in
    let h = m.event ∷ L.events k in
    pick (R.is_restart m.event) (G.report_state 0 silent)
    (pick m.reported (G.report_state 0 (sent (R.position_in h) (R.status_in h)))
    (G.report_state (pick (R.is_tick m.event) (x.since + 1) x.since) x.last))

abbrev pub reports_at : List L.Told → List ℕ → Bool
reports_at k s = G.reports_at (E.event_in s) (L.events k) (state_of k)

-- what records, the latest first, tell and report
pub told_of : List (List ℕ) → List L.Told
told_of [] = []
told_of (s ∷ l) = let k = told_of l in pick (eqb (R.judgement (L.events k) s) 0) (L.told (E.event_in s) (reports_at k s) ∷ k) k

pub entries_of : List (List ℕ) → List G.Entry
entries_of [] = []
entries_of (s ∷ l) =
    let k = told_of l in
    let es = entries_of l in
    let h = E.event_in s ∷ L.events k in
    pick (eqb (R.judgement (L.events k) s) 0) (pick (reports_at k s) (G.entry (length l + 1) (R.position_in h) (R.status_in h) ∷ es) es) es

state_cons : (m : L.Told) (k : List L.Told)
    → state_of (m ∷ k)
    ≡ pick (R.is_restart m.event) (G.report_state 0 silent)
    (pick m.reported (G.report_state 0 (sent (R.position_in (m.event ∷ L.events k)) (R.status_in (m.event ∷ L.events k))))
    (G.report_state (pick (R.is_tick m.event) ((state_of k).since + 1) (state_of k).since) (state_of k).last))
unfolding state_of
state_cons m k = refl

told_cons : (s : List ℕ) (l : List (List ℕ))
    → told_of (s ∷ l)
    ≡ pick (eqb (R.judgement (L.events (told_of l)) s) 0) (L.told (E.event_in s) (reports_at (told_of l) s) ∷ told_of l) (told_of l)
unfolding told_of
told_cons s l = refl

abbrev entry_of : List ℕ → List (List ℕ) → G.Entry
entry_of s l =
    G.entry (length l + 1) (R.position_in (E.event_in s ∷ L.events (told_of l))) (R.status_in (E.event_in s ∷ L.events (told_of l)))

entries_cons : (s : List ℕ) (l : List (List ℕ))
    → entries_of (s ∷ l)
    ≡ pick (eqb (R.judgement (L.events (told_of l)) s) 0) (pick (reports_at (told_of l) s) (entry_of s l ∷ entries_of l) (entries_of l))
    (entries_of l)
unfolding entries_of
entries_cons s l = refl

-- the product goes through the records in their order
log_cons : (n : ℕ) (h : List Event) (x : G.ReportState) (s : List ℕ) (l : List (List ℕ))
    → (let e = E.event_in s in
    let rest = G.log_from (n + 1) (e ∷ h) (G.state_after e h x) l in
    G.log_from n h x (s ∷ l)
    ≡ pick (eqb (R.judgement h s) 0)
    (pick (G.reports_at e h x) (G.entry (n + 1) (R.position_in (e ∷ h)) (R.status_in (e ∷ h)) ∷ rest) rest)
    (G.log_from (n + 1) h x l))
unfolding G.log_from
log_cons n h x s l = refl

-- one record more, by whether it is accepted (`j`) and whether it reports (`r`)
module _ (s : List ℕ) (l k : List (List ℕ)) where
  abbrev T : List L.Told
  T = told_of k

  abbrev Goes : List L.Told → List G.Entry → Type 0
  Goes t es =
      reverse_aux (entries_of k) (G.log_from (length k) (L.events T) (state_of T) (s ∷ l))
      ≡ reverse_aux es (G.log_from (length k + 1) (L.events t) (state_of t) l)

  goes : Goes (told_of (s ∷ k)) (entries_of (s ∷ k))
  goes =
      rw (told_cons s k, entries_cons s k, log_cons (length k) (L.events T) (state_of T) s l)
      (cases (eqb (R.judgement (L.events T) s) 0)
      (λ j. cases (reports_at T s)
      (λ r. rw (j, r, state_cons (L.told (E.event_in s) true) T))
      (λ r. rw (j, r, state_cons (L.told (E.event_in s) false) T)))
      (λ j. rw j))

log_end : (n : ℕ) (h : List Event) (x : G.ReportState) → G.log_from n h x [] ≡ []
unfolding G.log_from
log_end n h x = refl

log_from : (l k : List (List ℕ))
    → reverse_aux (entries_of k) (G.log_from (length k) (L.events (told_of k)) (state_of (told_of k)) l) ≡ reverse (entries_of (reverse_aux l k))
log_from [] k = ap (reverse_aux (entries_of k)) (log_end (length k) (L.events (told_of k)) (state_of (told_of k)))
log_from (s ∷ l) k =
    goes s l k
    ∙ ap (λ (n : ℕ). reverse_aux (entries_of (s ∷ k)) (G.log_from n (L.events (told_of (s ∷ k))) (state_of (told_of (s ∷ k))) l))
    (add-one (length k))
    ∙ log_from l (s ∷ k)

pub log_read : (l : List (List ℕ)) → G.log_in l ≡ reverse (entries_of (reverse l))
unfolding told_of entries_of state_of
log_read l = log_from l []

-- ── since and the last report ──
plain : (m : L.Told) (k : List L.Told) → (L.SetsSince m → ⊥)
    → state_of (m ∷ k) ≡ G.report_state (pick (R.is_tick m.event) ((state_of k).since + 1) (state_of k).since) (state_of k).last
plain m k n =
    state_cons m k
    ∙ cases m.reported (λ r. absurd (n (L.report r))) (λ r. rw (r, ne_eqb m.event.kind 9 (λ z. n (L.restart z))))

more_ticks : (b : Bool) (x n : ℕ) → pick b (x + n + 1) (x + n) ≡ x + pick b (n + 1) n
more_ticks true x n = omega arith
more_ticks false x n = refl

ticks_cons : (e : Event) (l : List Event) → R.ticks (e ∷ l) ≡ pick (R.is_tick e) (R.ticks l + 1) (R.ticks l)
unfolding R.ticks
ticks_cons e l = refl

ticks_none : R.ticks [] ≡ 0
unfolding R.ticks
ticks_none = refl

stretch : (after k : List L.Told) → L.Without L.SetsSince after
    → state_of (after ++ k) ≡ G.report_state ((state_of k).since + R.ticks (L.events after)) (state_of k).last
stretch [] k w = rw (ticks_none, add-zero (state_of k).since)
stretch (m ∷ after) k (L.more n w) =
    plain m (after ++ k) n
    ∙ rw (stretch after k w, ticks_cons m.event (L.events after))
    (rw (more_ticks (R.is_tick m.event) (state_of k).since (R.ticks (L.events after))))

since_set : (m : L.Told) (k : List L.Told) → L.SetsSince m → (state_of (m ∷ k)).since ≡ 0
since_set m k (L.restart z) = rw (state_cons m k, z)
since_set m k (L.report r) = rw (state_cons m k, r) (cases (R.is_restart m.event) (λ q. rw q) (λ q. rw q))

since_start : (state_of []).since ≡ 0
unfolding state_of
since_start = refl

last_start : (state_of []).last ≡ silent
unfolding state_of
last_start = refl

-- the latest report or restart, or none
set_at : {A : Type 0} (m : L.Told) → (L.SetsSince m → A) → ((L.SetsSince m → ⊥) → A) → A
set_at m f g =
    cases m.reported (λ r. f (L.report r))
    (λ r. cases (R.is_restart m.event) (λ q. f (L.restart (eqb-true _ _ q)))
    (λ q. g (λ x. never m r q x)))
  where
    never : (m : L.Told) → m.reported ≡ false → R.is_restart m.event ≡ false → L.SetsSince m → ⊥
    never m r q (L.report y) = false≢true (sym r ∙ y)
    never m r q (L.restart z) = eqb-false _ _ q z

set_or : {A : Type 0} (k : List L.Told) → (L.Without L.SetsSince k → A)
    → ((after : List L.Told) (m : L.Told) (before : List L.Told) → L.Latest L.SetsSince k after m before → A) → A
set_or [] f g = f L.none
set_or (m ∷ k) f g =
    set_at m (λ x. g [] m k (record { split = refl; so = x; none_after = L.none }))
    (λ n. set_or k (λ w. f (L.more n w))
    (λ after y before w.
    g (m ∷ after) y before
    (record { split = ap (λ (u : List L.Told). m ∷ u) w.split; so = w.so; none_after = L.more n w.none_after })))

since_is : (k : List L.Told) (n : ℕ) → L.Since k n → (state_of k).since ≡ n
since_is k n (L.after_that {after = after} {m = m} {before = before} w e) =
    rw (w.split, stretch after (m ∷ before) w.none_after, since_set m before w.so, same_ticks (L.events after)) (omega arith)
since_is k n (L.from_the_beginning w e) =
    ap (λ (x : List L.Told). (state_of x).since) (sym (append-nil k))
    ∙ rw (stretch k [] w, since_start, same_ticks (L.events k)) (omega arith)

has_since : (k : List L.Told) → L.Since k (state_of k).since
has_since k =
    set_or k
    (λ w. let x = L.from_the_beginning w refl in subst (L.Since k) (sym (since_is k _ x)) x)
    (λ after m before w. let x = L.after_that w refl in subst (L.Since k) (sym (since_is k _ x)) x)

-- the last report, as numbers and as the product has it
data Same : ℕ → ℕ → ℕ → Sent → Type 0 where
  none : Same 0 0 0 silent
  some : (p s : ℕ) → Same 1 p s (sent p s)

same_due : (q : List ℕ) (n p s : ℕ) {r lp ls : ℕ} {x : Sent} → Same r lp ls x → (report_due q n p s x ≡ true) ↔ P.Due q n p s r lp ls
same_due q n p s none = same_due_silent q n p s
same_due q n p s (some lp ls) = same_due_sent q n p s lp ls

-- a report is a tick's
abbrev TickReports : L.Told → Type 0
TickReports m = m.reported ≡ true → m.event.kind ≡ 1

fits_before : (after : List L.Told) (m : L.Told) (before : List L.Told) → Fits (L.events (after ++ (m ∷ before)))
    → Fits (m.event ∷ L.events before)
fits_before [] m before f = f
fits_before (y ∷ after) m before (more f g) = fits_before after m before g

each_at : (after : List L.Told) (m : L.Told) (before : List L.Told) → L.Each TickReports (after ++ (m ∷ before)) → TickReports m
each_at [] m before (L.more b bs) = b
each_at (y ∷ after) m before (L.more b bs) = each_at after m before bs

rest_fits : {e : Event} {h : List Event} → Fits (e ∷ h) → Fits h
rest_fits (more f g) = g

last_sent : (m : L.Told) (k : List L.Told) → m.reported ≡ true → m.event.kind ≡ 1
    → (state_of (m ∷ k)).last ≡ sent (R.position_in (m.event ∷ L.events k)) (R.status_in (m.event ∷ L.events k))
last_sent m k r z = rw (state_cons m k, r, z)

last_cleared : (m : L.Told) (k : List L.Told) → L.SetsSince m → m.reported ≡ false → (state_of (m ∷ k)).last ≡ silent
last_cleared m k (L.report r) n = absurd (false≢true (sym n ∙ r))
last_cleared m k (L.restart z) n = rw (state_cons m k, z)

last_after : (k after : List L.Told) (m : L.Told) (before : List L.Told) → L.Latest L.SetsSince k after m before
    → (state_of k).last ≡ (state_of (m ∷ before)).last
last_after k after m before w = rw (w.split, stretch after (m ∷ before) w.none_after)

last_never : (k : List L.Told) → L.Without L.SetsSince k → (state_of k).last ≡ silent
last_never k w = ap (λ (x : List L.Told). (state_of x).last) (sym (append-nil k)) ∙ rw (stretch k [] w) last_start

module _ (k : List L.Told) (f : Fits (L.events k)) (b : L.Each TickReports k) where
  last_is : (r p s : ℕ) → L.LastReport k r p s → Same r p s (state_of k).last
  last_is r p s (L.report {after = after} {m = m} {before = before} w y x z) =
      let g = fits_before after m before (subst (λ (u : List L.Told). Fits (L.events u)) w.split f) in
      let t = each_at after m before (subst (L.Each TickReports) w.split b) y in
      let e : (state_of k).last ≡ sent p s =
      last_after k after m before w ∙ last_sent m before y t
      ∙ (λ i. sent (position_is g x i) (tick_status_is m.event (L.events before) t (fit (rest_fits g)) s z i)) in
      subst (Same 1 p s) (sym e) (some p s)
  last_is r p s (L.restart {after = after} {m = m} {before = before} w y) =
      subst (Same 0 0 0) (sym (last_after k after m before w ∙ last_cleared m before w.so y)) none
  last_is r p s (L.none w) = subst (Same 0 0 0) (sym (last_never k w)) none

  -- and there is one
  has_last : {A : Type 0} → ((r p s : ℕ) → L.LastReport k r p s → A) → A
  has_last {A} g = set_or k none_set some_set
    where
      none_set : L.Without L.SetsSince k → A
      none_set w = g 0 0 0 (L.none w)

      some_set : (after : List L.Told) (m : L.Told) (before : List L.Told) → L.Latest L.SetsSince k after m before → A
      some_set after m before w =
          cases m.reported
          (λ y.
          let u = fits_before after m before (subst (λ (u : List L.Told). Fits (L.events u)) w.split f) in
          let t = each_at after m before (subst (L.Each TickReports) w.split b) y in
          let s = has_tick_status m.event (L.events before) t (fit (rest_fits u)) in
          g 1 _ _ (L.report w y ((position_read (m.event ∷ L.events before) u _).0 refl) s))
          (λ y. g 0 0 0 (L.restart w y))

  -- step 4
  module _ (e : Event) (z : e.kind ≡ 1) where
    abbrev due_now : ℕ → ℕ → Bool
    due_now p s = report_due (R.parameters (e ∷ L.events k)) ((state_of k).since + 1) p s (state_of k).last

    due_is : (p s : ℕ) → L.ReportDue k p s → due_now p s ≡ true
    due_is p s w =
        rw (parameters_tick e z (L.events k) ∙ parameters_are (L.events k) w.parameters, since_is k w.since w.since_read)
        ((same_due w.q (w.since + 1) p s (last_is _ _ _ w.last_read)).1 w.due)

    has_due : (p s : ℕ) → due_now p s ≡ true → L.ReportDue k p s
    has_due p s d =
        has_last
        (λ r lp ls x.
        record {
          since = (state_of k).since;
          reported = r;
          last_position = lp;
          last_status = ls;
          q = R.parameters (L.events k);
          since_read = has_since k;
          last_read = x;
          parameters = has_parameters (L.events k);
          due = (same_due _ _ p s (last_is r lp ls x)).0 (rw (parameters_tick e z (L.events k)) at d);
        })

-- ── the log ──
pub log_history : {l : List (List ℕ)} {k : List L.Told} {es : List G.Entry} → L.Log l k es → L.History l (L.events k)
log_history L.start = L.start
log_history (L.refused x j) = L.refused (log_history x) j
log_history (L.other x j n) = L.accepted (log_history x) j
log_history (L.silent x j z y v n) = L.accepted (log_history x) j
log_history (L.sent x j z y v d) = L.accepted (log_history x) j

tick_reports : {l : List (List ℕ)} {k : List L.Told} {es : List G.Entry} → L.Log l k es → L.Each TickReports k
tick_reports L.start = L.none
tick_reports (L.refused x j) = tick_reports x
tick_reports (L.other x j n) = L.more (λ e. absurd (false≢true e)) (tick_reports x)
tick_reports (L.silent x j z y v n) = L.more (λ e. absurd (false≢true e)) (tick_reports x)
tick_reports (L.sent x j z y v d) = L.more (λ e. z) (tick_reports x)

module _ (fits : (h : List Event) → L.Accepted h → Fits h) where
  abbrev Both : List (List ℕ) → List L.Told → List G.Entry → Type 0
  Both l k es = (told_of l ≡ k) × (entries_of l ≡ es)

  -- one record more
  module _ (s : List ℕ) (l : List (List ℕ)) (k : List L.Told) (es : List G.Entry) (x : Both l k es) where
    told_more : told_of (s ∷ l) ≡ pick (eqb (R.judgement (L.events k) s) 0) (L.told (E.event_in s) (reports_at k s) ∷ k) k
    told_more = told_cons s l ∙ rw x.0

    entries_more : entries_of (s ∷ l)
        ≡ pick (eqb (R.judgement (L.events k) s) 0)
        (pick (reports_at k s)
        (G.entry (length l + 1) (R.position_in (E.event_in s ∷ L.events k)) (R.status_in (E.event_in s ∷ L.events k)) ∷ es) es)
        es
    entries_more = entries_cons s l ∙ rw (x.0, x.1)

  start_both : Both [] [] []
  unfolding told_of entries_of
  start_both = (refl, refl)

  log_both : {l : List (List ℕ)} {k : List L.Told} {es : List G.Entry} → L.Log l k es → Both l k es
  log_both L.start = start_both
  log_both (L.refused {l = l} {k = k} {es = es} {s = s} {n = n} x j) =
      let b = log_both x in
      let e = judgement_is (L.events k) s (suc n) j in
      let d = ne_eqb (suc n) 0 (λ z. absurd (omega arith)) in
      (told_more s l k es b ∙ rw (e, d), entries_more s l k es b ∙ rw (e, d))
  log_both (L.other {l = l} {k = k} {es = es} {s = s} x j n) =
      let b = log_both x in
      let e = judgement_is (L.events k) s 0 j in
      let d = ne_eqb (E.event_in s).kind 1 n in
      (told_more s l k es b ∙ rw (e, d), entries_more s l k es b ∙ rw (e, d))
  log_both (L.silent {l = l} {k = k} {es = es} {s = s} {p = p} {v = v} x j z y w n) =
      let b = log_both x in
      let r = tick_reports x in
      let e = judgement_is (L.events k) s 0 j in
      let f = fits (L.events k) (l, log_history x) in
      let g = fits (E.event_in s ∷ L.events k) (s ∷ l, L.accepted (log_history x) j) in
      let p_is = position_is g y in
      let v_is = tick_status_is (E.event_in s) (L.events k) z (fit f) v w in
      let d : reports_at k s ≡ false =
      rw (p_is, v_is, eq-eqb (E.event_in s).kind 1 z)
      (cases (due_now k f r (E.event_in s) z p v) (λ q. absurd (n (has_due k f r (E.event_in s) z p v q))) (λ q. q)) in
      (told_more s l k es b ∙ rw (e, d), entries_more s l k es b ∙ rw (e, d))
  log_both (L.sent {l = l} {k = k} {es = es} {s = s} {p = p} {v = v} x j z y w n) =
      let b = log_both x in
      let e = judgement_is (L.events k) s 0 j in
      let f = fits (L.events k) (l, log_history x) in
      let g = fits (E.event_in s ∷ L.events k) (s ∷ l, L.accepted (log_history x) j) in
      let p_is = position_is g y in
      let v_is = tick_status_is (E.event_in s) (L.events k) z (fit f) v w in
      let d : reports_at k s ≡ true = rw (p_is, v_is, eq-eqb (E.event_in s).kind 1 z) (due_is k f (tick_reports x) (E.event_in s) z p v n) in
      (told_more s l k es b ∙ rw (e, d), entries_more s l k es b ∙ rw (e, d, p_is, v_is, add-one (length l)))

  -- and every list of records has one
  abbrev Some : List (List ℕ) → Type 0
  Some l = (k : List L.Told) × (es : List G.Entry) × L.Log l k es

  log_more : (s : List ℕ) (l : List (List ℕ)) (k : List L.Told) (es : List G.Entry) → L.Log l k es → Some (s ∷ l)
  log_more s l k es x = go (R.judgement (L.events k) s) refl
    where
      taken : R.judgement (L.events k) s ≡ 0 → (E.event_in s).kind ≡ 1 → Some (s ∷ l)
      taken e z =
          let j = has_judgement (L.events k) s 0 e in
          let f = fits (L.events k) (l, log_history x) in
          let g = fits (E.event_in s ∷ L.events k) (s ∷ l, L.accepted (log_history x) j) in
          let h = E.event_in s ∷ L.events k in
          let y = (position_read (E.event_in s ∷ L.events k) g (R.position_in (E.event_in s ∷ L.events k))).0 refl in
          let w = has_tick_status (E.event_in s) (L.events k) z (fit f) in
          let r = tick_reports x in
          cases (due_now k f r (E.event_in s) z (R.position_in h) (R.status_in h))
          (λ d.
          let due = has_due k f r (E.event_in s) z _ _ d in
          (L.told (E.event_in s) true ∷ k, G.entry (suc (length l)) (R.position_in h) (R.status_in h) ∷ es, L.sent x j z y w due))
          (λ d. (L.told (E.event_in s) false ∷ k, es, L.silent x j z y w (λ u. false≢true (sym d ∙ due_is k f r (E.event_in s) z _ _ u))))

      go : (n : ℕ) → R.judgement (L.events k) s ≡ n → Some (s ∷ l)
      go (suc n) e = (k, es, L.refused x (has_judgement (L.events k) s (suc n) e))
      go zero e =
          cases (eqb (E.event_in s).kind 1)
          (λ z. taken e (eqb-true _ _ z))
          (λ z. (L.told (E.event_in s) false ∷ k, es, L.other x (has_judgement (L.events k) s 0 e) (eqb-false _ _ z)))

  pub has_log : (l : List (List ℕ)) → (k : List L.Told) × (es : List G.Entry) × L.Log l k es
  has_log [] = ([], [], L.start)
  has_log (s ∷ l) = let x = has_log l in log_more s l x.0 x.1 x.2

  pub log_is : (l : List (List ℕ)) (k : List L.Told) (es : List G.Entry) → L.Log (reverse l) k es → G.log_in l ≡ reverse es
  log_is l k es x = log_read l ∙ ap reverse (log_both x).1
