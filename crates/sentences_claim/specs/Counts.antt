-- Proofs: ticks by the clock, stretches without restart and report, the ticks since and the last report.
use Rattle.std.specs.Prelude.{◌≡◌, refl, ◌↔◌, Bool, true, false, ◌||◌, ℕ, zero, suc, ◌+◌, eqb, get_or}
use Rattle.std.proofs.Common.{sym, ap, subst, ◌∙◌, arith}
use Rattle.std.proofs.Math.Bool.{or-true}
use mathlib.Core.List.{[], ◌∷◌, ◌++◌, append-nil, head-eq_of_cons-eq, tail-eq_of_cons-eq}
use Rattle.numbers.specs.Numbers.{pick}
use Rattle.numbers.specs.Says.{unset}
use Rattle.numbers.specs.Laws.{cases, or_left, or_right}
use Rattle.numbers.specs.Counts as Counts
use Rattle.numbers.specs.CountLaws.{one_more, nil_split, since_over}
use Rattle.rules.specs.Report.{Sent, silent, sent}
use Rattle.history.specs.Readings as R
use Rattle.history.specs.Claim as C
use Rattle.history.specs.Waits.{silent_in}
use Rattle.sentences.specs.Shows.{one}
use Rattle.sentences_claim.specs.Paper as S
use Rattle.sentences_claim.specs.Tests.{same_restart, reports, report_gives, gives_in}

-- by what the records of a trace are counted
abbrev pub ticks : Counts.Test C.Moment
ticks = C.accepted_as R.is_tick

abbrev pub restarts : Counts.Test C.Moment
restarts = C.accepted_as R.is_restart

abbrev pub reported : Counts.Test C.Moment
reported m t = C.reports m

-- ── The clock ──

-- one record more
pub clock_more : (m : C.Moment) (t : C.Trace) → S.clock (m ∷ t) ≡ pick (C.accepted_as R.is_tick m t) (S.clock t + 1) (S.clock t)
unfolding C.accepted
clock_more m t =
    cases (eqb (R.judgement (C.accepted t) m.bytes) 0)
    (λ j. cases (eqb (get_or m.bytes 2 0) 1) (λ k. rw (j, k) (omega arith)) (λ k. rw (j, k) (omega arith)))
    (λ j. rw j)

-- "ticks after the first, up to and with the second": what the clock has gone on
pub ticks_clock : (new old : C.Trace) → C.ticks_in new old + S.clock old ≡ S.clock (new ++ old)
unfolding Counts.ticks_in
ticks_clock [] old = omega arith
ticks_clock (m ∷ new) old = one_more (C.accepted_as R.is_tick m (new ++ old)) _ _ _ (ticks_clock new old) ∙ sym (clock_more m (new ++ old))

-- ── Without restart and report ──

pub quiet_without : (old new : C.Trace) → C.Quiet old new → S.Without old new
quiet_without old [] q later x earlier e = absurd (nil_split later x earlier e)
quiet_without old (m ∷ new) (Counts.more p q qs) [] x earlier e =
    let hd : m ≡ x = head-eq_of_cons-eq e in
    let tl : new ≡ earlier = tail-eq_of_cons-eq e in
    rw (← hd, ← tl) ((unset _ (same_restart m (new ++ old))).0 p, (unset _ (reports m)).0 q)
quiet_without old (m ∷ new) (Counts.more p q qs) (y ∷ later) x earlier e = quiet_without old new qs later x earlier (tail-eq_of_cons-eq e)

pub without_quiet : (old new : C.Trace) → S.Without old new → C.Quiet old new
without_quiet old [] w = Counts.none
without_quiet old (m ∷ new) w =
    let z = w [] m new refl in
    Counts.more ((unset _ (same_restart m (new ++ old))).1 z.0) ((unset _ (reports m)).1 z.1)
    (without_quiet old new (λ later x earlier e. w (m ∷ later) x earlier (ap (λ u. m ∷ u) e)))

without_none : (old : C.Trace) → S.Without old []
without_none old = quiet_without old [] Counts.none

-- one record more, which is neither
without_more : (m : C.Moment) (t new old : C.Trace) → t ≡ new ++ old → (S.RestartAt m t → ⊥) → (S.Reports m → ⊥) → S.Without old new
    → S.Without old (m ∷ new)
without_more m t new old e r q w =
    quiet_without old (m ∷ new)
    (Counts.more ((unset _ (same_restart m (new ++ old))).1 (rw e at r)) ((unset _ (reports m)).1 q) (without_quiet old new w))

-- ── The ticks since ──

since_report : (x : C.Moment) (old : C.Trace) → S.Reports x → C.since (x ∷ old) ≡ 0
unfolding Counts.since
since_report x old r = rw ((reports x).1 r)

since_restart : (x : C.Moment) (old : C.Trace) → S.RestartAt x old → C.since (x ∷ old) ≡ 0
unfolding Counts.since
since_restart x old r = rw ((same_restart x old).1 r, or-true)

-- a stretch after a record at which it is 0
since_after : (t new : C.Trace) (x : C.Moment) (old : C.Trace) (n : ℕ) → t ≡ new ++ (x ∷ old) → C.since (x ∷ old) ≡ 0
    → S.Without (x ∷ old) new → S.clock t ≡ S.clock (x ∷ old) + n → C.since t ≡ n
since_after t new x old n e z w c =
    let a : C.since t ≡ C.since (new ++ (x ∷ old)) = ap C.since e in
    let b = since_over ticks reported restarts new (x ∷ old) (without_quiet (x ∷ old) new w) in
    let g = ticks_clock new (x ∷ old) in
    let k : S.clock t ≡ S.clock (new ++ (x ∷ old)) = ap S.clock e in
    omega arith

pub since_only : {t : C.Trace} {n : ℕ} → S.Since t n → C.since t ≡ n
unfolding Counts.since C.accepted
since_only {t} (S.beginning w c) =
    let b = rw append-nil at (since_over ticks reported restarts t [] (without_quiet [] t w)) in
    let g = rw append-nil at (ticks_clock t []) in
    omega arith
since_only {t} {n} (S.after_report new x old e r w c) = since_after t new x old n e (since_report x old r) w c
since_only {t} {n} (S.after_restart new x old e r w c) = since_after t new x old n e (since_restart x old r) w c

-- the clock with one record more
clock_on : (b : Bool) (c d n : ℕ) → c ≡ d + n → pick b (c + 1) c ≡ d + pick b (n + 1) n
clock_on true c d n e = omega arith
clock_on false c d n e = e

since_more : (m : C.Moment) (t : C.Trace) (n : ℕ) → (S.RestartAt m t → ⊥) → (S.Reports m → ⊥) → S.Since t n
    → S.Since (m ∷ t) (pick (C.accepted_as R.is_tick m t) (n + 1) n)
since_more m t n r q (S.beginning w c) =
    S.beginning (without_more m t t [] (sym (append-nil t)) r q w) (clock_more m t ∙ rw c)
since_more m t n r q (S.after_report new x old e a w c) =
    S.after_report (m ∷ new) x old (ap (λ u. m ∷ u) e) a (without_more m t new (x ∷ old) e r q w)
    (clock_more m t ∙ clock_on (C.accepted_as R.is_tick m t) _ _ n c)
since_more m t n r q (S.after_restart new x old e a w c) =
    S.after_restart (m ∷ new) x old (ap (λ u. m ∷ u) e) a (without_more m t new (x ∷ old) e r q w)
    (clock_more m t ∙ clock_on (C.accepted_as R.is_tick m t) _ _ n c)

pub since_is : (t : C.Trace) → S.Since t (C.since t)
unfolding Counts.since C.accepted
since_is [] = S.beginning (without_none []) refl
since_is (m ∷ t) =
    cases (C.reports m || C.accepted_as R.is_restart m t)
    (λ q. rw q
    (one (C.reports m) _ q
    (λ r. S.after_report [] m t refl ((reports m).0 r) (without_none (m ∷ t)) (omega arith))
    (λ r. S.after_restart [] m t refl ((same_restart m t).0 r) (without_none (m ∷ t)) (omega arith))))
    (λ q. rw q
    (since_more m t _ ((unset _ (same_restart m t)).0 (or_right (C.reports m) _ q)) ((unset _ (reports m)).0 (or_left (C.reports m) _ q))
    (since_is t)))

pub same_since : (t : C.Trace) (n : ℕ) → (C.since t ≡ n) ↔ S.Since t n
same_since t n = (λ e. subst (S.Since t) e (since_is t), since_only)

-- ── The last report since the last restart ──

last_over : (new old : C.Trace) → C.Quiet old new → C.last_report (new ++ old) ≡ C.last_report old
unfolding C.last_report
last_over [] old q = refl
last_over (m ∷ new) old (Counts.more p q qs) = rw (p, silent_in m.answer q) (last_over new old qs)

-- as the product has it
abbrev pub sent_of : ℕ → ℕ → ℕ → Sent
sent_of zero p s = silent
sent_of (suc r) p s = sent p s

abbrev whether : Sent → ℕ
whether silent = 0
whether (sent p s) = 1

abbrev place : Sent → ℕ
place silent = 0
place (sent p s) = p

abbrev shown : Sent → ℕ
shown silent = 0
shown (sent p s) = s

pub last_only : {t : C.Trace} {r p s : ℕ} → S.Last t r p s → C.last_report t ≡ sent_of r p s
unfolding C.last_report
last_only (S.reported new x old e g n w) =
    ap C.last_report e ∙ last_over new (x ∷ old) (without_quiet (x ∷ old) new w)
    ∙ rw ((unset _ (same_restart x old)).1 n, gives_in g)
last_only (S.none_since_restart new x old e r w) =
    ap C.last_report e ∙ last_over new (x ∷ old) (without_quiet (x ∷ old) new w) ∙ rw ((same_restart x old).1 r)
last_only {t} (S.none_at_all w) = rw append-nil at (last_over t [] (without_quiet [] t w))

last_more : {r p s : ℕ} (m : C.Moment) (t : C.Trace) → (S.RestartAt m t → ⊥) → (S.Reports m → ⊥) → S.Last t r p s → S.Last (m ∷ t) r p s
last_more m t r q (S.reported new x old e g n w) =
    S.reported (m ∷ new) x old (ap (λ u. m ∷ u) e) g n (without_more m t new (x ∷ old) e r q w)
last_more m t r q (S.none_since_restart new x old e a w) =
    S.none_since_restart (m ∷ new) x old (ap (λ u. m ∷ u) e) a (without_more m t new (x ∷ old) e r q w)
last_more m t r q (S.none_at_all w) = S.none_at_all (without_more m t t [] (sym (append-nil t)) r q w)

abbrev LastIs : C.Trace → Sent → Type 0
LastIs t x = S.Last t (whether x) (place x) (shown x)

last_is : (t : C.Trace) → LastIs t (C.last_report t)
unfolding C.last_report
last_is [] = S.none_at_all (without_none [])
last_is (m ∷ t) =
    cases (C.accepted_as R.is_restart m t)
    (λ r. rw r (S.none_since_restart [] m t refl ((same_restart m t).0 r) (without_none (m ∷ t))))
    (λ r.
    let no = (unset _ (same_restart m t)).0 r in
    cases (C.reports m)
    (λ q.
    let g = report_gives m.answer q in
    rw (r, g.3) (S.reported [] m t refl g.2 no (without_none (m ∷ t))))
    (λ q. rw (r, silent_in m.answer q) (last_more m t no ((unset _ (reports m)).0 q) (last_is t))))

pub same_last : (t : C.Trace) (p s : ℕ) → (C.last_report t ≡ sent p s) ↔ S.Last t 1 p s
same_last t p s = (λ e. subst (LastIs t) e (last_is t), last_only)

pub same_no_last : (t : C.Trace) → (C.last_report t ≡ silent) ↔ S.Last t 0 0 0
same_no_last t = (λ e. subst (LastIs t) e (last_is t), last_only)

-- there is one, or none
pub some_last : (t : C.Trace) → (r : ℕ) × (p : ℕ) × (s : ℕ) × S.Last t r p s
some_last t = (_, _, _, last_is t)
