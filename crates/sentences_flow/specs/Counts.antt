-- Proofs: which calls are accepted and with what flow, ticks by the clock, the ticks since the latest report and the last flow sent.
use Rattle.std.specs.Prelude.{◌≡◌, ◌↔◌, Bool, true, false, ◌&&◌, ℕ, ◌+◌, Float, Option, Some, None, Result, Ok, Err}
use Rattle.std.proofs.Math.Path.{refl, ap, subst}
use Rattle.std.proofs.Common.{sym, ◌∙◌, add-one}
use Rattle.std.proofs.lemmas.Bool.{false≢true}
use mathlib.Core.List.{[], ◌∷◌, ◌++◌, append-nil, head-eq_of_cons-eq, tail-eq_of_cons-eq}
use native.Mathlib.Omega.{arith}
use Rattle.std.proofs.Math.Nat.{zero-add, add-zero}
use Rattle.numbers.specs.Numbers.{pick}
use Rattle.numbers.specs.Says.{Says, unset, both}
use Rattle.numbers.specs.Laws.{cases}
use Rattle.numbers.specs.Counts as Counts
use Rattle.numbers.specs.CountLaws.{one_more, nil_split, since_over}
use Rattle.flow.specs.declared.FlowRefusal.{FlowRefusal}
use Rattle.flow.specs.declared.FlowRefusal.TheVariants as By
use Rattle.flow.specs.Answer.{FlowAnswer, No, Silent, Report, is_report}
use Rattle.flow.specs.Flow.{measured, well_formed}
use Rattle.flow.specs.Laws.{settings, fresh_formed}
use Rattle.flow_history.specs.Claim as C
use Rattle.flow_history.specs.Claim.{Settings, Moment, Trace, Sent, silent, sent}
use Rattle.flow_history.specs.Theorem.{flow_fits, silent_in}
use Rattle.sentences_flow.specs.Paper as S
use Rattle.sentences_flow.specs.Floats as Floats
use Rattle.sentences_flow.specs.Calls as Calls

-- ── Accepted calls ──

-- a reading that is not refused
taken_says : (f : Result (Option Float) FlowRefusal) → Says (C.taken f) ((refusal : FlowRefusal) → f ≡ Err refusal → ⊥)
taken_says (Ok (Some x)) = (λ e refusal q. cc, λ n. refl)
taken_says (Ok None) = (λ e refusal q. cc, λ n. refl)
taken_says (Err refusal) = (λ e r q. false≢true e, λ n. absurd (n refusal refl))

not_taken : (f : Result (Option Float) FlowRefusal) → C.taken f ≡ false → (refusal : FlowRefusal) × (f ≡ Err refusal)
not_taken (Ok (Some x)) e = absurd (false≢true (sym e))
not_taken (Ok None) e = absurd (false≢true (sym e))
not_taken (Err refusal) e = (refusal, refl)

taken_both : (b : Bool) (f : Result (Option Float) FlowRefusal) → C.taken (pick b f (Err By.Record)) ≡ b && C.taken f
taken_both true f = refl
taken_both false f = refl

module _ (s : Settings) where
  -- 22 asks of the settings what it asks of a fresh record
  pub same_unfit : (C.fit s ≡ false) ↔ S.Refused s
  same_unfit =
      let e : well_formed (S.fresh s.nominal s.cov s.time) ≡ C.fit s =
      ap well_formed (sym (Calls.same_fresh s.nominal s.cov s.time)) ∙ fresh_formed s.nominal s.cov s.time in
      let w = Calls.same_22 (S.fresh s.nominal s.cov s.time) in
      (λ q. w.0 (e ∙ q), λ b. sym e ∙ w.1 b)

  pub same_fit : Says (C.fit s) (S.Refused s → ⊥)
  same_fit = (
    λ e b. false≢true (sym (same_unfit.1 b) ∙ e),
    λ n. cases (C.fit s) (λ q. q) (λ q. absurd (n (same_unfit.0 q))),
  )

  -- nominal of settings that 22 takes
  fit_nominal : C.fit s ≡ true → S.Between 1 1000000 s.nominal
  fit_nominal e = (Floats.same_setting s.nominal).0 (settings _ _ _ e).nominal

  -- a reading that 23 takes
  same_taken : (m : Moment) → Says (C.taken (measured s.nominal m.reading)) (S.By23 m.reading → ⊥)
  same_taken m =
      let e = taken_says (measured s.nominal m.reading) in
      let w = Calls.same_23 s.nominal m.reading in
      (λ q b. e.0 q By.Reading (w.1 b), λ n. e.1 (λ refusal q. n ((Calls.same_refused s.nominal m.reading refusal).0 q).0))

  pub same_accepted : (m : Moment) (t : Trace) → (C.accepted s m t ≡ true) ↔ S.Accepted s m
  same_accepted m t =
      let f = measured s.nominal m.reading in
      let e = taken_both (C.fit s) f in
      let w = both (C.fit s) (C.taken f) same_fit (same_taken m) in (
        λ q. let z = w.0 (sym e ∙ q) in record { not_22 = z.0; not_23 = z.1 },
        λ a. e ∙ w.1 (a.not_22, a.not_23),
      )

  -- what is not accepted though 22 takes the settings is refused by 23
  pub refused_reading : (m : Moment) (t : Trace) → C.fit s ≡ true → C.accepted s m t ≡ false → S.By23 m.reading
  refused_reading m t q a =
      let z = not_taken (measured s.nominal m.reading) (rw q at a) in
      ((Calls.same_refused s.nominal m.reading z.0).0 z.1).0

  pub same_gives : (m : Moment) (x : Float) → (C.flow_in s m ≡ Ok (Some x)) ↔ S.Gives s m x
  same_gives m x = (there, back)
    where
      there : C.flow_in s m ≡ Ok (Some x) → S.Gives s m x
      there f =
          let k = flow_fits s m x f in
          let z = (Calls.same_measured s.nominal m.reading x (fit_nominal k.0)).0 k.1 in
          record { accepted = record { not_22 = same_fit.0 k.0; not_23 = z.0 }; flow = z.1 }

      back : S.Gives s m x → C.flow_in s m ≡ Ok (Some x)
      back g =
          let k = same_fit.1 g.accepted.not_22 in
          rw k ((Calls.same_measured s.nominal m.reading x (fit_nominal k)).1 (g.accepted.not_23, g.flow))

-- ── Reports ──

pub carries_is : {a : FlowAnswer} {x : Float} {p : ℕ} → S.Carries a x p → a ≡ Report x p
carries_is (S.carrying x p) = refl

pub carries_sent : {a : FlowAnswer} {x : Float} {p : ℕ} → S.Carries a x p → C.sent_in a ≡ sent x
carries_sent (S.carrying x p) = refl

pub carries_report : {a : FlowAnswer} {x : Float} {p : ℕ} → S.Carries a x p → is_report a ≡ true
carries_report (S.carrying x p) = refl

-- what a report carries
pub report_carries : (a : FlowAnswer) → is_report a ≡ true → (x : Float) × (p : ℕ) × S.Carries a x p
report_carries (No n) e = absurd (false≢true e)
report_carries Silent e = absurd (false≢true e)
report_carries (Report x p) e = (x, p, S.carrying x p)

pub same_reports : (m : Moment) → (C.reports m ≡ true) ↔ S.Reports m
same_reports m = (report_carries m.answer, λ r. carries_report r.2)

-- ── The clock ──

-- one tick more, or none, in a sum
clock_on : (b : Bool) (c n : ℕ) → pick b (c + n + 1) (c + n) ≡ c + pick b (n + 1) n
clock_on true c n = omega arith
clock_on false c n = refl

module _ (s : Settings) where
  -- one call more
  clock_more : (m : Moment) (t : Trace) (n : ℕ) → S.Clock s t n → S.Clock s (m ∷ t) (pick (C.accepted s m t) (n + 1) n)
  clock_more m t n k =
      cases (C.accepted s m t)
      (λ q. rw (q, add-one n) (S.tick ((same_accepted s m t).0 q) k))
      (λ q. rw q (S.no_tick ((unset _ (same_accepted s m t)).0 q) k))

  pub ticks_clock : (new old : Trace) (c : ℕ) → S.Clock s old c → S.Clock s (new ++ old) (C.ticks_in s new old + c)
  unfolding Counts.ticks_in
  ticks_clock [] old c k = rw zero-add k
  ticks_clock (m ∷ new) old c k =
      subst (S.Clock s (m ∷ (new ++ old))) (sym (one_more (C.accepted s m (new ++ old)) (C.ticks_in s new old) c _ refl))
      (clock_more m (new ++ old) _ (ticks_clock new old c k))

  -- the clock after a trace
  pub clock_is : (t : Trace) → S.Clock s t (C.ticks_in s t [])
  unfolding Counts.ticks_in
  clock_is [] = S.start
  clock_is (m ∷ t) = clock_more m t _ (clock_is t)

  -- and it says no other number
  clock_only : {t : Trace} {n : ℕ} → S.Clock s t n → C.ticks_in s t [] ≡ n
  unfolding Counts.ticks_in
  clock_only S.start = refl
  clock_only (S.tick {m} {t} a k) = rw ((same_accepted s m t).1 a, clock_only k, add-one)
  clock_only (S.no_tick {m} {t} a k) = rw ((unset _ (same_accepted s m t)).1 a, clock_only k)

  pub one_clock : (t : Trace) (a b : ℕ) → S.Clock s t a → S.Clock s t b → a ≡ b
  one_clock t a b h k = sym (clock_only h) ∙ clock_only k

-- ── Without report ──

-- as the product has it
pub quiet_none : (old new : Trace) → C.Quiet old new → S.NoReport new
quiet_none old [] q later x earlier e r = nil_split later x earlier e
quiet_none old (m ∷ new) (Counts.more p q qs) [] x earlier e r =
    let hd : m ≡ x = head-eq_of_cons-eq e in
    (unset _ (same_reports m)).0 q (rw hd r)
quiet_none old (m ∷ new) (Counts.more p q qs) (y ∷ later) x earlier e r = quiet_none old new qs later x earlier (tail-eq_of_cons-eq e) r

pub none_quiet : (old new : Trace) → S.NoReport new → C.Quiet old new
none_quiet old [] w = Counts.none
none_quiet old (m ∷ new) w =
    Counts.more refl ((unset _ (same_reports m)).1 (w [] m new refl))
    (none_quiet old new (λ later x earlier e. w (m ∷ later) x earlier (ap (λ u. m ∷ u) e)))

no_calls : S.NoReport []
no_calls = quiet_none [] [] Counts.none

-- one call more, which is no report
none_more : (m : Moment) (t : Trace) → (S.Reports m → ⊥) → S.NoReport t → S.NoReport (m ∷ t)
none_more m t q w = quiet_none [] (m ∷ t) (Counts.more refl ((unset _ (same_reports m)).1 q) (none_quiet [] t w))

-- ── The ticks since ──

module _ (s : Settings) where
  since_report : (x : Moment) (old : Trace) → S.Reports x → C.since s (x ∷ old) ≡ 0
  unfolding Counts.since
  since_report x old r = rw ((same_reports x).1 r)

  pub since_only : {t : Trace} {n : ℕ} → S.Since s t n → C.since s t ≡ n
  unfolding Counts.since
  since_only {t} (S.beginning w k) =
      let b = rw append-nil at (since_over (C.accepted s) C.reported C.never t [] (none_quiet [] t w)) in
      let g = clock_only s k in
      omega arith
  since_only {t} {n} (S.after_report new x old c e r w k j) =
      let a : C.since s t ≡ C.since s (new ++ (x ∷ old)) = ap (C.since s) e in
      let b = since_over (C.accepted s) C.reported C.never new (x ∷ old) (none_quiet (x ∷ old) new w) in
      let z = since_report x old r in
      let g = one_clock s t (C.ticks_in s new (x ∷ old) + c) (c + n) (rw e (ticks_clock s new (x ∷ old) c k)) j in
      omega arith

  -- one call more, which is no report
  since_more : (m : Moment) (t : Trace) (n : ℕ) → (S.Reports m → ⊥) → S.Since s t n → S.Since s (m ∷ t) (pick (C.accepted s m t) (n + 1) n)
  since_more m t n q (S.beginning w k) = S.beginning (none_more m t q w) (clock_more s m t n k)
  since_more m t n q (S.after_report new x old c e r w k j) =
      S.after_report (m ∷ new) x old c (ap (λ u. m ∷ u) e) r (none_more m new q w) k
      (subst (S.Clock s (m ∷ t)) (clock_on (C.accepted s m t) c n) (clock_more s m t (c + n) j))

  pub since_is : (t : Trace) → S.Since s t (C.since s t)
  unfolding Counts.since
  since_is [] = S.beginning no_calls S.start
  since_is (m ∷ t) =
      cases (C.reports m)
      (λ q. rw q (S.after_report [] m t _ refl ((same_reports m).0 q) no_calls (clock_is s (m ∷ t)) (rw add-zero (clock_is s (m ∷ t)))))
      (λ q. rw q (since_more m t _ ((unset _ (same_reports m)).0 q) (since_is t)))

  pub same_since : (t : Trace) (n : ℕ) → (C.since s t ≡ n) ↔ S.Since s t n
  same_since t n = (λ e. subst (S.Since s t) e (since_is t), since_only)

-- ── The last flow sent ──

-- calls without report leave it
last_over : (new old : Trace) → C.Quiet old new → C.last_sent (new ++ old) ≡ C.last_sent old
unfolding C.last_sent
last_over [] old q = refl
last_over (m ∷ new) old (Counts.more p q qs) = rw (silent_in m.answer q) (last_over new old qs)

last_none : (t : Trace) → S.NoReport t → C.last_sent t ≡ silent
unfolding C.last_sent
last_none t w = rw append-nil at (last_over t [] (none_quiet [] t w))

last_only : (t : Trace) (y : Float) → S.LastSent t y → C.last_sent t ≡ sent y
unfolding C.last_sent
last_only t y l =
    ap C.last_sent l.split ∙ last_over l.new (l.at ∷ l.old) (none_quiet _ l.new l.none_since) ∙ rw (carries_sent l.carries)

-- what the last flow sent says of a trace
abbrev Last : Trace → Sent → Type 0
Last t silent = S.NoReport t
Last t (sent y) = S.LastSent t y

last_more : (m : Moment) (t : Trace) (l : Sent) → (S.Reports m → ⊥) → Last t l → Last (m ∷ t) l
last_more m t silent q w = none_more m t q w
last_more m t (sent y) q l =
    record {
      new = m ∷ l.new;
      at = l.at;
      old = l.old;
      split = ap (λ u. m ∷ u) l.split;
      percent = l.percent;
      carries = l.carries;
      none_since = none_more m l.new q l.none_since;
    }

last_is : (t : Trace) → Last t (C.last_sent t)
unfolding C.last_sent
last_is [] = no_calls
last_is (m ∷ t) =
    cases (C.reports m)
    (λ q.
    let r = report_carries m.answer q in
    rw (carries_sent r.2)
    (record { new = []; at = m; old = t; split = refl; percent = r.1; carries = r.2; none_since = no_calls }))
    (λ q. rw (silent_in m.answer q) (last_more m t (C.last_sent t) ((unset _ (same_reports m)).0 q) (last_is t)))

pub same_last : (t : Trace) (y : Float) → (C.last_sent t ≡ sent y) ↔ S.LastSent t y
same_last t y = (λ e. subst (Last t) e (last_is t), last_only t y)

pub same_none : (t : Trace) → (C.last_sent t ≡ silent) ↔ S.NoReport t
same_none t = (λ e. subst (Last t) e (last_is t), last_none t)
