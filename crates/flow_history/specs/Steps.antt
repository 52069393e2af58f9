-- What one reading does to a record that agrees with the list so far.
use Rattle.std.specs.Prelude.{◌≡◌, Bool, not, ◌||◌, ◌∷◌, ℕ, ◌+◌, ◌<◌, ◌≤◌, min, leb, Float, Option, Some, None, Result, Ok, Err}
use Rattle.std.proofs.Math.Path.{refl}
use Rattle.std.proofs.Common.{sym, subst, ◌∙◌, arith, leb-true, leb-false, le-leb}
use Rattle.std.proofs.Math.Bool.{true, false, and-true}
use Rattle.std.specs.Float.Ieee.{le}
use Rattle.std.proofs.lemmas.Bool.{lt-leb}
use Rattle.numbers.specs.Numbers.{pick, on, is_flag, next}
use Rattle.numbers.specs.Laws.{cases}
use Rattle.numbers.specs.Counts as Counts
use Rattle.flow.specs.declared.Reading.{Reading}
use Rattle.flow.specs.declared.FlowRefusal.{FlowRefusal}
use Rattle.flow.specs.declared.FlowRecord.{FlowRecord}
use Rattle.flow.specs.Refusal.{number}
use Rattle.flow.specs.Answer.{FlowAnswer, No, Silent, Report, FlowOutcome}
use Rattle.flow.specs.Flow.{is_flow, measured, apart, percent_of, ticked, due_by, due_at, told, hears, well_formed, hear_of, outcome}
use Rattle.flow.specs.Laws.{settings, parts, hear_kept, record_refused}
use Rattle.flow_history.specs.Claim as C
use Rattle.flow_history.specs.Claim.{Settings, Moment, moment, Trace, Sent, silent, sent}

-- a limit below the cap is reached by a capped count where the count reaches it
capped_least : (n t : ℕ) → t < 65535 → leb t (min n 65535) ≡ leb t n
capped_least n t h =
    cases (leb t n)
    (λ e. let l : t ≤ n = leb-true t n e in le-leb t (min n 65535) (omega arith) ∙ sym e)
    (λ e. let l : n < t = leb-false t n e in lt-leb t (min n 65535) (omega arith) ∙ sym e)

next_law : (n : ℕ) → next (min n 65535) ≡ min (n + 1) 65535
next_law n = omega arith

differs_law : (cov x : Float) (l : Sent) → (not (on (C.flag_of l)) || le cov (apart x (C.flow_of l))) ≡ C.differs cov x l
differs_law cov x silent = refl
differs_law cov x (sent y) = refl

-- what a call answers that gives this flow, read off the list, where 22 takes the settings
abbrev pub answer_by : Settings → Trace → Result (Option Float) FlowRefusal → FlowAnswer
answer_by s t (Ok (Some x)) = pick (C.due_in s t x) (Report x (percent_of s.nominal x)) Silent
answer_by s t (Ok None) = Silent
answer_by s t (Err refusal) = No (number refusal)

-- the last flow sent is one from 0 to 1,000,000
abbrev pub IsFlow : Sent → Type 0
IsFlow l = is_flow (C.flow_of l) ≡ true

-- 22 asks of a record that agrees with the list what it asks of the settings
standing_formed : (s : Settings) (t : Trace) → IsFlow (C.last_sent t) → well_formed (C.standing s t) ≡ C.fit s
unfolding well_formed
standing_formed s t f = rw (f, flag (C.last_sent t)) (and-true _ ∙ and-true _)
  where
    flag : (l : Sent) → is_flag (C.flag_of l) ≡ true
    flag silent = refl
    flag (sent y) = refl

-- Where 22 takes the settings.
module _ (s : Settings) (t : Trace) (fits : C.fit s ≡ true) where
  -- due by the record is due by the list
  due_law : (x : Float) → due_at (ticked (C.standing s t)) x ≡ C.due_in s t x
  unfolding due_by C.due_in
  due_law x =
      let h : s.time ≤ 3600 = (settings _ _ _ fits).time_most in
      rw (next_law (C.since s t), capped_least (C.since s t + 1) s.time (omega arith), differs_law s.cov x (C.last_sent t))

  told_answer : (x : Float) (b : Bool) → due_at (ticked (C.standing s t)) x ≡ b
      → (told (ticked (C.standing s t)) x).answer ≡ pick b (Report x (percent_of s.nominal x)) Silent
  told_answer x true e = rw e
  told_answer x false e = rw e

  hears_answer : (m : Result (Option Float) FlowRefusal) → (hears (C.standing s t) m).answer ≡ answer_by s t m
  hears_answer (Ok (Some x)) = told_answer x _ (due_law x)
  hears_answer (Ok None) = refl
  hears_answer (Err refusal) = refl

  told_state : (x : Float) (got : Reading) (b : Bool) → measured s.nominal got ≡ Ok (Some x) → due_at (ticked (C.standing s t)) x ≡ b
      → (told (ticked (C.standing s t)) x).state ≡ C.standing s (moment got (told (ticked (C.standing s t)) x).answer ∷ t)
  unfolding C.last_sent Counts.since
  told_state x got true g e = rw e
  told_state x got false g e = rw (e, fits, g, next_law (C.since s t))

  hears_state : (got : Reading) (m : Result (Option Float) FlowRefusal) → measured s.nominal got ≡ m
      → (hears (C.standing s t) m).state ≡ C.standing s (moment got (hears (C.standing s t) m).answer ∷ t)
  unfolding C.last_sent Counts.since
  hears_state got (Ok (Some x)) g = told_state x got _ g refl
  hears_state got (Ok None) g = rw (fits, g, next_law (C.since s t))
  hears_state got (Err refusal) g = rw (fits, g)

-- A record that agrees with the list, and a reading.
module _ (s : Settings) (t : Trace) (f : IsFlow (C.last_sent t)) (got : Reading) where
  abbrev o : FlowOutcome
  o = hear_of (C.standing s t) got

  abbrev m : Moment
  m = moment got o.answer

  as_hears : C.fit s ≡ true → o ≡ hears (C.standing s t) (measured s.nominal got)
  unfolding hear_of
  as_hears e = rw (standing_formed s t f ∙ e)

  as_refused : C.fit s ≡ false → o ≡ outcome (C.standing s t) (No 22)
  as_refused e = record_refused (C.standing s t) got (standing_formed s t f ∙ e)

  refused_state : C.fit s ≡ false → C.standing s t ≡ C.standing s (moment got (No 22) ∷ t)
  unfolding C.last_sent Counts.since
  refused_state e = rw e

  -- it leaves a record that agrees with the list
  pub stands : o.state ≡ C.standing s (m ∷ t)
  stands =
      cases (C.fit s)
      (λ e. rw (as_hears e) (hears_state s t e got _ refl))
      (λ e. rw (as_refused e) (refused_state e))

  -- and answers as is read off it
  pub answered : o.answer ≡ pick (C.fit s) (answer_by s t (C.flow_in s m)) (No 22)
  answered =
      cases (C.fit s)
      (λ e. rw (as_hears e, e) (hears_answer s t e (measured s.nominal got)))
      (λ e. rw (as_refused e, e))

  pub flow_kept : IsFlow (C.last_sent (m ∷ t))
  unfolding C.last_sent
  flow_kept =
      cases (C.fit s)
      (λ e.
      let w = hear_kept (C.standing s t) got (standing_formed s t f ∙ e) in
      (parts _ (subst (λ (r : FlowRecord). well_formed r ≡ true) stands w)).last)
      (λ e. rw (as_refused e) f)
