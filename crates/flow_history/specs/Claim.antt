-- Document 02, W-209, as a claim about a list of readings that are given to one record, fresh at first. From the flow box come only its
-- answers; which calls are accepted, the flow of each, the last flow sent and the ticks are read off the list, by the settings with which
-- the record was made.
use Rattle.std.specs.Prelude.{◌≡◌, Bool, true, false, ◌&&◌, List, [], ◌∷◌, ◌++◌, ℕ, ◌+◌, ◌≤◌, min, leb, Float, Option, Some, None, Result, Ok, Err}
use Rattle.std.specs.Float.Ieee.{le, lt}
use Rattle.numbers.specs.Numbers.{pick}
use Rattle.numbers.specs.Counts as Counts
use Rattle.flow.specs.declared.Reading.{Reading}
use Rattle.flow.specs.declared.FlowRefusal.{FlowRefusal}
use Rattle.flow.specs.declared.FlowRefusal.TheVariants as By
use Rattle.flow.specs.declared.FlowRecord.{FlowRecord}
use Rattle.flow.specs.Answer.{FlowAnswer, No, Silent, Report, FlowOutcome, number_of, is_report}
use Rattle.flow.specs.Flow.{whole, measured, apart, fresh_record, settings_fit, Greatest}

-- nominal flow, ActFlowCOV and ActFlowMinRepTime of a flow box
pub record Settings : Type 0 where
  pub nominal : Float
  pub cov : Float
  pub time : ℕ

-- whether 22 takes them
abbrev pub fit : Settings → Bool
fit s = settings_fit s.nominal s.cov s.time

abbrev pub fresh_of : Settings → FlowRecord
fresh_of s = fresh_record s.nominal s.cov s.time

-- one call: the reading that was given, and the answer
pub record Moment : Type 0 where
  pub reading : Reading
  pub answer : FlowAnswer

abbrev pub moment : Reading → FlowAnswer → Moment
moment got a = record { reading = got; answer = a }

-- a trace, the latest call first
abbrev pub Trace : Type 0
Trace = List Moment

-- the flow that a call gives, by the list's own judgement: none where 22 refuses the settings, or 23 the reading
abbrev pub flow_in : Settings → Moment → Result (Option Float) FlowRefusal
flow_in s m = pick (fit s) (measured s.nominal m.reading) (Err By.Record)

-- "One accepted call is one tick": a flow, a share or broken
abbrev pub taken : Result (Option Float) FlowRefusal → Bool
taken (Ok (Some x)) = true
taken (Ok None) = true
taken (Err refusal) = false

abbrev pub accepted : Settings → Moment → Trace → Bool
accepted s m t = taken (flow_in s m)

abbrev pub reports : Moment → Bool
reports m = is_report m.answer

-- a flow that was sent, if any
pub data Sent : Type 0 where
  silent : Sent
  sent : Float → Sent

abbrev pub sent_in : FlowAnswer → Sent
sent_in (No n) = silent
sent_in Silent = silent
sent_in (Report x p) = sent x

abbrev pub or_earlier : Sent → Sent → Sent
or_earlier silent x = x
or_earlier (sent y) x = sent y

-- the last flow sent
unfoldable pub last_sent : Trace → Sent
last_sent [] = silent
last_sent (m ∷ t) = or_earlier (sent_in m.answer) (last_sent t)

-- the accepted calls among those of `new`, which came after the trace `old`
abbrev pub ticks_in : Settings → Trace → Trace → ℕ
ticks_in s new old = Counts.ticks_in (accepted s) new old

abbrev pub never : Moment → Trace → Bool
never m t = false

abbrev pub reported : Moment → Trace → Bool
reported m t = reports m

-- no report among the calls of `new`
abbrev pub Quiet : Trace → Trace → Type 0
Quiet old new = Counts.Quiet reported never old new

-- the accepted calls after the latest report, or from the beginning on
abbrev pub since : Settings → Trace → ℕ
since s t = Counts.since (accepted s) reported never t

-- "nothing was sent yet; the larger less the smaller of this flow and the last one sent, rounded once, is at least ActFlowCOV"
abbrev pub differs : Float → Float → Sent → Bool
differs cov x silent = true
differs cov x (sent y) = le cov (apart x y)

-- whether the flow `x` after the trace `t` is due
unfoldable pub due_in : Settings → Trace → Float → Bool
due_in s t x = leb s.time (since s t + 1) && differs s.cov x (last_sent t)

-- The sentences, each at one call `m`, which came after the trace `t`.

-- spacing: two reports are never fewer accepted calls apart than ActFlowMinRepTime, `m` being the later one
abbrev pub Spacing : Settings → Moment → Trace → Type 0
Spacing s m t = (between : Trace) (x : Moment) (old : Trace) → t ≡ between ++ (x ∷ old) → reports x ≡ true → reports m ≡ true
    → s.time ≤ ticks_in s (m ∷ between) (x ∷ old)

-- waiting: where ActFlowMinRepTime accepted calls in a row pass without report and the last of them, `m`, has the flow `x`, a flow
-- was sent, and the rounded difference from the last one sent is below ActFlowCOV
abbrev pub Waiting : Settings → Moment → Trace → Type 0
Waiting s m t = (row old : Trace) (x : Float) → m ∷ t ≡ row ++ old → flow_in s m ≡ Ok (Some x) → ticks_in s row old ≡ s.time → Quiet old row
    → (y : Float) × (last_sent (m ∷ t) ≡ sent y) × (lt (apart x y) s.cov ≡ true)

-- content: a report carries the flow of its call and the percent of that flow, which is the greatest, and is the last one sent then
pub record Carries (s : Settings) (m : Moment) (t : Trace) : Type 0 where
  pub flow : Float
  pub percent : ℕ
  pub given : flow_in s m ≡ Ok (Some flow)
  pub said : m.answer ≡ Report flow percent
  pub greatest : Greatest s.nominal flow percent
  pub last : last_sent (m ∷ t) ≡ sent flow

abbrev pub Content : Settings → Moment → Trace → Type 0
Content s m t = reports m ≡ true → Carries s m t

-- a call with a flow reports just where it is due by the list
abbrev pub Due : Settings → Moment → Trace → Type 0
Due s m t = (x : Float) → flow_in s m ≡ Ok (Some x) → reports m ≡ due_in s t x

-- "Broken counts a tick and sends nothing", and what is refused sends nothing
abbrev pub Others : Settings → Moment → Trace → Type 0
Others s m t = ((x : Float) → flow_in s m ≡ Ok (Some x) → ⊥) → reports m ≡ false

-- 22, and "23, after 22"; no other call is refused
abbrev pub Refusal : Settings → Moment → Trace → Type 0
Refusal s m t = number_of m.answer ≡ pick (fit s) (pick (accepted s m t) 0 23) 22

-- what is accepted and does not report is answered by silence
abbrev pub Silence : Settings → Moment → Trace → Type 0
Silence s m t = accepted s m t ≡ true → reports m ≡ false → m.answer ≡ Silent

pub record Holds (s : Settings) (m : Moment) (t : Trace) : Type 0 where
  pub spacing : Spacing s m t
  pub waiting : Waiting s m t
  pub content : Content s m t
  pub due : Due s m t
  pub others : Others s m t
  pub refusal : Refusal s m t
  pub silence : Silence s m t

-- The claim about a whole trace.
abbrev pub Claim : Settings → Trace → Type 0
Claim s [] = Unit {0}
Claim s (m ∷ t) = Holds s m t × Claim s t

-- The calls of a list of readings, the first of them to the record `r`, each later one to the record that the one before left.
abbrev pub Step : Type 0
Step = FlowRecord → Reading → FlowOutcome

unfoldable pub trace_on : Step → FlowRecord → Trace → List Reading → Trace
trace_on step r t [] = t
trace_on step r t (got ∷ l) = trace_on step (step r got).state (moment got (step r got).answer ∷ t) l

unfoldable pub record_on : Step → FlowRecord → List Reading → FlowRecord
record_on step r [] = r
record_on step r (got ∷ l) = record_on step (step r got).state l

abbrev pub trace_of : Step → Settings → List Reading → Trace
trace_of step s l = trace_on step (fresh_of s) [] l

-- the record that agrees with a trace
abbrev pub flow_of : Sent → Float
flow_of silent = whole 0
flow_of (sent y) = y

abbrev pub flag_of : Sent → ℕ
flag_of silent = 0
flag_of (sent y) = 1

abbrev pub standing : Settings → Trace → FlowRecord
standing s t =
    record {
      nominal = s.nominal;
      cov = s.cov;
      last = flow_of (last_sent t);
      time = s.time;
      since = min (since s t) 65535;
      sent = flag_of (last_sent t);
    }
