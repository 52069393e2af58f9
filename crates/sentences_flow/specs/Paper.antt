-- Document 02, W-209, sentence by sentence, in a second form. A single float is here the fraction `num` / `den` that it stands for, with its
-- sign beside it: these fractions are held against a range, multiplied and subtracted, where the product's definitions do so with floats.
-- `round`, the single float that is nearest to a fraction, and what is compared after it are the kit's account of IEEE 754.
-- A trace is a list of calls, the latest first; a sentence about it speaks of the call `m`, which came after the trace `t`.
use Rattle.std.specs.Prelude.{◌≡◌, ◌↔◌, Bool, true, false, List, [], ◌∷◌, ◌++◌, ℕ, suc, ◌+◌, ◌-◌, ◌*◌, ◌≤◌, ◌<◌, min, ℤ, pos, drop, Float}
use Rattle.std.specs.Float.{nan, inf, fin, binary32}
use Rattle.std.specs.Float.Ieee.{round, lt}
use Rattle.std.specs.Float.Ieee.Positive.{num, den}
use Rattle.flow.specs.declared.Reading.{Reading}
use Rattle.flow.specs.declared.Reading.TheVariants.{Flow, Share, Broken}
use Rattle.flow.specs.declared.FlowRecord.{FlowRecord}
use Rattle.flow_history.specs.Claim.{Settings, Moment, Trace, Step}
use Rattle.flow.specs.declared.FlowHeard.{FlowHeard}
use Rattle.flow.specs.Answer.{FlowAnswer, No, Silent, Report, FlowOutcome}

-- ── Single floats ──

-- a number: no NaN and no infinity
pub data Number : Float → Type 0 where
  number : (s : Bool) (m : ℕ) (e : ℤ) → Number (fin s m e)

-- the sign is set; of a zero too
abbrev pub negative : Float → Bool
negative nan = false
negative (inf s) = s
negative (fin s m e) = s

-- "between": both ends counted in, and -0 is 0
pub record Between (low high : ℕ) (x : Float) : Type 0 where
  pub finite : Number x
  pub sign : negative x ≡ true → num x ≡ 0
  pub least : low * den x ≤ num x
  pub most : num x ≤ high * den x

-- 0
abbrev pub zero : Float
zero = fin false 0 (pos 0)

-- a product of a whole number, and of a float that is not negative, with a float: exact, and then "rounded" to the nearest single float
abbrev pub times : ℕ → Float → Float
times k x = round binary32 (negative x) (k * num x) (den x)

abbrev pub product : Float → Float → Float
product n x = round binary32 (negative x) (num n * num x) (den n * den x)

-- "Percent shown is the greatest whole p from 0 to 100 whose rounded product with nominal is not above the rounded product of 100 and the
-- flow."
pub record Percent (nominal x : Float) (p : ℕ) : Type 0 where
  pub most : p ≤ 100
  pub not_above : lt (times 100 x) (times p nominal) ≡ false
  pub greatest : (q : ℕ) → p < q → q ≤ 100 → lt (times 100 x) (times q nominal) ≡ true

-- "the larger less the smaller .., rounded once": the larger fraction less the smaller
abbrev pub difference : Float → Float → Float
difference x y =
    let a = num x * den y in
    let b = num y * den x in
    round binary32 false ((a - b) + (b - a)) (den x * den y)

-- "is at least ActFlowCOV"
abbrev pub Differs : Float → Float → Float → Type 0
Differs cov x y = lt (difference x y) cov ≡ false

-- ── The record and one call ──

-- "A fresh record has since 0, nothing sent and 0 as last flow."
abbrev pub fresh : Float → Float → ℕ → FlowRecord
fresh nominal cov time = record { nominal = nominal; cov = cov; last = zero; time = time; since = 0; sent = 0 }

-- "22 when nominal or ActFlowCOV isn't between 1 and 1,000,000, the time is outside 1 to 3600, or the last flow sent isn't between 0 and
-- 1,000,000."
pub data By22 (r : FlowRecord) : Type 0 where
  nominal_out : (Between 1 1000000 r.nominal → ⊥) → By22 r
  cov_out : (Between 1 1000000 r.cov → ⊥) → By22 r
  time_below : r.time < 1 → By22 r
  time_above : 3600 < r.time → By22 r
  last_out : (Between 0 1000000 r.last → ⊥) → By22 r
  -- ours: the flag is 0 or 1
  flag_out : 1 < r.sent → By22 r

-- "23, after 22, when a reading is not between 0 and 1,000,000, or 0 and 1 for a share"
pub data By23 : Reading → Type 0 where
  flow_out : (x : Float) → (Between 0 1000000 x → ⊥) → By23 (Flow x)
  share_out : (x : Float) → (Between 0 1 x → ⊥) → By23 (Share x)

-- "A share becomes a flow by one rounded product with nominal."
pub data FlowOf (nominal : Float) : Reading → Float → Type 0 where
  a_flow : (x : Float) → FlowOf nominal (Flow x) x
  a_share : (x : Float) → FlowOf nominal (Share x) (product nominal x)

-- "since rises first", "stopping at 65,535"
abbrev pub risen : FlowRecord → ℕ
risen r = min (suc r.since) 65535

-- "It is due when since has reached the time and one of these holds: nothing was sent yet; the larger less the smaller of this flow and the
-- last one sent, rounded once, is at least ActFlowCOV."
pub data Due (r : FlowRecord) (x : Float) : Type 0 where
  first_one : r.time ≤ risen r → r.sent ≡ 0 → Due r x
  far_enough : r.time ≤ risen r → Differs r.cov x r.last → Due r x

-- the record after an accepted call, which differs from the one before in these three
abbrev pub after : FlowRecord → Float → ℕ → ℕ → FlowRecord
after r last since sent = record { nominal = r.nominal; cov = r.cov; last = last; time = r.time; since = since; sent = sent }

-- An accepted call: "A report carries flow and percent, becomes the last flow sent and sets since to 0." "Broken counts a tick and sends
-- nothing."
pub data Hears (r : FlowRecord) : Reading → FlowOutcome → Type 0 where
  sends : {got : Reading} {x : Float} {p : ℕ} → FlowOf r.nominal got x → Due r x → Percent r.nominal x p
      → Hears r got (record { state = after r x 0 1; answer = Report x p })
  keeps_silent : {got : Reading} {x : Float} → FlowOf r.nominal got x → (Due r x → ⊥)
      → Hears r got (record { state = after r r.last (risen r) r.sent; answer = Silent })
  hears_broken : Hears r Broken (record { state = after r r.last (risen r) r.sent; answer = Silent })

-- ── What a host hands over and is handed ──

-- kinds 0, 1 and 2
pub data ReadingOf : ℕ → Float → Reading → Type 0 where
  kind_0 : (x : Float) → ReadingOf 0 x (Flow x)
  kind_1 : (x : Float) → ReadingOf 1 x (Share x)
  kind_2 : (x : Float) → ReadingOf 2 x Broken

-- an answer as a flow, a refusal, a flag and a percent
pub data Handed : FlowAnswer → Float → ℕ → ℕ → ℕ → Type 0 where
  hand_refusal : (n : ℕ) → Handed (No n) zero n 0 0
  hand_silence : Handed Silent zero 0 0 0
  hand_report : (x : Float) (p : ℕ) → Handed (Report x p) x 0 1 p

pub record HandedOver (o : FlowOutcome) (h : FlowHeard) : Type 0 where
  pub state : h.state ≡ o.state
  pub answer : Handed o.answer h.flow h.refusal h.reported h.percent

-- ── The list of readings ──

-- 22 by the settings alone, as of a fresh record
abbrev pub Refused : Settings → Type 0
Refused s = By22 (fresh s.nominal s.cov s.time)

-- a call that is accepted, by the settings and its reading
pub record Accepted (s : Settings) (m : Moment) : Type 0 where
  pub not_22 : Refused s → ⊥
  pub not_23 : By23 m.reading → ⊥

-- an accepted call with a flow
pub record Gives (s : Settings) (m : Moment) (x : Float) : Type 0 where
  pub accepted : Accepted s m
  pub flow : FlowOf s.nominal m.reading x

-- an answer that carries a flow and a percent
pub data Carries : FlowAnswer → Float → ℕ → Type 0 where
  carrying : (x : Float) (p : ℕ) → Carries (Report x p) x p

abbrev pub Reports : Moment → Type 0
Reports m = (x : Float) × (p : ℕ) × Carries m.answer x p

-- "One accepted call is one tick": `n` ticks have passed from the beginning up to the end of a trace
pub data Clock (s : Settings) : Trace → ℕ → Type 0 where
  start : Clock s [] 0
  tick : {m : Moment} {t : Trace} {n : ℕ} → Accepted s m → Clock s t n → Clock s (m ∷ t) (suc n)
  no_tick : {m : Moment} {t : Trace} {n : ℕ} → (Accepted s m → ⊥) → Clock s t n → Clock s (m ∷ t) n

-- no report among these calls
abbrev pub NoReport : Trace → Type 0
NoReport t = (later : Trace) (x : Moment) (earlier : Trace) → t ≡ later ++ (x ∷ earlier) → Reports x → ⊥

-- `n` ticks came after the latest report, or from the beginning on
pub data Since (s : Settings) (t : Trace) (n : ℕ) : Type 0 where
  beginning : NoReport t → Clock s t n → Since s t n
  after_report : (new : Trace) (x : Moment) (old : Trace) (c : ℕ) → t ≡ new ++ (x ∷ old) → Reports x → NoReport new → Clock s (x ∷ old) c
      → Clock s t (c + n) → Since s t n

-- the last flow sent
pub record LastSent (t : Trace) (y : Float) : Type 0 where
  pub new : Trace
  pub at : Moment
  pub old : Trace
  pub split : t ≡ new ++ (at ∷ old)
  pub percent : ℕ
  pub carries : Carries at.answer y percent
  pub none_since : NoReport new

-- what has to be sent: "nothing was sent yet; the larger less the smaller of this flow and the last one sent, rounded once, is at least
-- ActFlowCOV"
pub data New (s : Settings) (x : Float) (t : Trace) : Type 0 where
  none_yet : NoReport t → New s x t
  far_from : (y : Float) → LastSent t y → Differs s.cov x y → New s x t

-- "The spacing .. [limb holds] here too". By places: `i` calls stand between the two reports.
abbrev pub Spacing : Settings → Moment → Trace → Type 0
Spacing s m t = (i : ℕ) (x : Moment) (old : Trace) (c d : ℕ) → drop i t ≡ x ∷ old → Reports x → Reports m → Clock s (x ∷ old) c
    → Clock s (m ∷ t) d → c + s.time ≤ d

-- "The .. waiting limb[..] hold[s] here too, the last tick of a wait having a reading." By a number: after so many ticks since the latest
-- report, this one counted, a call with a flow that is not reported has nothing new.
abbrev pub Waiting : Settings → Moment → Trace → Type 0
Waiting s m t = (x : Float) → Gives s m x → (Reports m → ⊥) → (n : ℕ) → Since s t n → s.time ≤ suc n → New s x t → ⊥

-- "A report carries flow and percent": of its own call
abbrev pub Content : Settings → Moment → Trace → Type 0
Content s m t = (x : Float) (p : ℕ) → Carries m.answer x p → Gives s m x × Percent s.nominal x p

-- "It is due when ..", and only then
abbrev pub DueAt : Settings → Moment → Trace → Type 0
DueAt s m t = (x : Float) (n : ℕ) → Gives s m x → Since s t n → Reports m ↔ ((s.time ≤ suc n) × New s x t)

-- "Broken .. sends nothing", and neither does what is refused
abbrev pub Others : Settings → Moment → Trace → Type 0
Others s m t = Reports m → (x : Float) × Gives s m x

-- the number of an answer
pub data NumberOf : FlowAnswer → ℕ → Type 0 where
  number_no : (n : ℕ) → NumberOf (No n) n
  number_silent : NumberOf Silent 0
  number_report : (x : Float) (p : ℕ) → NumberOf (Report x p) 0

-- "22 ..", "23, after 22, ..", and 0 of what is accepted
pub record Refusal (s : Settings) (m : Moment) (t : Trace) : Type 0 where
  pub by_22 : Refused s → NumberOf m.answer 22
  pub by_23 : (Refused s → ⊥) → By23 m.reading → NumberOf m.answer 23
  pub by_none : Accepted s m → NumberOf m.answer 0

-- and an answer to what is accepted is silence where it is no report
abbrev pub Silence : Settings → Moment → Trace → Type 0
Silence s m t = Accepted s m → (Reports m → ⊥) → m.answer ≡ Silent

pub record Holds (s : Settings) (m : Moment) (t : Trace) : Type 0 where
  pub spacing : Spacing s m t
  pub waiting : Waiting s m t
  pub content : Content s m t
  pub due : DueAt s m t
  pub others : Others s m t
  pub refusal : Refusal s m t
  pub silence : Silence s m t

-- at each call of a trace
abbrev pub Everywhere : Settings → Trace → Type 0
Everywhere s [] = Unit {0}
Everywhere s (m ∷ t) = Holds s m t × Everywhere s t

-- Readings given one after the other, each to the record that the one before left, refused or not: the record after them, and the trace.
pub data Given (step : Step) (r : FlowRecord) : List Reading → FlowRecord → Trace → Type 0 where
  none_given : Given step r [] r []
  one_more : {l : List Reading} {q : FlowRecord} {t : Trace} (got : Reading) → Given step r l q t
      → Given step r (l ++ (got ∷ [])) (step q got).state (record { reading = got; answer = (step q got).answer } ∷ t)
