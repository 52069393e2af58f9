-- Flow boxes, document 02's W-209. Each sentence of the request is here a theorem for every float, record, reading, trace or list that it
-- speaks of (a percent is that of a flow, a product that of a nominal flow): on one side the product's definition, on the other the sentence as `Paper` says it a second time. What the product says by products, differences
-- and comparisons of single floats stands there by the fractions that they are, and what it says by splits of a trace by places, by the
-- clock or by a number.
--
-- How to read it: crates/sentences/specs/Sentences.antt.
--   `S.` the request in its second form (Paper.antt); `C.` the product's definitions of the claim
-- Traces have the latest call first: `m ∷ t` is the call m after the trace t.
use Rattle.std.specs.Prelude.{◌≡◌, ◌↔◌, true, false, List, ◌++◌, ℕ, suc, ◌+◌, ◌≤◌, min, Float, Some, Ok, Err}
use Rattle.std.specs.Float.{binary32}
use Rattle.std.specs.Float.Ieee.{mul, le}
use Rattle.flow.specs.declared.Reading.{Reading}
use Rattle.flow.specs.declared.FlowRefusal.{FlowRefusal}
use Rattle.flow.specs.declared.FlowRefusal.TheVariants as By
use Rattle.flow.specs.declared.FlowRecord.{FlowRecord}
use Rattle.flow.specs.declared.FlowHeard.{FlowHeard}
use Rattle.flow.specs.Answer.{No, FlowOutcome}
use Rattle.flow.specs.Flow.{is_setting, is_flow, is_share, measured, percent_of, apart, fresh_record, well_formed, hear_of, outcome, heard}
use Rattle.flow_history.specs.Claim as C
use Rattle.flow_history.specs.Claim.{Settings, Moment, Trace, Step, silent, sent}
use Rattle.host_flow.specs.Host.{reading_of}
use Rattle.sentences_flow.specs.Paper as S
use Rattle.sentences_flow.specs.Floats as Floats
use Rattle.sentences_flow.specs.Calls as Calls
use Rattle.sentences_flow.specs.Counts as Counts
use Rattle.sentences_flow.specs.Holds as Holds
use Rattle.sentences_flow.specs.Lists as Lists

-- ── Single floats ──

-- "between 1 and 1,000,000"; "between 0 and 1,000,000, or 0 and 1 for a share; a NaN never is"
pub setting : (x : Float) → (is_setting x ≡ true) ↔ S.Between 1 1000000 x
setting x = Floats.same_setting x

pub flow : (x : Float) → (is_flow x ≡ true) ↔ S.Between 0 1000000 x
flow x = Floats.same_flow x

pub share : (x : Float) → (is_share x ≡ true) ↔ S.Between 0 1 x
share x = Floats.same_share x

-- "A share becomes a flow by one rounded product with nominal."
pub one_product : (n x : Float) → S.Between 1 1000000 n → S.Between 0 1 x → mul binary32 n x ≡ S.product n x
one_product n x a b = Floats.same_product n x a b

-- "Percent shown is the greatest whole p from 0 to 100 whose rounded product with nominal is not above the rounded product of 100 and the
-- flow.": it is one, and no other number is
pub percent : (n x : Float) → S.Between 1 1000000 n → S.Between 0 1000000 x → (p : ℕ) → (percent_of n x ≡ p) ↔ S.Percent n x p
percent n x a b p = Floats.same_percent n x a b p

-- "the larger less the smaller of this flow and the last one sent, rounded once, is at least ActFlowCOV"
pub at_least : (c x y : Float) → S.Between 1 1000000 c → S.Between 0 1000000 x → S.Between 0 1000000 y
    → (le c (apart x y) ≡ true) ↔ S.Differs c x y
at_least c x y a b d = Floats.same_differs c x y a b d

-- ── The record and one call ──

-- "A fresh record has since 0, nothing sent and 0 as last flow."
pub fresh : (nominal cov : Float) (time : ℕ) → fresh_record nominal cov time ≡ S.fresh nominal cov time
fresh nominal cov time = Calls.same_fresh nominal cov time

-- "22 when ..", "Both leave the record as given."
pub well_formed_lem : (r : FlowRecord) → (well_formed r ≡ false) ↔ S.By22 r
well_formed_lem r = Calls.same_22 r

pub refused_22 : (r : FlowRecord) (got : Reading) → S.By22 r → hear_of r got ≡ outcome r (No 22)
refused_22 r got b = Calls.refused_22 r got b

-- "23, after 22, when .."
pub refused_23 : (r : FlowRecord) (got : Reading) → (S.By22 r → ⊥) → S.By23 got → hear_of r got ≡ outcome r (No 23)
refused_23 r got n b = Calls.refused_23 r got n b

-- which readings these are, and that nothing else refuses one; and the flow of any other: "A share becomes a flow by one rounded product
-- with nominal."
pub not_measured : (n : Float) (got : Reading) (refusal : FlowRefusal)
    → (measured n got ≡ Err refusal) ↔ (S.By23 got × (refusal ≡ By.Reading))
not_measured n got refusal = Calls.same_refused n got refusal

pub measured_as : (n : Float) (got : Reading) (x : Float) → S.Between 1 1000000 n
    → (measured n got ≡ Ok (Some x)) ↔ ((S.By23 got → ⊥) × S.FlowOf n got x)
measured_as n got x a = Calls.same_measured n got x a

-- every other call is accepted: "One accepted call is one tick: since rises first. A report carries flow and percent, becomes the last flow
-- sent and sets since to 0. It is due when .." "Broken counts a tick and sends nothing."
pub hears : (r : FlowRecord) (got : Reading) (o : FlowOutcome) → (S.By22 r → ⊥) → (S.By23 got → ⊥) → (hear_of r got ≡ o) ↔ S.Hears r got o
hears r got o a b = Calls.same_hears r got o a b

-- so a record that 22 does not refuse is left as one that it does not refuse: flows stay from 0 to 1,000,000
pub stays : (r : FlowRecord) (got : Reading) → (S.By22 r → ⊥) → S.By22 (hear_of r got).state → ⊥
stays r got n = Calls.stays r got n

-- ── What a host hands over and is handed ──

pub reading : (kind : ℕ) (value : Float) (got : Reading) → S.ReadingOf kind value got → reading_of kind value ≡ got
reading kind value got k = Calls.same_reading kind value got k

-- another kind
pub no_reading : (kind : ℕ) (value : Float) → 3 ≤ kind → S.By23 (reading_of kind value)
no_reading kind value h = Calls.no_reading kind value h

pub handed : (o : FlowOutcome) (h : FlowHeard) → (heard o ≡ h) ↔ S.HandedOver o h
handed o h = Calls.same_handed o h

-- ── The list of readings ──

module _ (s : Settings) where
  -- "One accepted call is one tick"
  pub accepted : (m : Moment) (t : Trace) → (C.accepted s m t ≡ true) ↔ S.Accepted s m
  accepted m t = Counts.same_accepted s m t

  pub gives : (m : Moment) (x : Float) → (C.flow_in s m ≡ Ok (Some x)) ↔ S.Gives s m x
  gives m x = Counts.same_gives s m x

  pub ticks : (new old : Trace) (c : ℕ) → S.Clock s old c → S.Clock s (new ++ old) (C.ticks_in s new old + c)
  ticks new old c k = Counts.ticks_clock s new old c k

  -- the clock says one number
  pub one_clock : (t : Trace) (a b : ℕ) → S.Clock s t a → S.Clock s t b → a ≡ b
  one_clock t a b h k = Counts.one_clock s t a b h k

  pub since : (t : Trace) (n : ℕ) → (C.since s t ≡ n) ↔ S.Since s t n
  since t n = Counts.same_since s t n

  -- "It is due when since has reached the time and one of these holds", after a trace whose last flow sent, if any, is a flow
  pub due_flag : (t : Trace) (x : Float) (m : Moment) (n : ℕ) → S.Gives s m x → S.Since s t n
      → ((y : Float) → S.LastSent t y → S.Between 0 1000000 y) → (C.due_in s t x ≡ true) ↔ ((s.time ≤ suc n) × S.New s x t)
  due_flag t x m n g k f = Lists.due_flag s t x m n g k f

-- a report, and "last flow sent"
pub reports : (m : Moment) → (C.reports m ≡ true) ↔ S.Reports m
reports m = Counts.same_reports m

pub last_sent : (t : Trace) (y : Float) → (C.last_sent t ≡ sent y) ↔ S.LastSent t y
last_sent t y = Counts.same_last t y

pub none_sent : (t : Trace) → (C.last_sent t ≡ silent) ↔ S.NoReport t
none_sent t = Counts.same_none t

pub quiet : (old new : Trace) → C.Quiet old new ↔ S.NoReport new
quiet old new = (Counts.quiet_none old new, Counts.none_quiet old new)

-- The sentences of the claim, at the call `m` after the trace `t`.
module _ (s : Settings) (m : Moment) (t : Trace) where
  -- "The spacing .. limb[..] hold[s] here too"
  pub spacing : C.Spacing s m t ↔ S.Spacing s m t
  spacing = Holds.same_spacing s m t

  -- "A report carries flow and percent"
  pub content : C.Content s m t ↔ S.Content s m t
  content = Holds.same_content s m t

  -- "Broken .. sends nothing"
  pub others : C.Others s m t ↔ S.Others s m t
  others = Holds.same_others s m t

  -- "22 ..", "23, after 22, .."
  pub refusal : C.Refusal s m t ↔ S.Refusal s m t
  refusal = Holds.same_refusal s m t

  -- an accepted call is answered by a report or by silence
  pub silence : C.Silence s m t ↔ S.Silence s m t
  silence = Holds.same_silence s m t

  module _ (known : (y : Float) → S.LastSent t y → S.Between 0 1000000 y) where
    -- "It is due when .."
    pub due : C.Due s m t ↔ S.DueAt s m t
    due = Holds.same_due s m t (Lists.by_range t known)

    -- "The .. waiting limb[..] hold[s] here too, the last tick of a wait having a reading."
    pub waiting : C.Waiting s m t ↔ S.Waiting s m t
    waiting = Holds.same_waiting s m t (Lists.by_range t known)

-- at each call of a trace: of one that meets the claim the flows that were sent are flows
pub claim : (s : Settings) (t : Trace) → C.Claim s t ↔ S.Everywhere s t
claim s t = Lists.same_claim s t

-- readings given one after the other to a record, and the calls that they make
pub trace_of : (step : Step) (s : Settings) (l : List Reading) (t : Trace)
    → (C.trace_of step s l ≡ t) ↔ ((q : FlowRecord) × S.Given step (S.fresh s.nominal s.cov s.time) l q t)
trace_of step s l t = Lists.same_trace step s l t

-- Of the flow box, for every list of readings to every fresh record.
pub flow_claim : (s : Settings) (l : List Reading) (q : FlowRecord) (t : Trace)
    → S.Given hear_of (S.fresh s.nominal s.cov s.time) l q t → S.Everywhere s t
flow_claim s l q t g = Lists.all_hold s l q t g

-- And the record that such a list leaves is read off the list: the settings, "the ticks since (stopping at 65,535)", "last flow sent" and
-- "whether any was sent"
module _ (s : Settings) (l : List Reading) (q : FlowRecord) (t : Trace) (g : S.Given hear_of (S.fresh s.nominal s.cov s.time) l q t) where
  pub settings_kept : (q.nominal ≡ s.nominal) × (q.cov ≡ s.cov) × (q.time ≡ s.time)
  settings_kept = Lists.settings_kept s l q t g

  pub since_read : (n : ℕ) → S.Since s t n → q.since ≡ min n 65535
  since_read n k = Lists.since_read s l q t g n k

  pub last_read : (y : Float) → S.LastSent t y → (q.last ≡ y) × (q.sent ≡ 1)
  last_read y k = Lists.last_read s l q t g y k

  pub none_read : S.NoReport t → (q.last ≡ S.zero) × (q.sent ≡ 0)
  none_read k = Lists.none_read s l q t g k
