-- Proofs: the claim at each call of a trace, the trace of a list of readings, and the flow box.
use Rattle.std.proofs.Math.Path.{◌≡◌, refl, sym, ap}
use Rattle.std.proofs.Common.{subst, ◌∙◌, arith, add-one}
use Rattle.std.specs.Prelude.{◌↔◌, true, ℕ, suc, ◌≤◌, min, Float}
use mathlib.Core.List.{List, [], ◌∷◌, ◌++◌, append-nil}
use Rattle.std.proofs.Math.Seq.{append_snoc}
use Rattle.numbers.specs.Laws.{cases}
use Rattle.flow.specs.declared.Reading.{Reading}
use Rattle.flow.specs.declared.FlowRecord.{FlowRecord}
use Rattle.flow.specs.FloatLaws.{zero_is}
use Rattle.flow.specs.Flow.{hear_of}
use Rattle.flow_history.specs.Claim as C
use Rattle.flow_history.specs.Claim.{Settings, Moment, moment, Trace, Step, sent}
use Rattle.flow_history.specs.Theorem.{silent_in, flow_claim, flow_standing}
use Rattle.sentences_flow.specs.Paper as S
use Rattle.sentences_flow.specs.Calls as Calls
use Rattle.sentences_flow.specs.Counts.{carries_sent, report_carries, same_gives, same_since, same_last, same_none}
use Rattle.sentences_flow.specs.Floats.{same_flow}
use Rattle.sentences_flow.specs.Holds.{Known, flow_range, same_content, due_at_lem, same_holds}

-- ── At each call ──

-- a flow from 0 to 1,000,000, as the paper and as the product has it
pub by_range : (t : Trace) → ((y : Float) → S.LastSent t y → S.Between 0 1000000 y) → Known t
by_range t f y e = (same_flow y).1 (f y ((same_last t y).0 e))

module _ (s : Settings) where
  pub due_flag : (t : Trace) (x : Float) (m : Moment) (n : ℕ) → S.Gives s m x → S.Since s t n
      → ((y : Float) → S.LastSent t y → S.Between 0 1000000 y) → (C.due_in s t x ≡ true) ↔ ((s.time ≤ suc n) × S.New s x t)
  due_flag t x m n g k f = rw (← add-one n) (due_at_lem s m t (by_range t f) x n g k)

  -- nothing was sent before the first call
  known_none : Known []
  unfolding C.last_sent
  known_none y e = absurd (let z : ◌≡◌ {A = ℕ} 0 1 = cc in omega arith)

  -- what a report carries is the flow of its call, so one from 0 to 1,000,000
  known_more : (m : Moment) (t : Trace) → S.Content s m t → Known t → Known (m ∷ t)
  unfolding C.last_sent
  known_more m t f k y e =
      cases (C.reports m)
      (λ q.
      let r = report_carries m.answer q in
      let z : sent r.0 ≡ sent y = rw (carries_sent r.2) at e in
      let x : r.0 ≡ y = cc in
      rw (← x) (flow_range s m r.0 ((same_gives s m r.0).1 (f r.0 r.1 r.2).0)))
      (λ q. k y (rw (silent_in m.answer q) at e))

  claim_known : (t : Trace) → C.Claim s t → Known t
  claim_known [] c = known_none
  claim_known (m ∷ t) c = known_more m t ((same_content s m t).0 c.0.content) (claim_known t c.1)

  holds_known : (t : Trace) → S.Everywhere s t → Known t
  holds_known [] h = known_none
  holds_known (m ∷ t) h = known_more m t h.0.content (holds_known t h.1)

  pub same_claim : (t : Trace) → C.Claim s t ↔ S.Everywhere s t
  same_claim t = (there t, back t)
    where
      there : (t : Trace) → C.Claim s t → S.Everywhere s t
      there [] c = tt
      there (m ∷ t) c = ((same_holds s m t (claim_known t c.1)).0 c.0, there t c.1)

      back : (t : Trace) → S.Everywhere s t → C.Claim s t
      back [] h = tt
      back (m ∷ t) h = ((same_holds s m t (holds_known t h.1)).1 h.0, back t h.1)

-- ── The trace of a list of readings ──

module _ (step : Step) (first : FlowRecord) where
  given_on : (l : List Reading) {k : List Reading} {q : FlowRecord} {t : Trace} → S.Given step first k q t
      → S.Given step first (k ++ l) (C.record_on step q l) (C.trace_on step q t l)
  unfolding C.trace_on C.record_on
  given_on [] {k} g = rw append-nil g
  given_on (got ∷ l) {k} g = rw (← append_snoc k got l) (given_on l (S.one_more got g))

  trace_snoc : (l : List Reading) (got : Reading) (q : FlowRecord) (t : Trace)
      → C.trace_on step q t (l ++ (got ∷ [])) ≡ moment got (step (C.record_on step q l) got).answer ∷ C.trace_on step q t l
  unfolding C.trace_on C.record_on
  trace_snoc [] got q t = refl
  trace_snoc (x ∷ l) got q t = trace_snoc l got (step q x).state (moment x (step q x).answer ∷ t)

  record_snoc : (l : List Reading) (got : Reading) (q : FlowRecord)
      → C.record_on step q (l ++ (got ∷ [])) ≡ (step (C.record_on step q l) got).state
  unfolding C.record_on
  record_snoc [] got q = refl
  record_snoc (x ∷ l) got q = record_snoc l got (step q x).state

  given_only : {l : List Reading} {q : FlowRecord} {t : Trace} → S.Given step first l q t
      → (q ≡ C.record_on step first l) × (t ≡ C.trace_on step first [] l)
  unfolding C.trace_on C.record_on
  given_only S.none_given = (refl, refl)
  given_only (S.one_more {l} got g) =
      let e = given_only g in (
        ap (λ (r : FlowRecord). (step r got).state) e.0 ∙ sym (record_snoc l got first),
        (λ i. moment got (step (e.0 i) got).answer ∷ e.1 i) ∙ sym (trace_snoc l got first []),
      )

  given_trace : (l : List Reading) (t : Trace) → (C.trace_on step first [] l ≡ t) ↔ ((q : FlowRecord) × S.Given step first l q t)
  given_trace l t = (λ e. (_, subst (S.Given step first l _) e (given_on l S.none_given)), λ g. sym (given_only g.1).1)

pub same_trace : (step : Step) (s : Settings) (l : List Reading) (t : Trace)
    → (C.trace_of step s l ≡ t) ↔ ((q : FlowRecord) × S.Given step (S.fresh s.nominal s.cov s.time) l q t)
same_trace step s l t =
    subst (λ (r : FlowRecord). (C.trace_of step s l ≡ t) ↔ ((q : FlowRecord) × S.Given step r l q t))
    (Calls.same_fresh s.nominal s.cov s.time)
    (given_trace step (C.fresh_of s) l t)

-- ── The flow box ──

pub all_hold : (s : Settings) (l : List Reading) (q : FlowRecord) (t : Trace)
    → S.Given hear_of (S.fresh s.nominal s.cov s.time) l q t → S.Everywhere s t
all_hold s l q t g = subst (S.Everywhere s) ((same_trace hear_of s l t).1 (q, g)) ((same_claim s (C.trace_of hear_of s l)).0 (flow_claim s l))

-- the record that a list leaves
module _ (s : Settings) (l : List Reading) (q : FlowRecord) (t : Trace) (g : S.Given hear_of (S.fresh s.nominal s.cov s.time) l q t) where
  stands : q ≡ C.standing s t
  stands =
      let h = subst (λ (r : FlowRecord). S.Given hear_of r l q t) (sym (Calls.same_fresh s.nominal s.cov s.time)) g in
      let e = given_only hear_of (C.fresh_of s) h in
      e.0 ∙ flow_standing s l ∙ ap (C.standing s) (sym e.1)

  pub settings_kept : (q.nominal ≡ s.nominal) × (q.cov ≡ s.cov) × (q.time ≡ s.time)
  settings_kept = rw stands (refl, refl, refl)

  pub since_read : (n : ℕ) → S.Since s t n → q.since ≡ min n 65535
  since_read n k = rw stands (ap (λ (u : ℕ). min u 65535) ((same_since s t n).1 k))

  pub last_read : (y : Float) → S.LastSent t y → (q.last ≡ y) × (q.sent ≡ 1)
  last_read y k = let e = (same_last t y).1 k in rw stands (ap C.flow_of e, ap C.flag_of e)

  pub none_read : S.NoReport t → (q.last ≡ S.zero) × (q.sent ≡ 0)
  none_read k = let e = (same_none t).1 k in rw stands (ap C.flow_of e ∙ zero_is, ap C.flag_of e)
