-- Wrong wordings of the claim: each is false of the flow box itself, at the last call of a list.
use Rattle.std.specs.Prelude.{◌≡◌, refl, Bool, true, false, ◌&&◌, List, [], ◌∷◌, ◌++◌, ℕ, ◌+◌, ◌≤◌, leb, Float, Option, Some, None, Result, Ok, Err}
use Rattle.std.proofs.Common.{sym, arith}
use Rattle.std.proofs.lemmas.Bool.{false≢true}
use Rattle.std.specs.Float.{nan}
use Rattle.std.specs.Float.Ieee.{le, lt}
use Rattle.numbers.specs.Counts as Counts
use Rattle.flow.specs.declared.Reading.{Reading}
use Rattle.flow.specs.declared.Reading.TheVariants.{Flow, Broken}
use Rattle.flow.specs.declared.FlowRefusal.{FlowRefusal}
use Rattle.flow.specs.Flow.{whole, apart, hear_of}
use Rattle.flow.specs.Closed.{computation}
use Rattle.flow_history.specs.Claim as C
use Rattle.flow_history.specs.Claim.{Settings, Moment, Trace, Sent, silent, sent}
use Rattle.refuted_flow.specs.Refuted.{box}

-- a sentence at one call, which came after a trace
abbrev Sentence : Type 1
Sentence = Settings → Moment → Trace → Type 0

-- at the last call of a trace
abbrev AtLast : Sentence → Settings → Trace → Type 0
AtLast says s [] = Unit {0}
AtLast says s (m ∷ t) = says s m t

-- false of the flow box at the last call of a list
abbrev Wrong : Sentence → ℕ → List Reading → Type 0
Wrong says time l = AtLast says (box time) (C.trace_of hear_of (box time) l) → ⊥

-- spacing by one tick more
abbrev further_apart : Sentence
further_apart s m t = (between : Trace) (x : Moment) (old : Trace) → t ≡ between ++ (x ∷ old) → C.reports x ≡ true → C.reports m ≡ true
    → s.time + 1 ≤ C.ticks_in s (m ∷ between) (x ∷ old)

pub further_apart_lem : Wrong further_apart 1 (Flow (whole 50) ∷ Flow (whole 60) ∷ [])
unfolding computation C.trace_on Counts.ticks_in
further_apart_lem w = let z : 2 ≤ 1 = w [] _ [] refl refl refl in omega arith

-- waiting by one tick fewer
abbrev sooner : Sentence
sooner s m t = (row old : Trace) (x : Float) → m ∷ t ≡ row ++ old → C.flow_in s m ≡ Ok (Some x)
    → C.ticks_in s row old + 1 ≡ s.time → C.Quiet old row
    → (y : Float) × (C.last_sent (m ∷ t) ≡ sent y) × (lt (apart x y) s.cov ≡ true)

pub sooner_is_wrong : Wrong sooner 2 (Flow (whole 50) ∷ [])
unfolding computation C.trace_on C.last_sent Counts.ticks_in
sooner_is_wrong w =
    let z = w (_ ∷ []) [] (whole 50) refl refl refl (Counts.more refl refl Counts.none) in
    let e : silent ≡ sent z.0 = z.1 in
    let n : ◌≡◌ {A = ℕ} 0 1 = cc in
    omega arith

-- waiting whose last tick need not have a reading: broken ends a wait, though the first flow was never sent
abbrev without_reading : Sentence
without_reading s m t = (row old : Trace) → m ∷ t ≡ row ++ old → C.ticks_in s row old ≡ s.time → C.Quiet old row
    → (y : Float) × (C.last_sent (m ∷ t) ≡ sent y)

pub without_reading_lem : Wrong without_reading 1 (Broken ∷ [])
unfolding computation C.trace_on C.last_sent Counts.ticks_in
without_reading_lem w =
    let z = w (_ ∷ []) [] refl refl (Counts.more refl refl Counts.none) in
    let e : silent ≡ sent z.0 = z.1 in
    let n : ◌≡◌ {A = ℕ} 0 1 = cc in
    omega arith

-- due by other ticks, or by another difference
abbrev due_by : (Settings → Counts.Test Moment) → (Float → Float → Sent → Bool) → Sentence
due_by tick differs s m t = (x : Float) → C.flow_in s m ≡ Ok (Some x)
    → C.reports m ≡ (leb s.time (Counts.since (tick s) C.reported C.never t + 1) && differs s.cov x (C.last_sent t))

-- of the claim's own it is the claim's
pub own : (s : Settings) (m : Moment) (t : Trace) → due_by C.accepted C.differs s m t ≡ C.Due s m t
unfolding C.due_in
own s m t = refl

-- broken is no tick
abbrev flows_only : Result (Option Float) FlowRefusal → Bool
flows_only (Ok (Some x)) = true
flows_only (Ok None) = false
flows_only (Err refusal) = false

pub broken_is_no_tick : Wrong (due_by (λ s m t. flows_only (C.flow_in s m)) C.differs) 2 (Broken ∷ Flow (whole 50) ∷ [])
unfolding computation C.trace_on C.last_sent Counts.since
broken_is_no_tick w = false≢true (sym (w (whole 50) refl))

-- a refused call is a tick
pub refused_is_a_tick : Wrong (due_by (λ s m t. true) C.differs) 2 (Flow nan ∷ Flow (whole 50) ∷ [])
unfolding computation C.trace_on C.last_sent Counts.since
refused_is_a_tick w = false≢true (w (whole 50) refl)

-- the first report, too, is due only by its difference from 0
abbrev from_zero : Float → Float → Sent → Bool
from_zero cov x silent = le cov (apart x (whole 0))
from_zero cov x (sent y) = le cov (apart x y)

pub first_by_difference : Wrong (due_by C.accepted from_zero) 1 (Flow (whole 3) ∷ [])
unfolding computation C.trace_on C.last_sent Counts.since
first_by_difference w = false≢true (sym (w (whole 3) refl))

-- a difference of ActFlowCOV is not enough
abbrev above : Float → Float → Sent → Bool
above cov x silent = true
above cov x (sent y) = lt cov (apart x y)

pub above_is_wrong : Wrong (due_by C.accepted above) 1 (Flow (whole 50) ∷ Flow (whole 55) ∷ [])
unfolding computation C.trace_on C.last_sent Counts.since
above_is_wrong w = false≢true (sym (w (whole 55) refl))
