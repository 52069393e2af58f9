-- The claim is not empty: lists on which its sentences have something to say, by computation.
use Rattle.std.specs.Prelude.{◌≡◌, refl, true, [], ◌∷◌}
use Rattle.std.specs.Float.{nan}
use Rattle.std.specs.Float.Ieee.{lt}
use Rattle.numbers.specs.Counts as Counts
use Rattle.flow.specs.declared.Reading.TheVariants.{Flow, Broken}
use Rattle.flow.specs.Answer.{No, Silent, Report}
use Rattle.flow.specs.Flow.{whole, apart, well_formed, hear_of}
use Rattle.flow.specs.Closed.{computation}
use Rattle.flow_history.specs.Claim as C
use Rattle.flow_history.specs.Claim.{Trace, moment}
use Rattle.refuted_flow.specs.Refuted.{box, none}

-- 22 does not refuse such a box, so that its readings are accepted
pub taken : well_formed (C.fresh_of (box 2)) ≡ true
unfolding computation
taken = refl

-- two reports just as many ticks apart as the time, a broken reading between them
abbrev two : Trace
two = moment (Flow (whole 60)) (Report (whole 60) 60) ∷ moment Broken Silent ∷ []

abbrev before : Trace
before = moment (Flow (whole 50)) (Report (whole 50) 50) ∷ moment Broken Silent ∷ []

pub spaced : C.trace_of hear_of (box 2) (Broken ∷ Flow (whole 50) ∷ Broken ∷ Flow (whole 60) ∷ []) ≡ moment (Flow (whole 60)) (Report (whole 60) 60) ∷ moment Broken Silent ∷ before
unfolding computation C.trace_on
spaced = refl

pub two_apart : C.ticks_in (box 2) two before ≡ 2
unfolding computation Counts.ticks_in
two_apart = refl

-- a wait of two ticks without report: 54 is 4 from the 50 that was sent, and ActFlowCOV is 5
abbrev waited : Trace
waited = moment (Flow (whole 54)) Silent ∷ moment (Flow (whole 50)) Silent ∷ []

pub waiting : C.trace_of hear_of (box 2) (Broken ∷ Flow (whole 50) ∷ Flow (whole 50) ∷ Flow (whole 54) ∷ [])
    ≡ moment (Flow (whole 54)) Silent ∷ moment (Flow (whole 50)) Silent ∷ before
unfolding computation C.trace_on
waiting = refl

pub two_quiet : (C.ticks_in (box 2) waited before ≡ 2) × C.Quiet before waited × (lt (apart (whole 54) (whole 50)) (whole 5) ≡ true)
unfolding computation Counts.ticks_in
two_quiet = (refl, Counts.more refl refl (Counts.more refl refl Counts.none), refl)

-- a box whose nominal is 0 is refused by 22, before any reading is looked at
pub refused : C.trace_of hear_of none (Flow (whole 50) ∷ Flow nan ∷ Broken ∷ []) ≡ moment Broken (No 22) ∷ moment (Flow nan) (No 22) ∷ moment (Flow (whole 50)) (No 22) ∷ []
unfolding computation C.trace_on
refused = refl
