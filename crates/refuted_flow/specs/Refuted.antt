-- The claim refuses each wrong flow box, by a closed list.
use Rattle.std.specs.Prelude.{◌≡◌, refl, false, List, [], ◌∷◌, ℕ, ◌≤◌, pos, Float, Option, Some, Result, Ok}
use Rattle.std.proofs.Common.{sym, ap, ◌∙◌, arith}
use Rattle.std.proofs.lemmas.Bool.{false≢true}
use Rattle.std.specs.Float.{nan, fin, binary32}
use Rattle.std.specs.Float.Ieee.{of_bits, div}
use Rattle.std.specs.Float.Ieee.Positive.{num}
use Rattle.numbers.specs.Counts as Counts
use Rattle.flow.specs.declared.Reading.{Reading}
use Rattle.flow.specs.declared.Reading.TheVariants.{Flow, Share, Broken}
use Rattle.flow.specs.declared.FlowRefusal.{FlowRefusal}
use Rattle.flow.specs.Answer.{No, Silent, Report}
use Rattle.flow.specs.Flow.{whole, percent_of, Greatest}
use Rattle.flow.specs.PercentLaws.{greatest_unique}
use Rattle.flow.specs.Closed.{computation}
use Rattle.flow_history.specs.Claim as C
use Rattle.flow_history.specs.Claim.{Settings, Step}
use Rattle.refuted_flow.specs.Wrong as W

abbrev pub box : ℕ → Settings
box time = record { nominal = whole 100; cov = whole 5; time = time }

abbrev RefusedBy : Settings → Step → List Reading → Type 0
RefusedBy s step l = C.Claim s (C.trace_of step s l) → ⊥

abbrev Refused : Step → ℕ → List Reading → Type 0
Refused step time l = RefusedBy (box time) step l

pub never_reports : Refused W.never_reports 1 (Flow (whole 50) ∷ [])
unfolding computation C.trace_on C.due_in C.last_sent Counts.since W.never_reports
never_reports c = false≢true (c.0.due (whole 50) refl)

-- the same by the sentence about waiting
pub never_reports_waiting : Refused W.never_reports 1 (Flow (whole 50) ∷ [])
unfolding computation C.trace_on C.last_sent Counts.ticks_in W.never_reports
never_reports_waiting c =
    let w = c.0.waiting (_ ∷ []) [] (whole 50) refl refl refl (Counts.more refl refl Counts.none) in
    let e : C.silent ≡ C.sent w.0 = w.1 in
    let z : ◌≡◌ {A = ℕ} 0 1 = cc in
    omega arith

pub from_previous : Refused W.from_previous 1 (Flow (whole 50) ∷ Flow (whole 53) ∷ Flow (whole 55) ∷ [])
unfolding computation C.trace_on C.due_in C.last_sent Counts.since W.from_previous
from_previous c = false≢true (c.0.due (whole 55) refl)

pub rises_late : Refused W.rises_late 1 (Flow (whole 50) ∷ [])
unfolding computation C.trace_on C.due_in C.last_sent Counts.since W.rises_late
rises_late c = false≢true (c.0.due (whole 50) refl)

pub skips_broken : Refused W.skips_broken 2 (Broken ∷ Flow (whole 50) ∷ [])
unfolding computation C.trace_on C.due_in C.last_sent Counts.since W.skips_broken
skips_broken c = false≢true (c.0.due (whole 50) refl)

pub counts_refused : Refused W.counts_refused 2 (Flow nan ∷ Flow (whole 50) ∷ [])
unfolding computation C.trace_on C.due_in C.last_sent Counts.since W.counts_refused
counts_refused c = false≢true (sym (c.0.due (whole 50) refl))

pub takes_nan : Refused W.takes_nan 1 (Flow nan ∷ [])
unfolding computation C.trace_on W.takes_nan
takes_nan c = let z : ◌≡◌ {A = ℕ} 0 23 = c.0.refusal in omega arith

abbrev unset : Settings
unset = record { nominal = nan; cov = whole 5; time = 1 }

pub takes_nan_settings : RefusedBy unset W.takes_nan_settings (Broken ∷ [])
unfolding computation C.trace_on W.takes_nan_settings
takes_nan_settings c = let z : ◌≡◌ {A = ℕ} 0 22 = c.0.refusal in omega arith

-- 1,000,000 is a flow, 1 a share and -0 a flow
pub ends_out : Refused W.ends_out 1 (Flow (whole 1000000) ∷ [])
unfolding computation C.trace_on W.ends_out
ends_out c = let z : ◌≡◌ {A = ℕ} 23 0 = c.0.refusal in omega arith

pub ends_out_share : Refused W.ends_out 1 (Share (whole 1) ∷ [])
unfolding computation C.trace_on W.ends_out
ends_out_share c = let z : ◌≡◌ {A = ℕ} 23 0 = c.0.refusal in omega arith

pub ends_out_zero : Refused W.ends_out 1 (Flow (of_bits binary32 0x80000000) ∷ [])
unfolding computation C.trace_on W.ends_out
ends_out_zero c = let z : ◌≡◌ {A = ℕ} 23 0 = c.0.refusal in omega arith

pub broken_resets : Refused W.broken_resets 2 (Flow (whole 50) ∷ Broken ∷ Flow (whole 50) ∷ [])
unfolding computation C.trace_on C.due_in C.last_sent Counts.since W.broken_resets
broken_resets c = false≢true (c.0.due (whole 50) refl)

pub refuses_by_none : Refused W.refuses_by_none 2 (Flow (whole 50) ∷ [])
unfolding computation C.trace_on W.refuses_by_none
refuses_by_none c =
    let e : No 0 ≡ Silent = c.0.silence refl refl in
    let z : ◌≡◌ {A = ℕ} 0 1 = cc in
    omega arith

pub never_waits : Refused W.never_waits 2 (Flow (whole 50) ∷ Flow (whole 60) ∷ [])
unfolding computation C.trace_on Counts.ticks_in W.never_waits
never_waits c = let z : 2 ≤ 1 = c.0.spacing [] _ [] refl refl refl in omega arith

-- what a report shows is the percent of what it carries
same_flow : (a x : Float) (p q : ℕ) → Report a p ≡ Report x q → a ≡ x
same_flow a x p q e = cc

same_percent : (a x : Float) (p q : ℕ) → Report a p ≡ Report x q → p ≡ q
same_percent a x p q e = cc

shown : (n a x : Float) (p q : ℕ) → Report a p ≡ Report x q → Greatest n x q → p ≡ percent_of n a
shown n a x p q e g = same_percent a x p q e ∙ greatest_unique n x q g ∙ ap (percent_of n) (sym (same_flow a x p q e))

pub shows_less : Refused W.shows_less 1 (Flow (whole 50) ∷ [])
unfolding computation C.trace_on W.shows_less
shows_less c =
    let k = c.0.content refl in
    let z : ◌≡◌ {A = ℕ} 49 50 = shown (whole 100) (whole 50) k.flow 49 k.percent k.said k.greatest in
    omega arith

-- a flow of 0.45 shows 15 at nominal 3, and by a division 14
abbrev three : Settings
three = record { nominal = whole 3; cov = whole 5; time = 1 }

abbrev little_flow : Float
little_flow = of_bits binary32 0x3ee66666

pub divides : RefusedBy three W.divides (Flow little_flow ∷ [])
unfolding computation div C.trace_on W.divides
divides c =
    let k = c.0.content refl in
    let z : ◌≡◌ {A = ℕ} 14 15 = shown (whole 3) little_flow k.flow 14 k.percent k.said k.greatest in
    omega arith

-- 0.01 of nominal 1 shows 1, though the single float of it is less
abbrev one : Settings
one = record { nominal = whole 1; cov = whole 5; time = 1 }

abbrev hundredth : Float
hundredth = of_bits binary32 0x3c23d70a

pub shows_exactly : RefusedBy one W.shows_exactly (Flow hundredth ∷ [])
unfolding computation C.trace_on W.shows_exactly
shows_exactly c =
    let k = c.0.content refl in
    let z : ◌≡◌ {A = ℕ} 0 1 = shown (whole 1) hundredth k.flow 0 k.percent k.said k.greatest in
    omega arith

-- 0.53 of nominal 1000 is 530 and shows 53
abbrev thousand : Settings
thousand = record { nominal = whole 1000; cov = whole 5; time = 1 }

abbrev some : Float
some = of_bits binary32 0x3f07ae14

pub shows_share : RefusedBy thousand W.shows_share (Share some ∷ [])
unfolding computation C.trace_on W.shows_share
shows_share c =
    let k = c.0.content refl in
    let z : ◌≡◌ {A = ℕ} 52 53 = shown (whole 1000) (fin false 265 (pos 1)) k.flow 52 k.percent k.said k.greatest in
    omega arith

-- 99 of nominal 200 shows 49
abbrev two_hundred : Settings
two_hundred = record { nominal = whole 200; cov = whole 5; time = 1 }

pub shows_nearest : RefusedBy two_hundred W.shows_nearest (Flow (whole 99) ∷ [])
unfolding computation C.trace_on W.shows_nearest
shows_nearest c =
    let k = c.0.content refl in
    let z : ◌≡◌ {A = ℕ} 50 49 = shown (whole 200) (whole 99) k.flow 50 k.percent k.said k.greatest in
    omega arith

-- half of nominal 100 is 50
abbrev half : Float
half = of_bits binary32 0x3f000000

same_at : (a x : Float) → ◌≡◌ {A = Result (Option Float) FlowRefusal} (Ok (Some a)) (Ok (Some x)) → a ≡ x
same_at a x e = cc

pub shares_as_flows : Refused W.shares_as_flows 1 (Share half ∷ [])
unfolding computation C.trace_on W.shares_as_flows
shares_as_flows c =
    let k = c.0.content refl in
    let e : half ≡ k.flow = same_flow half k.flow 0 k.percent k.said in
    let f : whole 50 ≡ k.flow = same_at (whole 50) k.flow k.given in
    let z : ◌≡◌ {A = ℕ} 1 50 = ap num (e ∙ sym f) in
    omega arith

abbrev pub none : Settings
none = record { nominal = whole 0; cov = whole 5; time = 1 }

pub reading_first : RefusedBy none W.reading_first (Flow nan ∷ [])
unfolding computation C.trace_on W.reading_first
reading_first c = let z : ◌≡◌ {A = ℕ} 23 22 = c.0.refusal in omega arith

pub compares_first : Refused W.compares_first 1 (Flow (whole 3) ∷ [])
unfolding computation C.trace_on C.due_in C.last_sent Counts.since W.compares_first
compares_first c = false≢true (c.0.due (whole 3) refl)

pub reports_again : Refused W.reports_again 1 (Flow (whole 50) ∷ Flow (whole 50) ∷ [])
unfolding computation C.trace_on C.due_in C.last_sent Counts.since W.reports_again
reports_again c = false≢true (sym (c.0.due (whole 50) refl))

-- 1,000,000 less the smallest float above 0 is 1,000,000 once it is rounded
abbrev million : Settings
million = record { nominal = whole 1; cov = whole 1000000; time = 1 }

abbrev smallest : Float
smallest = of_bits binary32 1

pub differs_exactly : RefusedBy million W.differs_exactly (Flow (whole 1000000) ∷ Flow smallest ∷ [])
unfolding computation C.trace_on C.due_in C.last_sent Counts.since W.differs_exactly
differs_exactly c = false≢true (c.0.due smallest refl)

pub keeps_none : Refused W.keeps_none 1 (Flow (whole 50) ∷ Flow (whole 50) ∷ [])
unfolding computation C.trace_on C.due_in C.last_sent Counts.since W.keeps_none
keeps_none c = false≢true (sym (c.0.due (whole 50) refl))
