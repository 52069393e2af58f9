-- Laws of the flow record: what 22 asks, part by part, and that a record which it does not refuse stays so.
use Rattle.std.specs.Prelude.{◌≡◌, refl, true, false, ◌&&◌, ℕ, ◌≤◌, T, leb, Float, Option, Some, None, Result, Ok, Err}
use Rattle.std.proofs.Common.{subst, ◌∙◌, arith, leb-true}
use Rattle.std.proofs.Math.Bool.{and-true}
use Rattle.std.specs.Float.{binary32}
use Rattle.std.specs.Float.Ieee.{mul, le, lt, of_int, round, units, odd, span, climb, size}
use Rattle.std.specs.Float.Ieee.Positive.{positive, mul_mono}
use Rattle.numbers.specs.Numbers.{is_flag}
use Rattle.numbers.specs.Laws.{cases, and_left, and_right, and_intro, pick_elim}
use Rattle.flow.specs.declared.Reading.{Reading}
use Rattle.flow.specs.declared.Reading.TheVariants.{Flow, Share, Broken}
use Rattle.flow.specs.declared.FlowRefusal.{FlowRefusal}
use Rattle.flow.specs.declared.FlowRefusal.TheVariants as By
use Rattle.flow.specs.declared.FlowRecord.{FlowRecord}
use Rattle.flow.specs.Answer.{No, FlowOutcome}
use Rattle.flow.specs.Flow.{whole, between, is_setting, is_flow, is_share, measured, apart, fresh_record, settings_fit, well_formed, ticked, reported, due_at, told, hears, hear_of, outcome}
use Rattle.flow.specs.FloatLaws.{as_true, as_T, whole_le, whole_positive, Least, none, some, least, mul_zero_right, zero_least, product_least, zero_most, apart_number, positive_number, not_below}
use Rattle.flow.specs.PercentLaws.{le_million, in_positive, flow_least}

between_intro : (low high x : Float) → T (le low x) → T (le x high) → between low high x ≡ true
between_intro low high x a b = and_intro {a = le low x} {b = le x high} (as_true a) (as_true b)

-- what 22 asks of the settings, part by part
pub record Settings (n c : Float) (t : ℕ) : Type 0 where
  pub nominal : is_setting n ≡ true
  pub cov : is_setting c ≡ true
  pub time_least : 1 ≤ t
  pub time_most : t ≤ 3600

pub settings : (nominal cov : Float) (time : ℕ) → settings_fit nominal cov time ≡ true → Settings nominal cov time
unfolding settings_fit
settings nominal cov time e =
    let a = is_setting nominal in
    let b = a && is_setting cov in
    let c = b && leb 1 time in
    let ec = and_left c _ e in
    let eb = and_left b _ ec in
    record {
      nominal = and_left a _ eb;
      cov = and_right a _ eb;
      time_least = leb-true 1 time (and_right b _ ec);
      time_most = leb-true time 3600 (and_right c _ e);
    }

-- and of the record
pub record Formed (r : FlowRecord) : Type 0 where
  pub settings : settings_fit r.nominal r.cov r.time ≡ true
  pub last : is_flow r.last ≡ true
  pub sent : is_flag r.sent ≡ true

pub parts : (r : FlowRecord) → well_formed r ≡ true → Formed r
unfolding well_formed
parts r e =
    let a = settings_fit r.nominal r.cov r.time in
    let b = a && is_flow r.last in
    let eb = and_left b _ e in
    record { settings = and_left a _ eb; last = and_right a _ eb; sent = and_right b _ e }

-- nominal of a record that 22 takes
pub nominal_set : (r : FlowRecord) → well_formed r ≡ true → is_setting r.nominal ≡ true
nominal_set r e = (settings r.nominal r.cov r.time (parts r e).settings).nominal

-- since does not count for it
pub formed_ticked : (r : FlowRecord) → well_formed (ticked r) ≡ well_formed r
unfolding well_formed
formed_ticked r = refl

-- a flow from 0 to 1,000,000 as the last one sent
pub formed_reported : (r : FlowRecord) (x : Float) → well_formed r ≡ true → is_flow x ≡ true → well_formed (reported r x) ≡ true
unfolding well_formed
formed_reported r x e f = and_intro (and_intro (parts r e).settings f) refl

-- the last flow of a fresh record
pub zero_flow : is_flow (whole 0) ≡ true
unfolding is_flow
zero_flow = between_intro (whole 0) (whole 1000000) (whole 0) (whole_le 0 0 (omega arith)) (whole_le 0 1000000 (omega arith))

-- 22 asks of a fresh record what it asks of the settings
pub fresh_formed : (nominal cov : Float) (time : ℕ) → well_formed (fresh_record nominal cov time) ≡ settings_fit nominal cov time
unfolding well_formed
fresh_formed nominal cov time = rw zero_flow (and-true _ ∙ and-true _)

million_one : mul binary32 (whole 1000000) (whole 1) ≡ whole 1000000
unfolding mul of_int round units odd span climb size
million_one = refl

-- a share of nominal is a flow from 0 to 1,000,000
pub share_flow : (n x : Float) → is_setting n ≡ true → is_share x ≡ true → is_flow (mul binary32 n x) ≡ true
unfolding is_setting is_flow is_share
share_flow n x r s =
    let np = in_positive n r in
    let one = whole_positive 1 (omega arith) (omega arith) in
    let under = as_T (and_right (le (whole 0) x) _ s) in
    go x np (least x (whole 1) one (as_T (and_left (le (whole 0) x) _ s)) under) under
  where
    go : (x : Float) → T (positive n) → Least x → T (le x (whole 1)) → is_flow (mul binary32 n x) ≡ true
    go x np (none t e) u = rw (mul_zero_right n t e np) (between_intro (whole 0) (whole 1000000) _ (zero_least t) (zero_most t))
    go x np (some y p) u =
        between_intro (whole 0) (whole 1000000) _ (product_least n y np p)
        (subst (λ (z : Float). T (le (mul binary32 n y) z)) million_one
        (mul_mono binary32 n (whole 1000000) y (whole 1) np (whole_positive 1000000 (omega arith) (omega arith)) p (whole_positive 1 (omega arith) (omega arith))
        (le_million n r) u))

-- a reading is refused by 23 alone
pub refused_by_23 : (n : Float) (got : Reading) (refusal : FlowRefusal) → measured n got ≡ Err refusal → refusal ≡ By.Reading
refused_by_23 n (Flow y) refusal e = cases (is_flow y) (λ q. let e· = rw q at e in cc) (λ q. let e· = rw q at e in cc)
refused_by_23 n (Share y) refusal e = cases (is_share y) (λ q. let e· = rw q at e in cc) (λ q. let e· = rw q at e in cc)
refused_by_23 n Broken refusal e = cc

-- so is every flow that a reading stands for
pub measured_flow : (n : Float) (got : Reading) (x : Float) → is_setting n ≡ true → measured n got ≡ Ok (Some x) → is_flow x ≡ true
measured_flow n (Flow y) x r e =
    cases (is_flow y)
    (λ q. let e· = rw q at e in let same : y ≡ x = cc in rw (← same) q)
    (λ q. let e· = rw q at e in cc)
measured_flow n (Share y) x r e =
    cases (is_share y)
    (λ q. let e· = rw q at e in let same : mul binary32 n y ≡ x = cc in rw (← same) (share_flow n y r q))
    (λ q. let e· = rw q at e in cc)
measured_flow n Broken x r e = cc

-- so one of them as the last one sent leaves a record that 22 does not refuse, whatever since is and whether it was sent
pub formed_told : (r : FlowRecord) (got : Reading) (x : Float) (since sent : ℕ) → well_formed r ≡ true → is_flag sent ≡ true
    → measured r.nominal got ≡ Ok (Some x)
    → well_formed (record { nominal = r.nominal; cov = r.cov; last = x; time = r.time; since = since; sent = sent }) ≡ true
unfolding well_formed
formed_told r got x since sent e f m = and_intro (and_intro (parts r e).settings (measured_flow r.nominal got x (nominal_set r e) m)) f

-- An accepted call leaves a record that 22 does not refuse.
told_kept : (r : FlowRecord) (x : Float) → well_formed r ≡ true → is_flow x ≡ true → well_formed (told r x).state ≡ true
told_kept r x e f = pick_elim (λ (o : FlowOutcome). well_formed o.state ≡ true) (due_at r x) (λ q. formed_reported r x e f) (λ q. e)

pub hears_kept : (r : FlowRecord) (m : Result (Option Float) FlowRefusal) → well_formed r ≡ true
    → ((x : Float) → m ≡ Ok (Some x) → is_flow x ≡ true) → well_formed (hears r m).state ≡ true
hears_kept r (Ok (Some x)) e f = told_kept (ticked r) x (formed_ticked r ∙ e) (f x refl)
hears_kept r (Ok None) e f = formed_ticked r ∙ e
hears_kept r (Err refusal) e f = e

pub hear_kept : (r : FlowRecord) (got : Reading) → well_formed r ≡ true → well_formed (hear_of r got).state ≡ true
unfolding hear_of
hear_kept r got e = rw e (hears_kept r (measured r.nominal got) e (λ x. measured_flow r.nominal got x (nominal_set r e)))

-- a reading out of its range, and a record
pub reading_refused : (r : FlowRecord) (got : Reading) → well_formed r ≡ true → measured r.nominal got ≡ Err By.Reading
    → hear_of r got ≡ outcome r (No 23)
unfolding hear_of
reading_refused r got e f = rw (e, f)

pub record_taken : (r : FlowRecord) (got : Reading) → well_formed r ≡ true → hear_of r got ≡ hears r (measured r.nominal got)
unfolding hear_of
record_taken r got e = rw e

pub record_refused : (r : FlowRecord) (got : Reading) → well_formed r ≡ false → hear_of r got ≡ outcome r (No 22)
unfolding hear_of
record_refused r got e = rw e

-- "rounded once, is at least ActFlowCOV", or below it: one of the two, for flows from 0 to 1,000,000
pub below_cov : (c x y : Float) → is_setting c ≡ true → is_flow x ≡ true → is_flow y ≡ true → le c (apart x y) ≡ false → lt (apart x y) c ≡ true
below_cov c x y r e f h = not_below c (apart x y) (positive_number c (in_positive c r)) (apart_number x y (flow_least x e) (flow_least y f)) h
