-- What a flow box makes of a reading (document 02, W-209). A single float is a value of `lib.Ieee`: each product and each difference is
-- rounded once, to `binary32`, and every comparison with a NaN fails.
use Rattle.std.specs.Prelude.{◌≡◌, Bool, true, false, not, ◌&&◌, ◌||◌, ℕ, zero, suc, ◌<◌, ◌≤◌, leb, pos, Float, Option, Some, None, Result, Ok, Err}
use Rattle.std.specs.Float.{binary32}
use Rattle.std.specs.Float.Ieee.{of_int, mul, sub, le, lt}
use Rattle.numbers.specs.Numbers.{pick, on, is_flag, next}
use Rattle.flow.specs.declared.Reading.{Reading}
use Rattle.flow.specs.declared.Reading.TheVariants.{Flow, Share, Broken}
use Rattle.flow.specs.declared.FlowRefusal.{FlowRefusal}
use Rattle.flow.specs.declared.FlowRefusal.TheVariants as By
use Rattle.flow.specs.declared.FlowRecord.{FlowRecord}
use Rattle.flow.specs.declared.FlowHeard.{FlowHeard}
use Rattle.flow.specs.Refusal.{number}
use Rattle.flow.specs.Answer.{FlowAnswer, No, Silent, Report, FlowOutcome}

-- the single float of a whole number
abbrev pub whole : ℕ → Float
whole n = of_int binary32 (pos n)

-- "between", both ends counted in; "a NaN never is"
abbrev pub between : Float → Float → Float → Bool
between low high x = le low x && le x high

-- "nominal or ActFlowCOV isn't between 1 and 1,000,000"
unfoldable pub is_setting : Float → Bool
is_setting x = between (whole 1) (whole 1000000) x

-- "not between 0 and 1,000,000, or 0 and 1 for a share"
unfoldable pub is_flow : Float → Bool
is_flow x = between (whole 0) (whole 1000000) x

unfoldable pub is_share : Float → Bool
is_share x = between (whole 0) (whole 1) x

-- "A share becomes a flow by one rounded product with nominal."
abbrev pub measured : Float → Reading → Result (Option Float) FlowRefusal
measured nominal (Flow x) = pick (is_flow x) (Ok (Some x)) (Err By.Reading)
measured nominal (Share x) = pick (is_share x) (Ok (Some (mul binary32 nominal x))) (Err By.Reading)
measured nominal Broken = Ok None

-- "whose rounded product with nominal is not above the rounded product of 100 and the flow"
unfoldable pub qualifies : Float → Float → ℕ → Bool
qualifies nominal x p = le (mul binary32 (whole p) nominal) (mul binary32 (whole 100) x)

-- the greatest p from 1 to n that qualifies, or 0
unfoldable pub greatest : Float → Float → ℕ → ℕ
greatest nominal x zero = 0
greatest nominal x (suc n) = pick (qualifies nominal x (suc n)) (suc n) (greatest nominal x n)

-- "Percent shown is the greatest whole p from 0 to 100 .."
abbrev pub percent_of : Float → Float → ℕ
percent_of nominal x = greatest nominal x 100

-- the same as a sentence: p qualifies, and no greater one does
pub record Greatest (nominal x : Float) (p : ℕ) : Type 0 where
  pub most : p ≤ 100
  pub fits : qualifies nominal x p ≡ true
  pub none : (q : ℕ) → p < q → q ≤ 100 → qualifies nominal x q ≡ false

-- "A fresh record has since 0, nothing sent and 0 as last flow."
abbrev pub fresh_record : Float → Float → ℕ → FlowRecord
fresh_record nominal cov time = record { nominal = nominal; cov = cov; last = whole 0; time = time; since = 0; sent = 0 }

-- "since rises first"; "the ticks since (stopping at 65,535)"
abbrev pub ticked : FlowRecord → FlowRecord
ticked r = record { nominal = r.nominal; cov = r.cov; last = r.last; time = r.time; since = next r.since; sent = r.sent }

-- "becomes the last flow sent and sets since to 0"
abbrev pub reported : FlowRecord → Float → FlowRecord
reported r x = record { nominal = r.nominal; cov = r.cov; last = x; time = r.time; since = 0; sent = 1 }

-- "the larger less the smaller of this flow and the last one sent, rounded once"
unfoldable pub apart : Float → Float → Float
apart a b = pick (lt a b) (sub binary32 b a) (sub binary32 a b)

-- "It is due when since has reached the time and one of these holds: nothing was sent yet; the larger less the smaller .. is at least
-- ActFlowCOV."
unfoldable pub due_by : Float → ℕ → ℕ → Bool → Float → Float → Bool
due_by cov time since sent last x = leb time since && (not sent || le cov (apart x last))

abbrev pub due_at : FlowRecord → Float → Bool
due_at r x = due_by r.cov r.time r.since (on r.sent) r.last x

-- a record and an answer
abbrev pub outcome : FlowRecord → FlowAnswer → FlowOutcome
outcome r a = record { state = r; answer = a }

-- the flow `x`, once since has risen: "A report carries flow and percent"
abbrev pub told : FlowRecord → Float → FlowOutcome
told r x = pick (due_at r x) (outcome (reported r x) (Report x (percent_of r.nominal x))) (outcome r Silent)

-- "One accepted call is one tick"; "Broken counts a tick and sends nothing."; 23
abbrev pub hears : FlowRecord → Result (Option Float) FlowRefusal → FlowOutcome
hears r (Ok (Some x)) = told (ticked r) x
hears r (Ok None) = outcome (ticked r) Silent
hears r (Err e) = outcome r (No (number e))

-- "22 when nominal or ActFlowCOV isn't between 1 and 1,000,000, the time is outside 1 to 3600"
unfoldable pub settings_fit : Float → Float → ℕ → Bool
settings_fit nominal cov time = ((is_setting nominal && is_setting cov) && leb 1 time) && leb time 3600

-- "or the last flow sent isn't between 0 and 1,000,000"; and of ours, that the flag is one
unfoldable pub well_formed : FlowRecord → Bool
well_formed r = (settings_fit r.nominal r.cov r.time && is_flow r.last) && is_flag r.sent

-- "23, after 22"; "Both leave the record as given."
unfoldable pub hear_of : FlowRecord → Reading → FlowOutcome
hear_of r got = pick (well_formed r) (hears r (measured r.nominal got)) (outcome r (No 22))

-- A call as it is handed to a host: the record after it; the flow of a report; the refusal; whether there is a report; its percent. What
-- there is not, is 0.
abbrev pub heard_with : FlowRecord → FlowAnswer → FlowHeard
heard_with r (No n) = record { state = r; flow = whole 0; refusal = n; reported = 0; percent = 0 }
heard_with r Silent = record { state = r; flow = whole 0; refusal = 0; reported = 0; percent = 0 }
heard_with r (Report x p) = record { state = r; flow = x; refusal = 0; reported = 1; percent = p }

abbrev pub heard : FlowOutcome → FlowHeard
heard o = heard_with o.state o.answer
