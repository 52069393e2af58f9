-- Wrong flow boxes.
use Rattle.std.specs.Prelude.{Bool, ◌&&◌, ◌||◌, ℕ, zero, suc, ◌+◌, ◌-◌, ◌*◌, leb, Float, Option, Some, None, Result, Ok, Err}
use Rattle.std.specs.Float.{binary32}
use Rattle.std.specs.Float.Ieee.{mul, div, le, lt}
use Rattle.std.specs.Float.Ieee.Positive.{num, den}
use Rattle.numbers.specs.Numbers.{pick}
use Rattle.flow.specs.declared.Reading.{Reading}
use Rattle.flow.specs.declared.Reading.TheVariants.{Flow, Share, Broken}
use Rattle.flow.specs.declared.FlowRefusal.{FlowRefusal}
use Rattle.flow.specs.declared.FlowRefusal.TheVariants as By
use Rattle.flow.specs.declared.FlowRecord.{FlowRecord}
use Rattle.flow.specs.Answer.{FlowAnswer, No, Silent, Report, FlowOutcome}
use Rattle.flow.specs.Flow.{whole, is_flow, is_share, measured, percent_of, ticked, reported, due_at, told, hears, hear_of, outcome}
use Rattle.flow_history.specs.Claim.{Step}

with_last : FlowRecord → Float → FlowRecord
with_last r x = record { nominal = r.nominal; cov = r.cov; last = x; time = r.time; since = r.since; sent = r.sent }

-- sends nothing
mute : FlowAnswer → FlowAnswer
mute (No n) = No n
mute Silent = Silent
mute (Report x p) = Silent

unfoldable pub never_reports : Step
unfolding mute
never_reports r got = outcome (hear_of r got).state (mute (hear_of r got).answer)

-- takes the difference from the reading before
previous : FlowOutcome → Result (Option Float) FlowRefusal → FlowOutcome
previous o (Ok (Some x)) = outcome (with_last o.state x) o.answer
previous o (Ok None) = o
previous o (Err refusal) = o

unfoldable pub from_previous : Step
unfolding previous with_last
from_previous r got = previous (hear_of r got) (measured r.nominal got)

-- lets since rise after the test
late : FlowRecord → Result (Option Float) FlowRefusal → FlowOutcome
late r (Ok (Some x)) = pick (due_at r x) (outcome (reported r x) (Report x (percent_of r.nominal x))) (outcome (ticked r) Silent)
late r (Ok None) = outcome (ticked r) Silent
late r (Err refusal) = outcome r (No 23)

unfoldable pub rises_late : Step
unfolding late
rises_late r got = late r (measured r.nominal got)

-- does not count a broken reading
unfoldable pub skips_broken : Step
skips_broken r (Flow x) = hear_of r (Flow x)
skips_broken r (Share x) = hear_of r (Share x)
skips_broken r Broken = outcome r Silent

-- counts what is refused
counting : FlowRecord → Result (Option Float) FlowRefusal → FlowOutcome
counting r (Ok (Some x)) = told (ticked r) x
counting r (Ok None) = outcome (ticked r) Silent
counting r (Err refusal) = outcome (ticked r) (No 23)

unfoldable pub counts_refused : Step
unfolding counting
counts_refused r got = counting r (measured r.nominal got)

-- tests for what lies outside, and so takes a NaN
outside : Float → Float → Float → Bool
outside low high x = lt x low || lt high x

loose : Float → Reading → Result (Option Float) FlowRefusal
unfolding outside
loose n (Flow x) = pick (outside (whole 0) (whole 1000000) x) (Err By.Reading) (Ok (Some x))
loose n (Share x) = pick (outside (whole 0) (whole 1) x) (Err By.Reading) (Ok (Some (mul binary32 n x)))
loose n Broken = Ok None

unfoldable pub takes_nan : Step
unfolding loose
takes_nan r got = hears r (loose r.nominal got)

-- tests the settings in the same way
unfoldable pub takes_nan_settings : Step
unfolding outside
takes_nan_settings r got =
    pick (outside (whole 1) (whole 1000000) r.nominal || outside (whole 1) (whole 1000000) r.cov) (outcome r (No 22))
    (hears r (measured r.nominal got))

-- counts the ends of a range out
inside : Float → Float → Float → Bool
inside low high x = lt low x && lt x high

narrow : Float → Reading → Result (Option Float) FlowRefusal
unfolding inside
narrow n (Flow x) = pick (inside (whole 0) (whole 1000000) x) (Ok (Some x)) (Err By.Reading)
narrow n (Share x) = pick (inside (whole 0) (whole 1) x) (Ok (Some (mul binary32 n x))) (Err By.Reading)
narrow n Broken = Ok None

unfoldable pub ends_out : Step
unfolding narrow
ends_out r got = hears r (narrow r.nominal got)

-- takes a broken reading for the beginning of a wait
unfoldable pub broken_resets : Step
broken_resets r (Flow x) = hear_of r (Flow x)
broken_resets r (Share x) = hear_of r (Share x)
broken_resets r Broken = outcome (record { nominal = r.nominal; cov = r.cov; last = r.last; time = r.time; since = 0; sent = r.sent }) Silent

-- answers by a refusal of number 0
zero_refusal : FlowAnswer → FlowAnswer
zero_refusal (No k) = No k
zero_refusal Silent = No 0
zero_refusal (Report x p) = Report x p

unfoldable pub refuses_by_none : Step
unfolding zero_refusal
refuses_by_none r got = outcome (hear_of r got).state (zero_refusal (hear_of r got).answer)

-- does not wait
unfoldable pub never_waits : Step
never_waits r got = hear_of (record { nominal = r.nominal; cov = r.cov; last = r.last; time = r.time; since = 65535; sent = r.sent }) got

-- shows one percent less
less : FlowAnswer → FlowAnswer
less (No n) = No n
less Silent = Silent
less (Report x p) = Report x (p - 1)

unfoldable pub shows_less : Step
unfolding less
shows_less r got = outcome (hear_of r got).state (less (hear_of r got).answer)

-- shows the percent by a division, each step of it rounded
divided : Float → Float → ℕ → ℕ
divided n x zero = 0
divided n x (suc p) = pick (le (whole (suc p)) (mul binary32 (div binary32 x n) (whole 100))) (suc p) (divided n x p)

by_division : Float → FlowAnswer → FlowAnswer
unfolding divided
by_division n (No k) = No k
by_division n Silent = Silent
by_division n (Report x p) = Report x (divided n x 100)

unfoldable pub divides : Step
unfolding by_division
divides r got = outcome (hear_of r got).state (by_division r.nominal (hear_of r got).answer)

-- shows the percent without rounding the products
unfoldable pub shows_exactly : Step
shows_exactly r got = outcome (hear_of r got).state (exact (hear_of r got).answer)
  where
    among : Float → ℕ → ℕ
    among x zero = 0
    among x (suc p) = pick (leb (suc p * num r.nominal * den x) (100 * num x * den r.nominal)) (suc p) (among x p)

    exact : FlowAnswer → FlowAnswer
    exact (No k) = No k
    exact Silent = Silent
    exact (Report x p) = Report x (among x 100)

-- shows the percent of the share, and not of the flow that it becomes
of_share : Reading → FlowAnswer → FlowAnswer
of_share got (No k) = No k
of_share got Silent = Silent
of_share (Flow y) (Report x p) = Report x p
of_share (Share y) (Report x p) = Report x (percent_of (whole 1) y)
of_share Broken (Report x p) = Report x p

unfoldable pub shows_share : Step
unfolding of_share
shows_share r got = outcome (hear_of r got).state (of_share got (hear_of r got).answer)

-- shows the nearest percent
unfoldable pub shows_nearest : Step
shows_nearest r got = outcome (hear_of r got).state (nearer (hear_of r got).answer)
  where
    nearer : FlowAnswer → FlowAnswer
    nearer (No k) = No k
    nearer Silent = Silent
    nearer (Report x p) =
        let top = 200 * num x * den r.nominal in
        Report x (pick (leb ((2 * p + 1) * num r.nominal * den x) top) (p + 1) p)

-- takes a share for a flow
raw : Reading → Result (Option Float) FlowRefusal
raw (Flow x) = pick (is_flow x) (Ok (Some x)) (Err By.Reading)
raw (Share x) = pick (is_share x) (Ok (Some x)) (Err By.Reading)
raw Broken = Ok None

unfoldable pub shares_as_flows : Step
unfolding raw
shares_as_flows r got = hears r (raw got)

-- judges the reading before the record
late22 : FlowRecord → Result (Option Float) FlowRefusal → FlowOutcome
late22 r (Err refusal) = outcome r (No 23)
late22 r (Ok None) = hear_of r Broken
late22 r (Ok (Some x)) = hear_of r (Flow x)

unfoldable pub reading_first : Step
unfolding late22
reading_first r got = late22 r (measured r.nominal got)

-- compares with a last flow of 0 though nothing was sent
unfoldable pub compares_first : Step
compares_first r got = hear_of (record { nominal = r.nominal; cov = r.cov; last = r.last; time = r.time; since = r.since; sent = 1 }) got

-- reports again after the time though nothing differs
unfoldable pub reports_again : Step
reports_again r got = hear_of (record { nominal = r.nominal; cov = r.cov; last = r.last; time = r.time; since = r.since; sent = 0 }) got

-- takes the difference without rounding it
exactly : FlowRecord → Float → Bool
exactly r x =
    let a = num x * den r.last in
    let b = num r.last * den x in
    leb (num r.cov * (den x * den r.last)) (((a - b) + (b - a)) * den r.cov)

unrounded : FlowRecord → Result (Option Float) FlowRefusal → FlowOutcome
unfolding exactly
unrounded r (Ok (Some x)) =
    let t = ticked r in
    pick (leb t.time t.since && (leb t.sent 0 || exactly t x))
    (outcome (reported t x) (Report x (percent_of t.nominal x)))
    (outcome t Silent)
unrounded r (Ok None) = outcome (ticked r) Silent
unrounded r (Err refusal) = outcome r (No 23)

unfoldable pub differs_exactly : Step
unfolding unrounded
differs_exactly r got = unrounded r (measured r.nominal got)

-- keeps no last flow
forgets : FlowOutcome → FlowOutcome
forgets o = outcome (record { nominal = o.state.nominal; cov = o.state.cov; last = whole 0; time = o.state.time; since = o.state.since; sent = o.state.sent }) o.answer

unfoldable pub keeps_none : Step
unfolding forgets
keeps_none r got = forgets (hear_of r got)
