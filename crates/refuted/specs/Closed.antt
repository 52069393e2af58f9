-- What the closed statements of this crate share.
use Rattle.std.specs.Prelude.{◌≡◌, Bool, true, ◌&&◌, List, [], ◌∷◌}
use Rattle.numbers.specs.Laws.{and_left, and_right}
use Rattle.numbers.specs.Counts.{ticks_in, since}
use Rattle.rules.specs.Report.{report_due}
use Rattle.damper.specs.Closed as Drive
use Rattle.history.specs.Closed.{readings}
use Rattle.history.specs.Log.{log_from}
use Rattle.history.specs.Claim.{accepted, last_report, trace_on, reports_from}

-- `unfolding computation` opens the drive, the readings and the claim's functions, so that a list of records computes
unfoldable pub computation : Unit {0}
unfolding Drive.computation report_due readings log_from accepted ticks_in last_report since trace_on reports_from
computation = tt

-- `P` holds of each row of a table
abbrev pub Each : {A : Type 0} → (A → Type 0) → List A → Type 0
Each P [] = Unit {0}
Each P (r ∷ rs) = P r × Each P rs

abbrev pub all : {A : Type 0} → (A → Bool) → List A → Bool
all test [] = true
all test (r ∷ rs) = test r && all test rs

-- it does if it follows from a test that each row passes
pub each : {A : Type 0} (P : A → Type 0) (test : A → Bool) → ((r : A) → test r ≡ true → P r) → (l : List A) → all test l ≡ true → Each P l
each P test law [] q = tt
each P test law (r ∷ rs) q = (law r (and_left (test r) _ q), each P test law rs (and_right (test r) _ q))
