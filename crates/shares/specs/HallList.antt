-- The shares of a hall of drives that were fresh at first, as the calls alone decide them: no drive record, step or answer stands here. Who
-- is sent at a hall tick depends on all drives, so what the calls tell of each is carried along.
use Rattle.std.specs.Prelude.{Bool, ◌&&◌, List, [], ◌∷◌, ◌++◌, ℕ, ◌+◌, eqb, length, get_or}
use Rattle.numbers.specs.Numbers.{pick}
use Rattle.numbers.specs.Places.{tabulate}
use Rattle.event.specs.declared.Event.{Event}
use Rattle.event.specs.Event.{event_in}
use Rattle.rules.specs.Report.{silent, sent}
use Rattle.hall.specs.Hall.{Call, give, tick, carried_out}
use Rattle.hall.specs.Quota.{wait_after, longest_first}
use Rattle.hall.specs.Turns.{Given, bytes, hall_tick, tick_bytes, is_for}
use Rattle.history.specs.Readings.{is_restart, position_in, status_in, judgement}
use Rattle.history.specs.Log.{ReportState, report_state, reports_at, state_after}

-- what the calls so far tell of one drive: its accepted events, the latest first, the state of its reports, and its wait
pub record Told : Type 0 where
  pub history : List Event
  pub reports : ReportState
  pub wait : ℕ

abbrev pub told : List Event → ReportState → ℕ → Told
told h k w = record { history = h; reports = k; wait = w }

abbrev pub nothing_told : Told
nothing_told = told [] (report_state 0 silent) 0

-- "due when the fourth step of a tick would report"
abbrev pub due_told : Told → Bool
due_told x = reports_at (event_in tick_bytes) x.history x.reports

-- after what it is given: an event record, and a hall tick, sent or held
abbrev pub told_by : Told → Given → Told
told_by x (bytes s) =
    let e = event_in s in
    pick (eqb (judgement x.history s) 0)
    (told (e ∷ x.history) (state_after e x.history x.reports) (pick (is_restart e) 0 x.wait))
    x
told_by x (hall_tick sending) =
    let h = event_in tick_bytes ∷ x.history in
    let k = x.reports in
    told h
    (pick sending (report_state 0 (sent (position_in h) (status_in h))) (report_state (k.since + 1) k.last))
    (wait_after (due_told x) sending x.wait)

-- of a hall, drive by drive
abbrev pub told_at : List Told → ℕ → Told
told_at xs i = get_or xs i nothing_told

-- whom a hall tick sends
abbrev pub sends_told : ℕ → List Told → ℕ → Bool
sends_told quota xs i = longest_first (λ j. (told_at xs j).wait) (λ j. due_told (told_at xs j)) (length xs) quota i

-- what a call gives the drive at place `i`
abbrev pub given_told : List Told → ℕ → Call → List Given
given_told xs i (give list s room) = let c = give list s room in pick (carried_out (length xs) c && is_for i c) (bytes s ∷ []) []
given_told xs i (tick quota room) = pick (carried_out (length xs) (tick quota room)) (hall_tick (sends_told quota xs i) ∷ []) []

-- what is told after a call
abbrev pub told_all : Told → List Given → Told
told_all x [] = x
told_all x (g ∷ gs) = told_all (told_by x g) gs

abbrev pub told_after : List Told → Call → List Told
told_after xs c = tabulate (length xs) (λ i. told_all (told_at xs i) (given_told xs i c))

-- the share of the drive at place `i`
unfoldable pub share_from : List Told → ℕ → List Call → List Given
share_from xs i [] = []
share_from xs i (c ∷ cs) = given_told xs i c ++ share_from (told_after xs c) i cs

-- of calls on a hall of `n` drives
abbrev pub share_in : ℕ → ℕ → List Call → List Given
share_in n i cs = share_from (tabulate n (λ j. nothing_told)) i cs
