-- The reports of a drive, as the list of event records alone decides them: no drive record, step or answer stands here.
use Rattle.std.specs.Prelude.{Bool, ◌&&◌, List, [], ◌∷◌, ℕ, ◌+◌, eqb}
use Rattle.numbers.specs.Numbers.{pick}
use Rattle.event.specs.declared.Event.{Event}
use Rattle.event.specs.Event.{event_in}
use Rattle.rules.specs.Report.{Sent, silent, sent, report_due}
use Rattle.history.specs.Readings.{is_tick, is_restart, parameters, position_in, status_in, judgement}

-- one report: the number of its record in the list, from 1, and what it gives
pub record Entry : Type 0 where
  pub number : ℕ
  pub position : ℕ
  pub status : ℕ

abbrev pub entry : ℕ → ℕ → ℕ → Entry
entry n p s = record { number = n; position = p; status = s }

-- the ticks after the latest report or restart, or from the beginning on, and the last report since the last restart
pub record ReportState : Type 0 where
  pub since : ℕ
  pub last : Sent

abbrev pub report_state : ℕ → Sent → ReportState
report_state n x = record { since = n; last = x }

-- "A report goes out": whether the accepted event `e` after the history `h` brings one
abbrev pub reports_at : Event → List Event → ReportState → Bool
reports_at e h k = is_tick e && report_due (parameters (e ∷ h)) (k.since + 1) (position_in (e ∷ h)) (status_in (e ∷ h)) k.last

-- a restart leaves no report; "A report goes out, and since becomes 0"; "Since rises by one" at any other tick
abbrev pub state_after : Event → List Event → ReportState → ReportState
state_after e h k =
    pick (is_restart e) (report_state 0 silent)
    (pick (reports_at e h k) (report_state 0 (sent (position_in (e ∷ h)) (status_in (e ∷ h))))
    (report_state (pick (is_tick e) (k.since + 1) k.since) k.last))

-- the reports of a list of records, `n` records having come before it, of which `h` were accepted and left the state `k`
unfoldable pub log_from : ℕ → List Event → ReportState → List (List ℕ) → List Entry
log_from n h k [] = []
log_from n h k (s ∷ ss) =
    let e = event_in s in
    let rest = log_from (n + 1) (e ∷ h) (state_after e h k) ss in
    pick (eqb (judgement h s) 0)
    (pick (reports_at e h k) (entry (n + 1) (position_in (e ∷ h)) (status_in (e ∷ h)) ∷ rest) rest)
    (log_from (n + 1) h k ss)

-- the log of a drive that was fresh at first
abbrev pub log_in : List (List ℕ) → List Entry
log_in l = log_from 0 [] (report_state 0 silent) l
