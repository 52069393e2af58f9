-- Document 01, 'One tick, in order' and 'Who commands': the status byte, the change-of-value test, and when a report is due.
use Rattle.std.specs.Prelude.{Bool, true, not, ◌&&◌, ◌||◌, List, ℕ, ◌+◌, ◌*◌, leb, eqb}
use Rattle.numbers.specs.Numbers.{on, bit, distance}
use Rattle.table.specs.Table.{act_pos_cov, min_rep_time, rep_per}
use Rattle.rules.specs.declared.Commands.{Commands}
use Rattle.rules.specs.Rank.{calibrating, syncing, forced}

-- "Status bits ..: 0 fault, 1 hand or tool active, 2 calibration, 3 sync, 4 forced, 5 bus not active; 6 and 7 are 0", by the
-- commands, the run and whether the bus is active
unfoldable pub status : Commands → ℕ → Bool → ℕ
status c r b =
    ((((bit (on c.fault) 1 + bit (on c.hand || on c.tool) 2) + bit (calibrating r) 4) + bit (syncing r) 8)
    + bit (forced c.forcing) 16)
    + bit (not b) 32

-- "A position differs by ActPosCOV or more when 100 × the distance is at least 255 × ActPosCOV."
abbrev pub changed : ℕ → ℕ → ℕ → Bool
changed cov position last = leb (255 * cov) (100 * distance position last)

-- the last report, if there is one: position and status
pub data Sent : Type 0 where
  silent : Sent
  sent : ℕ → ℕ → Sent

-- "no report yet; 100 × the distance from the last reported position is at least 255 × ActPosCOV; status differs": ActPosCOV, the
-- position and the status that a tick leaves, the last report
abbrev pub differs : ℕ → ℕ → ℕ → Sent → Bool
differs cov position status silent = true
differs cov position status (sent p s) = changed cov position p || not (eqb status s)

-- step 4: "if since is at least MinRepTime and one of these holds: ..; since is at least RepPer": parameters, since, position, status,
-- last report
unfoldable pub report_due : List ℕ → ℕ → ℕ → ℕ → Sent → Bool
report_due q since position status last =
    leb (min_rep_time q) since && (differs (act_pos_cov q) position status last || leb (rep_per q) since)
