-- Document 01, 'The drive record': when a record is well formed.
use Rattle.std.specs.Prelude.{Bool, not, ◌&&◌, ℕ, leb, eqb}
use Rattle.numbers.specs.Numbers.{pick}
use Rattle.table.specs.Table.{rows, all_in, low, high, rate}
use Rattle.motion.specs.Motion.{run_ticks}
use Rattle.rules.specs.Commands.{off_zero, flagged, commands_fit}
use Rattle.rules.specs.Rank.{running, forbids_run}
use Rattle.damper.specs.declared.Run.{Run}
use Rattle.damper.specs.declared.Last.{Last}
use Rattle.damper.specs.declared.Drive.{Drive}

-- "a run has 1 to K ticks left and no run has 0, and no run stands beside a fault or forcing of 2 or 3": run, K, whether a
-- run is forbidden; that the run is one of the four is ours, since the record holds it as a number
unfoldable pub run_fits : Run → ℕ → Bool → Bool
run_fits r k forbidden =
    leb r.kind 3 && pick (running r.kind) ((leb 1 r.left && leb r.left k) && not forbidden) (eqb r.left 0)

-- "the last report when there is none" reads 0
unfoldable pub last_fits : Last → Bool
last_fits l = flagged l.reported l.position && off_zero l.reported l.status

-- "each parameter is in range, Low ≤ High, forcing is 0 to 3, a run .., and what is absent reads 0"; ours: each flag is 0 or 1
unfoldable pub well_formed : Drive → Bool
well_formed d =
    all_in rows d.params
    && (leb (low d.params) (high d.params)
    && (commands_fit d.commands d.age
    && (last_fits d.last
    && run_fits d.run (run_ticks (rate d.params)) (forbids_run d.commands))))
