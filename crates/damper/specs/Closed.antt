-- For closed statements: `unfolding computation` opens the drive, so that a list of records computes.
use Rattle.std.specs.Int.Count.{count_leading_zeros}
use Rattle.table.specs.Table.{all_in, place_from}
use Rattle.event.specs.Event.{form_of, data_refusal, record_refusal}
use Rattle.motion.specs.Motion.{to_position, to_percent, run_ticks, toward, motor}
use Rattle.rules.specs.Commands.{commands_fit}
use Rattle.rules.specs.Rank.{ruling_rank, active_byte, backup_target, targets}
use Rattle.rules.specs.Report.{status}
use Rattle.rules.specs.Refusal.{state_refusal, refusal}
use Rattle.damper.specs.WellFormed.{run_fits, last_fits, well_formed}
use Rattle.damper.specs.Tick.{aged, target_at, moved, ran_down, advance, due_with}
use Rattle.damper.specs.Step.{tick_with, ticked, commanded, calibrated, restarted, obeyed, applied, refusal_of, step_of}
use Rattle.damper.specs.Carry.{outcomes, drive_after}

unfoldable pub computation : Unit {0}
unfolding count_leading_zeros all_in place_from form_of data_refusal record_refusal to_position to_percent run_ticks toward motor commands_fit ruling_rank active_byte backup_target targets status state_refusal refusal run_fits last_fits well_formed aged target_at moved ran_down advance due_with tick_with ticked commanded calibrated restarted obeyed applied refusal_of step_of outcomes drive_after
computation = tt
