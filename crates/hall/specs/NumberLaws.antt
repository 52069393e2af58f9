-- Laws of the number that a host gets for a drive at a hall tick, for every record.
use Rattle.std.specs.Prelude.{◌≡◌, refl, Bool, true, false, ◌+◌, ◌*◌}
use Rattle.numbers.specs.Numbers.{pick}
use Rattle.damper.specs.declared.Drive.{Drive}
use Rattle.damper.specs.declared.Advanced.{Advanced}
use Rattle.damper.specs.WellFormed.{well_formed}
use Rattle.damper.specs.Tick.{advance, status_of}
use Rattle.damper.specs.Step.{tick_with}
use Rattle.hall.specs.Quota.{hall_ticked}
use Rattle.hall.specs.Turns.{tick_number}

number_with : (sent : Bool) (a : Advanced)
    → tick_number (tick_with sent a).answer ≡ pick sent (65536 + 256 * a.drive.position + status_of a.drive) 0
unfolding tick_with
number_with true a = refl
number_with false a = refl

-- "0 silent, 65,536 + 256 × position + status for a report": by the drive after steps 1 to 3
pub formed_number : (sent : Bool) (d : Drive) → well_formed d ≡ true
    → (let a = (advance d).drive in tick_number (hall_ticked sent d).answer ≡ pick sent (65536 + 256 * a.position + status_of a) 0)
unfolding hall_ticked
formed_number sent d w = rw w (number_with sent (advance d))

-- "1 for a drive not well formed, which stays unticked"
pub unformed_number : (sent : Bool) (d : Drive) → well_formed d ≡ false → (tick_number (hall_ticked sent d).answer ≡ 1) × ((hall_ticked sent d).drive ≡ d)
unfolding hall_ticked
unformed_number sent d w = (rw w, rw w)
