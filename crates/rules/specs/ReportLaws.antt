-- Laws of the status.
use Rattle.std.specs.Prelude.{Bool, not, ◌||◌, ℕ, ◌<◌}
use Rattle.std.proofs.Common.{arith}
use Rattle.numbers.specs.Numbers.{on}
use Rattle.rules.specs.declared.Commands.{Commands}
use Rattle.rules.specs.Rank.{calibrating, syncing, forced}
use Rattle.rules.specs.RankLaws.{bit_le}
use Rattle.rules.specs.Report.{status}

-- it is a byte, whatever the commands, the run and the bus
pub status_byte : (c : Commands) (r : ℕ) (b : Bool) → status c r b < 256
unfolding status
status_byte c r b =
    let one = bit_le (on c.fault) 1 in
    let two = bit_le (on c.hand || on c.tool) 2 in
    let run = bit_le (calibrating r) 4 in
    let sync = bit_le (syncing r) 8 in
    let force = bit_le (forced c.forcing) 16 in
    omega (arith, one, two, run, sync, force, bit_le (not b) 32)
