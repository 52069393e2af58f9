-- What the latest commands say (document 01: fault flag, forcing, hand and tool with their values, the bus setpoint or none). A
-- record holds them, and the list of events gives them.
use Rattle.std.specs.Prelude.{Bool, ◌&&◌, ◌||◌, ℕ, leb, eqb}
use Rattle.numbers.specs.Numbers.{on, is_flag}
use Rattle.rules.specs.declared.Commands.{Commands}

-- fault flag, forcing, hand flag and value, tool flag and value, whether a bus setpoint is stored and which, values as positions
abbrev pub commands : ℕ → ℕ → ℕ → ℕ → ℕ → ℕ → ℕ → ℕ → Commands
commands f g h x t y b v =
    record { fault = f; forcing = g; hand = h; handpos = x; tool = t; toolpos = y; stored = b; setpoint = v }

-- nothing set
abbrev pub no_commands : Commands
no_commands = commands 0 0 0 0 0 0 0 0

-- one group changed: fault flag and forcing, the hand, the tool, the bus setpoint
abbrev pub interlocked : Commands → ℕ → ℕ → Commands
interlocked c f g = commands f g c.hand c.handpos c.tool c.toolpos c.stored c.setpoint

abbrev pub handed : Commands → ℕ → ℕ → Commands
handed c h x = commands c.fault c.forcing h x c.tool c.toolpos c.stored c.setpoint

abbrev pub overridden : Commands → ℕ → ℕ → Commands
overridden c t y = commands c.fault c.forcing c.hand c.handpos t y c.stored c.setpoint

abbrev pub written : Commands → ℕ → Commands
written c v = commands c.fault c.forcing c.hand c.handpos c.tool c.toolpos 1 v

-- "what is absent reads 0": the value beside a flag that is off
abbrev pub off_zero : ℕ → ℕ → Bool
off_zero f v = on f || eqb v 0

-- the same, and the flag is 0 or 1, which is ours
abbrev pub flagged : ℕ → ℕ → Bool
flagged f v = is_flag f && off_zero f v

-- the commands' part of well-formedness, by them and by the age of the setpoint: a fault flag of 0 or 1, "forcing is 0 to 3",
-- "the value of a flag that is off, setpoint and age when there is none" read 0
unfoldable pub commands_fit : Commands → ℕ → Bool
commands_fit c age =
    (is_flag c.fault && leb c.forcing 3)
    && (flagged c.hand c.handpos
    && (flagged c.tool c.toolpos
    && (flagged c.stored c.setpoint && off_zero c.stored age)))
