-- Document 01, 'Eleven kinds of event': the numbers of the kinds, and of the commands of kind 3.
use Rattle.std.specs.Prelude.{◌≡◌, ◌<◌, ◌⊎◌, ℕ, Option, Some, None, Result, Ok, Err}
use Rattle.answer.specs.declared.refusal.Refusal.{Refusal}
use Rattle.answer.specs.declared.refusal.Refusal.TheVariants as R
use Rattle.event.specs.declared.kind.Kind.{Kind}
use Rattle.event.specs.declared.kind.Kind.TheVariants.{Tick, Setpoint, LteSetpoint, Forcing, Hand, Calibration, Fault, Write, Restart, ReadPosition, ReadParameter}

abbrev pub tick : ℕ
tick = 1

abbrev pub setpoint : ℕ
setpoint = 2

abbrev pub lte_setpoint : ℕ
lte_setpoint = 3

abbrev pub forcing : ℕ
forcing = 4

abbrev pub hand : ℕ
hand = 5

abbrev pub calibration : ℕ
calibration = 6

abbrev pub fault : ℕ
fault = 7

abbrev pub write : ℕ
write = 8

abbrev pub restart : ℕ
restart = 9

abbrev pub read_position : ℕ
read_position = 10

abbrev pub read_parameter : ℕ
read_parameter = 11

-- the number of a kind
abbrev pub number : Kind → ℕ
number Tick = tick
number Setpoint = setpoint
number LteSetpoint = lte_setpoint
number Forcing = forcing
number Hand = hand
number Calibration = calibration
number Fault = fault
number Write = write
number Restart = restart
number ReadPosition = read_position
number ReadParameter = read_parameter

-- what is found of the number `n`: the kind with it, or refusal 4 where none has it
abbrev pub IsKind : ℕ → Result Kind Refusal → Type 0
IsKind n (Ok k) = number k ≡ n
IsKind n (Err r) = (r ≡ R.Kind) × ((n < tick) ⊎ (read_parameter < n))

-- the number of a kind where there is one, 0 where there is none
abbrev pub kind_found : Option Kind → ℕ
kind_found None = 0
kind_found (Some k) = number k

-- "c = command: 0 normal write, 1 override, 2 release"
abbrev pub normal : ℕ
normal = 0

abbrev pub override : ℕ
override = 1

abbrev pub release : ℕ
release = 2
