-- The event records of the lists, as bytes.
use Rattle.std.specs.Prelude.{List, ℕ, ◌/◌, ◌%◌}
use Rattle.event.specs.Kinds as Kind
use Rattle.event.specs.Event.{event, bytes_of}

abbrev pub tick : List ℕ
tick = bytes_of (event Kind.tick 0 0 0)

-- a tick whose unused byte is not 0: refused by 5
abbrev pub bad_tick : List ℕ
bad_tick = bytes_of (event Kind.tick 1 0 0)

abbrev pub setpoint : ℕ → List ℕ
setpoint a = bytes_of (event Kind.setpoint a 0 0)

-- a setpoint whose unused byte is not 0: refused by 5
abbrev pub bad_setpoint : ℕ → List ℕ
bad_setpoint a = bytes_of (event Kind.setpoint a 1 0)

-- the LTE setpoint of DamperMode 1, in percent
abbrev pub normal_write : ℕ → List ℕ
normal_write b = bytes_of (event Kind.lte_setpoint 51 b Kind.normal)

-- the LTE setpoint of DamperMode 2: refused by 9 in DamperMode 1
abbrev pub other_property : ℕ → List ℕ
other_property b = bytes_of (event Kind.lte_setpoint 52 b Kind.normal)

abbrev pub override : ℕ → List ℕ
override b = bytes_of (event Kind.lte_setpoint 51 b Kind.override)

abbrev pub hand_off : ℕ → List ℕ
hand_off b = bytes_of (event Kind.hand 0 b 0)

abbrev pub calibration : List ℕ
calibration = bytes_of (event Kind.calibration 0 0 0)

abbrev pub restart : List ℕ
restart = bytes_of (event Kind.restart 0 0 0)

abbrev pub read_position : List ℕ
read_position = bytes_of (event Kind.read_position 0 0 0)

abbrev pub read_rate : List ℕ
read_rate = bytes_of (event Kind.read_parameter 203 0 0)

-- the writes of a parameter
abbrev pub write : ℕ → ℕ → List ℕ
write n v = bytes_of (event Kind.write n (v / 256) (v % 256))

abbrev pub direction : ℕ → List ℕ
direction v = write 115 v

abbrev pub act_pos_cov : ℕ → List ℕ
act_pos_cov v = write 116 v

abbrev pub min_rep_time : ℕ → List ℕ
min_rep_time v = write 117 v

abbrev pub timeout : ℕ → List ℕ
timeout v = write 201 v

abbrev pub rep_per : ℕ → List ℕ
rep_per v = write 202 v

abbrev pub rate : ℕ → List ℕ
rate v = write 203 v
