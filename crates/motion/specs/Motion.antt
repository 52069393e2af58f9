-- Documents 01 and 02: percents and positions, K, Low to High, one move and the motor.
use Rattle.std.specs.Prelude.{ℕ, ◌+◌, ◌-◌, ◌*◌, ◌/◌, min, max, ltb, eqb}
use Rattle.numbers.specs.Numbers.{pick, distance}

-- Document 02, W-202: "a percent becomes the nearest position, halves down"
unfoldable pub to_position : ℕ → ℕ
to_position p = (510 * p + 99) / 200

-- W-202: "A position becomes the nearest percent."
unfoldable pub to_percent : ℕ → ℕ
to_percent p = (200 * p + 255) / 510

-- Document 01: "K = 255 divided by Rate, rounded up."
unfoldable pub run_ticks : ℕ → ℕ
run_ticks rate = (255 + (rate - 1)) / rate

-- `v` "brought into Low to High"
abbrev pub within : ℕ → ℕ → ℕ → ℕ
within low high v = max low (min high v)

-- step 2: "Position moves toward the ruling target by Rate or the distance, the smaller."
unfoldable pub toward : ℕ → ℕ → ℕ → ℕ
toward position target rate =
    let step = min rate (distance position target) in
    pick (ltb position target) (position + step) (position - step)

-- "motor 0 still, 1 rising, 2 falling, 1 and 2 exchanged under OpenCloseDirection 1"
unfoldable pub motor : ℕ → ℕ → ℕ → ℕ
motor direction before after =
    pick (eqb before after) 0 (pick (ltb before after) (pick (eqb direction 1) 2 1) (pick (eqb direction 1) 1 2))
