-- Document 01, 'When an event is turned down': 9 to 13, which the reader does not check, and 2 to 13 together.
use Rattle.std.specs.Prelude.{Bool, not, ◌&&◌, ◌||◌, List, ℕ, ◌+◌, ltb, eqb}
use Rattle.numbers.specs.Numbers.{pick}
use Rattle.table.specs.Table.{rate_number, low_number, high_number, takes}
use Rattle.event.specs.declared.Event.{Event}
use Rattle.event.specs.Kinds as Kind
use Rattle.event.specs.Event.{value_of, record_refusal, event_in}

-- 9: "In kind 3, a is not DamperMode's property." "51 to 54 belong to DamperMode 1 to 4."
abbrev pub wrong_property : Event → ℕ → Bool
wrong_property e mode = eqb e.kind Kind.lte_setpoint && not (eqb e.a (50 + mode))

-- 10: "In kind 8, the value is outside the table."
abbrev pub outside_table : Event → Bool
outside_table e = eqb e.kind Kind.write && not (takes e.a (value_of e))

-- 11: "In kind 8, Low would exceed High."
abbrev pub low_above_high : Event → ℕ → ℕ → Bool
low_above_high e low high =
    eqb e.kind Kind.write && ((eqb e.a low_number && ltb high (value_of e)) || (eqb e.a high_number && ltb (value_of e) low))

-- 12: "In kind 8, Rate is written during a run."
abbrev pub rate_in_run : Event → Bool → Bool
rate_in_run e running = (eqb e.kind Kind.write && eqb e.a rate_number) && running

-- 13: "In kind 6, a fault is present or forcing is 2 or 3": what forbids a run
abbrev pub run_forbidden : Event → Bool → Bool
run_forbidden e forbidden = eqb e.kind Kind.calibration && forbidden

-- the first of 9 to 13 that fits, 0 if none does, by DamperMode, Low, High, whether a run is on and whether one is forbidden
unfoldable pub state_refusal : Event → ℕ → ℕ → ℕ → Bool → Bool → ℕ
state_refusal e mode low high running forbidden =
    pick (wrong_property e mode) 9
    (pick (outside_table e) 10
    (pick (low_above_high e low high) 11
    (pick (rate_in_run e running) 12
    (pick (run_forbidden e forbidden) 13 0))))

-- the first of 2 to 13 that fits the bytes handed in, 0 if none does: "The answer is the first that fits"
unfoldable pub refusal : List ℕ → ℕ → ℕ → ℕ → Bool → Bool → ℕ
refusal s mode low high running forbidden =
    pick (eqb (record_refusal s) 0) (state_refusal (event_in s) mode low high running forbidden) (record_refusal s)
