-- Document 02, W-202, of every well-formed drive: "Every percent from 0 to 100, written and converted back, must be itself. Backup values
-- follow the same rule."
use Rattle.std.specs.Prelude.{◌≡◌, refl, true, List, ℕ, ◌+◌, ◌≤◌}
use native.Mathlib.Omega.{arith}
use borrow.Author.Tests.{le-leb, le-ltb, eq-eqb}
use Rattle.table.specs.Table.{rows, row_at, damper_mode, backup_mode, backup_value, low, high}
use Rattle.table.specs.Laws.{bounds, range_at}
use Rattle.event.specs.Kinds as Kind
use Rattle.event.specs.Event.{event, bytes_of, form_of, data_refusal, record_refusal}
use Rattle.motion.specs.Motion.{to_position, to_percent}
use Rattle.motion.specs.Laws.{percent_round_trip, within_same}
use Rattle.rules.specs.Rank.{backup_target, targets}
use Rattle.rules.specs.Refusal.{state_refusal, refusal}
use Rattle.answer.specs.declared.Answer.TheVariants.{Done, At}
use Rattle.damper.specs.declared.Drive.{Drive}
use Rattle.damper.specs.WellFormed.{well_formed}
use Rattle.damper.specs.Tick.{status_of, target_at}
use Rattle.damper.specs.Step.{outcome, commanded, obeyed, applied, refusal_of, step_of}
use Rattle.damper.specs.Laws.{wf_in}
use Rattle.invariant.specs.Effects.{step_accepted}

-- `p` percent with command `c` to the property of the drive's DamperMode
abbrev pub percent_to : Drive → ℕ → ℕ → List ℕ
percent_to d p c = bytes_of (event Kind.lte_setpoint (50 + damper_mode d.params) p c)

module _ (d : Drive) (p : ℕ) (formed : well_formed d ≡ true) where
  percent_taken : (c : ℕ) → p ≤ 100 → c ≤ 1 → refusal_of d (percent_to d p c) ≡ 0
  unfolding refusal_of refusal record_refusal data_refusal form_of state_refusal
  percent_taken c h k =
      let m = damper_mode d.params in
      let b = bounds (row_at rows 0) m (range_at rows d.params 0 (wf_in d formed) (omega arith)) in
      let l : 51 ≤ 50 + m = omega arith in
      let u : 50 + m ≤ 54 = omega arith in
      simp (formed, le-leb _ _ l, le-leb _ _ u, le-ltb 100 p h, le-ltb 2 c (omega arith), le-leb _ _ k, eq-eqb (50 + m) (50 + m) refl)

  -- a normal write is accepted, and its percent is that of the setpoint that it leaves
  pub percent_written : p ≤ 100
      → (let o = step_of d (percent_to d p Kind.normal) in (o.answer ≡ Done) × (to_percent o.drive.commands.setpoint ≡ p))
  unfolding applied obeyed commanded
  percent_written h = rw (step_accepted d (percent_to d p 0) (percent_taken 0 h (omega arith))) (refl, percent_round_trip p)

  -- an override is accepted, and its percent is that of the tool's value that it leaves
  pub percent_overridden : p ≤ 100
      → (let o = step_of d (percent_to d p Kind.override) in (o.answer ≡ Done) × (to_percent o.drive.commands.toolpos ≡ p))
  unfolding applied obeyed commanded
  percent_overridden h = rw (step_accepted d (percent_to d p 1) (percent_taken 1 h (omega arith))) (refl, percent_round_trip p)

  -- a drive that stands where a percent leads is read at that percent
  pub percent_read : d.position ≡ to_position p
      → step_of d (bytes_of (event Kind.read_position 0 0 0)) ≡ outcome d (At (to_position p) p (status_of d))
  unfolding step_of refusal_of refusal record_refusal data_refusal form_of state_refusal applied
  percent_read e = rw (formed, e, percent_round_trip p)

-- with BackupMode 0 the percent of backup's target is BackupValue, where Low and High leave it alone
pub percent_backup : (d : Drive) → backup_mode d.params ≡ 0
    → low d.params ≤ to_position (backup_value d.params) → to_position (backup_value d.params) ≤ high d.params
    → to_percent (target_at d 0) ≡ backup_value d.params
unfolding target_at targets backup_target
percent_backup d m l h = rw (m, within_same _ _ _ l h) (percent_round_trip (backup_value d.params))
