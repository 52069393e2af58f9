-- How a drive that was fresh at first stands after any list of event records, read off that list.
use Rattle.std.specs.Prelude.{◌≡◌, true, ℕ, length}
use Rattle.std.proofs.Math.Path.{refl}
use mathlib.Core.List.{List, [], ◌∷◌}
use Rattle.std.proofs.Common.{arith}
use Rattle.damper.specs.declared.Drive.{Drive}
use Rattle.damper.specs.declared.Outcome.{Outcome}
use Rattle.damper.specs.Record.{fresh_drive}
use Rattle.damper.specs.WellFormed.{well_formed}
use Rattle.damper.specs.Tick.{ruling_source, status_of}
use Rattle.damper.specs.Step.{step_of}
use Rattle.damper.specs.Carry.{outcomes, drive_after}
use Rattle.damper.specs.CarryLaws.{outcomes_length}
use Rattle.history.specs.Readings as R
use Rattle.history.specs.Claim as C
use Rattle.history.specs.Claim.{moment_of}
use Rattle.history.specs.Agree.{bus_agrees, status_agrees}
use Rattle.history.specs.Facts.{Good}
use Rattle.history.specs.Theorem.{good_after}

-- Of a drive that agrees with its trace, be it by itself or one of a hall.
module _ (d : Drive) (t : C.Trace) (g : Good d t) where
  pub good_status : status_of d ≡ R.status_in (C.accepted t)
  good_status = status_agrees d _ g.wf g.agrees

  pub good_ruling : ruling_source d ≡ R.ruling_source_in (C.accepted t)
  unfolding R.ruling_source_in
  good_ruling = rw (bus_agrees d _ g.wf g.agrees, g.agrees.commands, g.agrees.run) refl

-- the accepted events of a trace are those of its list, each record having its outcome
pub accepted_read : (l : List (List ℕ)) (os : List Outcome) (t : C.Trace) → length os ≡ length l
    → C.accepted (C.trace_on t l os) ≡ R.history_from (C.accepted t) l
unfolding C.trace_on C.accepted R.history_from
accepted_read [] os t e = refl
accepted_read (s ∷ l) [] t e = absurd (omega arith)
accepted_read (s ∷ l) (o ∷ os) t e = accepted_read l os (moment_of s o ∷ t) (omega arith)

-- the drive after a list
abbrev pub after : List (List ℕ) → Drive
after l = drive_after fresh_drive (outcomes step_of fresh_drive l)

module _ (l : List (List ℕ)) where
  pub history : C.accepted (C.trace_of step_of l) ≡ R.history_of l
  unfolding C.accepted
  history = accepted_read l _ [] (outcomes_length step_of fresh_drive l)

  pub standing_formed : well_formed (after l) ≡ true
  standing_formed = (good_after l).wf

  pub standing_position : (after l).position ≡ R.position_in (R.history_of l)
  standing_position = rw (← history) (good_after l).position

  pub standing_status : status_of (after l) ≡ R.status_in (R.history_of l)
  standing_status = rw (← history) (good_status (after l) _ (good_after l))

  pub standing_ruling : ruling_source (after l) ≡ R.ruling_source_in (R.history_of l)
  standing_ruling = rw (← history) (good_ruling (after l) _ (good_after l))
