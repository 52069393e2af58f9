-- Proofs: the parameters of a history that records leave are in their ranges, since a drive that was fresh at first has them.
use Rattle.std.specs.Prelude.{◌≡◌, refl, List, [], ◌∷◌, reverse, ℕ}
use Rattle.std.proofs.Common.{◌∙◌, arith}
use Rattle.std.proofs.lemmas.List.{reverse-reverse}
use Rattle.table.specs.Table.{rows, row_at, backup_mode}
use Rattle.table.specs.Laws.{range_at, bounds}
use Rattle.event.specs.declared.Event.{Event}
use Rattle.damper.specs.Record.{fresh_drive}
use Rattle.damper.specs.Step.{step_of}
use Rattle.damper.specs.Carry.{outcomes}
use Rattle.damper.specs.CarryLaws.{outcomes_length}
use Rattle.invariant.specs.Kept as K
use Rattle.history.specs.Readings as R
use Rattle.history.specs.Claim as C
use Rattle.history.specs.Theorem.{good_after}
use Rattle.history.specs.Standing.{accepted_read, after}
use Rattle.sentences.specs.Forms.{same_formed}
use Rattle.sentences_list.specs.Paper as L
use Rattle.sentences_list.specs.Latest.{now_read}
use Rattle.sentences_list.specs.Judging.{given, history_is, history_from, before_that, tools, each_now}
use Rattle.sentences_list.specs.Moves.{Fit, Fits, none, more}

read_from : (l : List (List ℕ)) → (after l).params ≡ R.parameters (R.history_of l)
unfolding C.accepted
read_from l =
    rw (← (accepted_read l (outcomes step_of fresh_drive l) [] (outcomes_length step_of fresh_drive l))) (good_after l).agrees.params

given_last : (l : List (List ℕ)) → R.history_of (reverse l) ≡ given l
given_last l = history_from (reverse l) [] ∙ rw (reverse-reverse l)

pub accepted_fit : (h : List Event) → L.Accepted h → Fit h
accepted_fit h (l, w) =
    let d = after (reverse l) in
    let e : (after (reverse l)).params ≡ R.parameters h = rw (given_last l ∙ history_is w) at (read_from (reverse l)) in
    let formed = (good_after (reverse l)).wf in
    let in_range_lem = range_at rows d.params 4 (K.parts d formed).params (omega arith) in
    record {
      tools = each_now ((now_read h (R.current h)).0 refl) (tools w);
      low_high = rw e at ((same_formed d).0 formed).low_high;
      mode = rw e at (bounds (row_at rows 4) (backup_mode d.params) in_range_lem).1;
    }

pub accepted_fits : (h : List Event) → L.Accepted h → Fits h
accepted_fits [] a = none (accepted_fit [] a)
accepted_fits (e ∷ h) a = more (accepted_fit (e ∷ h) a) (accepted_fits h (before_that a.1))
