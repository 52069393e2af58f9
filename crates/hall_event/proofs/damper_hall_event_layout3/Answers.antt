use Rattle.std.proofs.Common.{◌≡◌, ℕ, ◌+◌, ◌<◌, List, length, get_or, ◌∙◌, arith}
use Rattle.std.proofs.Math.ListN.{set}
use Rattle.std.proofs.lemmas.List.{get_or_default}
use Rattle.answer.specs.Answer.{number_of}
use Rattle.damper.specs.declared.Drive.{Drive}
use Rattle.damper.specs.Record.{fresh_drive}
use Rattle.damper.specs.Step.{step_of}
use Rattle.hall.specs.Hall.{Call, give, call_refusal}
use Rattle.hall.specs.Turns.{turns_of, hall_step}
use Rattle.hall.specs.Laws.{Turns, give_turns, untouched, row_by, answers_by, row_start, answers_start, row_by_length, row_turn, answers_turn, row_end, answers_end}
use Rattle.hall_event.proofs.damper_hall_event_layout3.Goals as goal

-- what is known of the turns of a call that is carried out
known : (row : List Drive) (list s : List ℕ) (room : ℕ) → 0 ≡ call_refusal (length row) (give list s room)
    → Turns (length row) room s (λ k. get_or list k 0) (length list) (turns_of row (give list s room))
known row list s room passed = give_turns row room s list (length list) (rw (← passed))

-- a turn, of the drive that stood at the place, whatever would be read past the row
module _ (ys : List Drive) (list s cs : List ℕ)
    (w : Turns (length ys) (length cs) s (λ k. get_or list k 0) (length list) (turns_of ys (give list s (length cs)))) where
  abbrev call : Call
  call = give list s (length cs)

  module _ (zs : List Drive) (k : ℕ) (e : Drive) (l : k < length list) (rows : zs ≡ row_by hall_step ys call cs k) where
    within : get_or list k 0 < length zs
    within = rw (rows, row_by_length hall_step ys call cs w k) (w.below k l)

    stood : get_or zs (get_or list k 0) e ≡ get_or (row_by hall_step ys call cs k) (get_or list k 0) fresh_drive
    stood = get_or_default zs (get_or list k 0) e fresh_drive within ∙ rw rows

    next_row : (d : Drive) → d ≡ (step_of (get_or zs (get_or list k 0) e) s).drive → set zs (get_or list k 0) d ≡ row_by hall_step ys call cs (k + 1)
    next_row d is = rw (is, stood, rows) (row_turn hall_step ys call cs w k l)

    next_answers : (us : List ℕ) (n : ℕ) → us ≡ answers_by hall_step ys call cs k → n ≡ number_of (step_of (get_or zs (get_or list k 0) e) s).answer
        → set us k n ≡ answers_by hall_step ys call cs (k + 1)
    next_answers us n told is = rw (is, stood, told) (answers_turn hall_step ys call cs w k l)

pub returns-in-Err : goal.returns-in-Err
returns-in-Err c =
    let a = c.args in
    let judged = c.in-Err.ensures in
    let same = untouched hall_step a.row.now (give a.list.now a.s.now (length a.answers.now)) a.answers.now c.in-Err.refusal judged in
    (c.number.ensures.value ∙ judged, same.0, same.1)

pub loop-k-init : goal.loop-k-init
loop-k-init c =
    let a = c.args in
    let call = give a.list.now a.s.now (length a.answers.now) in
    record { row = row_start hall_step a.row.now call a.answers.now; answers = answers_start hall_step a.row.now call a.answers.now }

pub bounds-row-number : goal.bounds-row-number
bounds-row-number c =
    let a = c.args in
    let w = known a.row.now a.list.now a.s.now (length a.answers.now) c.in_default.ensures in
    rw c.loop-k.auto.row (w.below c.loop-k.k c.loop-k-test.true)

pub bounds-answers-k : goal.bounds-answers-k
bounds-answers-k c =
    let a = c.args in
    let w = known a.row.now a.list.now a.s.now (length a.answers.now) c.in_default.ensures in
    omega (arith, w.room, c.loop-k.auto.answers)

pub loop-k-preserved : goal.loop-k-preserved
loop-k-preserved c =
    let a = c.args in
    let l = c.loop-k in
    let w = known a.row.now a.list.now a.s.now (length a.answers.now) c.in_default.ensures in
    let g = c.give_one.ensures in
    record {
      row = next_row a.row.now a.list.now a.s.now a.answers.now w l.row l.k _ c.loop-k-test.true l.invariant.row _ g.drive;
      answers = next_answers a.row.now a.list.now a.s.now a.answers.now w l.row l.k _ c.loop-k-test.true l.invariant.row l.answers _ l.invariant.answers g.number;
    }

pub returns : goal.returns
returns c =
    let a = c.args in
    let l = c.loop-k in
    let call = give a.list.now a.s.now (length a.answers.now) in
    let passed = c.in_default.ensures in
    let w = known a.row.now a.list.now a.s.now (length a.answers.now) passed in
    let all : l.k ≡ length a.list.now = omega arith in (
      passed,
      l.invariant.row ∙ row_end hall_step a.row.now call a.answers.now w l.k all,
      l.invariant.answers ∙ answers_end hall_step a.row.now call a.answers.now w l.k all,
    )
