-- At every turn both rows are those after the turns so far.
use Rattle.std.proofs.Common.{◌≡◌, length}
use Rattle.hall.specs.Hall.{give}
use Rattle.hall.specs.Turns.{hall_step}
use Rattle.hall.specs.Laws.{row_by, answers_by}
use Rattle.hall_event.proofs.damper_hall_event_layout3.Given as goal

abbrev pub invariant-loop-k : goal.invariant-loop-k
invariant-loop-k l = record {
  row : l.row ≡ row_by hall_step l.fn.row (give l.list l.s (length l.fn.answers)) l.fn.answers l.k;
  answers : l.answers ≡ answers_by hall_step l.fn.row (give l.list l.s (length l.fn.answers)) l.fn.answers l.k;
}
