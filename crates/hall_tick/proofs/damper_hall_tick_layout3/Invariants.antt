-- In the first loop the drives so far are held and what stands for them is filled in; in the second the reports before the next that goes are
-- sent, all of them where none is left.
use Rattle.std.proofs.Common.{◌≡◌, true, ◌<◌, ◌-◌, length, unwrap_or, IfSome}
use Rattle.hall_tick.specs.Chosen.{front, held_by, due_by, picked, sent_up_to, said_up_to}
use Rattle.hall_tick.proofs.damper_hall_tick_layout3.Given as goal

abbrev pub invariant-loop-place : goal.invariant-loop-place
invariant-loop-place l = record {
  row : l.row ≡ held_by l.fn.row (front l.fn.row l.fn.numbers) l.quota (length l.fn.row) l.place;
  numbers : l.numbers ≡ due_by l.fn.row (front l.fn.row l.fn.numbers) l.quota (length l.fn.row) l.place;
}

abbrev pub invariant-loop-next : goal.invariant-loop-next
invariant-loop-next l = record {
  within : IfSome l.next (λ k. k < length l.fn.row);
  goes : IfSome l.next (λ k. picked l.fn.row (front l.fn.row l.fn.numbers) l.quota (length l.fn.row) k ≡ true);
  row : l.row ≡ sent_up_to l.fn.row (front l.fn.row l.fn.numbers) l.quota (length l.fn.row) (unwrap_or l.next (length l.fn.row));
  numbers : l.numbers ≡ said_up_to l.fn.row (front l.fn.row l.fn.numbers) l.quota (length l.fn.row) (unwrap_or l.next (length l.fn.row));
}

abbrev pub decreases-loop-next : goal.decreases-loop-next
decreases-loop-next l = length l.fn.row - unwrap_or l.next (length l.fn.row)
