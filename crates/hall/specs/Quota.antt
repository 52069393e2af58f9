-- Document 02, W-204, 'Quiet line', and W-210, 'Use the whole quota': what a hall tick does to one drive, and whom it sends.
use Rattle.std.specs.Prelude.{Bool, not, ◌&&◌, List, ℕ, length}
use Rattle.numbers.specs.Numbers.{pick, next}
use Rattle.order.specs.Order.{larger_first, foremost}
use Rattle.answer.specs.declared.Answer.TheVariants.{No}
use Rattle.damper.specs.declared.Drive.{Drive}
use Rattle.damper.specs.declared.Outcome.{Outcome}
use Rattle.damper.specs.Record.{with_wait}
use Rattle.damper.specs.WellFormed.{well_formed}
use Rattle.damper.specs.Tick.{advance, due}
use Rattle.damper.specs.Step.{outcome, tick_with}
use Rattle.hall.specs.Hall.{at}

-- "A well-formed drive is due when the fourth step of a tick would report."
unfoldable pub due_now : Drive → Bool
due_now d = well_formed d && due (advance d).drive

-- the wait of a well-formed drive after a hall tick: "how many hall ticks in a row it was due and not sent, stopping at 65,535; ..
-- sent or not due it is 0"
abbrev pub wait_after : Bool → Bool → ℕ → ℕ
wait_after is_due sent wait = pick (is_due && not sent) (next wait) 0

-- a hall tick: steps 1 to 3, and the report of step 4 if it is sent; "a drive not well formed keeps it", as all of its record
unfoldable pub hall_ticked : Bool → Drive → Outcome
hall_ticked sent d =
    let a = advance d in
    let o = tick_with sent a in
    pick (well_formed d) (outcome (with_wait o.drive (wait_after (due a.drive) sent d.wait)) o.answer) (outcome d (No 1))

-- of the row before a hall tick: the wait of the drive at a place, and whether it is due
abbrev pub wait_at : List Drive → ℕ → ℕ
wait_at row i = (at row i).wait

abbrev pub due_at : List Drive → ℕ → Bool
due_at row i = due_now (at row i)

-- W-210: "A hall tick must send exactly the smaller of the quota and the number due, longest wait first, lower number among equals": by the
-- waits, who is due, the number of drives and the quota, the drive at `i` goes if it is due and fewer due drives than the quota go before
-- it. That so many go is `sent_count` in QuotaLaws.antt.
abbrev pub longest_first : (ℕ → ℕ) → (ℕ → Bool) → ℕ → ℕ → ℕ → Bool
longest_first wait is_due n quota i = foremost (larger_first wait) is_due n quota i

-- whom it sends of a row
unfoldable pub sends : ℕ → List Drive → ℕ → Bool
sends quota row i = longest_first (wait_at row) (due_at row) (length row) quota i
