-- Laws of whom a hall tick sends, for every quota and row (document 02, W-210).
use Rattle.std.specs.Prelude.{◌≡◌, true, false, List, ℕ, ◌<◌, ◌≤◌, min, length}
use Rattle.numbers.specs.Laws.{and_left}
use Rattle.numbers.specs.Places.{count_below}
use Rattle.order.specs.Order.{larger_first}
use Rattle.order.specs.Laws.{by_number, larger_true, first_count, first_full, first_before}
use Rattle.damper.specs.declared.Drive.{Drive}
use Rattle.hall.specs.Quota.{wait_at, due_at, sends}

module _ (quota : ℕ) (row : List Drive) where
  abbrev n : ℕ
  n = length row

  -- only a drive that is due
  pub sent_due : (i : ℕ) → sends quota row i ≡ true → due_at row i ≡ true
  unfolding sends
  sent_due i e = and_left (due_at row i) _ e

  -- "exactly the smaller of the quota and the number due"
  pub sent_count : count_below n (sends quota row) ≡ min quota (count_below n (due_at row))
  unfolding sends
  sent_count = first_count (larger_first (wait_at row)) (by_number (wait_at row)) (due_at row) n quota

  -- as many as the quota, where one that is due is held
  pub held_full : (i : ℕ) → due_at row i ≡ true → sends quota row i ≡ false → count_below n (sends quota row) ≡ quota
  unfolding sends
  held_full i d e = first_full (larger_first (wait_at row)) (by_number (wait_at row)) (due_at row) n quota i d e

  -- "longest wait first, lower number among equals": of a drive `i` that is due and held and a drive `j` that is sent
  pub sent_first : (i j : ℕ) → i < n → due_at row i ≡ true → sends quota row i ≡ false → sends quota row j ≡ true
      → (wait_at row i ≤ wait_at row j) × (wait_at row i ≡ wait_at row j → j < i)
  unfolding sends
  sent_first i j b d e f =
      larger_true (wait_at row) i j (first_before (larger_first (wait_at row)) (by_number (wait_at row)) (due_at row) n quota i j b d e f)
