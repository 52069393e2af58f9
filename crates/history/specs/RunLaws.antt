-- The run read off the list at one event more, and its ticks left.
use Rattle.std.specs.Prelude.{◌≡◌, refl, Bool, true, false, not, ◌&&◌, List, ℕ, ◌+◌, ◌-◌, ◌<◌, ◌≤◌, leb, ltb, eqb}
use Rattle.std.proofs.Common.{arith, ltb-true, ltb-false, lt-ltb, le-leb, eqb-true}
use Rattle.std.proofs.lemmas.Bool.{lt-leb}
use Rattle.numbers.specs.Numbers.{pick}
use Rattle.numbers.specs.Laws.{cases}
use Rattle.table.specs.Table.{rate}
use Rattle.event.specs.declared.Event.{Event}
use Rattle.motion.specs.Motion.{run_ticks}
use Rattle.rules.specs.Rank.{running}
use Rattle.damper.specs.declared.Run.{Run}
use Rattle.damper.specs.Record.{run, no_run}
use Rattle.damper.specs.Tick.{ran_down}
use Rattle.history.specs.Readings as R

-- the ticks that a run has left, by its latest start
abbrev pub left_of : R.Found → ℕ
left_of R.nothing = 0
left_of (R.found after x before) =
    pick (not (R.ended after) && running (R.started_by x (R.parameters before))) (run_ticks (rate (R.parameters before)) - R.ticks after) 0

-- the run with its ticks left
abbrev pub going_of : R.Found → Run
going_of x = run (R.run_of x) (left_of x)

unfoldable pub left_in : List Event → ℕ
left_in h = left_of (R.latest R.is_start h)

abbrev pub going_in : List Event → Run
going_in h = run (R.run_in h) (left_in h)

pick_same : (b : Bool) (r : ℕ) → r ≡ 0 → pick b r 0 ≡ 0
pick_same true r e = e
pick_same false r e = refl

-- one tick of a run: whether it was ended, what started, its K and the ticks so far
run_tick : (en : Bool) (r k n : ℕ)
    → pick (not en && ltb (n + 1) k) r 0 ≡ pick (leb (pick (not en && running r) (k - n) 0) 1) 0 (pick (not en && ltb n k) r 0)
run_tick true r k n = refl
run_tick false r k n =
    cases (eqb r 0)
    (λ e. let z = eqb-true r 0 e in rw e (pick_same (ltb (n + 1) k) r z))
    λ e.
    cases (ltb (n + 1) k)
    (λ f.
    let l : n + 1 < k = ltb-true (n + 1) k f in
    rw (e, f, lt-leb (k - n) 1 (omega arith), lt-ltb n k (omega arith)))
    (λ f.
    let l : k ≤ n + 1 = ltb-false (n + 1) k f in
    rw (e, f, le-leb (k - n) 1 (omega arith)))

left_tick : (b : Bool) (k n : ℕ) → pick b (k - (n + 1)) 0 ≡ pick b (k - n) 0 - 1
left_tick true k n = omega arith
left_tick false k n = refl

-- a tick passes one tick of the run
pub run_below_tick : (e : Event) (x : R.Found) → R.is_tick e ≡ true → R.ends_run e ≡ false → going_of (R.below e x) ≡ ran_down (going_of x)
unfolding R.ended R.ticks ran_down
run_below_tick e R.nothing t n = refl
run_below_tick e (R.found a y b) t n =
    rw (t, n)
    (λ i. run (run_tick (R.ended a) (R.started_by y (R.parameters b)) (run_ticks (rate (R.parameters b))) (R.ticks a) i)
    (left_tick (not (R.ended a) && running (R.started_by y (R.parameters b))) (run_ticks (rate (R.parameters b))) (R.ticks a) i))

-- any other event that starts none leaves the run, or ends it
pub run_below : (e : Event) (x : R.Found) → R.is_tick e ≡ false → going_of (R.below e x) ≡ pick (R.ends_run e) no_run (going_of x)
unfolding R.ended R.ticks
run_below e x t = go (R.ends_run e) refl x
  where
    go : (c : Bool) → R.ends_run e ≡ c → (x : R.Found) → going_of (R.below e x) ≡ pick c no_run (going_of x)
    go true c R.nothing = refl
    go false c R.nothing = refl
    go true c (R.found a y b) = rw (t, c)
    go false c (R.found a y b) = rw (t, c)
