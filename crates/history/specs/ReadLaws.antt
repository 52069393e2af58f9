-- Each reading at one event more.
use Rattle.std.specs.Prelude.{◌≡◌, refl, Bool, true, false, ◌&&◌, List, [], ◌∷◌, ℕ, ◌+◌, eqb, set}
use Rattle.std.proofs.Common.{◌∙◌, ltb-true}
use Rattle.numbers.specs.Numbers.{pick, on, bit}
use Rattle.table.specs.declared.Row.{Row}
use Rattle.table.specs.Table.{rows, place_from, place_of, known}
use Rattle.table.specs.Laws.{by_number}
use Rattle.event.specs.declared.Event.{Event}
use Rattle.event.specs.Event.{value_of}
use Rattle.motion.specs.Motion.{to_position}
use Rattle.rules.specs.Commands.{commands}
use Rattle.invariant.specs.Effects.{commands_by}
use Rattle.history.specs.Readings as R

after_below : (e : Event) (h : List Event) (x : R.Found) → R.after_in (e ∷ h) (R.below e x) ≡ e ∷ R.after_in h x
after_below e h R.nothing = refl
after_below e h (R.found a y b) = refl

-- the events after the last restart, with one more
pub current_cons : (e : Event) (h : List Event) → R.current (e ∷ h) ≡ pick (R.is_restart e) [] (e ∷ R.current h)
unfolding R.current R.latest
current_cons e h = go (R.is_restart e)
  where
    go : (b : Bool) → R.after_in (e ∷ h) (pick b (R.found [] e h) (R.below e (R.latest R.is_restart h))) ≡ pick b [] (e ∷ R.current h)
    go true = refl
    go false = after_below e h (R.latest R.is_restart h)

-- the value by the latest event, with one more
pub latest_cons : {A : Type 0} (none : A) (of : Event → A) (p : Event → Bool) (e : Event) (h : List Event)
    → R.value_in none of (R.latest p (e ∷ h)) ≡ pick (p e) (of e) (R.value_in none of (R.latest p h))
unfolding R.latest
latest_cons none of p e h = go (p e) (R.latest p h)
  where
    go : (b : Bool) (x : R.Found) → R.value_in none of (pick b (R.found [] e h) (R.below e x)) ≡ pick b (of e) (R.value_in none of x)
    go true x = refl
    go false R.nothing = refl
    go false (R.found a y c) = refl

-- the same of the events after the last restart
pub value_cons : {A : Type 0} (none : A) (of : Event → A) (p : Event → Bool) (e : Event) (h : List Event)
    → R.value_in none of (R.latest p (R.current (e ∷ h))) ≡ pick (R.is_restart e) none (pick (p e) (of e) (R.value_in none of (R.latest p (R.current h))))
unfolding R.latest
value_cons none of p e h = rw (current_cons e h) (go (R.is_restart e))
  where
    go : (b : Bool) → R.value_in none of (R.latest p (pick b [] (e ∷ R.current h))) ≡ pick b none (pick (p e) (of e) (R.value_in none of (R.latest p (R.current h))))
    go true = refl
    go false = latest_cons none of p e (R.current h)

-- the commands, with one event more
pub commands_cons : (e : Event) (h : List Event) → R.commands_in (e ∷ h) ≡ commands_by e (R.commands_in h)
unfolding R.fault_in R.forcing_in R.hand_in R.hand_value R.tool_in R.tool_value R.setpoint_in R.setpoint_value
commands_cons e h i =
    commands
    (value_cons 0 (λ (x : Event). x.a) R.is_fault e h i)
    (value_cons 0 (λ (x : Event). x.a) R.is_forcing e h i)
    (value_cons 0 (λ (x : Event). x.a) R.is_hand e h i)
    (value_cons 0 (λ (x : Event). pick (on x.a) x.b 0) R.is_hand e h i)
    (value_cons 0 (λ (x : Event). bit (eqb x.c 1) 1) R.is_tool e h i)
    (value_cons 0 (λ (x : Event). pick (eqb x.c 1) (to_position x.b) 0) R.is_tool e h i)
    (value_cons 0 (λ (x : Event). 1) R.is_setpoint e h i)
    (value_cons 0 (λ (x : Event). pick (eqb x.kind 2) x.a (to_position x.b)) R.is_setpoint e h i)

-- the age of the setpoint, with one event more
pub age_cons : (e : Event) (h : List Event)
    → R.setpoint_age (e ∷ h)
    ≡ pick (R.is_restart e) 0 (pick (R.is_setpoint e) 0 (pick (on (R.setpoint_in h) && R.is_tick e) (R.setpoint_age h + 1) (R.setpoint_age h)))
unfolding R.setpoint_age R.setpoint_in R.latest R.ticks
age_cons e h = rw (current_cons e h) (go (R.is_restart e))
  where
    at : (c : Bool) (x : R.Found)
        → R.ticks_after (pick c (R.found [] e (R.current h)) (R.below e x))
        ≡ pick c 0 (pick (on (R.value_in 0 (λ y. 1) x) && R.is_tick e) (R.ticks_after x + 1) (R.ticks_after x))
    at true x = refl
    at false R.nothing = refl
    at false (R.found a y b) = refl

    go : (b : Bool)
        → R.ticks_after (R.latest R.is_setpoint (pick b [] (e ∷ R.current h)))
        ≡ pick b 0 (pick (R.is_setpoint e) 0 (pick (on (R.value_in 0 (λ y. 1) (R.latest R.is_setpoint (R.current h))) && R.is_tick e) (R.ticks_after (R.latest R.is_setpoint (R.current h)) + 1) (R.ticks_after (R.latest R.is_setpoint (R.current h)))))
    go true = refl
    go false = at (R.is_setpoint e) (R.latest R.is_setpoint (R.current h))

-- a parameter, with one event more
parameter_cons : (e : Event) (h : List Event) (r : Row)
    → R.parameter_in (e ∷ h) r ≡ pick (R.is_write r.number e) (value_of e) (R.parameter_in h r)
unfolding R.parameter_in
parameter_cons e h r = latest_cons r.fresh value_of (R.is_write r.number) e h

-- an event that is no write leaves the parameters
pub parameters_other : (e : Event) (h : List Event) → eqb e.kind 8 ≡ false → R.parameters (e ∷ h) ≡ R.parameters h
unfolding R.parameters
parameters_other e h k = go rows
  where
    go : (l : List Row) → R.parameters_of (e ∷ h) l ≡ R.parameters_of h l
    go [] = refl
    go (r ∷ l) = rw (parameter_cons e h r, k, go l)

-- a write changes the place of its number
abbrev written : ℕ → ℕ → List Event → List Row → List ℕ
written n v h [] = []
written n v h (r ∷ l) = pick (eqb n r.number) v (R.parameter_in h r) ∷ written n v h l

pub parameters_write : (e : Event) (h : List Event) → eqb e.kind 8 ≡ true → known e.a ≡ true
    → R.parameters (e ∷ h) ≡ set (R.parameters h) (place_of e.a) (value_of e)
unfolding R.parameters place_from
parameters_write e h k n =
    go rows
    ∙ by_number (λ (n : ℕ). (v : ℕ) → written n v h rows ≡ set (R.parameters_of h rows) (place_of n) v) rows 0 e.a
    ((λ v. refl), ((λ v. refl), ((λ v. refl), ((λ v. refl), ((λ v. refl), ((λ v. refl), ((λ v. refl), ((λ v. refl), ((λ v. refl), ((λ v. refl), ((λ v. refl), ((λ v. refl), tt))))))))))))
    (ltb-true _ _ n) (value_of e)
  where
    go : (l : List Row) → R.parameters_of (e ∷ h) l ≡ written e.a (value_of e) h l
    go [] = refl
    go (r ∷ l) = rw (parameter_cons e h r, k, go l)
