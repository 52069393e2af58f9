-- Proofs: ticks, the bus and the run.
use Rattle.std.specs.Prelude.{◌≡◌, ◌↔◌, Bool, true, false, not, ◌&&◌, ◌||◌, ℕ, ◌+◌, ◌≤◌, leb, ltb, eqb, length}
use Rattle.std.proofs.Math.Path.{refl}
use Rattle.std.proofs.Common.{sym, ap, subst, ◌∙◌, arith, add-zero, eqb-true, leb-true, le-leb, ltb-true, lt-ltb}
use Rattle.std.proofs.lemmas.Bool.{false≢true, not-true}
use mathlib.Core.List.{List, [], ◌∷◌}
use Rattle.numbers.specs.Numbers.{pick, on}
use Rattle.numbers.specs.Laws.{cases, and_left, and_right, or_left, or_right}
use Rattle.table.specs.declared.Row.{Row}
use Rattle.table.specs.Table.{rows, timeout, rate, start_synchronization}
use Rattle.event.specs.declared.Event.{Event}
use Rattle.event.specs.Event.{value_of}
use Rattle.motion.specs.Motion.{run_ticks}
use Rattle.history.specs.Readings as R
use Rattle.sentences.specs.Refusals.{same_choice}
use Rattle.sentences.specs.Shows.{one}
use Rattle.sentences_list.specs.Paper as L
use Rattle.sentences_list.specs.Latest.{each_of, latest_cons, Is, is_latest, found_is, nothing_is, now_read}
use Rattle.sentences_list.specs.Values.{setpoint_there, setpoint_back, has_parameters, parameters_are}

-- how many ticks
counted : (b : Bool) (e : Event) (l : List Event) (n : ℕ) → n ≡ length (L.ticks l)
    → pick b (n + 1) n ≡ length (pick b (e ∷ L.ticks l) (L.ticks l))
counted true e l n h = omega arith
counted false e l n h = h

pub same_ticks : (l : List Event) → R.ticks l ≡ length (L.ticks l)
unfolding R.ticks
same_ticks [] = refl
same_ticks (e ∷ l) =
    counted (R.is_tick e) e l (R.ticks l) (same_ticks l)
    ∙ ap (λ (x : List Event). length x) (same_choice (R.is_tick e) (e ∷ L.ticks l) (L.ticks l))

ticks_one : (t : Event) (l : List Event) → t.kind ≡ 1 → R.ticks (t ∷ l) ≡ R.ticks l + 1
unfolding R.ticks
ticks_one t l k = rw k

-- ── a tick changes neither what was said nor the parameters ──
module _ (t : Event) (k : t.kind ≡ 1) where
  below_tick : (p : Event → Bool) (l : List Event) → p t ≡ false → R.latest p (t ∷ l) ≡ R.below t (R.latest p l)
  below_tick p l n = rw (latest_cons p t l, n)

  after_tick : (h : List Event) (f : R.Found) → R.after_in (t ∷ h) (R.below t f) ≡ t ∷ R.after_in h f
  after_tick h R.nothing = refl
  after_tick h (R.found a x b) = refl

  pub current_tick : (h : List Event) → R.current (t ∷ h) ≡ t ∷ R.current h
  unfolding R.current
  current_tick h = rw (below_tick R.is_restart h (rw k)) (after_tick h (R.latest R.is_restart h))

  value_tick : {A : Type 0} (none : A) (of : Event → A) (f : R.Found) → R.value_in none of (R.below t f) ≡ R.value_in none of f
  value_tick none of R.nothing = refl
  value_tick none of (R.found a x b) = refl

  pub said_tick : {A : Type 0} (none : A) (of : Event → A) (p : Event → Bool) (h : List Event) → p t ≡ false
      → R.value_in none of (R.latest p (R.current (t ∷ h))) ≡ R.value_in none of (R.latest p (R.current h))
  said_tick none of p h n = rw (current_tick h, below_tick p (R.current h) n) (value_tick none of (R.latest p (R.current h)))

  pub setpoint_tick : (h : List Event) → R.latest R.is_setpoint (R.current (t ∷ h)) ≡ R.below t (R.latest R.is_setpoint (R.current h))
  setpoint_tick h = rw (current_tick h) (below_tick R.is_setpoint (R.current h) (rw k))

  pub start_tick : (h : List Event) → R.latest R.is_start (t ∷ h) ≡ R.below t (R.latest R.is_start h)
  start_tick h = below_tick R.is_start h (rw k)

  pub parameters_tick : (h : List Event) → R.parameters (t ∷ h) ≡ R.parameters h
  unfolding R.parameters R.parameter_in
  parameters_tick h = go rows
    where
      go : (l : List Row) → R.parameters_of (t ∷ h) l ≡ R.parameters_of h l
      go [] = refl
      go (r ∷ l) =
          rw (below_tick (R.is_write r.number) h (rw k))
          (rw (value_tick r.fresh value_of (R.latest (R.is_write r.number) h), go l))

-- ── the bus ──
pub age_is : (h now : List Event) → L.AfterRestart h now → {after : List Event} {e : Event} {before : List Event}
    → L.Latest L.Setpoint now after e before → R.setpoint_age h ≡ length (L.ticks after)
unfolding R.setpoint_age
age_is h now a {after} w =
    rw ((now_read h now).1 a, found_is L.Setpoint R.is_setpoint setpoint_there (each_of setpoint_back now) w) (same_ticks after)

pub no_age : (h now : List Event) → L.AfterRestart h now → L.Without L.Setpoint now → R.setpoint_age h ≡ 0
unfolding R.setpoint_age
no_age h now a w = rw ((now_read h now).1 a, nothing_is L.Setpoint R.is_setpoint setpoint_there (each_of setpoint_back now) w)

abbrev bus_of : ℕ → List ℕ → R.Found → Bool
bus_of n q R.nothing = false
bus_of n q (R.found after x before) = leb (R.ticks after + n) (timeout q)

abbrev pub bus_at : ℕ → List Event → Bool
bus_at n h = bus_of n (R.parameters h) (R.latest R.is_setpoint (R.current h))

pub bus_stands : (h : List Event) → R.bus_in h ≡ bus_at 0 h
unfolding R.bus_in R.setpoint_in R.setpoint_age
bus_stands h = go (R.latest R.is_setpoint (R.current h))
  where
    go : (f : R.Found) → (on (R.value_in 0 (λ e. 1) f) && leb (R.ticks_after f) (timeout (R.parameters h))) ≡ bus_of 0 (R.parameters h) f
    go R.nothing = refl
    go (R.found a x b) = rw (add-zero (R.ticks a))

pub bus_at_tick : (t : Event) (h : List Event) → t.kind ≡ 1 → R.bus_in (t ∷ h) ≡ bus_at 1 h
bus_at_tick t h k = bus_stands (t ∷ h) ∙ rw (setpoint_tick t k h, parameters_tick t k h) (go (R.latest R.is_setpoint (R.current h)))
  where
    go : (f : R.Found) → bus_of 0 (R.parameters h) (R.below t f) ≡ bus_of 1 (R.parameters h) f
    go R.nothing = refl
    go (R.found a x b) = rw (add-zero (R.ticks (t ∷ a)), ticks_one t a k)

module _ (n : ℕ) (h : List Event) where
  abbrev setpoints : L.Each (λ e. R.is_setpoint e ≡ true → L.Setpoint e) (R.current h)
  setpoints = each_of setpoint_back (R.current h)

  bus_found : bus_at n h ≡ true → L.BusActive n h
  bus_found = go (R.latest R.is_setpoint (R.current h)) (is_latest L.Setpoint R.is_setpoint setpoint_there (R.current h) setpoints)
    where
      go : (f : R.Found) → Is L.Setpoint R.is_setpoint setpoint_there (R.current h) f → bus_of n (R.parameters h) f ≡ true → L.BusActive n h
      go R.nothing w e = absurd (false≢true e)
      go (R.found after x before) w e =
          record {
            now = R.current h;
            after_restart = (now_read h (R.current h)).0 refl;
            after = after;
            setpoint = x;
            before = before;
            latest = w;
            q = R.parameters h;
            parameters = has_parameters h;
            in_time = rw (← (same_ticks after)) (leb-true _ _ e);
          }

  bus_is : L.BusActive n h → bus_at n h ≡ true
  bus_is w =
      let now : R.current h ≡ w.now = (now_read h w.now).1 w.after_restart in
      let f = found_is L.Setpoint R.is_setpoint setpoint_there (each_of setpoint_back w.now) w.latest in
      rw (now, f, parameters_are h w.parameters, same_ticks w.after) (le-leb _ _ w.in_time)

  has_bus : L.Bus n h (bus_at n h)
  has_bus =
      cases (bus_at n h)
      (λ q. subst (L.Bus n h) (sym q) (L.active (bus_found q)))
      (λ q. subst (L.Bus n h) (sym q) (L.not_active (λ w. false≢true (sym q ∙ bus_is w))))

  read_bus : (b : Bool) → L.Bus n h b → bus_at n h ≡ b
  read_bus b (L.active w) = bus_is w
  read_bus b (L.not_active x) = cases (bus_at n h) (λ q. absurd (x (bus_found q))) (λ q. q)

  pub bus_read : (b : Bool) → (bus_at n h ≡ b) ↔ L.Bus n h b
  bus_read b = (λ e. subst (L.Bus n h) e has_bus, read_bus b)

-- ── the run ──
start_there : (e : Event) → L.Start e → R.is_start e ≡ true
start_there e (L.calibration k) = rw k
start_there e (L.restart k) = rw k

start_back : (e : Event) → R.is_start e ≡ true → L.Start e
start_back e q = one (eqb e.kind 6) (eqb e.kind 9) q (λ k. L.calibration (eqb-true _ _ k)) (λ k. L.restart (eqb-true _ _ k))

ends_there : (e : Event) → L.EndsRun e → R.ends_run e ≡ true
ends_there e (L.fault_1 k a) = rw (k, a)
ends_there e (L.forcing_2 k a) = rw (k, a)
ends_there e (L.forcing_3 k a) = rw (k, a)

ends_back : (e : Event) → R.ends_run e ≡ true → L.EndsRun e
ends_back e q =
    one (eqb e.kind 7 && eqb e.a 1) (eqb e.kind 4 && (eqb e.a 2 || eqb e.a 3)) q
    (λ f. L.fault_1 (eqb-true _ _ (and_left (eqb e.kind 7) _ f)) (eqb-true _ _ (and_right (eqb e.kind 7) _ f)))
    (λ f.
    let k = eqb-true e.kind 4 (and_left (eqb e.kind 4) _ f) in
    one (eqb e.a 2) (eqb e.a 3) (and_right (eqb e.kind 4) _ f)
    (λ a. L.forcing_2 k (eqb-true _ _ a))
    (λ a. L.forcing_3 k (eqb-true _ _ a)))

none_ended : (l : List Event) → L.Without L.EndsRun l → R.ended l ≡ false
unfolding R.ended
none_ended [] w = refl
none_ended (e ∷ l) (L.more n w) =
    let rest = none_ended l w in
    cases (R.ends_run e) (λ q. absurd (n (ends_back e q))) (λ q. rw (q, rest))

ended_none : (l : List Event) → R.ended l ≡ false → L.Without L.EndsRun l
unfolding R.ended
ended_none [] q = L.none
ended_none (e ∷ l) q =
    L.more (λ x. false≢true (sym (or_left (R.ends_run e) (R.ended l) q) ∙ ends_there e x))
    (ended_none l (or_right (R.ends_run e) (R.ended l) q))

abbrev run_of : ℕ → R.Found → ℕ
run_of n R.nothing = 0
run_of n (R.found after x before) =
    pick (not (R.ended after) && ltb (R.ticks after + n) (run_ticks (rate (R.parameters before)))) (R.started_by x (R.parameters before)) 0

abbrev pub run_at : ℕ → List Event → ℕ
run_at n h = run_of n (R.latest R.is_start h)

pub run_stands : (h : List Event) → R.run_in h ≡ run_at 0 h
unfolding R.run_in
run_stands h = go (R.latest R.is_start h)
  where
    go : (f : R.Found) → R.run_of f ≡ run_of 0 f
    go R.nothing = refl
    go (R.found a x b) = rw (add-zero (R.ticks a))

tick_ends_none : (t : Event) (l : List Event) → t.kind ≡ 1 → R.ended (t ∷ l) ≡ R.ended l
unfolding R.ended
tick_ends_none t l k = rw k

pub run_at_tick : (t : Event) (h : List Event) → t.kind ≡ 1 → R.run_in (t ∷ h) ≡ run_at 1 h
run_at_tick t h k = run_stands (t ∷ h) ∙ rw (start_tick t k h) (go (R.latest R.is_start h))
  where
    go : (f : R.Found) → run_of 0 (R.below t f) ≡ run_of 1 f
    go R.nothing = refl
    go (R.found a x b) = rw (add-zero (R.ticks (t ∷ a)), ticks_one t a k, tick_ends_none t a k)

-- what an event starts
started : (q : List ℕ) (e : Event) (r : ℕ) → L.Starts q e r → R.started_by e q ≡ r
started q e r (L.calibration k) = rw k
started q e r (L.sync_close k s) = rw (k, s)
started q e r (L.sync_open k s) = rw (k, s)

some_run : (q : List ℕ) (e : Event) (r : ℕ) → L.Starts q e r → r ≡ 0 → ⊥
some_run q e r (L.calibration k) z = omega arith
some_run q e r (L.sync_close k s) z = omega arith
some_run q e r (L.sync_open k s) z = omega arith

pub run_most : (q : List ℕ) (e : Event) (r : ℕ) → L.Starts q e r → r ≤ 3
run_most q e r (L.calibration k) = omega arith
run_most q e r (L.sync_close k s) = omega arith
run_most q e r (L.sync_open k s) = omega arith

starts_or : {A : Type 0} (q : List ℕ) (e : Event) → L.Start e → (R.started_by e q ≡ 0 → A)
    → ((r : ℕ) → R.started_by e q ≡ r → L.Starts q e r → A) → A
starts_or q e (L.calibration k) f g = g 1 (rw k) (L.calibration k)
starts_or q e (L.restart k) f g =
    cases (eqb (start_synchronization q) 1)
    (λ s. g 2 (rw (k, s)) (L.sync_close k (eqb-true _ _ s)))
    (λ s. cases (eqb (start_synchronization q) 2)
    (λ u. g 3 (rw (k, s, u)) (L.sync_open k (eqb-true _ _ u)))
    (λ u. f (rw (k, s, u))))

module _ (n : ℕ) (h : List Event) where
  abbrev starts : L.Each (λ e. R.is_start e ≡ true → L.Start e) h
  starts = each_of start_back h

  running_is : (r : ℕ) → L.Running n h r → run_at n h ≡ r
  running_is r w =
      let f = found_is L.Start R.is_start start_there starts w.latest in
      rw (f, none_ended w.after w.not_ended, same_ticks w.after, parameters_are w.before w.parameters)
      (rw (lt-ltb _ _ w.in_time) (started w.q w.start r w.starts))

  running_or : {A : Type 0} → (run_at n h ≡ 0 → A) → ((r : ℕ) → run_at n h ≡ r → L.Running n h r → A) → A
  running_or {A} = go (R.latest R.is_start h) (is_latest L.Start R.is_start start_there h starts)
    where
      go : (f : R.Found) → Is L.Start R.is_start start_there h f → (run_of n f ≡ 0 → A) → ((r : ℕ) → run_of n f ≡ r → L.Running n h r → A) → A
      go R.nothing w none some = none refl
      go (R.found after x before) w none some =
          cases (not (R.ended after) && ltb (R.ticks after + n) (run_ticks (rate (R.parameters before))))
          (λ q.
          starts_or (R.parameters before) x w.so
          (λ z. none (rw q z))
          (λ r z s. some r (rw q z)
          (record {
            after = after;
            start = x;
            before = before;
            latest = w;
            q = R.parameters before;
            parameters = has_parameters before;
            starts = s;
            not_ended = ended_none after (not-true _ (and_left (not (R.ended after)) _ q));
            in_time = rw (← (same_ticks after)) (ltb-true _ _ (and_right (not (R.ended after)) _ q));
          })))
          (λ q. none (rw q))

  no_running : run_at n h ≡ 0 → (r : ℕ) → L.Running n h r → ⊥
  no_running z r w = some_run w.q w.start r w.starts (sym (running_is r w) ∙ z)

  pub has_run : L.Run n h (run_at n h)
  has_run =
      running_or
      (λ z. subst (L.Run n h) (sym z) (L.none (no_running z)))
      (λ r z w. subst (L.Run n h) (sym z) (L.active w))

  pub run_is : (r : ℕ) → L.Run n h r → run_at n h ≡ r
  run_is r (L.active w) = running_is r w
  run_is r (L.none x) = running_or (λ z. z) (λ s z w. absurd (x s w))

  pub run_at_most : (r : ℕ) → L.Run n h r → r ≤ 3
  run_at_most r (L.active w) = run_most w.q w.start r w.starts
  run_at_most r (L.none x) = omega arith

  pub run_read : (r : ℕ) → (run_at n h ≡ r) ↔ L.Run n h r
  run_read r = (λ e. subst (L.Run n h) e has_run, run_is r)
