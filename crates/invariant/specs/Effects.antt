-- What an accepted event does to each field of the record, one equation a field, and what a step does with a refusal.
use Rattle.std.specs.Prelude.{◌≡◌, true, false, not, ◌&&◌, ◌||◌, List, ℕ, eqb, set}
use Rattle.std.proofs.Math.Path.{refl}
use Rattle.std.proofs.Common.{sym, ap, ◌∙◌, ne_eqb}
use Rattle.numbers.specs.Numbers.{pick, on, bit, distance, next, counted}
use Rattle.numbers.specs.Laws.{cases}
use Rattle.table.specs.Table.{place_of, start_synchronization, rate}
use Rattle.event.specs.declared.Event.{Event}
use Rattle.event.specs.Event.{event, event_in, bad_kind, value_of}
use Rattle.event.specs.Laws.{by_kind}
use Rattle.motion.specs.Motion.{to_position, toward, run_ticks}
use Rattle.rules.specs.declared.Commands.{Commands}
use Rattle.rules.specs.Commands.{commands, interlocked}
use Rattle.rules.specs.Rank.{running, start_run, forbids_run}
use Rattle.damper.specs.declared.Run.{Run}
use Rattle.damper.specs.declared.Drive.{Drive}
use Rattle.damper.specs.declared.Outcome.{Outcome}
use Rattle.answer.specs.declared.Answer.TheVariants.{No, Report}
use Rattle.damper.specs.Record.{run, no_run, last, with_counts, with_move, with_run, with_setpoint, with_tool}
use Rattle.damper.specs.WellFormed.{well_formed}
use Rattle.damper.specs.Tick.{aged, ruling, target_at, moved, ran_down, advance, status_of, due}
use Rattle.answer.specs.Answer.{is_report, number_of}
use Rattle.damper.specs.Step.{outcome, done, tick_with, ticked, commanded, calibrated, restarted, obeyed, applied, judged_by, refusal_of, step_of}

-- kind 3 with command 0, and with another
abbrev written : Drive → ℕ → Outcome
written d b = done (with_setpoint d (to_position b))

abbrev overridden : Drive → ℕ → ℕ → Outcome
overridden d b c = done (with_tool d (bit (eqb c 1) 1) (pick (eqb c 1) (to_position b) 0))

-- a value for each kind but 1 and 3, which branch
abbrev Others : Type 0 → Type 0
Others A = A × A × A × A × A × A × A × A × A

abbrev others : {A : Type 0} → (Event → A) → ℕ → ℕ → ℕ → Others A
others g a b c = (
  g (event 2 a b c),
  g (event 4 a b c),
  g (event 5 a b c),
  g (event 6 a b c),
  g (event 7 a b c),
  g (event 8 a b c),
  g (event 9 a b c),
  g (event 10 a b c),
  g (event 11 a b c),
)

-- `f` of the outcome of an accepted event is `g` of the event if it is so of a tick that is due, of one that is not, of an LTE
-- setpoint with command 0, of one with another, and of the other nine kinds. Each is an equation of functions of the data bytes.
after : {A : Type 0} (f : Outcome → A) (d : Drive) (g : Event → A)
    → (due (advance d).drive ≡ true → ◌≡◌ {A = ℕ → ℕ → ℕ → A} (λ a b c. f (tick_with true (advance d))) (λ a b c. g (event 1 a b c)))
    → (due (advance d).drive ≡ false → ◌≡◌ {A = ℕ → ℕ → ℕ → A} (λ a b c. f (tick_with false (advance d))) (λ a b c. g (event 1 a b c)))
    → ((c : ℕ) → eqb c 0 ≡ true → ◌≡◌ {A = ℕ → ℕ → A} (λ a b. f (written d b)) (λ a b. g (event 3 a b c)))
    → ((c : ℕ) → eqb c 0 ≡ false → ◌≡◌ {A = ℕ → ℕ → A} (λ a b. f (overridden d b c)) (λ a b. g (event 3 a b c)))
    → others (λ e. f (applied d e)) ≡ others g
    → (e : Event) → bad_kind e.kind ≡ false → f (applied d e) ≡ g e
unfolding obeyed applied ticked commanded
after f d g t1 t0 w1 w0 o e =
    let h : others (λ x. f (applied d x)) e.a e.b e.c ≡ others g e.a e.b e.c = λ i. o i e.a e.b e.c in
    by_kind (λ k. let x = event k e.a e.b e.c in f (applied d x) ≡ g x)
    (cases (due (advance d).drive) (λ q. rw q (λ i. t1 q i e.a e.b e.c)) (λ q. rw q (λ i. t0 q i e.a e.b e.c)))
    (λ i. (h i).0)
    (cases (eqb e.c 0) (λ q. rw q (λ i. w1 e.c q i e.a e.b)) (λ q. rw q (λ i. w0 e.c q i e.a e.b)))
    (λ i. (h i).1) (λ i. (h i).2) (λ i. (h i).3) (λ i. (h i).4) (λ i. (h i).5) (λ i. (h i).6) (λ i. (h i).7) (λ i. (h i).8)
    e.kind

-- the same, where a report and a command 0 make no difference to `f`: one equation of thirteen values
plain : {A : Type 0} (f : Outcome → A) (d : Drive) (g : Event → A)
    → ◌≡◌ {A = ℕ → ℕ → ℕ → A × A × A × A × Others A}
    (λ a b c. (
      f (tick_with true (advance d)),
      f (tick_with false (advance d)),
      f (written d b),
      f (overridden d b c),
      others (λ e. f (applied d e)) a b c,
    ))
    (λ a b c. (g (event 1 a b c), g (event 1 a b c), g (event 3 a b c), g (event 3 a b c), others g a b c))
    → (e : Event) → bad_kind e.kind ≡ false → f (applied d e) ≡ g e
plain f d g h =
    after f d g (λ q i a b c. (h i a b c).0) (λ q i a b c. (h i a b c).1) (λ c q i a b. (h i a b c).2) (λ c q i a b. (h i a b c).3)
    (λ i a b c. (h i a b c).4)

-- the commands after an event
abbrev pub commands_by : Event → Commands → Commands
commands_by e c =
    commands
    (pick (eqb e.kind 9) 0 (pick (eqb e.kind 7) e.a c.fault))
    (pick (eqb e.kind 9) 0 (pick (eqb e.kind 4) e.a c.forcing))
    (pick (eqb e.kind 9) 0 (pick (eqb e.kind 5) e.a c.hand))
    (pick (eqb e.kind 9) 0 (pick (eqb e.kind 5) (pick (on e.a) e.b 0) c.handpos))
    (pick (eqb e.kind 9) 0 (pick (eqb e.kind 3 && not (eqb e.c 0)) (bit (eqb e.c 1) 1) c.tool))
    (pick (eqb e.kind 9) 0 (pick (eqb e.kind 3 && not (eqb e.c 0)) (pick (eqb e.c 1) (to_position e.b) 0) c.toolpos))
    (pick (eqb e.kind 9) 0 (pick (eqb e.kind 2 || (eqb e.kind 3 && eqb e.c 0)) 1 c.stored))
    (pick (eqb e.kind 9) 0
    (pick (eqb e.kind 2 || (eqb e.kind 3 && eqb e.c 0)) (pick (eqb e.kind 2) e.a (to_position e.b)) c.setpoint))

-- the run after an event of kind `k` and data byte `a`, by parameters, commands and run before it
abbrev pub run_by : ℕ → ℕ → List ℕ → Commands → Run → Run
run_by k a q c r =
    pick (eqb k 9) (let s = start_run (start_synchronization q) in run s (pick (running s) (run_ticks (rate q)) 0))
    (pick (eqb k 6) (run 1 (run_ticks (rate q)))
    (pick (eqb k 1) (ran_down r)
    (pick (eqb k 4) (pick (forbids_run (interlocked c c.fault a)) no_run r)
    (pick (eqb k 7) (pick (forbids_run (interlocked c a c.forcing)) no_run r) r))))

module _ (d : Drive) where
  pub commands_after : (e : Event) → bad_kind e.kind ≡ false → (applied d e).drive.commands ≡ commands_by e d.commands
  unfolding obeyed applied tick_with advance aged moved calibrated restarted
  commands_after = after (λ o. o.drive.commands) d _ (λ q. refl) (λ q. refl) (λ c q. rw q) (λ c q. rw q) refl

  -- the age of the bus setpoint
  pub age_after : (e : Event) → bad_kind e.kind ≡ false
      → (applied d e).drive.age ≡ pick (eqb e.kind 9) 0
      (pick (eqb e.kind 2 || (eqb e.kind 3 && eqb e.c 0)) 0
      (pick (eqb e.kind 1) (pick (on d.commands.stored) (next d.age) d.age) d.age))
  unfolding obeyed applied tick_with advance aged moved calibrated restarted
  age_after = after (λ o. o.drive.age) d _ (λ q. refl) (λ q. refl) (λ c q. rw q) (λ c q. rw q) refl

  -- parameters and position
  pub params_after : (e : Event) → bad_kind e.kind ≡ false
      → (applied d e).drive.params ≡ pick (eqb e.kind 8) (set d.params (place_of e.a) (value_of e)) d.params
  unfolding obeyed applied tick_with advance aged moved calibrated restarted
  params_after = plain (λ o. o.drive.params) d _ refl

  pub position_after : (e : Event) → bad_kind e.kind ≡ false
      → (applied d e).drive.position ≡ pick (eqb e.kind 1) (advance d).drive.position d.position
  unfolding obeyed applied tick_with advance aged moved calibrated restarted
  position_after = plain (λ o. o.drive.position) d _ refl

  pub run_after : (e : Event) → bad_kind e.kind ≡ false
      → (applied d e).drive.run ≡ run_by e.kind e.a d.params d.commands d.run
  unfolding obeyed applied tick_with advance aged moved calibrated restarted
  run_after = plain (λ o. o.drive.run) d _ refl

  -- the ticks since the last report, and what it said
  pub since_after : (e : Event) → bad_kind e.kind ≡ false
      → (applied d e).drive.since ≡ pick (eqb e.kind 9) 0
      (pick (eqb e.kind 1) (pick (due (advance d).drive) 0 (next d.since)) d.since)
  unfolding obeyed applied tick_with advance aged moved calibrated restarted
  since_after = after (λ o. o.drive.since) d _ (λ q. rw q) (λ q. rw q) (λ c q. refl) (λ c q. refl) refl

  pub last_after : (e : Event) → bad_kind e.kind ≡ false
      → (applied d e).drive.last ≡ pick (eqb e.kind 9) (last 0 0 0)
      (pick (eqb e.kind 1 && due (advance d).drive) (last 1 (advance d).drive.position (status_of (advance d).drive)) d.last)
  unfolding obeyed applied tick_with advance aged moved calibrated restarted
  last_after = after (λ o. o.drive.last) d _ (λ q. rw q) (λ q. rw q) (λ c q. refl) (λ c q. refl) refl

  -- the wait: a restart clears it, and no other event changes it
  pub wait_after_lem : (e : Event) → bad_kind e.kind ≡ false → (applied d e).drive.wait ≡ pick (eqb e.kind 9) 0 d.wait
  unfolding obeyed applied tick_with advance aged moved calibrated restarted
  wait_after_lem = plain (λ o. o.drive.wait) d _ refl

  -- the travel: a tick counts its move, and no other event changes it
  pub travel_after : (e : Event) → bad_kind e.kind ≡ false
      → (applied d e).drive.travel ≡ pick (eqb e.kind 1) (advance d).drive.travel d.travel
  unfolding obeyed applied tick_with advance aged moved calibrated restarted
  travel_after = plain (λ o. o.drive.travel) d _ refl

  -- the answer: it is a report just where a tick is due, and no refusal
  pub report_after : (e : Event) → bad_kind e.kind ≡ false
      → is_report (applied d e).answer ≡ eqb e.kind 1 && due (advance d).drive
  unfolding obeyed applied tick_with advance aged moved calibrated restarted
  report_after = after (λ o. is_report o.answer) d _ (λ q. rw q) (λ q. rw q) (λ c q. refl) (λ c q. refl) refl

  pub number_after : (e : Event) → bad_kind e.kind ≡ false
      → number_of (applied d e).answer ≡ 0
  unfolding obeyed applied tick_with advance aged moved calibrated restarted
  number_after = plain (λ o. number_of o.answer) d _ refl

  pub answer_report : (e : Event) → e.kind ≡ 1 → due (advance d).drive ≡ true
      → (applied d e).answer ≡ Report (advance d).drive.position (advance d).rank (advance d).motor (status_of (advance d).drive)
  unfolding obeyed applied ticked tick_with
  answer_report e k q = rw (k, q)

  -- steps 1 to 3 of a tick: the record whole, then field by field
  pub advance_drive : (advance d).drive ≡ with_run
      (with_move (with_counts d (pick (on d.commands.stored) (next d.age) d.age) (next d.since))
      (toward d.position (target_at (aged d) (ruling (aged d))) (rate d.params)))
      (ran_down d.run)
  unfolding advance aged moved
  advance_drive = refl

  pub advance_params : (advance d).drive.params ≡ d.params
  advance_params = ap (λ x. x.params) advance_drive

  pub advance_last : (advance d).drive.last ≡ d.last
  advance_last = ap (λ x. x.last) advance_drive

  pub advance_since : (advance d).drive.since ≡ next d.since
  advance_since = ap (λ x. x.since) advance_drive

  pub advance_position : (advance d).drive.position ≡ toward d.position (target_at (aged d) (ruling (aged d))) (rate d.params)
  advance_position = ap (λ x. x.position) advance_drive

  pub advance_travel : (advance d).drive.travel ≡ counted d.travel (distance d.position (advance d).drive.position)
  advance_travel = ap (λ x. x.travel) advance_drive ∙ ap (λ (p : ℕ). counted d.travel (distance d.position p)) (sym advance_position)

  -- a step that refuses keeps the record and says the number; one that does not applies the event
  pub step_refused : (s : List ℕ) → (refusal_of d s ≡ 0 → ⊥) → step_of d s ≡ outcome d (No (refusal_of d s))
  unfolding step_of
  step_refused s h = rw (ne_eqb (refusal_of d s) 0 h)

  pub step_accepted : (s : List ℕ) → refusal_of d s ≡ 0 → step_of d s ≡ applied d (event_in s)
  unfolding step_of
  step_accepted s h = rw h

  pub refusal_wf : (s : List ℕ) → well_formed d ≡ true → refusal_of d s ≡ judged_by d s
  unfolding refusal_of
  refusal_wf s h = rw h
