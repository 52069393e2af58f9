-- Every event keeps a drive record well formed.
use Rattle.std.specs.Prelude.{◌≡◌, Bool, true, not, ◌&&◌, ◌||◌, List, [], ◌∷◌, ℕ, suc, ◌+◌, ◌-◌, ◌≤◌, ◌<◌, leb, ltb, eqb, get_or, set, length}
use Rattle.std.proofs.Math.Path.{refl}
use Rattle.std.proofs.Common.{sym, ap, ◌∙◌, le_refl, arith, get_or-set_same, get_or-set_other, leb-true, leb-false, eqb-true, ltb-true, ltb-false, le-leb, eq-eqb}
use Rattle.std.proofs.Math.Bool.{false, and-eq-true_iff, or-true}
use Rattle.std.proofs.Math.Nat.{sub_self}
use Rattle.std.proofs.lemmas.Bool.{eqb-false}
use Rattle.numbers.specs.Numbers.{pick, on, is_flag}
use Rattle.numbers.specs.Laws.{cases, and_left, and_right, and_intro, or_left, not_false, pick_elim}
use Rattle.table.specs.declared.Row.{Row}
use Rattle.table.specs.Table.{rate_number, low_number, high_number, rows, row_at, all_in, place_from, place_of, known, takes, damper_mode, start_synchronization, rate, low, high}
use Rattle.table.specs.Laws.{all_length, all_set}
use Rattle.event.specs.declared.Event.{Event}
use Rattle.event.specs.Event.{event, event_in, form_of, bad_a, data_refusal}
use Rattle.event.specs.Laws.{by_kind, admitted, record_passed}
use Rattle.motion.specs.Motion.{to_position, run_ticks}
use Rattle.motion.specs.Laws.{run_ticks_pos}
use Rattle.rules.specs.declared.Commands.{Commands}
use Rattle.rules.specs.Commands.{interlocked, handed, overridden, written, off_zero, flagged, commands_fit}
use Rattle.rules.specs.CommandsLaws as Command
use Rattle.rules.specs.Rank.{running, start_run, forbids_run}
use Rattle.rules.specs.Refusal.{state_refusal}
use Rattle.rules.specs.RefusalLaws.{Passed, state_passed, refusal_passed}
use Rattle.damper.specs.declared.Run.{Run}
use Rattle.damper.specs.declared.Drive.{Drive}
use Rattle.damper.specs.declared.Advanced.{Advanced}
use Rattle.damper.specs.declared.Outcome.{Outcome}
use Rattle.damper.specs.Record.{run, no_run, fresh_drive, with_commands, with_counts, with_position, with_move, with_run, with_report, with_param, with_setpoint, with_tool, with_hand, with_interlocks, cleared}
use Rattle.damper.specs.WellFormed.{run_fits, last_fits, well_formed}
use Rattle.damper.specs.Laws.{wf_ranges}
use Rattle.damper.specs.Tick.{aged, moved, ran_down, advance, status_of}
use Rattle.damper.specs.Step.{tick_with, ticked, commanded, calibrated, restarted, obeyed, applied, refusal_of, step_of}

-- Laws of the table: what a write of one parameter leaves at a place.

-- the row at the place of a number has that number
pub place_number : (l : List Row) (i n : ℕ) → place_from l i n < i + length l → (i ≤ place_from l i n) × ((row_at l (place_from l i n - i)).number ≡ n)
unfolding place_from
place_number [] i n h = absurd (omega arith)
place_number (r ∷ l) i n h = go (eqb r.number n) refl h (λ k. place_number l (i + 1) n k)
  where
    go : (b : Bool) → eqb r.number n ≡ b → pick b i (place_from l (i + 1) n) < i + suc (length l)
        → (place_from l (i + 1) n < i + 1 + length l → (i + 1 ≤ place_from l (i + 1) n) × ((row_at l (place_from l (i + 1) n - (i + 1))).number ≡ n))
        → (i ≤ pick b i (place_from l (i + 1) n)) × ((row_at (r ∷ l) (pick b i (place_from l (i + 1) n) - i)).number ≡ n)
    go true e h ih = (omega arith, rw (sub_self i) (eqb-true _ n e))
    go false e h ih =
        let t = ih (omega arith) in
        let s : place_from l (i + 1) n - i ≡ suc (place_from l (i + 1) n - (i + 1)) = omega arith in
        (omega arith, rw s t.1)

-- the same, of the table and a number that it has
pub number_at : (n : ℕ) → known n ≡ true → (row_at rows (place_of n)).number ≡ n
number_at n h =
    let t = place_number rows 0 n (ltb-true _ _ h) in
    let z : place_of n - 0 ≡ place_of n = omega arith in
    rw z at t.1

-- after a write to the parameter with number `a`, place `k` of number `m` holds the value where `a` is `m`, else what it held
pub param_after : (p : List ℕ) (a v : ℕ) → length p ≡ length rows → known a ≡ true → (k m : ℕ) → known m ≡ true → place_of m ≡ k
    → get_or (set p (place_of a) v) k 0 ≡ pick (eqb a m) v (get_or p k 0)
param_after p a v len ka k m km e = go (eqb a m) refl
  where
    go : (b : Bool) → eqb a m ≡ b → get_or (set p (place_of a) v) k 0 ≡ pick b v (get_or p k 0)
    go true q =
        let z : place_of a ≡ k = rw (eqb-true a m q) e in
        let i : k < length p = omega (arith, ltb-true (place_of m) (length rows) km) in
        rw z (get_or-set_same p k v 0 i)
    go false q =
        get_or-set_other p (place_of a) k v 0
        (λ z. eqb-false a m q (sym (number_at a ka) ∙ ap (λ (x : ℕ). (row_at rows x).number) (sym z ∙ sym e) ∙ number_at m km))

-- Low stays at most High where a write of either is not refused: `x` a write of Low, `y` one of High
order_kept : (x y : Bool) (v l h : ℕ) → leb l h ≡ true → ((x && ltb h v) || (y && ltb v l)) ≡ false → leb (pick x v l) (pick y v h) ≡ true
order_kept true true v l h o c = le-leb v v (le_refl v)
order_kept true false v l h o c = le-leb v h (ltb-false h v (or_left _ _ c))
order_kept false true v l h o c = le-leb l v (ltb-false v l c)
order_kept false false v l h o c = o

-- Well-formedness in its parts.
pub record Parts (d : Drive) : Type 0 where
  pub params : all_in rows d.params ≡ true
  pub order : leb (low d.params) (high d.params) ≡ true
  pub commands : commands_fit d.commands d.age ≡ true
  pub last : last_fits d.last ≡ true
  pub run : run_fits d.run (run_ticks (rate d.params)) (forbids_run d.commands) ≡ true

-- a well-formed record has each part
pub parts : (d : Drive) → well_formed d ≡ true → Parts d
unfolding well_formed
parts d h =
    let s = simp and-eq-true_iff at h in
    record { params = s.0; order = s.1.0; commands = s.1.1.0; last = s.1.1.1.0; run = s.1.1.1.1 }

-- the parts make it whole
pub whole : (d : Drive) → Parts d → well_formed d ≡ true
unfolding well_formed
whole d p =
    and_intro p.params (and_intro p.order (and_intro p.commands (and_intro p.last p.run)))

-- Laws of a run that fits.

-- a run of K ticks fits where none is forbidden, and so does no run with no ticks
run_start : (r k : ℕ) (f : Bool) → leb r 3 ≡ true → 1 ≤ k → f ≡ false → run_fits (run r (pick (running r) k 0)) k f ≡ true
unfolding run_fits
run_start r k f h p e = go (running r)
  where
    go : (b : Bool) → leb r 3 && pick b ((leb 1 (pick b k 0) && leb (pick b k 0) k) && not f) (eqb (pick b k 0) 0) ≡ true
    go true = simp (h, e, le-leb 1 k p, le-leb k k (le_refl k))
    go false = rw h

-- a run that fits also fits with fewer ticks, if not none, and where nothing new forbids it
run_within : (r : Run) (m k : ℕ) (f g : Bool) → run_fits r k f ≡ true → m ≤ r.left → (1 ≤ r.left → 1 ≤ m) → (not f ≡ true → not g ≡ true)
    → run_fits (run r.kind m) k g ≡ true
unfolding run_fits
run_within r m k f g h a b q = and_intro (and_left (leb r.kind 3) _ h) (go (running r.kind) (and_right (leb r.kind 3) _ h))
  where
    go : (x : Bool) → pick x ((leb 1 r.left && leb r.left k) && not f) (eqb r.left 0) ≡ true
        → pick x ((leb 1 m && leb m k) && not g) (eqb m 0) ≡ true
    go true t =
        let s = simp and-eq-true_iff at t in
        let lo = leb-true 1 r.left s.0.0 in
        let hi = leb-true r.left k s.0.1 in
        and_intro (and_intro (le-leb 1 m (b lo)) (le-leb m k (omega arith))) (q s.1)
    go false t = let z = eqb-true r.left 0 t in eq-eqb m 0 (omega arith)

-- it still fits after a tick
run_down : (r : Run) (k : ℕ) (f : Bool) → run_fits r k f ≡ true → run_fits (ran_down r) k f ≡ true
unfolding run_fits ran_down
run_down r k f h =
    pick_elim (λ (x : ℕ). run_fits (run x (r.left - 1)) k f ≡ true) (leb r.left 1)
    (λ e. let z : r.left - 1 ≡ 0 = omega (arith, leb-true r.left 1 e) in rw z)
    (λ e. let q = leb-false r.left 1 e in run_within r (r.left - 1) k f f h (omega arith) (λ y. omega arith) (λ y. y))

-- after a change of what forbids it, it still fits where allowed, and no run stands in its place where forbidden
run_interlock : (r : Run) (k : ℕ) (f g : Bool) → run_fits r k f ≡ true → run_fits (pick g no_run r) k g ≡ true
unfolding run_fits
run_interlock r k f true h = refl
run_interlock r k f false h = run_within r r.left k f false h (le_refl r.left) (λ y. y) (λ y. refl)

-- it still fits after a write of a Rate `v` that is not during a run: `x` a write of Rate, `u` the Rate before
run_rate : (x : Bool) (r : Run) (v u : ℕ) (f : Bool) → x && running r.kind ≡ false → run_fits r (run_ticks u) f ≡ true → run_fits r (run_ticks (pick x v u)) f ≡ true
unfolding run_fits
run_rate true r v u f o h = simp o (simp o at h)
run_rate false r v u f o h = h

-- Each update keeps a record well formed where what it changes fits.

-- a value beside a flag, chosen by that flag, is 0 where the flag is off
off_pick : (f x y : ℕ) → off_zero f y ≡ true → off_zero f (pick (on f) x y) ≡ true
off_pick f x y h = pick_elim (λ (v : ℕ). off_zero f v ≡ true) (on f) (λ e. rw e) (λ e. h)

module _ (d : Drive) (w : well_formed d ≡ true) where
  -- the parts of the record before the update, and of its commands
  its : Parts d
  its = parts d w

  said : Command.Parts d.commands d.age
  said = Command.parts d.commands d.age its.commands

  -- commands, an age and a run that fit
  wf_commands : (c : Commands) (a : ℕ) (r : Run) → Command.Parts c a → run_fits r (run_ticks (rate d.params)) (forbids_run c) ≡ true
      → well_formed (with_commands d c a r) ≡ true
  wf_commands c a r p q = whole _ record { params = its.params; order = its.order; commands = Command.whole c a p; last = its.last; run = q }

  -- an age only where there is a setpoint
  pub wf_counts : (a s : ℕ) → off_zero d.commands.stored a ≡ true → well_formed (with_counts d a s) ≡ true
  wf_counts a s h =
      let c = Command.whole _ a record { fault = said.fault; forcing = said.forcing; hand = said.hand; tool = said.tool; stored = said.stored; age = h } in
      whole _ record { params = its.params; order = its.order; commands = c; last = its.last; run = its.run }

  -- any position
  pub wf_position : (p : ℕ) → well_formed (with_position d p) ≡ true
  unfolding well_formed
  wf_position p = w

  -- and any move
  pub wf_move : (p : ℕ) → well_formed (with_move d p) ≡ true
  unfolding well_formed
  wf_move p = w

  -- a run that fits
  pub wf_run : (r : Run) → run_fits r (run_ticks (rate d.params)) (forbids_run d.commands) ≡ true → well_formed (with_run d r) ≡ true
  wf_run r h = wf_commands d.commands d.age r said h

  -- any report
  pub wf_report : (s : ℕ) → well_formed (with_report d s) ≡ true
  unfolding last_fits
  wf_report s = whole _ record { params = its.params; order = its.order; commands = its.commands; last = refl; run = its.run }

  -- any setpoint
  pub wf_setpoint : (v : ℕ) → well_formed (with_setpoint d v) ≡ true
  wf_setpoint v =
      wf_commands (written d.commands v) 0 d.run
      record { fault = said.fault; forcing = said.forcing; hand = said.hand; tool = said.tool; stored = refl; age = refl }
      its.run

  -- an override whose flag is 0 or 1 and whose value is 0 where it is off, and the same of the hand
  pub wf_tool : (t y : ℕ) → flagged t y ≡ true → well_formed (with_tool d t y) ≡ true
  wf_tool t y p =
      wf_commands (overridden d.commands t y) d.age d.run
      record { fault = said.fault; forcing = said.forcing; hand = said.hand; tool = p; stored = said.stored; age = said.age }
      its.run

  pub wf_hand : (h x : ℕ) → flagged h x ≡ true → well_formed (with_hand d h x) ≡ true
  wf_hand h x p =
      wf_commands (handed d.commands h x) d.age d.run
      record { fault = said.fault; forcing = said.forcing; hand = p; tool = said.tool; stored = said.stored; age = said.age }
      its.run

  -- any fault flag, and forcing of at most 3
  pub wf_interlocks : (f g : ℕ) → is_flag f ≡ true → leb g 3 ≡ true → well_formed (with_interlocks d f g) ≡ true
  wf_interlocks f g p q =
      wf_commands (interlocked d.commands f g) d.age _
      record { fault = p; forcing = q; hand = said.hand; tool = said.tool; stored = said.stored; age = said.age }
      (run_interlock d.run _ _ (forbids_run (interlocked d.commands f g)) its.run)

  -- a cleared record, before a start run
  pub wf_cleared : well_formed (cleared d) ≡ true
  unfolding run_fits commands_fit last_fits
  wf_cleared = whole _ record { params = its.params; order = its.order; commands = refl; last = refl; run = refl }

-- What each kind of event does keeps a record well formed.

-- a run that a restart starts is one of the four
start_le : (s : ℕ) → leb (start_run s) 3 ≡ true
start_le s =
    pick_elim (λ (r : ℕ). leb r 3 ≡ true) (eqb s 1) (λ e. refl) (λ e. pick_elim (λ (r : ℕ). leb r 3 ≡ true) (eqb s 2) (λ f. refl) (λ f. refl))

-- the fresh drive is well formed
pub wf_fresh : well_formed fresh_drive ≡ true
unfolding well_formed commands_fit last_fits run_fits all_in
wf_fresh = refl

module _ (d : Drive) (w : well_formed d ≡ true) where
  -- K is at least 1
  k_pos : 1 ≤ run_ticks (rate d.params)
  k_pos = run_ticks_pos _ (wf_ranges d w).rate_least

  -- step 1 of a tick, and step 3
  wf_aged : well_formed (aged d) ≡ true
  unfolding aged
  wf_aged = wf_counts d w _ _ (off_pick d.commands.stored _ _ (said d w).age)

  wf_ran_down : well_formed (with_run d (ran_down d.run)) ≡ true
  wf_ran_down = wf_run d w _ (run_down d.run _ (forbids_run d.commands) (parts d w).run)

  -- kind 3
  pub wf_commanded : (b c : ℕ) → well_formed (commanded d b c) ≡ true
  unfolding commanded
  wf_commanded b c =
      pick_elim (λ (x : Drive). well_formed x ≡ true) (eqb c 0)
      (λ e. wf_setpoint d w _)
      (λ e. pick_elim (λ (t : ℕ). well_formed (with_tool d t (pick (eqb c 1) (to_position b) 0)) ≡ true) (eqb c 1)
      (λ q. wf_tool d w 1 _ refl)
      (λ q. wf_tool d w 0 _ (rw q)))

  -- kind 6, where nothing forbids a run
  pub wf_calibrated : forbids_run d.commands ≡ false → well_formed (calibrated d) ≡ true
  unfolding calibrated
  wf_calibrated h = wf_run d w _ (run_start 1 _ (forbids_run d.commands) refl k_pos h)

  -- kind 9
  pub wf_restarted : well_formed (restarted d) ≡ true
  unfolding restarted
  wf_restarted = wf_run (cleared d) (wf_cleared d w) _ (run_start _ _ false (start_le (start_synchronization d.params)) k_pos refl)

  -- kind 8, where the value is in the table, Low would not exceed High, and Rate is not written during a run
  pub wf_write : (a v : ℕ) → takes a v ≡ true
      → ((eqb a low_number && ltb (high d.params) v) || (eqb a high_number && ltb v (low d.params))) ≡ false
      → eqb a rate_number && running d.run.kind ≡ false → well_formed (with_param d (place_of a) v) ≡ true
  unfolding place_from
  wf_write a v t c r =
      let p = parts d w in
      let k = and_left (known a) _ t in
      let after = param_after d.params a v (all_length rows d.params p.params) k in
      whole _ record {
        params = all_set rows d.params (place_of a) v p.params (and_right (known a) _ t);
        order = rw (after 10 low_number refl refl, after 11 high_number refl refl) (order_kept (eqb a low_number) (eqb a high_number) v _ _ p.order c);
        commands = p.commands;
        last = p.last;
        run = rw (after 9 rate_number refl refl) (run_rate (eqb a rate_number) d.run v _ (forbids_run d.commands) r p.run);
      }

-- step 4 of a tick, due or not
wf_tick_with : (b : Bool) (a : Advanced) → well_formed a.drive ≡ true → well_formed (tick_with b a).drive ≡ true
unfolding tick_with
wf_tick_with true a w = wf_report a.drive w (status_of a.drive)
wf_tick_with false a w = w

-- steps 1 to 3 of a tick
pub wf_advance : (d : Drive) → well_formed d ≡ true → well_formed (advance d).drive ≡ true
unfolding advance aged moved
wf_advance d w = wf_ran_down _ (wf_move (aged d) (wf_aged d w) _)

-- kind 1
pub wf_tick : (d : Drive) → well_formed d ≡ true → well_formed (ticked d).drive ≡ true
unfolding ticked
wf_tick d w = wf_tick_with _ (advance d) (wf_advance d w)

-- An accepted event keeps a record well formed.
pub wf_applied : (d : Drive) (e : Event) → well_formed d ≡ true → data_refusal e ≡ 0
    → state_refusal e (damper_mode d.params) (low d.params) (high d.params) (running d.run.kind) (forbids_run d.commands) ≡ 0
    → well_formed (applied d e).drive ≡ true
unfolding obeyed applied form_of
wf_applied d e w h r =
    by_kind Kept
    (λ a b c x y. wf_tick d w)
    (λ a b c x y. wf_setpoint d w a)
    (λ a b c x y. wf_commanded d w b c)
    (λ a b c x y. wf_interlocks d w d.commands.fault a (said d w).fault (not_false _ x))
    (λ a b c x y. wf_hand d w a _ (and_intro (not_false (is_flag a) x) (off_pick a b 0 (or-true (on a)))))
    (λ a b c x y. wf_calibrated d w y.run)
    (λ a b c x y. wf_interlocks d w a d.commands.forcing (not_false _ x) (said d w).forcing)
    (λ a b c x y. wf_write d w a _ (not_false _ y.range) y.order y.rate)
    (λ a b c x y. wf_restarted d w)
    (λ a b c x y. w)
    (λ a b c x y. w)
    e.kind (admitted e h).kind e.a e.b e.c (admitted e h).a (state_passed e _ _ _ _ _ r)
  where
    Kept : ℕ → Type 0
    Kept k = (a b c : ℕ) → bad_a k a ≡ false
        → Passed (event k a b c) (low d.params) (high d.params) (running d.run.kind) (forbids_run d.commands)
        → well_formed (applied d (event k a b c)).drive ≡ true

-- Every record of bytes, accepted or refused, leaves a well-formed drive well formed.
pub wf_step : (d : Drive) (s : List ℕ) → well_formed d ≡ true → well_formed (step_of d s).drive ≡ true
unfolding step_of refusal_of
wf_step d s w =
    pick_elim (λ (o : Outcome). well_formed o.drive ≡ true) (eqb (refusal_of d s) 0)
    (λ e.
    let t = refusal_passed s _ _ _ _ _ (rw w at (eqb-true (refusal_of d s) 0 e)) in
    wf_applied d (event_in s) w (record_passed s t.0).1 t.1)
    (λ e. w)

-- So a record is as well formed after an event as it was before it.
pub formed_kept : (d : Drive) (s : List ℕ) → well_formed (step_of d s).drive ≡ well_formed d
unfolding step_of refusal_of
formed_kept d s = cases (well_formed d) (λ w. wf_step d s w ∙ sym w) (λ w. rw w w)
