-- The record after an accepted event agrees with what is read off the list, field by field.
use Rattle.std.specs.Prelude.{◌≡◌, Bool, true, false, ◌&&◌, ◌||◌, List, ◌∷◌, ℕ, ◌+◌, ◌<◌, ◌≤◌, min, leb, eqb}
use Rattle.std.proofs.Math.Path.{refl}
use Rattle.std.proofs.Common.{sym, ap, ◌∙◌, arith, leb-true, leb-false, le-leb, lt-ltb, eqb-true}
use Rattle.std.proofs.Math.Bool.{and-false, or-true}
use Rattle.std.proofs.lemmas.Bool.{false≢true, lt-leb}
use Rattle.std.proofs.Math.Nat.{sub-zero}
use Rattle.numbers.specs.Numbers.{pick, on, next}
use Rattle.numbers.specs.Laws.{cases, and_right}
use Rattle.table.specs.Table.{rows, row_at, all_in, timeout, rate}
use Rattle.table.specs.Laws.{range_at, bounds}
use Rattle.event.specs.declared.Event.{Event}
use Rattle.event.specs.Event.{event, bad_kind, data_refusal}
use Rattle.event.specs.Laws.{by_kind, admitted, known_write}
use Rattle.motion.specs.Motion.{run_ticks, toward}
use Rattle.motion.specs.Laws.{run_ticks_pos}
use Rattle.rules.specs.declared.Commands.{Commands}
use Rattle.rules.specs.Rank.{forced, forbids_run, bus_active}
use Rattle.damper.specs.declared.Run.{Run}
use Rattle.damper.specs.declared.Drive.{Drive}
use Rattle.damper.specs.Record.{run, no_run}
use Rattle.damper.specs.WellFormed.{well_formed, run_fits}
use Rattle.damper.specs.Tick.{aged, bus_on, target_at, advance, status_of}
use Rattle.damper.specs.Laws.{wf_ranges}
use Rattle.damper.specs.Step.{applied}
use Rattle.invariant.specs.Effects as F
use Rattle.invariant.specs.Kept as K
use Rattle.history.specs.Readings as R
use Rattle.history.specs.ReadLaws.{commands_cons, age_cons, parameters_other, parameters_write}
use Rattle.history.specs.RunLaws.{left_in, going_in, run_below, run_below_tick}

-- each field but position, since and the last report
pub record Agrees (d : Drive) (h : List Event) : Type 0 where
  pub params : d.params ≡ R.parameters h
  pub commands : d.commands ≡ R.commands_in h
  pub age : d.age ≡ min (R.setpoint_age h) 65535
  pub run : d.run ≡ going_in h

-- the bound of the parameter that the setpoint's age is compared with
timeout_most : (p : List ℕ) → all_in rows p ≡ true → timeout p ≤ 7200
timeout_most p e = (bounds (row_at rows 7) (timeout p) (range_at rows p 7 e (omega arith))).1

-- a capped count and the count pass the same test against a limit below the cap
capped : (n t : ℕ) → t < 65535 → leb (min n 65535) t ≡ leb n t
capped n t h =
    cases (leb n t)
    (λ e. let l : n ≤ t = leb-true n t e in le-leb (min n 65535) t (omega arith) ∙ sym e)
    (λ e. let l : t < n = leb-false n t e in lt-leb (min n 65535) t (omega arith) ∙ sym e)

pub bus_agrees : (d : Drive) (h : List Event) → well_formed d ≡ true → Agrees d h → bus_on d ≡ R.bus_in h
unfolding R.bus_in
bus_agrees d h w g =
    rw (g.commands, g.age)
    (rw (capped (R.setpoint_age h) (timeout d.params) (let l = timeout_most d.params (K.parts d w).params in omega arith))
    (rw g.params))

pub status_agrees : (d : Drive) (h : List Event) → well_formed d ≡ true → Agrees d h → status_of d ≡ R.status_in h
unfolding R.status_in
status_agrees d h w g = rw (bus_agrees d h w g) (rw (g.commands, g.run))

age_law : (r s t b : Bool) (a n : ℕ) → a ≡ min n 65535
    → pick r 0 (pick s 0 (pick t (pick b (next a) a) a)) ≡ min (pick r 0 (pick s 0 (pick (b && t) (n + 1) n))) 65535
age_law true s t b a n e = refl
age_law false true t b a n e = refl
age_law false false true true a n e = omega arith
age_law false false true false a n e = e
age_law false false false true a n e = e
age_law false false false false a n e = e

-- where a run is forbidden there is none
no_run_lem : (r : Run) (k : ℕ) (f : Bool) → run_fits r k f ≡ true → f ≡ true → r ≡ no_run
unfolding run_fits
no_run_lem r k f h e =
    let p = and_right (leb r.kind 3) _ h in
    cases (eqb r.kind 0)
    (λ z i. run (eqb-true r.kind 0 z i) (eqb-true r.left 0 (rw z at p) i))
    (λ z. absurd (false≢true (sym (and-false (leb 1 r.left && leb r.left k)) ∙ (rw (z, e) at p))))

-- what is forbidden already need not be ended
ended_already : (b c : Bool) (r : Run) → (b ≡ true → r ≡ no_run) → pick c no_run r ≡ pick (b || c) no_run r
ended_already true true r h = refl
ended_already true false r h = h refl
ended_already false c r h = refl

ended_later : (b c : Bool) (r : Run) → (c ≡ true → r ≡ no_run) → pick (b || false) no_run r ≡ pick (b || c) no_run r
ended_later true c r h = refl
ended_later false true r h = h refl
ended_later false false r h = refl

-- the run and its ticks left, with one event more, as the record takes them
module _ (h : List Event) (pos : 1 ≤ run_ticks (rate (R.parameters h)))
    (by_fault : on (R.fault_in h) ≡ true → going_in h ≡ no_run) (by_forcing : forced (R.forcing_in h) ≡ true → going_in h ≡ no_run) where
  abbrev Going : ℕ → Type 0
  Going k = (a b c : ℕ) → going_in (event k a b c ∷ h) ≡ F.run_by k a (R.parameters h) (R.commands_in h) (going_in h)

  going_read : (k : ℕ) → bad_kind k ≡ false → Going k
  unfolding R.run_in R.latest R.ended R.ticks left_in
  going_read =
      by_kind Going
      (λ a b c. run_below_tick (event 1 a b c) (R.latest R.is_start h) refl refl)
      (λ a b c. run_below (event 2 a b c) (R.latest R.is_start h) refl)
      (λ a b c. run_below (event 3 a b c) (R.latest R.is_start h) refl)
      (λ a b c. run_below (event 4 a b c) (R.latest R.is_start h) refl ∙ ended_already (on (R.fault_in h)) (forced a) _ by_fault)
      (λ a b c. run_below (event 5 a b c) (R.latest R.is_start h) refl)
      (λ a b c. rw (lt-ltb 0 _ pos, sub-zero (run_ticks (rate (R.parameters h)))))
      (λ a b c. run_below (event 7 a b c) (R.latest R.is_start h) refl ∙ ended_later (eqb a 1) (forced (R.forcing_in h)) _ by_forcing)
      (λ a b c. run_below (event 8 a b c) (R.latest R.is_start h) refl)
      (λ a b c. rw (lt-ltb 0 _ pos, sub-zero (run_ticks (rate (R.parameters h)))))
      (λ a b c. run_below (event 10 a b c) (R.latest R.is_start h) refl)
      (λ a b c. run_below (event 11 a b c) (R.latest R.is_start h) refl)

-- Agreement is kept by every accepted event.
module _ (d : Drive) (h : List Event) (w : well_formed d ≡ true) (g : Agrees d h) (e : Event) (r : data_refusal e ≡ 0) where
  ok : bad_kind e.kind ≡ false
  ok = (admitted e r).kind

  forbidden : forbids_run d.commands ≡ true → going_in h ≡ no_run
  forbidden q = sym g.run ∙ no_run_lem d.run _ _ (K.parts d w).run q

  by_fault : on (R.fault_in h) ≡ true → going_in h ≡ no_run
  by_fault q = forbidden (rw g.commands (rw q))

  by_forcing : forced (R.forcing_in h) ≡ true → going_in h ≡ no_run
  by_forcing q = forbidden (rw g.commands (rw q (or-true (on (R.fault_in h)))))

  ticks_pos : 1 ≤ run_ticks (rate (R.parameters h))
  ticks_pos = run_ticks_pos _ (rw g.params at (wf_ranges d w).rate_least)

  params_kept : (applied d e).drive.params ≡ R.parameters (e ∷ h)
  params_kept =
      F.params_after d e ok
      ∙ cases (eqb e.kind 8)
      (λ k. rw (k, g.params) (sym (parameters_write e h k (known_write e r (eqb-true e.kind 8 k)))))
      (λ k. rw (k, g.params) (sym (parameters_other e h k)))

  run_kept : (applied d e).drive.run ≡ going_in (e ∷ h)
  run_kept =
      F.run_after d e ok
      ∙ rw (g.run, g.commands, g.params) (sym (going_read h ticks_pos by_fault by_forcing e.kind ok e.a e.b e.c))

  pub agrees_applied : Agrees (applied d e).drive (e ∷ h)
  agrees_applied =
      record {
        params = params_kept;
        commands = F.commands_after d e ok ∙ rw g.commands (sym (commands_cons e h));
        age =
            F.age_after d e ok ∙ age_law (R.is_restart e) (R.is_setpoint e) (R.is_tick e) (on d.commands.stored) d.age (R.setpoint_age h) g.age
            ∙ rw g.commands (rw (age_cons e h));
        run = run_kept;
      }

same_bus : (b b' : Commands) (a a' t t' : ℕ) → b ≡ b' → a ≡ a' → t ≡ t' → bus_active b a t ≡ bus_active b' a' t'
same_bus b b' a a' t t' p q r = rw (p, q, r)

-- the move of a tick is the one read off the list
module _ (d : Drive) (h : List Event) (w : well_formed d ≡ true) (g : Agrees d h) (p : d.position ≡ R.position_in h) (e : Event)
    (r : data_refusal e ≡ 0) (w' : well_formed (applied d e).drive ≡ true) where
  pub bus_next : e.kind ≡ 1 → bus_active d.commands (pick (on d.commands.stored) (next d.age) d.age) (timeout d.params) ≡ R.bus_in (e ∷ h)
  bus_next k =
      let o = (admitted e r).kind in
      let b : (applied d e).drive.commands ≡ d.commands = F.commands_after d e o ∙ rw k in
      let a : (applied d e).drive.age ≡ pick (on d.commands.stored) (next d.age) d.age = F.age_after d e o ∙ rw k in
      let q : (applied d e).drive.params ≡ d.params = F.params_after d e o ∙ rw k in
      sym (same_bus _ _ _ _ _ _ b a (ap timeout q)) ∙ bus_agrees (applied d e).drive (e ∷ h) w' (agrees_applied d h w g e r)

  pub move_agrees : e.kind ≡ 1
      → (advance d).drive.position ≡ toward (R.position_in h) (R.target_from (R.position_in h) e h) (rate (R.parameters h))
  unfolding aged target_at R.target_from R.rank_at
  move_agrees k =
      F.advance_position d
      ∙ rw (bus_next k) (rw (p, g.commands, g.run, g.params))

  pub position_kept : (applied d e).drive.position ≡ R.position_in (e ∷ h)
  unfolding R.position_in
  position_kept =
      F.position_after d e (admitted e r).kind
      ∙ cases (eqb e.kind 1) (λ k. rw k (move_agrees (eqb-true e.kind 1 k))) (λ k. rw k p)
