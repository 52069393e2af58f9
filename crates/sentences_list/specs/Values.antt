-- Proofs: the commands and the parameters.
use Rattle.std.specs.Prelude.{◌≡◌, refl, ◌↔◌, Bool, true, ◌&&◌, List, [], ◌∷◌, ℕ, ◌≤◌, eqb}
use Rattle.std.proofs.Common.{◌∙◌, arith, eqb-true, eq-eqb}
use Rattle.std.proofs.lemmas.Bool.{eqb-false, not-true}
use Rattle.numbers.specs.Numbers.{pick, on, bit}
use Rattle.numbers.specs.Laws.{cases, and_left, and_right, and_intro}
use Rattle.table.specs.declared.Row.{Row}
use Rattle.event.specs.declared.Event.{Event}
use Rattle.event.specs.Event.{value_of}
use Rattle.motion.specs.Motion.{to_position}
use Rattle.rules.specs.declared.Commands.{Commands}
use Rattle.rules.specs.Commands.{commands}
use Rattle.history.specs.Readings as R
use Rattle.sentences.specs.Paper as P
use Rattle.sentences.specs.Refusals.{same_choice}
use Rattle.sentences.specs.Shows.{one}
use Rattle.sentences_list.specs.Paper as L
use Rattle.sentences_list.specs.Latest.{each_of, says_read, kind_there, kind_back, now_read}

-- the tests of a setpoint, of a command of the tool and of a write
pub setpoint_there : (e : Event) → L.Setpoint e → R.is_setpoint e ≡ true
setpoint_there e (L.kind_2 k) = rw k
setpoint_there e (L.command_0 k c) = rw (k, c)

pub setpoint_back : (e : Event) → R.is_setpoint e ≡ true → L.Setpoint e
setpoint_back e q =
    one (eqb e.kind 2) (eqb e.kind 3 && eqb e.c 0) q
    (λ k. L.kind_2 (eqb-true _ _ k))
    (λ k. L.command_0 (eqb-true _ _ (and_left (eqb e.kind 3) _ k)) (eqb-true _ _ (and_right (eqb e.kind 3) _ k)))

pub tool_there : (e : Event) → L.Tool e → R.is_tool e ≡ true
tool_there e (L.override k c) = rw (k, c)
tool_there e (L.release k c) = rw (k, c)

-- of an event that 7 lets pass
pub tool_back : (e : Event) → (e.kind ≡ 3 → e.c ≤ 2) → R.is_tool e ≡ true → L.Tool e
tool_back e most q =
    let k = eqb-true e.kind 3 (and_left (eqb e.kind 3) _ q) in
    let n = eqb-false e.c 0 (not-true _ (and_right (eqb e.kind 3) _ q)) in
    let l = most k in
    cases (eqb e.c 1) (λ f. L.override k (eqb-true _ _ f)) (λ f. let g = eqb-false e.c 1 f in L.release k (omega arith))

write_there : (n : ℕ) (e : Event) → L.Write n e → R.is_write n e ≡ true
write_there n e w = and_intro (eq-eqb _ _ w.0) (eq-eqb _ _ w.1)

write_back : (n : ℕ) (e : Event) → R.is_write n e ≡ true → L.Write n e
write_back n e q = (eqb-true _ _ (and_left (eqb e.kind 8) _ q), eqb-true _ _ (and_right (eqb e.kind 8) _ q))

-- what the latest after the last restart says
module _ (p : Event → Type 0) (t : Event → Bool) (there : (e : Event) → p e → t e ≡ true) (of says : Event → ℕ)
    (same : (e : Event) → of e ≡ says e) where
  pub said : (h now : List Event) → L.AfterRestart h now → L.Each (λ e. t e ≡ true → p e) now → (v : ℕ)
      → (R.value_in 0 of (R.latest t (R.current h)) ≡ v) ↔ L.LatestSays p says 0 now v
  said h now a b v = rw ((now_read h now).1 a) (says_read p t there of says same 0 now b v)

module _ (h now : List Event) (a : L.AfterRestart h now) (v : ℕ) where
  pub fault_read : (R.fault_in h ≡ v) ↔ L.LatestSays (L.OfKind 7) L.a_of 0 now v
  unfolding R.fault_in
  fault_read = said (L.OfKind 7) R.is_fault (kind_there 7) _ L.a_of (λ e. refl) h now a (each_of (kind_back 7) now) v

  pub forcing_read : (R.forcing_in h ≡ v) ↔ L.LatestSays (L.OfKind 4) L.a_of 0 now v
  unfolding R.forcing_in
  forcing_read = said (L.OfKind 4) R.is_forcing (kind_there 4) _ L.a_of (λ e. refl) h now a (each_of (kind_back 4) now) v

  pub hand_read : (R.hand_in h ≡ v) ↔ L.LatestSays (L.OfKind 5) L.a_of 0 now v
  unfolding R.hand_in
  hand_read = said (L.OfKind 5) R.is_hand (kind_there 5) _ L.a_of (λ e. refl) h now a (each_of (kind_back 5) now) v

  pub hand_value_read : (R.hand_value h ≡ v) ↔ L.LatestSays (L.OfKind 5) L.hand_value 0 now v
  unfolding R.hand_value
  hand_value_read =
      said (L.OfKind 5) R.is_hand (kind_there 5) (λ e. pick (on e.a) e.b 0) L.hand_value
      (λ e. same_choice (on e.a) e.b 0) h now a (each_of (kind_back 5) now) v

  pub setpoint_read : (R.setpoint_in h ≡ v) ↔ L.LatestSays L.Setpoint (λ e. 1) 0 now v
  unfolding R.setpoint_in
  setpoint_read = said L.Setpoint R.is_setpoint setpoint_there (λ e. 1) (λ e. 1) (λ e. refl) h now a (each_of setpoint_back now) v

  pub setpoint_value_read : (R.setpoint_value h ≡ v) ↔ L.LatestSays L.Setpoint L.setpoint_value 0 now v
  unfolding R.setpoint_value
  setpoint_value_read =
      said L.Setpoint R.is_setpoint setpoint_there (λ e. pick (eqb e.kind 2) e.a (to_position e.b)) L.setpoint_value
      (λ e. same_choice (eqb e.kind 2) e.a (to_position e.b)) h now a (each_of setpoint_back now) v

  -- of events that 7 lets pass
  module _ (most : L.Each (λ e. R.is_tool e ≡ true → L.Tool e) now) where
    pub tool_read : (R.tool_in h ≡ v) ↔ L.LatestSays L.Tool L.tool_flag 0 now v
    unfolding R.tool_in
    tool_read =
        said L.Tool R.is_tool tool_there (λ e. bit (eqb e.c 1) 1) L.tool_flag (λ e. same_choice (eqb e.c 1) 1 0) h now a most v

    pub tool_value_read : (R.tool_value h ≡ v) ↔ L.LatestSays L.Tool L.tool_value 0 now v
    unfolding R.tool_value
    tool_value_read =
        said L.Tool R.is_tool tool_there (λ e. pick (eqb e.c 1) (to_position e.b) 0) L.tool_value
        (λ e. same_choice (eqb e.c 1) (to_position e.b) 0) h now a most v

-- a parameter
abbrev value_at : List Event → ℕ → ℕ → ℕ
value_at h n fresh = R.value_in fresh value_of (R.latest (R.is_write n) h)

value_read : (h : List Event) (n fresh v : ℕ) → (value_at h n fresh ≡ v) ↔ L.LatestSays (L.Write n) L.written_value fresh h v
value_read h n fresh v =
    says_read (L.Write n) (R.is_write n) (write_there n) value_of L.written_value (λ e. refl) fresh h (each_of (write_back n) h) v

pub parameter_read : (h : List Event) (r : Row) (v : ℕ)
    → (R.parameter_in h r ≡ v) ↔ L.LatestSays (L.Write r.number) L.written_value r.fresh h v
unfolding R.parameter_in
parameter_read h r v = value_read h r.number r.fresh v

-- the row of them
abbrev row_of : List Event → List P.Line → List ℕ
row_of h [] = []
row_of h (l ∷ ls) = value_at h l.number l.fresh ∷ row_of h ls

row_has : (h : List Event) (ls : List P.Line) → L.Written h ls (row_of h ls)
row_has h [] = L.done
row_has h (l ∷ ls) = L.line ((value_read h l.number l.fresh _).0 refl) (row_has h ls)

row_is : (h : List Event) {ls : List P.Line} {q : List ℕ} → L.Written h ls q → row_of h ls ≡ q
row_is h L.done = refl
row_is h (L.line {l = l} {v = v} x w) = rw ((value_read h l.number l.fresh v).1 x, row_is h w)

same_row : (h : List Event) → R.parameters h ≡ row_of h P.table
unfolding R.parameters R.parameter_in
same_row h = refl

pub has_parameters : (h : List Event) → L.Parameters h (R.parameters h)
has_parameters h = rw (same_row h) (row_has h P.table)

pub parameters_are : (h : List Event) {q : List ℕ} → L.Parameters h q → R.parameters h ≡ q
parameters_are h w = same_row h ∙ row_is h w

-- the commands together
module _ (h : List Event) (c : Commands) where
  pub commands_are : L.CommandsRead h c → L.Each (λ e. R.is_tool e ≡ true → L.Tool e) (R.current h) → R.commands_in h ≡ c
  commands_are w most =
      let now = w.now in
      let a = w.after_restart in
      let m : L.Each (λ e. R.is_tool e ≡ true → L.Tool e) w.now = rw ((now_read h w.now).1 w.after_restart) at most in
      λ i. commands
      ((fault_read h now a c.fault).1 w.fault i)
      ((forcing_read h now a c.forcing).1 w.forcing i)
      ((hand_read h now a c.hand).1 w.hand i)
      ((hand_value_read h now a c.handpos).1 w.handpos i)
      ((tool_read h now a c.tool m).1 w.tool i)
      ((tool_value_read h now a c.toolpos m).1 w.toolpos i)
      ((setpoint_read h now a c.stored).1 w.stored i)
      ((setpoint_value_read h now a c.setpoint).1 w.setpoint i)

pub has_commands : (h : List Event) → L.Each (λ e. R.is_tool e ≡ true → L.Tool e) (R.current h) → L.CommandsRead h (R.commands_in h)
has_commands h most =
    let now = R.current h in
    let a = (now_read h (R.current h)).0 refl in
    record {
      now = R.current h;
      after_restart = a;
      fault = (fault_read h now a _).0 refl;
      forcing = (forcing_read h now a _).0 refl;
      hand = (hand_read h now a _).0 refl;
      handpos = (hand_value_read h now a _).0 refl;
      tool = (tool_read h now a _ most).0 refl;
      toolpos = (tool_value_read h now a _ most).0 refl;
      stored = (setpoint_read h now a _).0 refl;
      setpoint = (setpoint_value_read h now a _).0 refl;
    }
