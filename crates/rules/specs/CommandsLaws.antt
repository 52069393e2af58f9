-- Commands that fit, with one group changed.
use Rattle.std.specs.Prelude.{◌≡◌, true, ℕ, ◌≤◌, leb}
use Rattle.std.proofs.Math.Bool.{and-eq-true_iff}
use Rattle.std.proofs.Common.{leb-true}
use Rattle.numbers.specs.Numbers.{is_flag}
use Rattle.numbers.specs.Laws.{and_left, and_intro}
use Rattle.rules.specs.declared.Commands.{Commands}
use Rattle.rules.specs.Commands.{off_zero, flagged, commands_fit}

-- what commands that fit have passed, `a` being the age of the setpoint
pub record Parts (c : Commands) (a : ℕ) : Type 0 where
  pub fault : is_flag c.fault ≡ true
  pub forcing : leb c.forcing 3 ≡ true
  pub hand : flagged c.hand c.handpos ≡ true
  pub tool : flagged c.tool c.toolpos ≡ true
  pub stored : flagged c.stored c.setpoint ≡ true
  pub age : off_zero c.stored a ≡ true

pub parts : (c : Commands) (a : ℕ) → commands_fit c a ≡ true → Parts c a
unfolding commands_fit
parts c a w =
    let s = simp and-eq-true_iff at w in
    let h = s.1 in
    let t = h.1 in
    record {
      fault = s.0.0;
      forcing = s.0.1;
      hand = and_intro h.0.0 h.0.1;
      tool = and_intro t.0.0 t.0.1;
      stored = and_intro t.1.0.0 t.1.0.1;
      age = t.1.1;
    }

pub whole : (c : Commands) (a : ℕ) → Parts c a → commands_fit c a ≡ true
unfolding commands_fit
whole c a p =
    and_intro (and_intro p.fault p.forcing) (and_intro p.hand (and_intro p.tool (and_intro p.stored p.age)))

-- flags of 0 and 1
pub record Flags (c : Commands) : Type 0 where
  pub fault : c.fault ≤ 1
  pub hand : c.hand ≤ 1
  pub tool : c.tool ≤ 1

pub flags : (c : Commands) (a : ℕ) → commands_fit c a ≡ true → Flags c
flags c a w =
    let p = parts c a w in
    record {
      fault = leb-true _ _ p.fault;
      hand = leb-true _ _ (and_left (is_flag c.hand) _ p.hand);
      tool = leb-true _ _ (and_left (is_flag c.tool) _ p.tool);
    }
