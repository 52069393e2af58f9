use Rattle.std.proofs.Common.{◌≡◌, sym, ◌∙◌}
use Rattle.damper.specs.Tick.{advance, due}
use Rattle.hall_tick.specs.Chosen.{held_formed, held_unformed}
use Rattle.hall_tick.proofs.hold_one.Goals as goal

pub returns-in_default : goal.returns-in_default
returns-in_default c =
    let u = held_unformed c.args.drive.now c.args.place (sym c.in_default.ensures.formed) in
    record { drive = sym u.0; number = sym u.1 }

pub returns : goal.returns
returns c =
    let d = c.args.drive.now in
    let f = held_formed d c.args.place (sym c.in-Some.ensures.formed) in
    let v : c.advance.result ≡ advance d = rw c.in-Some.ensures.drive at c.advance.ensures in
    let q : c.due-due.result ≡ due (advance d).drive = simp (c.status.ensures, v) at c.due-due.ensures in
    record {
      drive = c.with_wait.ensures ∙ rw (c.pick-wait.ensures, c.next.ensures, q, v) (sym f.0);
      number = c.key-key.ensures ∙ rw q (sym f.1);
    }
