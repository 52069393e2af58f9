use Rattle.std.proofs.Common.{rules, ◌≡◌}
use Rattle.answer.specs.Laws.{let_pass, number_picked}
use Rattle.rules.specs.Refusal.{state_refusal}
use Rattle.rules.proofs.state_refusal.Goals as goal

pub returns-in_ok-refuse-in-Ok-Write-2 : goal.returns-in_ok-refuse-in-Ok-Write-2
unfolding state_refusal
returns-in_ok-refuse-in-Ok-Write-2 c =
    let k : c.args.e.kind ≡ 8 = search rules in
    let p = let_pass _ _ _ _ (c.in_ok-refuse-in-Ok-Write.ensures) in
    let q = let_pass _ _ _ _ (c.in_ok-refuse-in-Ok-Write-2.ensures) in
    rw (k, c.refuse-in-Ok-Write-3.ensures) (rw number_picked (simp (← c.value_of-v.ensures, ← c.takes.ensures, p, q)))
