use Rattle.std.proofs.Common.{◌∙◌, ap}
use Rattle.event.specs.declared.Event.{Event}
use Rattle.event.specs.Laws.{read_ok, kind_is, record_passed}
use Rattle.event.proofs.kind_in.Goals as goal

pub returns-in-Ok : goal.returns-in-Ok
returns-in-Ok c =
    let h = read_ok c.args.s.now c.in-Ok.e c.in-Ok.ensures in
    rw (h.0, c.ok.ensures.value)
    (kind_is c.in-Ok.e _ (rw h.1 (record_passed _ h.0).1) c.try_from.ensures ∙ ap (λ (e : Event). e.kind) h.1)
