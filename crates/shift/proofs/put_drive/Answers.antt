use Rattle.std.proofs.Common.{arith, rules, sym, ◌∙◌}
use Rattle.line.specs.Laws.{decimal_length}
use Rattle.damper.specs.Laws.{wf_flags}
use Rattle.line.specs.Writing.{wrote_both, given_back}
use Rattle.shift.specs.Shift.{drive_line}
use Rattle.shift.proofs.put_drive.Goals as goal

pub put_right-requires-clause-digits : goal.put_right-requires-clause-digits
put_right-requires-clause-digits c = (decimal_length 2 c.args.number (omega arith) (omega arith), omega arith)

pub ruling-requires : goal.ruling-requires
ruling-requires c = wf_flags c.args.d (sym c.well_formed-2.ensures ∙ c.if-not-well_formed.false)

pub returns-then-not-well_formed : goal.returns-then-not-well_formed
unfolding drive_line
returns-then-not-well_formed c =
    let line = wrote_both c.put_right.ensures c.put_bytes.ensures in
    rw (sym c.well_formed-2.ensures ∙ c.if-not-well_formed.true)
    record { place = line.written.place; buffer = given_back line (search rules) }

pub returns : goal.returns
unfolding drive_line
returns c =
    let fields = rw (c.ruling.ensures, c.status.ensures) at c.put_fields.ensures in
    let line = wrote_both c.put_right.ensures fields in
    rw (sym c.well_formed-2.ensures ∙ c.if-not-well_formed.false)
    record { place = line.written.place; buffer = given_back line (search rules) }
