use Rattle.std.proofs.Common.{◌≡◌, ◌-◌, length, take, arith}
use Rattle.std.proofs.Math.Seq.{take-length}
use Rattle.event.specs.Records.{records_of}
use Rattle.printer.specs.Page.{answered}
use Rattle.printer.specs.Session.{whole}
use Rattle.printer.specs.SessionLaws.{turn_answered}
use Rattle.printer.proofs.turn.Goals as goal

-- the output has room for every record that is whole
all : (c : goal.After-result-1)
    → (let b = c.args.input.now in answered (take (length b - c.waiting-part.result) b) c.args.out.now ≡ records_of (take (whole c.args.ended (length b)) b))
all c =
    let a = c.args in
    let waits = c.waiting-part.ensures in
    let b = a.input.now in
    rw (take-length b) at (turn_answered b a.out.now (length b) a.ended _ (omega arith) waits.value waits.bound.0 c.requires.room)

pub returns-clause-drive : goal.returns-clause-drive
returns-clause-drive c = rw (← all c) c.print_answers-p.ensures.drive

pub returns-clause-count : goal.returns-clause-count
returns-clause-count c = rw (← all c) c.print_answers-p.ensures.count

pub returns-clause-used : goal.returns-clause-used
returns-clause-used c = rw (← all c) c.print_answers-p.ensures.used

pub returns-clause-lines : goal.returns-clause-lines
returns-clause-lines c = rw (← all c) c.print_answers-p.ensures.bytes
