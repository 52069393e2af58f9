use Rattle.std.proofs.Common.{refl, arith}
use Rattle.line.specs.Laws.{decimal_small, decimal_more, digits_more, write_byte, after_that}
use Rattle.line.proofs.writer.+put_digits.Goals as goal

pub returns-then-n-lt10 : goal.returns-then-n-lt10
returns-then-n-lt10 t c =
    let one = decimal_small c.args.n c.if-n-lt10.true in
    rw one record { place = refl; buffer = write_byte c.args.out.now c.args.at _ (omega (arith, rw one at c.requires)) }

pub returns-else-n-lt10 : goal.returns-else-n-lt10
returns-else-n-lt10 t c =
    let room = digits_more c.args.n c.if-n-lt10.false in
    let last = c.put_digits-last in
    rw (decimal_more c.args.n c.if-n-lt10.false)
    (after_that last.ensures record { place = refl; buffer = write_byte last.new.out last.result _ (omega arith) } (omega arith))
