use Rattle.std.proofs.Common.{append_assoc}
use Rattle.line.specs.Writing.{wrote_both}
use Rattle.shift.proofs.put_fields.Goals as goal

pub returns : goal.returns
returns c =
    let percent = rw c.to_percent.ensures at c.put_number-2.ensures in
    let name = rw c.name.ensures at c.put_bytes.ensures in
    let digits = wrote_both c.put_byte.ensures c.put_binary.ensures in
    simp append_assoc (wrote_both c.put_number.ensures (wrote_both percent (wrote_both name (wrote_both digits c.put_byte-2.ensures))))
