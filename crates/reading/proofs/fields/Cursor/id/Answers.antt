-- Sixteen bytes are there.
use Rattle.std.proofs.Common.{arith, refl, length}
use Rattle.std.proofs.lemmas.Slice.{between_to_end}
use Rattle.rules.specs.Constants.{id_length}
use Rattle.reading.proofs.Bytes.{bytes_here}
use Rattle.reading.proofs.fields.Cursor.id.Goals as goal

pub returns : goal.returns
returns c =
    let s = c.args.self.now in
    let rest = c.in_ok-get.ensures.lookup.0 in
    let id = c.in_ok-id.ensures.cases in
    let here = bytes_here id_length s.bytes.now s.at (omega (arith, rest, id.enough)) in
    (rw (id.same, rest.2, between_to_end s.bytes.now s.at (length s.bytes.now) (omega arith)) here, refl, omega arith, omega (arith, rest, id.enough))
