-- The byte after the place tells which it is: 0, 1, or no record.
use Rattle.std.proofs.Common.{arith, ne_eqb, ◌∙◌}
use Rattle.rules.specs.Reader.{◌>>=◌, and_then, pure, refuse}
use Rattle.reading.proofs.fields.Cursor.member.Goals as goal

pub returns-in-0 : goal.returns-in-0
unfolding ◌>>=◌ and_then pure
returns-in-0 c =
    let place = c.in_ok-place.ensures in
    let byte = c.in_ok-byte.ensures in
    (rw (place.0, byte.0, c.in-0.is), byte.1 ∙ place.1, omega (arith, place, byte), byte.3)

pub returns-in_default : goal.returns-in_default
unfolding ◌>>=◌ and_then refuse
returns-in_default c =
    let byte = c.in_ok-byte.field-0 in
    rw (c.in_ok-place.ensures.0, c.in_ok-byte.ensures.0, ne_eqb byte 0 (λ e. omega arith), ne_eqb byte 1 (λ e. omega arith))
