-- A byte that is no kind.
use Rattle.std.proofs.Common.{arith, ne_eqb}
use Rattle.rules.specs.Reader.{◌>>=◌, and_then, refuse}
use Rattle.reading.proofs.fields.Cursor.record.Goals as goal

pub returns-in_default : goal.returns-in_default
unfolding ◌>>=◌ and_then refuse
returns-in_default c =
    let kind = c.in_ok-kind.kind in
    rw (
      c.in_ok-kind.ensures.0,
      ne_eqb kind 3 (λ e. omega arith),
      ne_eqb kind 4 (λ e. omega arith),
      ne_eqb kind 5 (λ e. omega arith),
      ne_eqb kind 6 (λ e. omega arith),
      ne_eqb kind 7 (λ e. omega arith),
      ne_eqb kind 8 (λ e. omega arith),
    )
