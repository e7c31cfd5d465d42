-- The writer was lent the part of the buffer from the place on.
use Rattle.numbers.proofs.Writing.{part_over}
use Rattle.records.proofs.put_at.Goals as goal

pub returns : goal.returns
returns g c = part_over _ _ _ _ _ c.put.ensures
