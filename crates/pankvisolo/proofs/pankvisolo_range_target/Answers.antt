-- The target is that of every group with these members and topics.
use Rattle.std.proofs.Common.{refl}
use Rattle.group.specs.View.{view}
use Rattle.pankvisolo.proofs.pankvisolo_range_target.Goals as goal

pub returns : goal.returns
unfolding view
returns c = let g = c.args.group.now in c.range_target.ensures (view g) g.topics.ids refl refl
