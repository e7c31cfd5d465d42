-- The kind of a heartbeat that a value of the crate's enum stands for.
use Rattle.rules.specs.Refusals as R
use Rattle.group.specs.declared.Kind.{Kind}
use Rattle.group.specs.declared.Kind.TheVariants.{Joins, Leaves, Invalid, Ordinary}

unfoldable pub view_kind : Kind → R.Kind
view_kind Joins = R.joins
view_kind Leaves = R.leaves
view_kind Invalid = R.invalid
view_kind (Ordinary e) = R.ordinary e
