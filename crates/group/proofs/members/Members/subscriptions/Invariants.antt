-- The array is filled as far as the loop went. Assumes nothing.
use Rattle.std.proofs.Common.{◌≡◌, ℕ, ◌<◌, length, get_or}
use mathlib.Core.Option.{none}
use Rattle.rules.specs.Constants.{max_members}
use Rattle.group.specs.Columns.{view_members}
use Rattle.group.specs.Entries.{subscription_of}
use Rattle.group.proofs.members.Members.subscriptions.Given as goal

abbrev pub invariant-loop-k : goal.invariant-loop-k
invariant-loop-k l = (length l.all ≡ max_members) × ((k : ℕ) → k < l.k → get_or l.all k 0 ≡ subscription_of (get_or (view_members l.self.cells) k none))
