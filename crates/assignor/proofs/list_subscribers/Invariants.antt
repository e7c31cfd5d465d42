-- Those listed and those among the places that are left are all (`listed_next`). Assumes nothing.
use Rattle.std.proofs.Common.{◌≤◌, ◌≡◌, ◌++◌, length, take, drop}
use Rattle.rules.specs.Constants.{max_members}
use Rattle.assignor.specs.Shares.{among}
use Rattle.assignor.proofs.list_subscribers.Given as goal

abbrev pub invariant-loop-p : goal.invariant-loop-p
invariant-loop-p l = (l.n ≤ l.p-index) × (length l.list ≡ max_members) × (take l.n l.list ++ among (drop l.p-index l.order) l.subscriptions l.topic ≡ among l.order l.subscriptions l.topic)
