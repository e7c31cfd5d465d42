-- The places are sorted by the IDs of the columns, and the subscriptions and the counts are the group's: so what is written is the rules' target (`all_are`).
use Rattle.std.proofs.Common.{rules, arith, ◌∙◌}
use Rattle.rules.specs.Constants.{max_members}
use Rattle.assignor.proofs.Ordering.{keys_same, sorted_places}
use Rattle.assignor.proofs.Assigning.{all_are}
use Rattle.assignor.proofs.range_target.Goals as goal

pub put_topics-requires : goal.put_topics-requires
put_topics-requires c = (rw c.sorted-order.ensures (sorted_places _ 0 max_members (omega arith)), omega arith)

pub returns : goal.returns
returns c =
    let a = c.args in
    let k = c.of-keys in
    λ g ids topics members.
    rw (c.sorted-order.ensures, c.subscriptions-subscriptions.ensures) at c.put_topics.ensures
    ∙ all_are g ids a.topics.now.counts topics a.members.now.cells members _ (keys_same _ _ k.result k.ensures (search rules) (λ i h. search rules))
