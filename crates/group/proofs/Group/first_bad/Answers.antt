-- The array is the list of all places' subscriptions, over which the test is the rules' own (`first_bad_is`). Assumes nothing.
use Rattle.std.proofs.Common.{◌≡◌, length, rules}
use Rattle.rules.specs.Constants.{topic_count}
use Rattle.group.specs.View.{view}
use Rattle.group.proofs.Installing.{first_bad_is, first_in}
use Rattle.group.proofs.Group.first_bad.Goals as goal

pub returns : goal.returns
returns c =
    let a = c.args in
    let g = a.self.now in
    let n : length g.topics.counts ≡ topic_count = search rules in
    let all = c.subscriptions-subscriptions.ensures in
    let w = c.wanted_topics in
    first_in _ a.rule (view g) a.entries.now (first_bad_is g n a.rule w.result (rw all at w.ensures) a.entries.now) c.first_bad.result (rw all at c.first_bad.ensures)
