-- The union of the subscriptions (`in_union`); without the rule no topic is wanted.
use Rattle.std.proofs.Common.{◌≡◌, ap, ◌∙◌, rules}
use Rattle.std.specs.List.{fold}
use lib.Bits.{bit_or}
use Rattle.rules.specs.Group.{includes_topic}
use Rattle.group.proofs.Installing.{none_subscribed, in_union}
use Rattle.group.proofs.entries.wanted_topics.Goals as goal

pub returns-then-not-rule : goal.returns-then-not-rule
returns-then-not-rule c = λ t. none_subscribed t ∙ rw c.if-not-rule.true

pub returns : goal.returns
returns c =
    let ss = c.args.subscriptions.now in
    let e : c.fold.result ≡ fold bit_or 0 ss = search rules in
    λ t. ap (includes_topic t) e ∙ in_union t 0 ss ∙ rw (none_subscribed t, c.if-not-rule.false)
