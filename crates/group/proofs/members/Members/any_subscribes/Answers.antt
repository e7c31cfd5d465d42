-- Place by place.
use Rattle.std.proofs.Common.{refl, ◌∙◌, rules, tests}
use Rattle.std.proofs.lemmas.Iterator.{YieldsList-from_range}
use Rattle.std.proofs.lemmas.Iterator.Search.{any_from_yields_List}
use Rattle.rules.specs.Constants.{max_members}
use Rattle.group.proofs.Installing.{any_subscribed}
use Rattle.group.proofs.PlaceTests.{subscriber}
use Rattle.group.proofs.members.Members.any_subscribes.Goals as goal

pub returns : goal.returns
returns c =
    any_from_yields_List (subscriber c.args.topic c.args.self.now.cells) _ _ _ c.any.ensures.ran
    (YieldsList-from_range 0 max_members max_members refl refl) (λ k b q r. search (rules, tests))
    ∙ any_subscribed c.args.topic c.args.self.now.cells
