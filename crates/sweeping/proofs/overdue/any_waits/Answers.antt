use Rattle.std.proofs.Common.{false, ◌||◌, ◌∙◌, rules, tests}
use Rattle.std.proofs.lemmas.Iterator.{YieldsList-from_slice}
use Rattle.std.proofs.lemmas.Iterator.Consumers.{fold_from_yields_List}
use Rattle.sweeping.proofs.Marking.{any_waiting}
use Rattle.sweeping.proofs.overdue.any_waits.Goals as goal

pub returns : goal.returns
returns c =
    let ws = c.args.waiting.now in
    fold_from_yields_List _ (λ s w. s || w) false _ c.fold.ensures.ran (YieldsList-from_slice ws cc) (λ a x b q k. search (rules, tests))
    ∙ any_waiting false ws
