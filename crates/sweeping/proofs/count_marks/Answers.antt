use Rattle.std.proofs.Common.{count_by, arith, Bool, List, ap, ◌∙◌, take_all}
use Rattle.sweeping.proofs.Counting.{count_marked}
use Rattle.sweeping.proofs.count_marks.Goals as goal

pub returns : goal.returns
returns c =
    let marks = c.args.gone.now in
    let l = c.loop-goes in
    c.from.ensures ∙ l.invariant.counted ∙ ap (λ (m : List Bool). count_by (λ x. x) m) (take_all l.goes-index marks (omega arith)) ∙ count_marked marks (omega arith)
