-- What is filled has the entry, and the rest stays. Assumes nothing.
use Rattle.std.proofs.Common.{sym, length-take-le}
use lib.ListN.{length-replicate}
use Rattle.rules.specs.Step.{overlay}
use Rattle.assignor.proofs.put_times.Goals as goal

pub returns : goal.returns
unfolding overlay
returns c =
    let a = c.args in
    let n = length-take-le a.count a.out.now c.requires in
    record {
      count = sym (length-replicate a.count a.entry);
      bytes = rw (length-replicate a.count a.entry, c.fill.ensures.after (λ y e. e), n);
    }
