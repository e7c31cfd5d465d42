use Rattle.std.proofs.Common.{sym, arith}
use Rattle.quiet.proofs.Counting.{nothing}
use Rattle.quiet.proofs.count.Goals as goal

pub loop-part-init : goal.loop-part-init
loop-part-init c = (λ h. absurd (omega arith), omega arith, sym (nothing c.args.tables.now c.args.p.0))
