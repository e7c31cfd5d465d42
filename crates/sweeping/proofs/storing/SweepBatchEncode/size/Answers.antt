use Rattle.std.proofs.Common.{arith, ap, length, length-append}
use Rattle.sweeping.proofs.Leaving.{bytes_in, epoch_in, sweep_bytes, length_next, length_end}
use Rattle.sweeping.proofs.storing.SweepBatchEncode.size.Goals as goal

pub loop-leaver-preserved : goal.loop-leaver-preserved
loop-leaver-preserved c =
    let l = c.loop-leaver in
    let e = length_next c.args.self.going l.leaver-index (omega arith) in
    record { most = omega (arith, c.size-n.ensures.1); left = omega (arith, e, l.invariant.left, c.size-n.ensures.0) }

pub returns : goal.returns
returns c =
    let l = c.loop-leaver in
    let a = c.args.self in
    let none = length_end a.going l.leaver-index (omega arith) in
    let e = ap length (sweep_bytes a.going a.epoch) in
    (omega (arith, none, e, length-append (bytes_in a.going) (epoch_in a.epoch), l.invariant.left, c.size.ensures.0), omega (arith, l.invariant.most, c.size.ensures.1))
