use Rattle.std.proofs.Common.{◌≡◌, ◌+◌, ◌-◌, ◌*◌, length, subst, arith}
use Rattle.search.specs.Rising.{stride, Rises, TellsRising}
use Rattle.search.proofs.SlotSets.{joined}
use Rattle.search.proofs.rising.rises.Goals as goal

pub loop-stride-preserved : goal.loop-stride-preserved
loop-stride-preserved c =
    let l = c.args.list.now in
    let at = c.loop-stride.stride * stride in
    let n : at + stride ≡ (c.loop-stride.stride + 1) * stride = omega arith in
    subst (Rises l 0) n (joined l 0 at at (at + stride) (omega arith) c.loop-stride.invariant (c.rises_from.ensures.0 c.if-not-rises_from.false))

pub returns : goal.returns
returns c =
    let l = c.args.list.now in
    let last = length l - 1 in
    let e : last - stride + stride ≡ last = omega arith in
    let t = subst (λ n. TellsRising l (last - stride) n c.rises_from-2.result) e c.rises_from-2.ensures in
    (λ r. joined l 0 (c.loop-stride.stride * stride) (last - stride) last (omega arith) c.loop-stride.invariant (t.0 r), t.1)
