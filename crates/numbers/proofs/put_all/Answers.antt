use Rattle.std.proofs.Common.{◌≡◌, ap, ◌∙◌, ◌<◌, ℕ, length, drop, append-nil, drop-cons, add-one, arith}
use lib.Seq.{drop-length}
use Rattle.numbers.proofs.Writing.{put_one, ended}
use Rattle.numbers.proofs.put_all.Goals as goal

pub loop-i-preserved : goal.loop-i-preserved
loop-i-preserved g c =
    let i = c.loop-i.i in
    let w = c.args.all.now in
    let h : i < length w = omega arith in
    put_one (rw (drop-cons w i c.index-all-i.result h, ← c.index-all-i.is, ← (add-one i)) at c.loop-i.invariant)

pub returns : goal.returns
returns g c =
    let s = c.loop-i.invariant in
    let w = c.args.all.now in
    let e : c.loop-i.i ≡ length w = omega arith in
    rw (← e) (ended s (append-nil (drop c.loop-i.i w) ∙ ap (λ (n : ℕ). drop n w) e ∙ drop-length w))
