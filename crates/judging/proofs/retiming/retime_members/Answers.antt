use Rattle.std.proofs.Common.{rules, length, ◌≡◌, arith}
use Rattle.judging.proofs.Ticks.{all_ticked, none_ticked, one_ticked}
use Rattle.judging.proofs.retiming.retime_members.Goals as goal

pub loop-p-init : goal.loop-p-init
loop-p-init c = none_ticked _ _

pub loop-p-preserved : goal.loop-p-preserved
loop-p-preserved c =
    let n : length c.args.members.now.cells ≡ 288 = search rules in
    one_ticked _ _ _ _ n (omega arith) c.loop-p.invariant

pub returns : goal.returns
returns c = let l = c.loop-p in all_ticked _ _ _ _ (omega arith) l.invariant
