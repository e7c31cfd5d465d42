use Rattle.std.proofs.Common.{take, refl, ◌∙◌}
use Rattle.judging.specs.Reads.{wrote}
use Rattle.judging.proofs.Bytes.{pointwise_same, too_short, whole}
use Rattle.judging.proofs.comparing.is_batch.Goals as goal

pub returns-in_default : goal.returns-in_default
unfolding wrote
returns-in_default c = rw c.in_default.is refl

pub returns-then-buffer-n : goal.returns-then-buffer-n
unfolding wrote
returns-then-buffer-n c = let a = c.args in rw c.in-Some.is (too_short a.buffer.now a.batch.now _ c.if-buffer-n.true)

pub returns : goal.returns
unfolding wrote
returns c = let a = c.args in rw c.in-Some.is (c.eq.ensures ∙ pointwise_same (take _ a.buffer.now) a.batch.now ∙ whole a.buffer.now a.batch.now _ c.if-buffer-n.false)
