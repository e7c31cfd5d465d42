use Rattle.std.proofs.lemmas.Result.{err_from_is_err_and}
use Rattle.frames.proofs.Reach.{no_batch, torn, batch_at}
use Rattle.frames.proofs.extents.read_extent.Goals as goal

pub returns-in_err-n : goal.returns-in_err-n
returns-in_err-n c =
    let p = err_from_is_err_and c.from_residual.result c.from_residual.ensures.1 in
    rw (p.1, p.2) (no_batch _ c.in_err-n.ensures)

pub returns-then-s-start : goal.returns-then-s-start
returns-then-s-start c = torn c.in_ok-n.ensures c.if-s-start.true

pub returns : goal.returns
returns c = batch_at c.in_ok-n.ensures c.if-s-start.false
