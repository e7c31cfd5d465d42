-- Nothing is read, or a record whose place there is not, or the bytes are over.
use Rattle.batches.proofs.Going.{going_cut, going_ends, going_lost}
use Rattle.batches.proofs.gather.Goals as goal

pub returns-in_err-record : goal.returns-in_err-record
returns-in_err-record c = rw c.from_residual.ensures (going_cut c.loop-record.invariant.2 _ _ c.in-Some.ensures.steps c.in_err-record.was)

pub returns-in_err-found : goal.returns-in_err-found
returns-in_err-found c =
    rw c.from_residual-in_err-found.ensures (going_lost c.loop-record.invariant.2 _ _ _ c.in-Some.ensures.steps c.in_ok-record.was c.in_err-found.ensures)

pub returns : goal.returns
returns c = going_ends c.loop-record.invariant.2 c.in-None.ensures.steps
