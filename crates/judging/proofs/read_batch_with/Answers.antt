-- No batch by its length, none by its records, or a candidate.
use Rattle.std.proofs.Common.{refl, ◌∙◌}
use Rattle.judging.specs.Reads.{good_as}
use Rattle.judging.proofs.Reading.{fair, none_left, none_read, nothing_read, records_read, some_left, too_long}
use Rattle.judging.proofs.read_batch_with.Goals as goal

pub returns-then-is_empty : goal.returns-then-is_empty
unfolding good_as
returns-then-is_empty c = record { reads = nothing_read _ _ _ (none_left _ c.is_empty.ensures c.if-is_empty.true); keeps = λ e. refl }

pub returns-then-batch-gt-BATCH_LIMIT : goal.returns-then-batch-gt-BATCH_LIMIT
unfolding good_as
returns-then-batch-gt-BATCH_LIMIT c = record { reads = too_long _ _ _ c.if-batch-gt-BATCH_LIMIT.true; keeps = λ e. refl }

pub returns-in_default : goal.returns-in_default
unfolding good_as
returns-in_default c = record { reads = none_read _ _ _ c.if-batch-gt-BATCH_LIMIT.false c.in_default.ensures; keeps = λ e. refl }

pub returns : goal.returns
returns c =
    let s = c.in-Some.ensures in
    let r = c.attempt.ensures in
    record { reads = r.judges _ s (fair _ (some_left _ c.is_empty.ensures c.if-is_empty.false) c.if-batch-gt-BATCH_LIMIT.false) ∙ records_read _ _ _ c.if-batch-gt-BATCH_LIMIT.false s.records s.read; keeps = r.keeps }
