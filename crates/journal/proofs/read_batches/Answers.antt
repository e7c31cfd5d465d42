use Rattle.std.proofs.Common.{Err, sym, ap, ◌∙◌}
use Rattle.frames.specs.declared.NoBatch.TheVariants as X
use Rattle.journal.specs.Readings.{reading_as}
use Rattle.journal.proofs.Going.{batch_bad, batch_good, turns}
use Rattle.journal.proofs.read_batches.Goals as goal

pub returns-then-not-good : goal.returns-then-not-good
unfolding reading_as
returns-then-not-good c = let read = c.read_batch_with-good in sym (c.loop-first.invariant ∙ batch_bad c.read_extent.ensures c.in-Ok.is read.result _ _ read.ensures c.if-not-good.true-raw)

pub loop-first-preserved : goal.loop-first-preserved
loop-first-preserved c = let read = c.read_batch_with-good in c.loop-first.invariant ∙ batch_good c.read_extent.ensures c.in-Ok.is read.result _ _ read.ensures c.if-not-good.false-raw

pub returns-in-Err-End : goal.returns-in-Err-End
unfolding reading_as
returns-in-Err-End c = let e = c.in-Err-End in sym (c.loop-first.invariant ∙ turns c.read_extent.ensures _ _ (Err X.End) (e.is ∙ ap Err e.field-0-is))

pub returns-in-Err-Torn : goal.returns-in-Err-Torn
unfolding reading_as
returns-in-Err-Torn c = let e = c.in-Err-Torn in sym (c.loop-first.invariant ∙ turns c.read_extent.ensures _ _ (Err X.Torn) (e.is ∙ ap Err e.field-0-is))

pub returns-in-Err-Bad : goal.returns-in-Err-Bad
unfolding reading_as
returns-in-Err-Bad c = let e = c.in-Err-Bad in sym (c.loop-first.invariant ∙ turns c.read_extent.ensures _ _ (Err X.Bad) (e.is ∙ ap Err e.field-0-is))
