-- Both sets are empty. Assumes nothing.
use Rattle.rules.specs.Effects.{joined_at}
use Rattle.records.specs.Views.{view_current}
use Rattle.records.proofs.Differences.{slots_none}
use Rattle.records.proofs.batches.joined.Goals as goal

pub returns : goal.returns
unfolding view_current joined_at
returns c = rw (slots_none c.empty-none.result.words c.empty-none.ensures)
