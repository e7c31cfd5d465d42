use Rattle.tables.proofs.Viewing.{view_fresh}
use Rattle.tables.proofs.Tables.empty.Goals as goal

pub returns : goal.returns
returns c = view_fresh
