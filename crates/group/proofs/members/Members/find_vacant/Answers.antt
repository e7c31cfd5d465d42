-- A place is vacant where its four words are zero.
use Rattle.rules.specs.Group.{vacant}
use Rattle.search.specs.Places.{matches}
use Rattle.group.proofs.Columns.{finds, finds_none, vacant_is}
use Rattle.group.proofs.members.Members.find_vacant.Goals as goal

pub returns-in_err-k : goal.returns-in_err-k
returns-in_err-k c = let ms = c.args.self.now.cells in rw c.from_residual.ensures (finds_none ms vacant (matches ms 0 0 0 0) (λ k h. vacant_is ms k) c.in_err-k.ensures)

pub returns : goal.returns
returns c = let ms = c.args.self.now.cells in finds ms vacant (matches ms 0 0 0 0) (λ k h. vacant_is ms k) c.in_ok-k.ensures
