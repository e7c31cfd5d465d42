-- The four tests are those of `matches`.
use Rattle.std.proofs.Common.{refl}
use Rattle.search.specs.Places.{matches}
use Rattle.search.proofs.is_at.Goals as goal

pub returns : goal.returns
unfolding matches
returns c = refl
