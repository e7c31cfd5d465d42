use Rattle.std.proofs.Common.{false, arith}
use Rattle.std.proofs.lemmas.List.{get_or-replicate}
use Rattle.rules.specs.Constants.{max_members}
use Rattle.installing.proofs.Targets.{mark_begin, mark_end}
use Rattle.installing.proofs.retargeting.changed_places.Goals as goal

pub loop-s-init : goal.loop-s-init
loop-s-init c = mark_begin _ _ _ (λ p h. get_or-replicate max_members p false false h)

pub returns : goal.returns
returns c = mark_end _ _ c.told-before c.told-after (omega arith) c.loop-s.invariant
