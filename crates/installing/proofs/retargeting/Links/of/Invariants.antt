-- The slots that were passed are linked: those of a place to be the first of it, any other not at all.
use Rattle.installing.specs.Links.{LinkedFrom}
use Rattle.installing.proofs.retargeting.Links.of.Given as goal

abbrev pub invariant-loop-s : goal.invariant-loop-s
invariant-loop-s l = LinkedFrom l.s l.target l.firsts l.counts l.nexts
