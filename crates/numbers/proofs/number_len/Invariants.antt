-- `numbers::number_len` meets its contract. The invariant: what is counted and the bytes of what is left are together one more than the bytes of x.
-- A u32 takes at most five bytes, so the count fits.
use Rattle.std.proofs.Common.{◌≡◌, ◌+◌, length}
use Rattle.rules.specs.Records.{number}
use Rattle.numbers.proofs.number_len.Given as goal

abbrev pub invariant-loop-rest : goal.invariant-loop-rest
invariant-loop-rest l = (l.n + length (number l.rest) ≡ 1 + length (number l.x))

abbrev pub decreases-loop-rest : goal.decreases-loop-rest
decreases-loop-rest l = l.rest
