-- `numbers::put_number` meets its contract. The invariant: the bytes of x go to the front of the buffer, `at` of them are there, and those of `rest` are to come.
-- A turn of the loop writes one byte of them, and the last store the only one that is left.
use Rattle.std.proofs.Common.{[], ◌∷◌}
use Rattle.rules.specs.Records.{number}
use Rattle.numbers.proofs.Writing.{Writing}
use Rattle.numbers.proofs.put_number.Given as goal

abbrev pub invariant-loop-rest : goal.invariant-loop-rest
invariant-loop-rest l = Writing (number l.x) l.initial.buf l.buf l.at (number l.rest ∷ [])

abbrev pub decreases-loop-rest : goal.decreases-loop-rest
decreases-loop-rest l = l.rest
