-- `numbers::put_all` meets its contract. The invariant: the list goes to the front of the buffer, and its elements from i on are to come.
use Rattle.std.proofs.Common.{[], ◌∷◌, drop}
use Rattle.numbers.proofs.Writing.{Writing}
use Rattle.numbers.proofs.put_all.Given as goal

abbrev pub invariant-loop-i : goal.invariant-loop-i
invariant-loop-i g l = Writing l.all l.initial.buf l.buf l.i (drop l.i l.all ∷ [])
