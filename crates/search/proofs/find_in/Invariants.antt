-- None of the places passed has the ID.
use Rattle.std.proofs.Common.{◌≡◌, ℕ, ◌≤◌, ◌<◌, false}
use Rattle.search.specs.Places.{matches}
use Rattle.search.proofs.find_in.Given as goal

abbrev pub invariant-loop-k : goal.invariant-loop-k
invariant-loop-k l = (j : ℕ) → l.from ≤ j → j < l.k → matches l.ids l.w.a l.w.b l.w.c l.w.d j ≡ false
