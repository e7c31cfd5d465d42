-- The count of the entries passed is kept.
use Rattle.std.proofs.Common.{◌≡◌, eqb, count_by, take}
use Rattle.search.proofs.count_words.Given as goal

abbrev pub invariant-loop-id : goal.invariant-loop-id
invariant-loop-id l = l.n ≡ count_by (λ x. eqb x l.a) (take l.id-index l.id-items)
