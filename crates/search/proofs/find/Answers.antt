-- A step that lacks the first word has none of the places; nor has one in which none was found.
use Rattle.std.proofs.Common.{◌≡◌, ℕ, ◌+◌, ◌*◌, ◌≤◌, ◌<◌, List, length, count_by, eqb, slice_range, false, subst, ◌∙◌, sym, arith}
use Rattle.search.specs.Places.{step, matches}
use Rattle.search.proofs.Placing.{NoneBelow, lacks, none_to}
use Rattle.search.proofs.find.Goals.{then-n-ne0+in_default, else-n-ne0}
use Rattle.search.proofs.find.Goals as goal

no_match : (ids : List ℕ) (a b c d from : ℕ) → from + step ≤ length ids → count_by (λ x. eqb x a) (slice_range ids from (from + step)) ≡ 0
    → (k : ℕ) → from ≤ k → k < from + step → matches ids a b c d k ≡ false
unfolding matches
no_match ids a b c d from room none k p q = rw (lacks a ids from room none k p q)

pub loop-part-preserved : goal.loop-part-preserved
loop-part-preserved c =
    let w = c.args.w in
    let from = c.loop-part.part * step in
    let n : from + step ≡ (c.loop-part.part + 1) * step = omega arith in
    subst (NoneBelow (matches c.args.ids.now w.a w.b w.c w.d)) n (none_to (from + step) c.loop-part.invariant
    (elim c.if-n-ne0.branch [
      | then-n-ne0+in_default v ↦ v.in_default.ensures
      | else-n-ne0 v ↦
          no_match c.args.ids.now w.a w.b w.c w.d from (omega arith) (sym c.count_words-n.ensures ∙ v.if-n-ne0.false)
    ]))
