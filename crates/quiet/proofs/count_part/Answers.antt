use Rattle.std.specs.Int.{from_bool}
use Rattle.std.proofs.Common.{ℕ, ◌+◌, sym, ap, ◌∙◌, arith}
use Rattle.quiet.specs.Settling.{near_count}
use Rattle.quiet.proofs.Counting.{next, at_most_one}
use Rattle.quiet.proofs.count_part.Goals as goal

pub loop-i-preserved : goal.loop-i-preserved
loop-i-preserved c =
    let a = c.args in
    let l = c.loop-i in
    let n = c.from-n.ensures ∙ ap from_bool c.is_near.ensures.tells in (
      λ _. c.is_near.ensures.whole,
      omega (arith, c.from-n.ensures, at_most_one c.is_near.result),
      next a.tables.now a.p.0 a.from l.i l.n l.invariant.2 ∙ ap (λ (m : ℕ). near_count a.tables.now a.p.0 a.from + (l.n + m)) (sym n),
    )
