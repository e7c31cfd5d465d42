use Rattle.std.proofs.Common.{◌+◌, sym, ap, ◌∙◌, arith, rules}
use Rattle.rules.specs.Constants.{slot_count}
use Rattle.slots.proofs.Turns.{turn, over}
use Rattle.tables.specs.Walk.{rest}
use Rattle.tables.proofs.Filling.{four_none, four_to, four_more, four_all}
use Rattle.tables.proofs.Tables.gather.Goals as goal

pub loop-s-init : goal.loop-s-init
loop-s-init c =
    let e = ap rest c.into_iter-s-iterator.ensures.into_iter_gives ∙ c.slots_near-s-items.ensures in (0, omega arith, e, four_none c.args.p.0 c.args.self.now)

pub loop-s-preserved : goal.loop-s-preserved
loop-s-preserved c =
    let p = c.args.p.0 in
    let t = c.args.self.now in
    let s = c.in-Some.s in
    let i = c.loop-s.invariant in
    let next = turn i.1 (sym i.2 ∙ c.in-Some.ensures.steps.0) in (
      s + 1,
      omega (arith, next.below),
      next.rest,
      four_more p t c.mark.result c.mark-in-loop-s.result c.mark-in-loop-s-2.result c.mark-in-loop-s-3.result (four_to p t s i.3 next.from next.off) next.below
          c.mark.ensures c.mark-in-loop-s.ensures c.mark-in-loop-s-2.ensures c.mark-in-loop-s-3.ensures,
    )

pub returns-clause-sets : goal.returns-clause-sets
returns-clause-sets c =
    let p = c.args.p.0 in
    let t = c.args.self.now in
    let i = c.loop-s.invariant in
    four_all p t (search rules) (four_to p t slot_count i.3 i.1 (over _ i.0 slot_count i.1 (sym i.2 ∙ c.in-None.ensures.steps.0.0)))
