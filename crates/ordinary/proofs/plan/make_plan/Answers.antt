-- The sets that were gathered and the step taken on them make the plan of the rules (`Stepping`). Assumes nothing.
use Rattle.std.proofs.Common.{◌≡◌, Bool, not, ◌||◌, length, eqb, refl, ap, arith, rules}
use Rattle.slots.specs.Set.{word_count}
use Rattle.tables.specs.Advances.{listed}
use Rattle.tables.specs.View.{slots_in}
use Rattle.tables.proofs.Stepping.{advances}
use Rattle.tables.proofs.Moving.{written}
use Rattle.tables.proofs.Viewing.{slots_length}
use Rattle.group.specs.View.{view}
use Rattle.ordinary.proofs.Stepping.{plan_is}
use Rattle.ordinary.proofs.plan.make_plan.Goals as goal

pub returns : goal.returns
unfolding view
returns c = λ below own.
    let a = c.args in
    let p = a.s.place.0 in
    let t = a.group.now.tables in
    let vs = slots_in t in
    let sets = c.gather-sets in
    let step = c.advance-step in
    let next = c.next_member-next in
    let owned = listed a.owned in
    let words : length sets.result.revoking.words ≡ word_count = search rules in
    let whole = slots_length t sets.ensures.whole in
    let adv = advances p vs whole (omega (arith, below)) sets.result words sets.ensures.sets owned step.result step.ensures in
    plan_is (view a.group.now) a.b owned a.s.place a.s.seat sets.result step.result own whole sets.ensures.sets adv next.result next.ensures (written p vs owned step.result adv) _ _ refl (ap (λ (x : Bool). not (eqb next.result.seat.epoch a.s.seat.epoch) || x) c.moves.ensures)
