use Rattle.std.proofs.Common.{arith, Bool, ap}
use Rattle.tables.specs.View.{slots_in}
use Rattle.sweeping.proofs.Leaving.{fill_begin, fill_one, fill_none, all_leave}
use Rattle.sweeping.proofs.storing.gone_batches.Goals.{then-goes, else-goes}
use Rattle.sweeping.proofs.storing.gone_batches.Goals as goal

pub loop-i-init : goal.loop-i-init
loop-i-init c = fill_begin (slots_in c.args.tables.now) c.args.gone.now

pub loop-i-preserved : goal.loop-i-preserved
loop-i-preserved c =
    let s = c.loop-i.invariant in
    elim c.if-goes.branch [
      | then-goes w ↦ rw w.going-is (fill_one s (omega arith) w.if-goes.true (ap (λ (r : Bool). record { place = record { 0 = c.loop-i.i }; retargets = r }) w.has_target.ensures))
      | else-goes w ↦ rw w.going-is (fill_none s (omega arith) w.if-goes.false)
    ]

pub returns : goal.returns
returns c = let l = c.loop-i in all_leave (slots_in c.args.tables.now) c.args.gone.now l.going l.invariant.long (λ p q. l.invariant.done p (omega arith))
