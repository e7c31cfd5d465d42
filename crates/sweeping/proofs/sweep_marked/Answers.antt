-- By the count: nobody goes; or some do, and the records and the group are those of the effect.
use Rattle.std.proofs.Common.{◌≤◌, arith, not, refl, sym, ap, ◌∙◌, length}
use Rattle.rules.specs.Effects.{sweep_of}
use Rattle.rules.specs.declared.Answer.TheVariants.{Swept}
use Rattle.group.specs.View.{view}
use Rattle.events.proofs.Ending.{no_room, written}
use Rattle.sweeping.specs.Marks.{marked}
use Rattle.sweeping.proofs.SweepRows.{sweep_nobody, sweep_records_are, sweep_group}
use Rattle.sweeping.proofs.sweep_marked.Goals as goal

pub returns-then-count-eq0 : goal.returns-then-count-eq0
returns-then-count-eq0 c =
    let a = c.args in
    let none = sym c.count_marks-count.ensures ∙ c.if-count-eq0.true in
    λ l. (tt, refl, sweep_nobody a.group.now _ a.tick a.records.now l (marked a.gone.now) none refl)

pub returns-in_err-written : goal.returns-in_err-written
returns-in_err-written c =
    let a = c.args in
    let g = a.group.now in
    let ps = marked a.gone.now in
    let n : 1 ≤ length ps = omega (arith, c.count_marks-count.ensures, c.if-count-eq0.false) in
    let is = sweep_records_are g ps a.tick n c.raised_epoch-epoch.ensures c.gone_batches-going.result _ c.gone_batches-going.ensures (ap not c.at_end-raises.ensures) c.then_some.ensures in
    λ l. no_room g a.records.now l (sweep_of (view g) ps a.tick) is refl c.from_residual.result c.from_residual.ensures.1 c.in_err-written.ensures

pub returns : goal.returns
unfolding sweep_of
returns c =
    let a = c.args in
    let g = a.group.now in
    let ps = marked a.gone.now in
    let n : 1 ≤ length ps = omega (arith, c.count_marks-count.ensures, c.if-count-eq0.false) in
    let is = sweep_records_are g ps a.tick n c.raised_epoch-epoch.ensures c.gone_batches-going.result _ c.gone_batches-going.ensures (ap not c.at_end-raises.ensures) c.then_some.ensures in
    let after = sweep_group g ps a.tick n c.raised_epoch-epoch.ensures c.gone_batches-going.result c.remove_all.new.group _ c.gone_batches-going.ensures c.remove_all.ensures refl in
    λ l. (tt, c.remove_all.ensures.topics, written g a.records.now l (sweep_of (view g) ps a.tick) is refl _ refl c.in_ok-written.ensures (ap Swept c.count_marks-count.ensures) after)
