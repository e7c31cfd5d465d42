-- The records that were stored and the group with the entries for a target are those of the effect.
use Rattle.std.proofs.Common.{refl}
use Rattle.rules.specs.Effects.{install_effect}
use Rattle.group.specs.View.{view}
use Rattle.events.proofs.Ending.{no_room, written}
use Rattle.installing.proofs.Installs.{install_group}
use Rattle.installing.proofs.install_at.Goals as goal

pub returns-in_err-written : goal.returns-in_err-written
unfolding install_effect view
returns-in_err-written c =
    λ l.
    let a = c.args in
    let g = a.group.now in
    no_room g a.records.now l (install_effect (view g) a.target.now) refl refl c.from_residual.result c.from_residual.ensures.1 c.in_err-written.ensures

pub returns : goal.returns
unfolding install_effect view
returns c =
    λ l.
    let a = c.args in
    let g = a.group.now in
    (tt, λ i. (g.members, g.topics, c.replace.ensures.holder i, c.replace.ensures.waiting i), written g a.records.now l (install_effect (view g) a.target.now) refl refl _ refl c.in_ok-written.ensures refl (install_group g _ a.target.now refl refl refl c.replace.ensures.slots))
