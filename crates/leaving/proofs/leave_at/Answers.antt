-- The records and the group are those of the effect.
use Rattle.std.proofs.Common.{not, refl, ap}
use Rattle.rules.specs.Effects.{leave_at}
use Rattle.group.specs.View.{view}
use Rattle.events.proofs.Ending.{no_room, written}
use Rattle.leaving.proofs.LeaveRows.{leave_records_are, leave_group}
use Rattle.leaving.proofs.leave_at.Goals as goal

pub returns-in_err-written : goal.returns-in_err-written
returns-in_err-written c =
    let a = c.args in
    let g = a.group.now in
    let is = leave_records_are g a.p.0 a.tick c.raised_epoch-epoch.ensures _ refl c.has_target.ensures (ap not c.at_end-raises.ensures) c.then_some.ensures in
    λ l. no_room g a.records.now l (leave_at (view g) a.p.0 a.tick) is refl c.from_residual.result c.from_residual.ensures.1 c.in_err-written.ensures

pub returns : goal.returns
unfolding leave_at
returns c =
    let a = c.args in
    let g = a.group.now in
    let is = leave_records_are g a.p.0 a.tick c.raised_epoch-epoch.ensures _ refl c.has_target.ensures (ap not c.at_end-raises.ensures) c.then_some.ensures in
    let after = leave_group g a.p.0 a.tick c.raised_epoch-epoch.ensures _ refl refl c.vacate.ensures.members c.vacate-2.ensures in
    λ l. (tt, refl, written g a.records.now l (leave_at (view g) a.p.0 a.tick) is refl _ refl c.in_ok-written.ensures refl after)
