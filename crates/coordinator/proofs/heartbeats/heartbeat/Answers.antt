-- Each arm is the step of its kind, and the epoch has that kind: as bits it reads back as itself.
use Rattle.std.proofs.Common.{rules, ap, refl, ◌∙◌, w32, SFits}
use Rattle.std.proofs.Math.Facts.{to_z-of_z}
use Rattle.rules.specs.Refusals.{kind_of}
use Rattle.group.specs.Kinds.{view_kind}
use Rattle.events.specs.Outcomes.{request_of}
use Rattle.coordinator.proofs.ByKind.{taken_as}
use Rattle.coordinator.proofs.heartbeats.heartbeat.Goals as goal

pub returns-in-Joins : goal.returns-in-Joins
unfolding view_kind request_of
returns-in-Joins c =
    let f : SFits w32 c.args.b.epoch = search rules in
    taken_as _ _ (request_of c.args.b c.args.owned.now) _ _ _ _ c.into.ensures (c.in-Joins.ensures ∙ ap kind_of (to_z-of_z f)) (c.join.ensures c.args.list.now)

pub returns-in-Leaves : goal.returns-in-Leaves
unfolding view_kind request_of
returns-in-Leaves c =
    let f : SFits w32 c.args.b.epoch = search rules in
    taken_as _ _ (request_of c.args.b c.args.owned.now) _ _ _ _ c.into-in-Leaves.ensures (c.in-Leaves.ensures ∙ ap kind_of (to_z-of_z f)) (c.leave.ensures c.args.owned.now c.args.list.now)

pub returns-in-Invalid : goal.returns-in-Invalid
unfolding view_kind request_of
returns-in-Invalid c =
    let f : SFits w32 c.args.b.epoch = search rules in
    let a = c.args in
    taken_as _ _ (request_of a.b a.owned.now) _ _ _ _ c.into-in-Invalid.ensures (c.in-Invalid.ensures ∙ ap kind_of (to_z-of_z f))
    (refl, refl, c.refusal.ensures a.owned.now a.records.now a.list.now)

pub returns-in-Ordinary : goal.returns-in-Ordinary
unfolding view_kind request_of
returns-in-Ordinary c =
    let f : SFits w32 c.args.b.epoch = search rules in
    taken_as _ _ (request_of c.args.b c.args.owned.now) _ _ _ _ c.into-in-Ordinary.ensures (c.in-Ordinary.ensures ∙ ap kind_of (to_z-of_z f)) c.ordinary.ensures
