-- The count and the store decide whether there is room; otherwise each part of the outcome is that of the plan's effect (`Carrying`). Assumes nothing.
use Rattle.std.specs.Prelude.{set}
use Rattle.std.proofs.Common.{◌≡◌, ℕ, ◌≤◌, ◌<◌, List, length, ltb, refl, ap, ◌∙◌, arith, lt-ltb}
use Rattle.std.proofs.Math.Option.{some}
use Rattle.rules.specs.Constants.{heartbeat_interval}
use Rattle.rules.specs.Group as G
use Rattle.rules.specs.Records.{all_bytes}
use Rattle.rules.specs.Refusals.{first_of, zero_id}
use Rattle.rules.specs.Effects.{Effect}
use Rattle.rules.specs.Step.{carry_out, too_little_room}
use Rattle.rules.specs.declared.Answer.TheVariants.{Assigned}
use Rattle.rules.specs.declared.Place.{Place}
use Rattle.rules.specs.declared.Refusal.TheVariants.{Room}
use Rattle.rules.proofs.Lists.{or_true}
use Rattle.records.specs.Storing.{ordinary_batch}
use Rattle.records.specs.declared.batches.OrdinaryBatch.{OrdinaryBatch}
use Rattle.group.specs.Columns.{view_members}
use Rattle.group.specs.View.{view, seated}
use Rattle.group.specs.declared.Group.{Group}
use Rattle.group.specs.declared.Seat.{Seat}
use Rattle.events.specs.Outcomes.{took, carried}
use Rattle.events.proofs.Carrying.{denied, refusal, carried_out}
use Rattle.events.proofs.Ending.{no_room}
use Rattle.events.proofs.Lent.{group_changed}
use Rattle.ordinary.specs.Plans.{batch_of, epoch_by, planned}
use Rattle.ordinary.specs.declared.plan.Plan.{Plan}
use Rattle.ordinary.proofs.carry.Goals as goal

-- a list that is too short is refused alike, whatever the buffer
list_short : (f : Effect) (b l : List ℕ) (g : G.Group) → length l < length f.told → carried g f b l ≡ denied Room g b l
unfolding carried carry_out first_of too_little_room
list_short f b l g h = rw (or_true (ltb (length b) (length (all_bytes f.records))) _ (lt-ltb _ _ h))

pub returns-then-list-count : goal.returns-then-list-count
unfolding planned
returns-then-list-count c = λ real.
    let a = c.args in
    let g = view a.group.now in
    let f = planned g a.p a.tick a.k.now in
    let short : length a.list.now < length f.told = omega (arith, c.count-count.ensures, c.if-list-count.true) in
    refusal (list_short f a.records.now a.list.now g short)

-- the records that are stored are those of the plan's effect
stored : (k : Plan) (p : Place) (g e : ℕ) (x : OrdinaryBatch) → x ≡ batch_of k p e → e ≡ epoch_by k g → ordinary_batch x ≡ ordinary_batch (batch_of k p (epoch_by k g))
stored k p g e x h q = ap ordinary_batch (h ∙ ap (batch_of k p) q)

pub returns-in_err-written : goal.returns-in_err-written
unfolding planned view
returns-in_err-written c = λ real.
    let a = c.args in
    let g = view a.group.now in
    let f = planned g a.p a.tick a.k.now in
    let b = stored a.k.now a.p a.group.now.head.epoch _ _ c.batch-batch.ensures c.epoch_after-epoch.ensures in
    no_room a.group.now a.records.now a.list.now f b refl c.from_residual.result c.from_residual.ensures.1 c.in_err-written.ensures

pub returns : goal.returns
unfolding planned view
returns c = λ real.
    let a = c.args in
    let m = a.k.now.member in
    let g = view a.group.now in
    let f = planned g a.p a.tick a.k.now in
    let b = stored a.k.now a.p a.group.now.head.epoch _ _ c.batch-batch.ensures c.epoch_after-epoch.ensures in
    let s = rw b at c.in_ok-written.ensures in
    let n = c.count-count.ensures in
    let seat = c.seat.ensures in
    let e = c.epoch_after-epoch.ensures in
    let room : length f.told ≤ length a.list.now = omega (arith, n, c.if-list-count.false) in
    let members = c.put.ensures (ap (λ (x : Seat). zero_id x.id) seat ∙ real) ∙ ap (λ (x : Seat). set (view_members a.group.now.members.cells) a.p.0 (some (seated x))) seat in
    let after : Group = record { head = record { epoch = c.epoch_after-epoch.result; target_epoch = a.group.now.head.target_epoch; tick = a.tick }; members = c.put.new.self; topics = a.group.now.topics; tables = c.follow.new.self } in
    let head : after.head ≡ record { epoch = epoch_by a.k.now a.group.now.head.epoch; target_epoch = a.group.now.head.target_epoch; tick = a.tick } = λ i. record { epoch = e i; target_epoch = a.group.now.head.target_epoch; tick = a.tick } in
    let group = group_changed a.group.now after (epoch_by a.k.now a.group.now.head.epoch) a.tick head refl members c.follow.ensures in (
      tt,
      refl,
      (λ i. took (record { answer = Assigned (record { epoch = m.seat.epoch; interval = heartbeat_interval; count = n i }); written = c.in_ok-written.written }) (view after) c.store.new.buf c.list_slots.new.out)
          ∙ carried_out f a.records.now a.list.now g (view after) s.0 room group s.1 c.list_slots.ensures.bytes,
    )
