-- The plan is the rules', so that its effect is; row 1002 is tried on what it raises. Assumes nothing.
use Rattle.std.specs.Prelude.{Some, [], List}
use Rattle.std.proofs.Common.{◌≡◌, ℕ, Bool, false, sym, ap, subst, ◌∙◌}
use Rattle.std.proofs.Math.Option.{Option}
use Rattle.rules.specs.Basics.{any, default}
use Rattle.rules.specs.Group.{Member}
use Rattle.rules.specs.Refusals.{zero_id, not_held_by}
use Rattle.rules.specs.Effects.{Effect, member_after}
use Rattle.rules.specs.declared.Place.{Place}
use Rattle.tables.specs.Advances.{listed}
use Rattle.tables.specs.Places.{holder_not}
use Rattle.tables.specs.View.{slots_in}
use Rattle.group.specs.Columns.{numbers_at}
use Rattle.group.specs.View.{view}
use Rattle.group.specs.declared.Group as D
use Rattle.group.specs.declared.Seat.{Seat}
use Rattle.events.specs.declared.Request as E
use Rattle.events.specs.Outcomes.{carried}
use Rattle.events.proofs.Carrying.{refusal}
use Rattle.ordinary.specs.Plans.{asked, view_sender, sender_at, Sends, Plans, PlanIs}
use Rattle.ordinary.specs.declared.plan.Plan.{Plan}
use Rattle.ordinary.proofs.OrdinaryRows.{row_unheld, row_end, row_room, planned_is}
use Rattle.ordinary.proofs.ordinary_at.Goals as goal

module _ (g : D.Group) (p : Place) (b : E.Request) (l : Option (List ℕ)) where
  -- the second row 42, as the code tries it
  unheld : {r : Bool} → r ≡ any (holder_not (slots_in g.tables) p.0) (default [] l) → any (not_held_by (view g) p.0) (default [] l) ≡ r
  unfolding not_held_by view
  unheld e = sym e

  module _ (sent : Sends g.members.cells p b) (k : Plan) where
    -- a plan for the seat that was gathered is one for the sender
    is_plan : {s : Seat} → Some s ≡ Some (numbers_at g.members.cells p.0) → Plans (view g) (record { place = p; seat = s }) b l k → PlanIs (view g) (sender_at g.members.cells p) (asked b l) k
    is_plan {s} e i = let q : s ≡ numbers_at g.members.cells p.0 = cc in subst (λ (x : Seat). Plans (view g) (record { place = p; seat = x }) b l k) q i sent.below sent.own

    real : PlanIs (view g) (sender_at g.members.cells p) (asked b l) k → zero_id k.member.seat.id ≡ false
    unfolding member_after
    real i = ap (λ (m : Member). zero_id m.id) i.member_is ∙ sent.real

pub returns-then-lists_unheld : goal.returns-then-lists_unheld
returns-then-lists_unheld c = λ sent.
    let a = c.args in
    let g = a.group.now in
    let l = listed a.owned in
    refusal (row_unheld (view g) (view_sender (sender_at g.members.cells a.p)) (asked a.b l) a.records.now a.list.now (unheld g a.p a.b l c.lists_unheld.ensures ∙ c.if-lists_unheld.true))

pub returns-then-past_end : goal.returns-then-past_end
unfolding view
returns-then-past_end c = λ sent.
    let a = c.args in
    let g = a.group.now in
    let l = listed a.owned in
    let k = c.make_plan-k in
    let plan = is_plan g a.p a.b l sent k.result (sym c.in-Some.is ∙ c.seat_at.ensures ∙ sent.there) k.ensures in
    refusal (row_end (view g) (sender_at g.members.cells a.p) (asked a.b l) k.result plan a.records.now a.list.now (unheld g a.p a.b l c.lists_unheld.ensures ∙ c.if-lists_unheld.false) (sym c.past_end.ensures ∙ c.if-past_end.true))

pub returns : goal.returns
unfolding view
returns c = λ sent.
    let a = c.args in
    let g = a.group.now in
    let l = listed a.owned in
    let k = c.make_plan-k in
    let s = sender_at g.members.cells a.p in
    let plan = is_plan g a.p a.b l sent k.result (sym c.in-Some.is ∙ c.seat_at.ensures ∙ sent.there) k.ensures in
    let below = sym c.past_end.ensures ∙ c.if-past_end.false in
    let done = c.carry.ensures (real g a.p a.b l sent k.result plan) in (
      done.0,
      done.1,
      done.2
          ∙ ap (λ (f : Effect). carried (view g) f a.records.now a.list.now) (planned_is (view g) s (asked a.b l) k.result plan below)
          ∙ sym (row_room (view g) s (asked a.b l) k.result plan a.records.now a.list.now (unheld g a.p a.b l c.lists_unheld.ensures ∙ c.if-lists_unheld.false) below),
    )
