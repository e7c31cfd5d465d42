-- Steps 1 to 3 on the member record are steps 1 to 3 of the rules, and so a plan made of them is one of the rules (`plan_is`). A member that waits keeps the
-- sets that were gathered. Of any other P is empty or freed; where slots are revoked both sets are those of the step, and where none are P stays empty
-- (`Freeing`). Assumes nothing.
use Rattle.std.specs.Prelude.{if◌then◌else◌}
use Rattle.std.proofs.Common.{◌≡◌, ℕ, max, Bool, true, false, not, ◌&&◌, ◌||◌, List, [], length, eqb, refl, sym, ap, ◌∙◌, true≢false}
use Rattle.std.proofs.Math.Option.{Option}
use lib.ListN.{get_or-replicate}
use Rattle.rules.specs.Constants.{slot_count}
use Rattle.rules.specs.Event as E
use Rattle.rules.specs.Group as G
use Rattle.rules.specs.Group.{SlotState, set_a, set_p}
use Rattle.rules.specs.Refusals.{new_subscription, new_timeout, resubscribes}
use Rattle.rules.specs.Effects.{waits, strays, advanced, slots_after, revokes, epoch_after, member_after, updates, moves, current_of, current_before, current_after}
use Rattle.rules.specs.declared.Place.{Place}
use Rattle.slots.specs.Set.{slots_of, word_count}
use Rattle.slots.proofs.Words.{has_none}
use Rattle.records.specs.Views.{view_current}
use Rattle.records.proofs.Differences.{slots_none}
use Rattle.tables.specs.Changes.{followed_by}
use Rattle.tables.specs.Gathers.{Gathers}
use Rattle.tables.specs.Advances.{waits_in, revokes_in, moves_in, Advances}
use Rattle.tables.specs.declared.advancing.Advance.{Advance}
use Rattle.tables.specs.declared.gathering.PlaceSets.{PlaceSets}
use Rattle.tables.proofs.Listing.{gathered_assigned, gathered_revoking}
use Rattle.group.specs.declared.Seat.{Seat}
use Rattle.group.specs.declared.member.Member.{Member}
use Rattle.group.specs.View.{seated}
use Rattle.group.specs.Transitions.{view_member, no_slots, member_of, member_freed, member_revoked, member_advanced, member_stored, member_heard}
use Rattle.events.specs.declared.Request.{Request}
use Rattle.ordinary.proofs.Freeing.{none_revoking, stays}
use Rattle.ordinary.specs.Plans.{asked, view_sender, stored_subscription, stored_timeout, stepped_by, member_next, PlanIs}

no_slots_lem : slots_of no_slots.words ≡ []
no_slots_lem = slots_none no_slots.words (has_none no_slots.words (λ k h. get_or-replicate word_count k 0 0 h))

-- ---- the member after the steps, by the decisions that the step made

module _ (g : G.Group) (b : Request) (owned : Option (List ℕ)) (p : Place) (seat : Seat) (sets : PlaceSets) (step : Advance) (hid : seat.id ≡ b.id)
    (len : length g.slots ≡ slot_count)
    (hs : Gathers p.0 g.slots sets) (ha : Advances p.0 g.slots owned step) where
  abbrev sender : G.Sender
  sender = view_sender (record { place = p; seat = seat })

  abbrev request : E.Request
  request = asked b owned

  -- the slots before
  abbrev vs : List SlotState
  vs = g.slots

  revokes_so : revokes g sender request ≡ revokes_in step.change
  unfolding revokes
  revokes_so = sym ha.revokes_is

  epoch_so : epoch_after g sender request ≡ (if waits_in step.change || revokes_in step.change then seat.epoch else max seat.epoch g.target_epoch)
  unfolding epoch_after
  epoch_so = λ i. if sym ha.waits_is i || revokes_so i then seat.epoch else max seat.epoch g.target_epoch

  slots_so : advanced p.0 vs owned ≡ slots_after g sender request
  unfolding slots_after
  slots_so = refl

  -- slots are revoked only where the member does not wait
  one_only : waits_in step.change ≡ true → revokes_in step.change ≡ false
  one_only h = ha.revokes_is ∙ ap (λ (w : Bool). not w && strays p.0 vs owned) (sym ha.waits_is ∙ h)

  abbrev next : Member
  next = member_next seat sets step b g.target_epoch

  -- the same by what the step decided
  abbrev decided : Bool → Bool → Member
  decided w r =
      let m = member_heard (member_stored (member_of seat sets.assigned sets.revoking) (stored_subscription seat b) (stored_timeout seat b)) b.tick in
      if w then m else (if r then member_revoked (member_freed m) step.assigned step.revoking b.tick else member_advanced (member_freed m) g.target_epoch step.assigned)

  -- what holds in each of the three ways that a heartbeat goes: it waits, it revokes, or neither
  ways : (P : Bool → Bool → Type 0) → (waits_in step.change ≡ true → P true false) → (waits_in step.change ≡ false → P false true) → (waits_in step.change ≡ false → revokes_in step.change ≡ false → P false false) → P (waits_in step.change) (revokes_in step.change)
  ways P waiting revoking neither = go (waits_in step.change) (revokes_in step.change) refl refl
    where
      go : (w r : Bool) → waits_in step.change ≡ w → revokes_in step.change ≡ r → P w r
      go true true e f = absurd (true≢false (sym f ∙ one_only e))
      go true false e f = waiting e
      go false true e f = revoking e
      go false false e f = neither e f

  who_so : view_member next
      ≡ record {
        id = seat.id;
        epoch = if waits_in step.change || revokes_in step.change then seat.epoch else max seat.epoch g.target_epoch;
        subscription = stored_subscription seat b;
        timeout = stored_timeout seat b;
        heard = b.tick;
        revoked_at = if revokes_in step.change then b.tick else seat.revoked_at;
      }
  unfolding member_next stepped_by
  who_so =
      ways (λ w r. view_member (decided w r)
      ≡ record {
        id = seat.id;
        epoch = if w || r then seat.epoch else max seat.epoch g.target_epoch;
        subscription = stored_subscription seat b;
        timeout = stored_timeout seat b;
        heard = b.tick;
        revoked_at = if r then b.tick else seat.revoked_at;
      }) (λ e. refl) (λ e. refl) (λ e f. refl)

  member_so : view_member next ≡ member_after g sender request
  unfolding member_after new_subscription new_timeout
  member_so =
      who_so
      ∙ sym (λ i. record {
        id = sym hid i;
        epoch = epoch_so i;
        subscription = stored_subscription seat b;
        timeout = stored_timeout seat b;
        heard = b.tick;
        revoked_at = if revokes_so i then b.tick else seat.revoked_at;
      })

  -- A and P of the member, as the rules list them
  assigned_so : slots_of next.assigned.words ≡ set_a p.0 (slots_after g sender request)
  unfolding member_next stepped_by
  assigned_so =
      ways (λ w r. slots_of (decided w r).assigned.words ≡ set_a p.0 (advanced p.0 vs owned))
      (λ e. gathered_assigned p.0 vs len sets hs ∙ ap (set_a p.0) (sym (stays p.0 vs owned (sym ha.waits_is ∙ e)))) (λ e. ha.assigned_list) (λ e f. ha.assigned_list)
      ∙ ap (set_a p.0) slots_so

  revoking_so : slots_of next.revoking.words ≡ set_p p.0 (slots_after g sender request)
  unfolding member_next stepped_by
  revoking_so =
      ways (λ w r. slots_of (decided w r).revoking.words ≡ set_p p.0 (advanced p.0 vs owned))
      (λ e. gathered_revoking p.0 vs len sets hs ∙ ap (set_p p.0) (sym (stays p.0 vs owned (sym ha.waits_is ∙ e)))) (λ e. ha.revoking_list) none_left
      ∙ ap (set_p p.0) slots_so
    where
      none_left : waits_in step.change ≡ false → revokes_in step.change ≡ false → slots_of no_slots.words ≡ set_p p.0 (advanced p.0 vs owned)
      none_left e f =
          let w : waits p.0 vs owned ≡ false = sym ha.waits_is ∙ e in
          let st : strays p.0 vs owned ≡ false = sym (ap (λ (x : Bool). not x && strays p.0 vs owned) w) ∙ sym ha.revokes_is ∙ f in
          no_slots_lem ∙ sym (none_revoking p.0 vs owned w st)

  -- ---- the plan

  module _ (n : Member) (hn : n ≡ next) (ht : followed_by step.change p.0 vs ≡ advanced p.0 vs owned) (u v : Bool)
      (hu : u ≡ (not (eqb n.seat.subscription seat.subscription) || not (eqb n.seat.timeout seat.timeout)))
      (hv : v ≡ (not (eqb n.seat.epoch seat.epoch) || moves_in step.change)) where
    who : view_member n ≡ member_after g sender request
    who = ap view_member hn ∙ member_so

    raises_so : not (eqb n.seat.subscription seat.subscription) ≡ resubscribes (seated seat) request
    unfolding resubscribes member_after
    raises_so = λ i. not (eqb (who i).subscription seat.subscription)

    pub plan_is : PlanIs g (record { place = p; seat = seat }) request (record { member = n; change = step.change; updates = u; raises = not (eqb n.seat.subscription seat.subscription); moves = v })
    unfolding member_after updates moves current_of current_before current_after slots_after view_current
    plan_is = record {
      member_is = who;
      current_is = λ i. record { place = p.0; epoch = (who i).epoch; assigned = (ap (λ (m : Member). slots_of m.assigned.words) hn ∙ assigned_so) i; revoking = (ap (λ (m : Member). slots_of m.revoking.words) hn ∙ revoking_so) i };
      slots_are = ht;
      raises_is = raises_so;
      updates_is = hu ∙ (λ i. raises_so i || not (eqb (who i).timeout seat.timeout));
      moves_is = hv ∙ (λ i. not (eqb (who i).epoch seat.epoch) || ha.changed_is i);
    }
