-- What an ordinary heartbeat decides before anything is written, and the effect that a plan stands for; and what is asked of one that is quiet.
use Rattle.std.specs.Prelude.{ℕ, ◌≤◌, ◌<◌, ◌≡◌, false, true, ◌&&◌, List, [], ◌∷◌, Some, length, get_or, set, if◌then◌else◌}
use Rattle.std.specs.Bool.{then_some}
use Rattle.std.proofs.Math.Option.{Option, none, some}
use Rattle.rules.specs.Basics.{any, default}
use Rattle.rules.specs.Constants.{max_members, slot_count, heartbeat_interval}
use Rattle.rules.specs.Group as G
use Rattle.rules.specs.Group.{raised}
use Rattle.rules.specs.Event as E
use Rattle.rules.specs.Refusals.{◌when◌, first_of, zero_id, not_held_by, resubscribes, at_end, timeout_or}
use Rattle.rules.specs.Effects.{Effect, changed, member_after, updates, moves, current_before, current_after, ordinary_at, slots_after}
use Rattle.rules.specs.Step.{Stepped, carry_out, too_little_room, overlay}
use Rattle.rules.specs.declared.Answer.TheVariants.{Assigned}
use Rattle.rules.specs.declared.Place.{Place}
use Rattle.rules.specs.declared.Refusal.TheVariants.{InvalidRequest, EpochEnd, Room}
use Rattle.slots.specs.Set.{slots_of}
use Rattle.records.specs.declared.batches.OrdinaryBatch.{OrdinaryBatch}
use Rattle.records.specs.declared.kinds.CurrentAssignment.{CurrentAssignment}
use Rattle.records.specs.declared.kinds.MemberMetadata.{MemberMetadata}
use Rattle.records.specs.Storing.{ordinary_batch}
use Rattle.records.specs.Views.{view_current}
use Rattle.tables.specs.Advances.{waits_in, revokes_in}
use Rattle.tables.specs.Changes.{followed_by}
use Rattle.tables.specs.View.{slots_in}
use Rattle.tables.specs.declared.advancing.Advance.{Advance}
use Rattle.tables.specs.declared.gathering.PlaceSets.{PlaceSets}
use Rattle.quiet.specs.Settling.{Quiet}
use Rattle.group.specs.Columns.{numbers_at, seat_at, view_members}
use Rattle.group.specs.Members.{heard_at}
use Rattle.group.specs.View.{seated}
use Rattle.group.specs.declared.Group.{Group}
use Rattle.group.specs.declared.Seat.{Seat}
use Rattle.group.specs.declared.member.Member.{Member}
use Rattle.group.specs.Transitions.{view_member, member_of, member_freed, member_revoked, member_advanced, member_stored, member_heard}
use Rattle.events.specs.declared.Outcome.{Outcome}
use Rattle.events.specs.declared.Request.{Request}
use Rattle.events.specs.Outcomes.{given_subscription}
use Rattle.ordinary.specs.declared.plan.Plan.{Plan}
use Rattle.ordinary.specs.declared.plan.Sender.{Sender}

-- ---- who sends a heartbeat

-- the request of the rules, with the list that may be given
abbrev pub asked : Request → Option (List ℕ) → E.Request
asked b owned = record {
  id = b.id;
  epoch = b.epoch;
  tick = b.tick;
  timeout = b.timeout;
  subscription = given_subscription b.has_subscription b.subscription;
  owned = owned;
}

-- the place and the member that the code has found
abbrev pub view_sender : Sender → G.Sender
view_sender s = record { place = s.place.0; member = seated s.seat }

-- the place and the numbers there
abbrev pub sender_at : List ℕ → Place → Sender
sender_at cells p = record { place = p; seat = numbers_at cells p.0 }

-- the member at place p sends b: the place is one of the group, and the member there has the ID, which is not zero
pub record Sends (cells : List ℕ) (p : Place) (b : Request) : Type 0 where
  pub below : p.0 < max_members
  pub there : seat_at cells p.0 ≡ Some (numbers_at cells p.0)
  pub own : (numbers_at cells p.0).id ≡ b.id
  pub real : zero_id b.id ≡ false

-- ---- the plan

-- what the heartbeat of the member at a seat stores
abbrev pub stored_subscription : Seat → Request → ℕ
stored_subscription s b = default s.subscription (given_subscription b.has_subscription b.subscription)

abbrev pub stored_timeout : Seat → Request → ℕ
stored_timeout s b = timeout_or b.timeout s.timeout

-- steps 2 and 3: a member that waits stays; of any other P is empty or freed, and then slots are revoked, or else assigned
unfoldable pub stepped_by : Advance → ℕ → ℕ → Member → Member
stepped_by step target tick m =
    if waits_in step.change then m else (if revokes_in step.change then member_revoked (member_freed m) step.assigned step.revoking tick else member_advanced (member_freed m) target step.assigned)

-- the member at a seat after steps 1 to 3
unfoldable pub member_next : Seat → PlaceSets → Advance → Request → ℕ → Member
member_next s sets step b target =
    stepped_by step target b.tick (member_heard (member_stored (member_of s sets.assigned sets.revoking) (stored_subscription s b) (stored_timeout s b)) b.tick)

-- records 5 and 8 of a member at a place
abbrev pub metadata_in : Place → Member → MemberMetadata
metadata_in p m = record { place = p; id = m.seat.id; timeout = m.seat.timeout; subscription = m.seat.subscription }

abbrev pub current_in : Place → Member → CurrentAssignment
current_in p m = record { place = p; epoch = m.seat.epoch; assigned = m.assigned; revoking = m.revoking }

-- k is the plan of the heartbeat b of the sender s
pub record PlanIs (g : G.Group) (s : Sender) (b : E.Request) (k : Plan) : Type 0 where
  pub member_is : view_member k.member ≡ member_after g (view_sender s) b
  pub current_is : view_current (current_in s.place k.member) ≡ current_after g (view_sender s) b
  pub slots_are : followed_by k.change s.place.0 g.slots ≡ slots_after g (view_sender s) b
  pub updates_is : k.updates ≡ updates (seated s.seat) b
  pub raises_is : k.raises ≡ resubscribes (seated s.seat) b
  pub moves_is : k.moves ≡ moves (current_before g (view_sender s)) (current_after g (view_sender s) b)

-- and so where the sender's place is one of the group and its seat has the ID
abbrev pub Plans : G.Group → Sender → Request → Option (List ℕ) → Plan → Type 0
Plans g s b owned k = s.place.0 < max_members → s.seat.id ≡ b.id → PlanIs g s (asked b owned) k

-- the records of a plan for place p, with the group epoch after it
abbrev pub batch_of : Plan → Place → ℕ → OrdinaryBatch
batch_of k p e = record {
  member = then_some k.updates (metadata_in p k.member);
  epoch = then_some k.raises (record { 0 = e });
  current = then_some k.moves (current_in p k.member);
}

-- the group epoch after a plan
abbrev pub epoch_by : Plan → ℕ → ℕ
epoch_by k e = if k.raises then raised e else e

-- the effect of a plan for the member at place p
unfoldable pub planned : G.Group → Place → ℕ → Plan → Effect
planned g p tick k = record {
  answer = Assigned (record { epoch = k.member.seat.epoch; interval = heartbeat_interval; count = length (slots_of k.member.assigned.words) });
  group = changed g (epoch_by k g.epoch) tick (set g.members p.0 (some (view_member k.member))) (followed_by k.change p.0 g.slots);
  records = ordinary_batch (batch_of k p (epoch_by k g.epoch));
  told = slots_of k.member.assigned.words;
}

-- the last three rows of an ordinary heartbeat of the sender s, and its effect
unfoldable pub ordinary_step : G.Group → G.Sender → E.Request → List ℕ → List ℕ → Stepped
ordinary_step g s b buffer list =
    carry_out (first_of ((InvalidRequest when any (not_held_by g s.place) (default [] b.owned)) ∷ (EpochEnd when (resubscribes s.member b && at_end g)) ∷ (Room when too_little_room (ordinary_at g s b) buffer list) ∷ []))
    g (ordinary_at g s b) buffer list

-- ---- the heartbeat that changes nothing but the two ticks

-- the list l is given, and there is room for it; E is at T or above; nothing else is given that differs from what the member has; and the slots stay
pub record Calm (g : Group) (p e : ℕ) (b : Request) (l : List ℕ) (room : ℕ) : Type 0 where
  pub listed : b.has_list ≡ true
  pub whole : length (slots_in g.tables) ≡ slot_count
  pub few : length l ≤ slot_count
  pub fits : length l ≤ room
  pub reached : g.head.target_epoch ≤ e
  pub same_subscription : stored_subscription (numbers_at g.members.cells p) b ≡ (numbers_at g.members.cells p).subscription
  pub same_timeout : stored_timeout (numbers_at g.members.cells p) b ≡ (numbers_at g.members.cells p).timeout
  pub quiet : Quiet p (slots_in g.tables) l

-- what the code then does: the two ticks are set, and the list is told
pub record Heard (g : Group) (p tick epoch : ℕ) (l list : List ℕ) (r : Outcome) (g' : Group) (list' : List ℕ) : Type 0 where
  pub says : length l ≤ slot_count → r ≡ record { answer = Assigned (record { epoch = epoch; interval = heartbeat_interval; count = length l }); written = 0 }
  pub head_is : g'.head ≡ record { epoch = g.head.epoch; target_epoch = g.head.target_epoch; tick = tick }
  pub members_are : view_members g'.members.cells ≡ set (view_members g.members.cells) p (heard_at tick (get_or (view_members g.members.cells) p none))
  pub topics_stay : g'.topics ≡ g.topics
  pub tables_stay : g'.tables ≡ g.tables
  pub told : length l ≤ length list → list' ≡ overlay l list
