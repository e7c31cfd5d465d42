-- What an accepted event of each kind changes, and what it leaves. The proofs are in crates/theorems/proofs.
use Rattle.std.specs.Prelude.{ℕ, suc, max, ◌/◌, ◌<◌, ◌≡◌, ◌≢◌, ◌⊎◌, Bool, true, false, ℤ, pos, length, get_or, eqb}
use mathlib.Core.List.{List, [], Memᴰ}
use Rattle.std.proofs.Math.Option.{none, some}
use Rattle.rules.specs.Basics.{any, default, indices}
use Rattle.rules.specs.Constants.{max_members, max_partitions, no_place, slot_count, topic_count}
use Rattle.rules.specs.Group.{Group, Member, SlotState, Topic, exists, free_slot, includes_topic, known, raised, set_a, set_m, set_p, subscribes}
use Rattle.rules.specs.Event.{Event, Request, heartbeat, install, sweep, topic, with_rule, without_rule}
use Rattle.rules.specs.Answers.{slot_number}
use Rattle.rules.specs.Refusals.{bad_entry, joins, kind_of, leaves, ordinary, timeout_or}
use Rattle.rules.specs.Effects.{overdue}
use Rattle.rules.specs.Step.{Stepped, step}
use Rattle.rules.specs.declared.Refusal.{Refusal}
use Rattle.rules.specs.declared.Refusal.TheVariants.{BadTarget}
use Rattle.rules.specs.declared.Answer.TheVariants.{Done, Refused}

-- an event is accepted if its answer is no refusal
abbrev pub Accepted : Group → Event → List ℕ → List ℕ → Type 0
Accepted g e buffer list = (r : Refusal) → (step g e buffer list).answer ≡ Refused r → ⊥

-- an entry for each topic, place and slot, as every reached group has
pub record Sized (g : Group) : Type 0 where
  pub topics : length g.topics ≡ topic_count
  pub members : length g.members ≡ max_members
  pub slots : length g.slots ≡ slot_count

-- what holds between the group before an accepted event and the group after it
abbrev pub AfterAccepted : Event → (Group → Group → Type 0) → Type 0
AfterAccepted e P =
    (g : Group) (buffer list : List ℕ) → Sized g
    → Accepted g e buffer list
    → P g (step g e buffer list).group

-- nothing in A, P and M of the place
pub record Bare (p : ℕ) (slots : List SlotState) : Type 0 where
  pub assigned : set_a p slots ≡ []
  pub revoking : set_p p slots ≡ []
  pub targeted : set_m p slots ≡ []

-- the place has the very member that it had, or none as before, and the same A, P and M
pub record Stays (p : ℕ) (before after : Group) : Type 0 where
  pub member : get_or after.members p none ≡ get_or before.members p none
  pub assigned : set_a p after.slots ≡ set_a p before.slots
  pub revoking : set_p p after.slots ≡ set_p p before.slots
  pub targeted : set_m p after.slots ≡ set_m p before.slots

-- 'Accepted heartbeats and sweeps set the group's last tick'; they leave T and the topics
pub record Ticked (tick : ℕ) (before after : Group) : Type 0 where
  pub last : after.tick ≡ tick
  pub target_epoch : after.target_epoch ≡ before.target_epoch
  pub topics : after.topics ≡ before.topics

-- Join: 'An unknown ID gets a place', 'the lowest free'; 'A known ID keeps its place; its A, P and target are emptied first. E becomes the new G';
-- 'timeout and subscription are stored'; P counts as set at 'the tick of the join'
pub record AfterJoin (b : Request) (before after : Group) : Type 0 where
  pub place : ℕ
  pub inside : place < max_members
  pub again : known before b.id ≡ true → (m : Member) × (get_or before.members place none ≡ some m) × (m.id ≡ b.id)
  pub free : known before b.id ≡ false → get_or before.members place none ≡ none
  pub lowest : known before b.id ≡ false → (p : ℕ) → p < place → get_or before.members p none ≢ none
  pub member : Member
  pub here : get_or after.members place none ≡ some member
  pub named : member.id ≡ b.id
  pub epoch : member.epoch ≡ after.epoch
  pub subscription : b.subscription ≡ some member.subscription
  pub timeout : b.timeout ≡ pos member.timeout
  pub heard : member.heard ≡ b.tick
  pub revoked_at : member.revoked_at ≡ b.tick
  pub bare : Bare place after.slots
  pub others : (p : ℕ) → p < max_members → p ≢ place → Stays p before after
  pub ticked : Ticked b.tick before after
  pub raises : after.epoch ≡ suc before.epoch

abbrev pub AcceptedJoin : Type 0
AcceptedJoin = (b : Request) → kind_of b.epoch ≡ joins → AfterAccepted (heartbeat b) (AfterJoin b)

-- Leave: 'The member, its A and P go, its target entries become none, G rises by one'
pub record AfterLeave (b : Request) (before after : Group) : Type 0 where
  pub place : ℕ
  pub member : Member
  pub was : get_or before.members place none ≡ some member
  pub named : member.id ≡ b.id
  pub gone : get_or after.members place none ≡ none
  pub bare : Bare place after.slots
  pub others : (p : ℕ) → p < max_members → p ≢ place → Stays p before after
  pub ticked : Ticked b.tick before after
  pub raises : after.epoch ≡ raised before.epoch

abbrev pub AcceptedLeave : Type 0
AcceptedLeave = (b : Request) → kind_of b.epoch ≡ leaves → AfterAccepted (heartbeat b) (AfterLeave b)

-- the slot moves to P of the place: it is in A before the event and in P after it
abbrev pub Revokes : ℕ → Group → Group → ℕ → Type 0
Revokes p before after s = Memᴰ s (set_a p before.slots) × Memᴰ s (set_p p after.slots)

-- Ordinary: 'Accepted heartbeats set the last-heard tick'; the tick of P is 'the tick P was last set, that is when slots last moved to it; freeing leaves it'
pub record AfterOrdinary (b : Request) (before after : Group) : Type 0 where
  pub place : ℕ
  pub inside : place < max_members
  pub sender : Member
  pub was : get_or before.members place none ≡ some sender
  pub sends : sender.id ≡ b.id
  pub member : Member
  pub here : get_or after.members place none ≡ some member
  pub named : member.id ≡ b.id
  pub heard : member.heard ≡ b.tick
  pub moved : (s : ℕ) → Revokes place before after s → member.revoked_at ≡ b.tick
  pub unmoved : ((s : ℕ) → Revokes place before after s → ⊥) → member.revoked_at ≡ sender.revoked_at
  pub target : set_m place after.slots ≡ set_m place before.slots
  pub others : (p : ℕ) → p < max_members → p ≢ place → Stays p before after
  pub ticked : Ticked b.tick before after
  -- 'E stays', where slots are in P; 'Otherwise E becomes the larger of E and T'
  pub waits : set_p place after.slots ≢ [] → member.epoch ≡ sender.epoch
  pub advances : set_p place after.slots ≡ [] → member.epoch ≡ max sender.epoch before.target_epoch
  -- 'A given subscription that differs is stored and G rises by one. A given timeout is stored'
  pub subscription : member.subscription ≡ default sender.subscription b.subscription
  pub timeout : member.timeout ≡ timeout_or b.timeout sender.timeout
  pub raises : member.subscription ≢ sender.subscription → after.epoch ≡ suc before.epoch
  pub keeps : member.subscription ≡ sender.subscription → after.epoch ≡ before.epoch

abbrev pub AcceptedOrdinary : Type 0
AcceptedOrdinary = (b : Request) (e : ℕ) → kind_of b.epoch ≡ ordinary e → AfterAccepted (heartbeat b) (AfterOrdinary b)

-- Sweep: 'removes, as leaving does, each'; 'G rises by one for the whole sweep if any went'
pub record AfterSweep (tick : ℕ) (before after : Group) : Type 0 where
  pub gone : (p : ℕ) → p < max_members → overdue before tick p ≡ true → (get_or after.members p none ≡ none) × Bare p after.slots
  pub others : (p : ℕ) → p < max_members → overdue before tick p ≡ false → Stays p before after
  pub ticked : Ticked tick before after
  pub raises : (p : ℕ) → p < max_members → overdue before tick p ≡ true → after.epoch ≡ raised before.epoch
  pub keeps : ((p : ℕ) → p < max_members → overdue before tick p ≡ false) → after.epoch ≡ before.epoch

abbrev pub AcceptedSweep : Type 0
AcceptedSweep = (tick : ℕ) → AfterAccepted (sweep tick) (AfterSweep tick)

-- Topic: 'G rises by one if this changed something and some member subscribes to the topic'; no tick, no member and no slot changes
pub record AfterTopic (t n : ℕ) (id : List ℕ) (before after : Group) : Type 0 where
  pub made : get_or after.topics t none ≡ some (record { id = id; count = n })
  pub others : (u : ℕ) → u ≢ t → get_or after.topics u none ≡ get_or before.topics u none
  pub tick : after.tick ≡ before.tick
  pub members : after.members ≡ before.members
  pub slots : after.slots ≡ before.slots
  pub target_epoch : after.target_epoch ≡ before.target_epoch
  pub raises : after.topics ≢ before.topics → any (subscribes t) before.members ≡ true → after.epoch ≡ suc before.epoch
  pub keeps : (after.topics ≡ before.topics) ⊎ (any (subscribes t) before.members ≡ false) → after.epoch ≡ before.epoch

abbrev pub AcceptedTopic : Type 0
AcceptedTopic = (t n : ℕ) (id : List ℕ) → AfterAccepted (topic t id n) (AfterTopic t n id)

-- the very group, and nothing written
abbrev pub unchanged : Group → List ℕ → List ℕ → Stepped
unchanged g buffer list = record { answer = Done; group = g; written = 0; buffer = buffer; list = list }

-- 'The same count again .. changes nothing', of an accepted topic event
abbrev pub SameCount : Type 0
SameCount =
    (g : Group) (t n : ℕ) (id : List ℕ) (k : Topic) (buffer list : List ℕ)
    → get_or g.topics t none ≡ some k → k.count ≡ n
    → Accepted g (topic t id n) buffer list
    → step g (topic t id n) buffer list ≡ unchanged g buffer list

-- Install: 'It replaces the target, and T becomes G'; no tick, no member, no topic, no A and no P changes
pub record AfterInstall (entries : List ℕ) (before after : Group) : Type 0 where
  pub targeted : (p : ℕ) → set_m p after.slots ≡ indices (λ e. eqb e p) 0 entries
  pub assigned : (p : ℕ) → set_a p after.slots ≡ set_a p before.slots
  pub revoking : (p : ℕ) → set_p p after.slots ≡ set_p p before.slots
  pub tick : after.tick ≡ before.tick
  pub members : after.members ≡ before.members
  pub topics : after.topics ≡ before.topics
  pub epoch : after.epoch ≡ before.epoch
  pub target_epoch : after.target_epoch ≡ before.epoch

abbrev pub AcceptedInstall : Type 0
AcceptedInstall = (rule : Bool) (epoch : ℤ) (entries : List ℕ) → AfterAccepted (install rule epoch entries) (AfterInstall entries)

-- ---- request 3, 'No slot left over'

-- the target of the slot is a member that subscribes to its topic
pub record Owned (g : Group) (s : ℕ) : Type 0 where
  pub owner : Member
  pub here : get_or g.members (get_or g.slots s free_slot).target none ≡ some owner
  pub subscribed : includes_topic (s / max_partitions) owner.subscription ≡ true

-- each existing slot whose topic some member subscribes to has an owner. It holds of the group that an accepted install leaves, and is not claimed for later:
-- a topic may grow, a member leave or subscribe to more
abbrev pub AllOwned : Group → Type 0
AllOwned g = (s : ℕ) → exists g s ≡ true → any (subscribes (s / max_partitions)) g.members ≡ true → Owned g s

abbrev pub NoneLeftOver : Type 0
NoneLeftOver = (epoch : ℤ) (entries : List ℕ) → AfterAccepted (install with_rule epoch entries) (λ before after. AllOwned after)

-- 'The first bad slot of either sort is reported'
pub record FirstOfEither (rule : Bool) (g : Group) (entries : List ℕ) (s : ℕ) : Type 0 where
  pub bad : bad_entry rule g s (get_or entries s no_place) ≡ true
  pub before : (n : ℕ) → n < s → bad_entry rule g n (get_or entries n no_place) ≡ false

abbrev pub FirstReported : Type 0
FirstReported =
    (g : Group) (rule : Bool) (epoch : ℤ) (entries buffer list : List ℕ) (s : ℕ) → s < slot_count
    → (step g (install rule epoch entries) buffer list).answer ≡ Refused (BadTarget (slot_number s))
    → FirstOfEither rule g entries s

-- 'Journals are read without this rule': what is installed with it is accepted without it too, and comes to the same
abbrev pub ReadWithoutRule : Type 0
ReadWithoutRule =
    (g : Group) (epoch : ℤ) (entries buffer list : List ℕ)
    → Accepted g (install with_rule epoch entries) buffer list
    → step g (install without_rule epoch entries) buffer list ≡ step g (install with_rule epoch entries) buffer list
