-- Request 1 of 02, 'Read the journal back': which batches are good for a group, and what reading one gives. Words in quotes are 02's.
-- A batch is judged by the one event that can have written it: that event is made from the records, the rules are run on it, and the bytes are compared.
use Rattle.std.specs.Prelude.{ℕ, suc, ◌+◌, ◌-◌, ◌%◌, ◌≤◌, ◌<◌, ◌≡◌, ◌≢◌, Bool, true, false, ◌&&◌, ℤ, pos, negsuc, length, get_or, eqb, leb, ltb, if◌then◌else◌}
use mathlib.Core.List.{List, [], ◌∷◌, foldl, map}
use Rattle.std.proofs.Math.Option.{Option, none, some}
use Rattle.rules.specs.Basics.{all, any, case_of, concat_map, default, empty, first_some, given, same, to_list}
use Rattle.rules.specs.Constants.{batch_limit, id_length, last_epoch, max_members, max_timeout, no_place, session_timeout, slot_count, subscription_count, tick_range}
use Rattle.rules.specs.Group.{Group, Member, free_slot, fresh, member_at}
use Rattle.rules.specs.Records.{CurrentAssignment, MemberMetadata, Record, TargetAssignment, TopicMetadata, all_bytes, fits, parts_of, placed}
use Rattle.rules.specs.Event.{Request, Event, heartbeat, sweep, topic, install, without_rule}
use Rattle.rules.specs.Refusals.{first_of, table}
use Rattle.rules.specs.Effects.{effect}
use Rattle.rules.specs.Reader.{read_all}
use Rattle.rules.specs.Ledger.{gone}
use Rattle.rules.specs.Course.{Typed}
use Rattle.rules.specs.declared.Refusal.{Refusal}

-- ---- ticks aside

unfoldable pub retimed_member : ℕ → Option Member → Option Member
retimed_member t none = none
retimed_member t (some m) = some (record { id = m.id; epoch = m.epoch; subscription = m.subscription; timeout = m.timeout; heard = t; revoked_at = t })

-- 'every last-heard tick, the tick P was set and the last tick become the tick of reading'
unfoldable pub retimed : ℕ → Group → Group
retimed t g = record {
  epoch = g.epoch;
  target_epoch = g.target_epoch;
  tick = t;
  topics = g.topics;
  members = map (retimed_member t) g.members;
  slots = g.slots;
}

-- equal but for ticks
abbrev pub Alike : Group → Group → Type 0
Alike g h = retimed 0 g ≡ retimed 0 h

-- some event writes these bytes 'for the group so far, whatever the ticks of both': no row of the table but ROOM refuses it, and these are the bytes of its
-- records; an event that writes none has no batch
pub record Writes (g : Group) (bytes : List ℕ) : Type 0 where
  pub group : Group  -- the group so far, with any ticks
  pub alike : Alike group g
  pub event : Event  -- at any tick; an install with the rule of request 3 or without
  pub typed : Typed event
  pub accepted : first_of (table group event) ≡ none
  pub writes : all_bytes (effect group event).records ≡ bytes
  pub stored : empty bytes ≡ false

-- ---- what the records of a batch say: the first of a kind, or all of it

abbrev pub epoch_in : List Record → Option ℕ
epoch_in rs = first_some (λ r. (parts_of r).epoch) rs

abbrev pub topic_in : List Record → Option TopicMetadata
topic_in rs = first_some (λ r. (parts_of r).topic) rs

abbrev pub member_in : List Record → Option MemberMetadata
member_in rs = first_some (λ r. (parts_of r).member) rs

abbrev pub target_epoch_in : List Record → Option ℕ
target_epoch_in rs = first_some (λ r. (parts_of r).target_epoch) rs

abbrev pub current_in : List Record → Option CurrentAssignment
current_in rs = first_some (λ r. (parts_of r).current) rs

unfoldable pub targets_in : List Record → List TargetAssignment
targets_in rs = concat_map (λ r. to_list (parts_of r).target) rs

-- ---- the event that a batch can only be of, at tick t, and the group that it is tried on: the group so far, with ticks for which it is accepted

pub record Witness : Type 0 where
  pub group : Group
  pub event : Event

unfoldable pub tried : Group → Event → Witness
tried g e = record { group = g; event = e }

-- install: the target as the records 7 leave it, laid over the one before. A record 7 gives its place these slots and no other. 'Journals are read without
-- this rule' (request 3): a slot that it leaves over is no fault
unfoldable pub laid : ℕ → List ℕ → ℕ → List ℕ → List ℕ
laid p slots n [] = []
laid p slots n (e ∷ es) = (if any (eqb n) slots then p else (if eqb e p then no_place else e)) ∷ laid p slots (suc n) es

unfoldable pub laid_over : List ℕ → TargetAssignment → List ℕ
laid_over entries t = laid t.place t.slots 0 entries

unfoldable pub entries_of : Group → List Record → List ℕ
entries_of g rs = foldl laid_over (map (λ s. s.target) g.slots) (targets_in rs)

unfoldable pub installing : Group → List Record → ℕ → Witness
installing g rs n = tried g (install without_rule (pos n) (entries_of g rs))

-- leave and sweep: a sweep of the places gone, if those were last heard a session timeout before
unfoldable pub session_before : ℕ → ℕ
session_before t = (t + tick_range - session_timeout) % tick_range

unfoldable pub heard_at : ℕ → Option Member → Option Member
heard_at t none = none
heard_at t (some m) = some (record { id = m.id; epoch = m.epoch; subscription = m.subscription; timeout = m.timeout; heard = t; revoked_at = m.revoked_at })

-- the members from place n on, those at the places ps last heard at tick t
unfoldable pub silent : ℕ → List ℕ → ℕ → List (Option Member) → List (Option Member)
silent t ps n [] = []
silent t ps n (m ∷ ms) = (if any (eqb n) ps then heard_at t m else m) ∷ silent t ps (suc n) ms

unfoldable pub removing : ℕ → Group → List ℕ → Witness
removing t g ps = record {
  group = record { epoch = g.epoch; target_epoch = g.target_epoch; tick = g.tick; topics = g.topics; members = silent (session_before t) ps 0 g.members; slots = g.slots };
  event = sweep t;
}

-- topic: as its record 4 says
unfoldable pub making : Group → TopicMetadata → Witness
making g k = tried g (topic k.number k.id k.count)

-- join: as its record 5 says
unfoldable pub joining : ℕ → MemberMetadata → Request
joining t m = record { id = m.id; epoch = pos 0; tick = t; timeout = pos m.timeout; subscription = some m.subscription; owned = some [] }

-- ordinary heartbeat of the member at place p, at its E: it gives the timeout and the subscription if they differ from the member's, and an empty list, so
-- that P is freed, if a record 8 is stored; otherwise no list
unfoldable pub beating : ℕ → Group → ℕ → ℕ → ℕ → Bool → Request
beating t g p timeout subscription moves = record {
  id = (member_at g p).id;
  epoch = pos (member_at g p).epoch;
  tick = t;
  timeout = if eqb timeout (member_at g p).timeout then negsuc 0 else pos timeout;
  subscription = if eqb subscription (member_at g p).subscription then none else some subscription;
  owned = if moves then some [] else none;
}

-- a joiner's E is the G that is stored with it; no other E is above the G before
unfoldable pub is_join : Option ℕ → Option CurrentAssignment → Bool
is_join none c = false
is_join (some n) none = false
is_join (some n) (some c) = eqb n c.epoch

unfoldable pub entering : ℕ → Group → List Record → MemberMetadata → Request
entering t g rs m =
    if is_join (epoch_in rs) (current_in rs) then joining t m
    else beating t g m.place m.timeout m.subscription (given (current_in rs))

unfoldable pub moving : ℕ → Group → CurrentAssignment → Request
moving t g c = beating t g c.place (member_at g c.place).timeout (member_at g c.place).subscription true

-- with a record 6 it is an install; with a place gone a sweep; with a record 4 a topic event; with a record 5 a join or an ordinary heartbeat; with a record 8
-- and none of these an ordinary heartbeat
unfoldable pub candidate : ℕ → Group → List Record → Option Witness
candidate t g rs =
    case_of (target_epoch_in rs)
    (if empty (gone rs)
    then case_of (topic_in rs)
    (case_of (member_in rs)
    (case_of (current_in rs) none (λ c. some (tried g (heartbeat (moving t g c)))))
    (λ m. some (tried g (heartbeat (entering t g rs m)))))
    (λ k. some (making g k))
    else some (removing t g (gone rs)))
    (λ n. some (installing g rs n))

-- ---- reading a batch

-- 'Epochs are signed 32-bit', and so is a timeout
unfoldable pub is_signed : ℤ → Bool
is_signed (pos n) = leb n last_epoch
is_signed (negsuc n) = leb n last_epoch

-- what every event is by its types, as a test
unfoldable pub is_typed : Event → Bool
is_typed (heartbeat b) = (eqb (length b.id) id_length && ltb (default 0 b.subscription) subscription_count) && (is_signed b.epoch && is_signed b.timeout)
is_typed (sweep tick) = true
is_typed (topic t id n) = eqb (length id) id_length
is_typed (install rule e entries) = is_signed e

abbrev pub passes : Option Refusal → Bool
passes none = true
passes (some r) = false

-- the candidate is run by the rules, and its bytes are compared; what is read is the group that it leaves, with the tick of reading
unfoldable pub judged : ℕ → List ℕ → Option Witness → Option Group
judged t bytes none = none
judged t bytes (some w) =
    if is_typed w.event && (passes (first_of (table w.group w.event)) && same (all_bytes (effect w.group w.event).records) bytes)
    then some (retimed t (effect w.group w.event).group)
    else none

-- a number of more than 32 bits and a place that there is not are in no record that an event writes
unfoldable pub judged_by : ℕ → Group → List ℕ → List Record → Option Group
judged_by t g bytes rs = if all (λ r. fits r && placed r) rs then judged t bytes (candidate t (retimed t g) rs) else none

-- nor are more than 4,096 bytes a batch
unfoldable pub read_batch : ℕ → Group → List ℕ → Option Group
read_batch t g bytes = if ltb batch_limit (length bytes) then none else case_of (read_all bytes) none (judged_by t g bytes)

-- ---- what is claimed of batches

-- what the reader relies on; it holds of every group that a reader comes to, and of every group reached by events, and no tick matters to it
pub record Legible (g : Group) : Type 0 where
  pub places : length g.members ≡ max_members
  pub wide : length g.slots ≡ slot_count
  pub order : g.target_epoch ≤ g.epoch
  pub last : g.epoch ≤ last_epoch
  pub epochs : (p : ℕ) (m : Member) → get_or g.members p none ≡ some m → m.epoch ≤ g.epoch
  pub timeouts : (p : ℕ) (m : Member) → get_or g.members p none ≡ some m → (0 < m.timeout) × (m.timeout ≤ max_timeout)
  pub subscriptions : (p : ℕ) (m : Member) → get_or g.members p none ≡ some m → m.subscription < subscription_count
  pub targets : (s : ℕ) → (get_or g.slots s free_slot).target ≢ no_place → (get_or g.slots s free_slot).target < max_members

-- 'A whole batch is refused .. exactly when no event would write it for the group so far, whatever the ticks of both'; what is read is the group that the
-- event leaves, with the tick of reading
pub record Exact (t : ℕ) (g : Group) (bytes : List ℕ) : Type 0 where
  pub accepted : (h : Group) → read_batch t g bytes ≡ some h → Writes g bytes
  pub read : (w : Writes g bytes) → read_batch t g bytes ≡ some (retimed t (effect w.group w.event).group)
  pub refused : read_batch t g bytes ≡ none → Writes g bytes → ⊥
  pub refuses : (Writes g bytes → ⊥) → read_batch t g bytes ≡ none

-- the groups that a reader comes to, from a fresh one, by whatever batches it accepts
pub data SoFar (t : ℕ) : Group → Type 0 where
  nothing_read : SoFar t (fresh t)
  one_more : {g : Group} → SoFar t g → (bytes : List ℕ) {h : Group} → read_batch t g bytes ≡ some h → SoFar t h

-- so every batch of every file is judged as 02 says
abbrev pub JudgesExactly : Type 0
JudgesExactly = (t : ℕ) (g : Group) → SoFar t g → (bytes : List ℕ) → Exact t g bytes

-- two events that write the same leave the same, ticks aside
abbrev pub SameBytesSameGroup : Type 0
SameBytesSameGroup =
    (t : ℕ) (g : Group) → SoFar t g → (bytes : List ℕ) (v w : Writes g bytes)
    → retimed t (effect v.group v.event).group ≡ retimed t (effect w.group w.event).group
