-- A list of events: the group after it, and what is known from the events, their answers and the stored records. Demand 3's first half.
use Rattle.std.specs.Prelude.{ℕ, ◌<◌, ◌≡◌, Bool, ℤ, pos, negsuc, length, take, if◌then◌else◌}
use mathlib.Core.List.{List, [], ◌∷◌, foldl, Memᴰ}
use Rattle.std.proofs.Math.Option.{Option, none, some}
use Rattle.rules.specs.Basics.{any, default, given, same}
use Rattle.rules.specs.Constants.{id_length, subscription_count}
use Rattle.rules.specs.Group.{Group}
use Rattle.rules.specs.Records.{Record, parts_of}
use Rattle.rules.specs.Event.{Event, Request, heartbeat, install, on_heartbeat, on_install, sweep, topic}
use Rattle.rules.specs.Answers.{on_assigned, unless_refused}
use Rattle.rules.specs.Step.{Stepped, step}
use Rattle.rules.specs.Ledger.{Ledger, Observation, empty_ledger, reckon, records_in, slots_told}
use Rattle.rules.specs.declared.Assignment.{Assignment}

-- ---- what is known

-- what an answer told
pub record Told : Type 0 where
  pub epoch : ℕ
  pub slots : List ℕ

-- an install's epoch and its list
pub record Installed : Type 0 where
  pub epoch : ℕ
  pub entries : List ℕ

pub record History : Type 0 where
  pub ledger : Ledger
  pub last : List ℕ → Told  -- 'its last answer is that of its last accepted heartbeat'
  pub subscription : List ℕ → ℕ  -- 'the last that its sender had accepted'
  pub in_force : Option Installed  -- 'the list of the last accepted install', 'as long as no record 3 was stored since'

unfoldable pub no_history : History
no_history = record { ledger = empty_ledger; last = λ id. record { epoch = 0; slots = [] }; subscription = λ id. 0; in_force = none }

-- what is known of the sender of an accepted join or ordinary heartbeat, by its ID; all else is as before
abbrev pub of_sender : {A : Type 0} → (List ℕ → A) → Observation → (Request → Assignment → A) → List ℕ → A
of_sender f o g = on_heartbeat f (λ b. on_assigned f (λ a id. if same b.id id then g b a else f id) o.answer) o.event

unfoldable pub last_after : (List ℕ → Told) → Observation → List ℕ → Told
last_after last o = of_sender last o (λ b a. record { epoch = a.epoch; slots = slots_told o })

unfoldable pub subscription_after : (List ℕ → ℕ) → Observation → List ℕ → ℕ
subscription_after subscription o = of_sender subscription o (λ b a. default (subscription b.id) b.subscription)

unfoldable pub is_epoch_record : Record → Bool
is_epoch_record r = given (parts_of r).epoch

unfoldable pub unless_epoch : Option Installed → List ℕ → Option Installed
unless_epoch c stored = if any is_epoch_record (records_in stored) then none else c

unfoldable pub installed_as : ℤ → List ℕ → Option Installed
installed_as (pos n) entries = some (record { epoch = n; entries = entries })
installed_as (negsuc n) entries = none

unfoldable pub in_force_after : Option Installed → Observation → Option Installed
in_force_after c o = on_install (unless_epoch c o.stored) (λ epoch entries. unless_refused (installed_as epoch entries) c o.answer) o.event

unfoldable pub observe : History → Observation → History
observe h o = record {
  ledger = reckon h.ledger o;
  last = last_after h.last o;
  subscription = subscription_after h.subscription o;
  in_force = in_force_after h.in_force o;
}

-- ---- the course of events

-- an event with what is lent to it: 'the record buffer and the lent list may have any length and any content'
pub record Call : Type 0 where
  pub event : Event
  pub buffer : List ℕ
  pub list : List ℕ

unfoldable pub stepped : Group → Call → Stepped
stepped g t = step g t.event t.buffer t.list

-- what is seen of an event that came to a step
unfoldable pub seen_of : Event → Stepped → Observation
seen_of e r = record { event = e; answer = r.answer; list = r.list; stored = take r.written r.buffer }

-- the group, and what is known
pub record Course : Type 0 where
  pub group : Group
  pub history : History

unfoldable pub begun : Group → Course
begun g = record { group = g; history = no_history }

-- 'each later one the group that the one before returned'
unfoldable pub next : Course → Call → Course
next c t = record { group = (stepped c.group t).group; history = observe c.history (seen_of t.event (stepped c.group t)) }

unfoldable pub course_after : Course → List Call → Course
course_after c ts = foldl next c ts

-- what every event is by its types: 'a 16-byte ID', 'a set of the 16 topic numbers'
abbrev pub Subscribing : Option ℕ → Type 0
Subscribing none = Unit {0}
Subscribing (some topics) = topics < subscription_count

abbrev pub Typed : Event → Type 0
Typed (heartbeat b) = (length b.id ≡ id_length) × Subscribing b.subscription
Typed (sweep tick) = Unit {0}
Typed (topic t id n) = length id ≡ id_length
Typed (install rule e entries) = Unit {0}

abbrev pub AllTyped : List Call → Type 0
AllTyped [] = Unit {0}
AllTyped (t ∷ ts) = Typed t.event × AllTyped ts

-- no slot is in the sets of two IDs
abbrev pub HeldByOne : Ledger → Type 0
HeldByOne l = (i j : List ℕ) (s : ℕ) → Memᴰ s (l.works_on i) → Memᴰ s (l.works_on j) → i ≡ j

-- DEMAND 3, first half: 'After every list no slot is in the sets of two IDs'
unfoldable pub SingleHolder : Group → Type 0
SingleHolder start = (calls : List Call) → AllTyped calls → HeldByOne (course_after (begun start) calls).history.ledger
