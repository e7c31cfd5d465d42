-- What the code's values stand for: the step that an outcome shows, and the request of the rules that a heartbeat's parameters are.
use Rattle.std.specs.Prelude.{ℕ, ◌≡◌, Bool, Result, Ok, Err, List, [], ◌∷◌, ◌++◌, if◌then◌else◌}
use Rattle.std.proofs.Math.Option.{Option, none, some}
use Rattle.rules.specs.Group as G
use Rattle.rules.specs.Event as E
use Rattle.rules.specs.Refusals.{Kind, ◌when◌, first_of, goes_back, heartbeat_table}
use Rattle.rules.specs.Effects.{Effect, heartbeat_effect}
use Rattle.rules.specs.Step.{Stepped, carry_out, too_little_room}
use Rattle.rules.specs.declared.Refusal.TheVariants.{Clock, Room}
use Rattle.rules.specs.declared.Answer.{Answer}
use Rattle.rules.specs.declared.Answer.TheVariants.{Assigned, Left, Swept, Done, Refused}
use Rattle.rules.specs.declared.Refusal.{Refusal}
use Rattle.tables.specs.declared.Tables.{Tables}
use Rattle.tables.specs.Advances.{owned_of}
use Rattle.group.specs.View.{view}
use Rattle.group.specs.declared.Group.{Group}
use Rattle.group.specs.declared.members.Members.{Members}
use Rattle.group.specs.declared.topics.Topics.{Topics}
use Rattle.events.specs.declared.Outcome.{Outcome}
use Rattle.events.specs.declared.Request.{Request}

-- what the code handed back, with the group, the lent buffer and the lent list as they then are
unfoldable pub took : Outcome → G.Group → List ℕ → List ℕ → Stepped
took r g buffer list = record { answer = r.answer; group = g; written = r.written; buffer = buffer; list = list }

-- 'Every refusal changes nothing anywhere': after a refusal what was lent is the very value that it was, and not only one that stands for the same group
abbrev pub SameIfRefused : {A : Type 0} → Answer → A → A → Type 0
SameIfRefused (Refused why) before after = after ≡ before
SameIfRefused (Assigned a) before after = Unit {0}
SameIfRefused Left before after = Unit {0}
SameIfRefused (Swept n) before after = Unit {0}
SameIfRefused Done before after = Unit {0}

-- what an event's function handed back: a refusal wrote nothing
abbrev pub outcome_of : Result Outcome Refusal → Outcome
outcome_of (Ok r) = r
outcome_of (Err why) = record { answer = Refused why; written = 0 }

-- the answer, the group, the buffer and the list are what `step` makes of the group; a refusal left the group as it was, every entry of it; and what `kept` tells of
-- the group, every entry of it, is as it was in any case
abbrev pub Becomes : {Kept : Type 0} → (Group → Kept) → Outcome → Group → Group → List ℕ → List ℕ → (G.Group → Stepped) → Type 0
Becomes kept r before after buffer list step =
    SameIfRefused r.answer before after × (kept after ≡ kept before) × (took r (view after) buffer list ≡ step (view before))

-- what the kinds of events leave, whatever they come to: a heartbeat and a sweep; a topic event; an install
abbrev pub topics_of : Group → Topics
topics_of g = g.topics

abbrev pub members_and_tables : Group → Members × Tables
members_and_tables g = (g.members, g.tables)

abbrev pub all_but_target : Group → Members × Topics × List ℕ × List Bool
all_but_target g = (g.members, g.topics, g.tables.holder, g.tables.waiting)

abbrev pub given_subscription : Bool → ℕ → Option ℕ
given_subscription given topics = if given then some topics else none

unfoldable pub request_of : Request → List ℕ → E.Request
request_of b owned = record {
  id = b.id;
  epoch = b.epoch;
  tick = b.tick;
  timeout = b.timeout;
  subscription = given_subscription b.has_subscription b.subscription;
  owned = owned_of b.has_list owned;
}

-- an effect that no row of the table refuses: carried out if there is room
unfoldable pub carried : G.Group → Effect → List ℕ → List ℕ → Stepped
carried g f buffer list = carry_out (first_of ((Room when too_little_room f buffer list) ∷ [])) g f buffer list

-- a heartbeat taken as one of a kind; `step` takes it as the kind of its epoch
unfoldable pub step_as : Kind → G.Group → E.Request → List ℕ → List ℕ → Stepped
step_as k g b buffer list =
    carry_out (first_of ((Clock when goes_back g b.tick) ∷ (heartbeat_table g b k ++ (Room when too_little_room (heartbeat_effect g b k) buffer list) ∷ [])))
    g (heartbeat_effect g b k) buffer list
