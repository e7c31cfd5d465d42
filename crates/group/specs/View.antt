-- The group of the rules that the struct stands for: every value of the struct stands for one.
use Rattle.std.specs.Prelude.{ℕ, ◌*◌, List, map, take, drop, ◌==◌, slice_index, if◌then◌else◌}
use Rattle.std.specs.Prelude as P
use Rattle.std.proofs.Math.Option.{Option, none, some}
use Rattle.rules.specs.Basics.{up_to}
use Rattle.rules.specs.Constants.{topic_count, id_length}
use Rattle.rules.specs.Group as G
use Rattle.tables.specs.View.{slots_in}
use Rattle.group.specs.Columns.{view_members}
use Rattle.group.specs.declared.Group.{Group}
use Rattle.group.specs.declared.Seat.{Seat}
use Rattle.group.specs.declared.topics.Topics.{Topics}

-- the member at a seat
abbrev pub seated : Seat → G.Member
seated s = record { id = s.id; epoch = s.epoch; subscription = s.subscription; timeout = s.timeout; heard = s.heard; revoked_at = s.revoked_at }

-- where nobody sits there is no member
abbrev pub view_seat : P.Option Seat → Option G.Member
view_seat P.None = none
view_seat (P.Some s) = some (seated s)

-- the topic of a number: with count 0 there is none
unfoldable pub view_topic : List ℕ → List ℕ → ℕ → Option G.Topic
view_topic ids counts t = if slice_index counts t == 0 then none else some (record { id = take id_length (drop (t * id_length) ids); count = slice_index counts t })

unfoldable pub view_topics : List ℕ → List ℕ → List (Option G.Topic)
view_topics ids counts = map (view_topic ids counts) (up_to 0 topic_count)

abbrev pub topics_in : Topics → List (Option G.Topic)
topics_in t = view_topics t.ids t.counts

unfoldable pub view : Group → G.Group
view g = record {
  epoch = g.head.epoch;
  target_epoch = g.head.target_epoch;
  tick = g.head.tick;
  topics = topics_in g.topics;
  members = view_members g.members.cells;
  slots = slots_in g.tables;
}
