-- What the entries of an install are tried against: the count of each topic, 0 where there is none, and the subscription at each place.
use Rattle.std.specs.Prelude.{◌≡◌, ℕ, ◌/◌, ◌%◌, ◌<◌, Bool, not, ◌&&◌, List, length, ◌==◌, nat_lt, slice_index, if◌then◌else◌}
use Rattle.std.specs.Prelude as P
use Rattle.std.proofs.Math.Option.{Option, none, some}
use Rattle.rules.specs.Refusals.{first_bad}
use Rattle.rules.specs.Basics.{any}
use Rattle.rules.specs.Constants.{max_partitions, no_place}
use Rattle.rules.specs.Group as G
use Rattle.rules.specs.Group.{includes_topic}

-- the subscription of a member, 0 where there is none
unfoldable pub subscription_of : Option G.Member → ℕ
subscription_of none = 0
subscription_of (some m) = m.subscription

-- w has the topics whose slots may not be left with none: with the rule those that some subscription of ss has
abbrev pub Wanted : Bool → List ℕ → ℕ → Type 0
Wanted rule ss w = (t : ℕ) → includes_topic t w ≡ (rule && any (includes_topic t) ss)

-- a slot exists by the counts cs
unfoldable pub slot_exists : List ℕ → ℕ → Bool
slot_exists cs s = nat_lt (s % max_partitions) (slice_index cs (s / max_partitions))

-- `bad_entry` of the rules over the counts cs, the subscriptions ss and the wanted topics w
unfoldable pub entry_bad : List ℕ → List ℕ → ℕ → ℕ → ℕ → Bool
entry_bad cs ss w s e =
    if e == no_place then slot_exists cs s && includes_topic (s / max_partitions) w else not (slot_exists cs s && includes_topic (s / max_partitions) (slice_index ss e))

-- r is the first entry that row 1006 refuses, with the rule 'No slot left over' or without; none, if it refuses no entry
abbrev pub FirstBad : Bool → G.Group → List ℕ → P.Option ℕ → Type 0
FirstBad rule g entries P.None = first_bad rule g entries ≡ length entries
FirstBad rule g entries (P.Some s) = (s < length entries) × (first_bad rule g entries ≡ s)
