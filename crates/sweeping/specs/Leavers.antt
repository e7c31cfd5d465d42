-- The members that a sweep removes, each at the entry of its place.
use mathlib.Core.List.{foldl}
use Rattle.std.specs.Prelude.{ℕ, ◌≡◌, List, [], ◌∷◌, ◌++◌, map, Option, None, Some}
use Rattle.rules.specs.Basics.{any, concat_map}
use Rattle.rules.specs.Group.{SlotState, targeted}
use Rattle.rules.specs.Records.{Record, group_epoch}
use Rattle.rules.specs.Effects.{remove}
use Rattle.group.specs.View.{view}
use Rattle.group.specs.declared.Group.{Group}
use Rattle.records.specs.Storing.{gone_batch, optional}
use Rattle.records.specs.declared.batches.GoneBatch.{GoneBatch}
use Rattle.records.specs.declared.kinds.GroupEpoch.{GroupEpoch}

-- those that are there
abbrev pub leavers : List (Option GoneBatch) → List GoneBatch
leavers [] = []
leavers (None ∷ l) = leavers l
leavers (Some b ∷ l) = b ∷ leavers l

-- their places
abbrev pub places_of : List (Option GoneBatch) → List ℕ
places_of l = map (λ b. b.place.0) (leavers l)

-- the member at place p, with whether it is the target of some slot
abbrev pub leaver_at : List SlotState → ℕ → GoneBatch
leaver_at vs p = record { place = record { 0 = p }; retargets = any (targeted p) vs }

-- the members at these places, rising
abbrev pub Leaving : List SlotState → List ℕ → List (Option GoneBatch) → Type 0
Leaving vs places l = leavers l ≡ map (leaver_at vs) places

-- what a sweep stores: 'as leave for each place rising, one 3 at the end if G changed'
unfoldable pub sweep_batch : List (Option GoneBatch) → Option GroupEpoch → List Record
sweep_batch going epoch = concat_map gone_batch (leavers going) ++ optional (λ e. group_epoch e.0) epoch

-- the members at these places are removed; the head and the topics are left, every entry of them
pub record Removes (places : List ℕ) (before after : Group) : Type 0 where
  pub removed : view after ≡ foldl remove (view before) places
  pub head : after.head ≡ before.head
  pub topics : after.topics ≡ before.topics
