-- Tables of marks: a Boolean for each place.
use Rattle.std.specs.Prelude.{ℕ, ◌<◌, ◌≡◌, Bool, false, List, slice_index_or}
use Rattle.std.proofs.Math.Option.{Option, none}
use Rattle.rules.specs.Basics.{any, keep, up_to}
use Rattle.rules.specs.Constants.{max_members}
use Rattle.rules.specs.Group.{Group, Member, SlotState, revoking}
use Rattle.rules.specs.Effects.{due, overdue_places}

-- the mark of a place
abbrev pub mark : List Bool → ℕ → Bool
mark marks p = slice_index_or marks p false

-- the marked places, rising
unfoldable pub marked : List Bool → List ℕ
marked marks = keep (mark marks) (up_to 0 max_members)

-- ---- who goes

-- the places that hold some slot which they are to give back
abbrev pub MarksRevoking : List SlotState → List Bool → Type 0
MarksRevoking vs marks = (p : ℕ) → p < max_members → mark marks p ≡ any (revoking p) vs

-- the places whose members are due; `revokes` tells of a place whether its P is not empty
abbrev pub MarksDue : List (Option Member) → (ℕ → Bool) → ℕ → List Bool → Type 0
MarksDue ms revokes tick marks = (p : ℕ) → p < max_members → mark marks p ≡ due tick (revokes p) (slice_index_or ms p none)

-- the places that a sweep removes, of any group with these members and slots
abbrev pub MarksOverdue : List (Option Member) → List SlotState → ℕ → List Bool → Type 0
MarksOverdue ms vs tick marks = (g : Group) → g.members ≡ ms → g.slots ≡ vs → marked marks ≡ overdue_places g tick
