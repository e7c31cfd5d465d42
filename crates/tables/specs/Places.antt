-- The slots that concern a place.
use Rattle.std.specs.Prelude.{ℕ, ◌≤◌, ◌<◌, ◌≡◌, Bool, true, false, not, ◌&&◌, ◌||◌, List, Option, None, Some, eqb, get_or}
use Rattle.rules.specs.Constants.{slot_count, no_place}
use Rattle.rules.specs.Group.{SlotState, free_slot, targeted}
use Rattle.tables.specs.View.{slot_at}
use Rattle.tables.specs.declared.Tables.{Tables}

-- the place holds the slot, or is to have it
unfoldable pub near : ℕ → SlotState → Bool
near p s = eqb s.holder p || eqb s.target p

-- none of the slots from `from` up to `to` is near p
abbrev pub NoneNear : ℕ → Tables → ℕ → ℕ → Type 0
NoneNear p t from to = (s : ℕ) → from ≤ s → s < to → near p (slot_at t s) ≡ false

-- r is the first slot from `from` on that is near p, if there is one
abbrev pub NextNear : ℕ → Tables → ℕ → Option ℕ → Type 0
NextNear p t from None = NoneNear p t from slot_count
NextNear p t from (Some r) = (from ≤ r) × (r < slot_count) × NoneNear p t from r × (near p (slot_at t r) ≡ true)

-- a slot of the target that nobody holds
unfoldable pub claimable : ℕ → SlotState → Bool
claimable p s = targeted p s && eqb s.holder no_place

-- p is not the holder of slot s; a number that is no slot is held by nobody
abbrev pub holder_not : List SlotState → ℕ → ℕ → Bool
holder_not vs p s = not (eqb (get_or vs s free_slot).holder p)

-- a slot that the place holds, to be given back or not
unfoldable pub held_by : ℕ → SlotState → Bool
held_by p s = eqb s.holder p

-- ---- tests by one table

-- an entry that is the place
abbrev pub is_place : ℕ → ℕ → Bool
is_place p e = eqb e p
