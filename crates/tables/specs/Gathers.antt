-- What a pass over the tables gathers of one place, slot by slot.
use Rattle.std.specs.Prelude.{ℕ, ◌<◌, ◌≡◌, Bool, List, get_or}
use Rattle.rules.specs.Constants.{slot_count}
use Rattle.rules.specs.Group.{SlotState, free_slot, assigned, revoking, targeted}
use Rattle.slots.specs.Set.{has}
use Rattle.slots.specs.declared.SlotSet.{SlotSet}
use Rattle.tables.specs.Places.{claimable}
use Rattle.tables.specs.declared.gathering.PlaceSets.{PlaceSets}

-- a set is that of the slots which pass a test
abbrev pub Picks : (SlotState → Bool) → List SlotState → SlotSet → Type 0
Picks test vs a = (s : ℕ) → s < slot_count → has a.words s ≡ test (get_or vs s free_slot)

pub record Gathers (p : ℕ) (vs : List SlotState) (r : PlaceSets) : Type 0 where
  pub assigned_are : Picks (assigned p) vs r.assigned
  pub revoking_are : Picks (revoking p) vs r.revoking
  pub target_are : Picks (targeted p) vs r.target
  pub claimable_are : Picks (claimable p) vs r.claimable
