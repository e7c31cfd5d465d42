-- What steps 2 and 3 of an ordinary heartbeat come to: on the sets of a place, as `PlaceSets::advance` decides it; and for the member at place p, as the rules
-- say it, from the slots vs before them. Both go by the list that may be given.
use Rattle.std.specs.Prelude.{ℕ, ◌≡◌, Bool, true, false, not, ◌&&◌, ◌||◌, List, if◌then◌else◌}
use Rattle.std.specs.Prelude as P
use Rattle.std.specs.Borrow.{Bor}
use Rattle.std.proofs.Math.Option.{Option, none, some}
use Rattle.rules.specs.Basics.{any, same, up_to}
use Rattle.rules.specs.Constants.{slot_count}
use Rattle.rules.specs.Group.{SlotState, assigned, revoking, set_a, set_p}
use Rattle.rules.specs.Effects.{waits, frees, strays, advanced}
use Rattle.slots.specs.Set.{has, slots_of}
use Rattle.tables.specs.Gathers.{Picks}
use Rattle.tables.specs.declared.gathering.PlaceSets.{PlaceSets}
use Rattle.tables.specs.declared.advancing.Advance.{Advance}
use Rattle.tables.specs.declared.advancing.Change.{Change}
use Rattle.tables.specs.declared.advancing.Change.TheVariants.{Waits, Stays, Revokes, Claims}

-- a list that may be given, as the rules have it
abbrev pub owned_of : Bool → List ℕ → Option (List ℕ)
owned_of given list = if given then some list else none

abbrev pub listed : P.Option (Bor (List ℕ)) → Option (List ℕ)
listed P.None = none
listed (P.Some list) = some list.now

-- ---- on the sets A, P, M of a place, and the slots of M that nobody holds

-- some slot passes a test
unfoldable pub some_slot : (ℕ → Bool) → Bool
some_slot f = any f (up_to 0 slot_count)

-- step 2: 'If P is not empty: when a list is given and has no slot of P, all of P is freed'
unfoldable pub frees_set : PlaceSets → Option (List ℕ) → Bool
frees_set a none = false
frees_set a (some l) = some_slot (has a.revoking.words) && not (any (has a.revoking.words) l)

-- 'Otherwise A, P and E stay'
unfoldable pub waits_on : PlaceSets → Option (List ℕ) → Bool
waits_on a owned = some_slot (has a.revoking.words) && not (frees_set a owned)

-- what step 2 comes to: nothing where the place waits, and else whether P is freed
abbrev pub FreesSet : PlaceSets → Option (List ℕ) → P.Option Bool → Type 0
FreesSet a owned P.None = waits_on a owned ≡ true
FreesSet a owned (P.Some frees) = (waits_on a owned ≡ false) × (frees ≡ frees_set a owned)

-- step 3: slot s is in A and outside M
abbrev pub stray_in : PlaceSets → ℕ → Bool
stray_in a s = has a.assigned.words s && not (has a.target.words s)

-- slot s is in M and nobody holds it once P is freed
abbrev pub free_in : PlaceSets → ℕ → Bool
free_in a s = has a.claimable.words s || (has a.revoking.words s && has a.target.words s)

-- 'If A has slots outside M, those move to P, and A keeps the rest'; 'Otherwise .. every slot of M that nobody holds enters A'
unfoldable pub assigned_after : PlaceSets → Option (List ℕ) → ℕ → Bool
assigned_after a owned s =
    if waits_on a owned then has a.assigned.words s
    else (if some_slot (stray_in a) then has a.assigned.words s && has a.target.words s else has a.assigned.words s || free_in a s)

unfoldable pub revoking_after : PlaceSets → Option (List ℕ) → ℕ → Bool
revoking_after a owned s = if waits_on a owned then has a.revoking.words s else stray_in a s

-- what becomes of the slots: whether the place waits, whether P is freed, whether slots move to P, and whether A or P changes
abbrev pub waits_in : Change → Bool
waits_in Waits = true
waits_in Stays = false
waits_in (Revokes frees) = false
waits_in (Claims frees) = false

abbrev pub frees_in : Change → Bool
frees_in Waits = false
frees_in Stays = false
frees_in (Revokes frees) = frees
frees_in (Claims frees) = frees

abbrev pub revokes_in : Change → Bool
revokes_in Waits = false
revokes_in Stays = false
revokes_in (Revokes frees) = true
revokes_in (Claims frees) = false

abbrev pub moves_in : Change → Bool
moves_in Waits = false
moves_in Stays = false
moves_in (Revokes frees) = true
moves_in (Claims frees) = true

-- A and P after the steps, slot by slot; what happened; and whether A or P changed
pub record AdvancesSets (a : PlaceSets) (owned : Option (List ℕ)) (r : Advance) : Type 0 where
  pub assigned_are : (s : ℕ) → has r.assigned.words s ≡ assigned_after a owned s
  pub revoking_are : (s : ℕ) → has r.revoking.words s ≡ revoking_after a owned s
  pub waits_is : waits_in r.change ≡ waits_on a owned
  pub frees_is : frees_in r.change ≡ frees_set a owned
  pub revokes_is : revokes_in r.change ≡ (not (waits_on a owned) && some_slot (stray_in a))
  pub changed_is : moves_in r.change ≡ (not (waits_on a owned) && (some_slot (stray_in a) || (frees_set a owned || some_slot (free_in a))))

-- ---- as the rules say it

-- A and P after the steps, slot by slot and as the rules list them; what happened; and whether A or P changed, without which no slot did
pub record Advances (p : ℕ) (vs : List SlotState) (owned : Option (List ℕ)) (r : Advance) : Type 0 where
  pub assigned_are : Picks (assigned p) (advanced p vs owned) r.assigned
  pub revoking_are : Picks (revoking p) (advanced p vs owned) r.revoking
  pub assigned_list : slots_of r.assigned.words ≡ set_a p (advanced p vs owned)
  pub revoking_list : slots_of r.revoking.words ≡ set_p p (advanced p vs owned)
  pub waits_is : waits_in r.change ≡ waits p vs owned
  pub frees_is : frees_in r.change ≡ frees p vs owned
  pub revokes_is : revokes_in r.change ≡ (not (waits p vs owned) && strays p vs owned)
  pub changed_is : moves_in r.change ≡ (not (same (set_a p (advanced p vs owned)) (set_a p vs)) || not (same (set_p p (advanced p vs owned)) (set_p p vs)))
  pub unchanged : moves_in r.change ≡ false → advanced p vs owned ≡ vs
  pub moves : moves_in r.change ≡ true → waits p vs owned ≡ false
