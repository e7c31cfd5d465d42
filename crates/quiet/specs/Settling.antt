-- When the list of a heartbeat is all that its place has and is to have.
use Rattle.std.specs.Prelude.{ℕ, ◌<◌, ◌≡◌, Bool, true, false, not, ◌&&◌, List, map, eqb, length, get_or}
use Rattle.rules.specs.Basics.{any}
use Rattle.rules.specs.Group.{SlotState, set_a, revoking}
use Rattle.rules.specs.Effects.{stray, claimed}
use Rattle.slots.specs.Set.{select}
use Rattle.tables.specs.View.{slot_at}
use Rattle.tables.specs.Places.{near, holder_not}
use Rattle.tables.specs.declared.Tables.{Tables}

-- the slots that are counted by one byte
abbrev pub part_length : ℕ
part_length = 128

-- so many of the first n slots are near the place
unfoldable pub near_count : Tables → ℕ → ℕ → ℕ
near_count t p n = length (select (λ s. near p (slot_at t s)) 0 n)

-- the place holds the slot, is to have it, and need not give it back
unfoldable pub settled : ℕ → SlotState → Bool
settled p s = eqb s.holder p && eqb s.target p && not s.waiting

-- each slot of a list is settled
abbrev pub AllSettled : Tables → ℕ → List ℕ → Type 0
AllSettled t p l = (k : ℕ) → k < length l → settled p (slot_at t (get_or l k 0)) ≡ true

-- the list is A of the place; P is empty, A has no slot outside M, and no slot of M is free; so the list passes the second row 42
pub record Quiet (p : ℕ) (vs : List SlotState) (l : List ℕ) : Type 0 where
  pub assigned_are : set_a p vs ≡ l
  pub none_revoking : any (revoking p) vs ≡ false
  pub none_stray : any (stray p) vs ≡ false
  pub none_claimed : map (claimed p) vs ≡ vs
  pub all_held : any (holder_not vs p) l ≡ false
