-- The slots of a target, linked place by place.
use Rattle.std.specs.Prelude.{ℕ, ◌+◌, ◌-◌, ◌≤◌, ◌<◌, ◌≡◌, Bool, true, false, List, eqb, length, get_or}
use Rattle.rules.specs.Constants.{max_members, slot_count}
use Rattle.slots.specs.Set.{select}

-- slot s is the place p's
abbrev pub is_of : List ℕ → ℕ → ℕ → Bool
is_of target p s = eqb (get_or target s 0) p

-- the slots of p from `from` on
abbrev pub slots_from : List ℕ → ℕ → ℕ → List ℕ
slots_from target p from = select (is_of target p) from (slot_count - from)

-- r is the first slot of p from `from` on, or the number of slots where there is none
abbrev pub NextOf : List ℕ → ℕ → ℕ → ℕ → Type 0
NextOf target p from r = (from ≤ r) × (r ≤ slot_count) × ((s : ℕ) → from ≤ s → s < r → is_of target p s ≡ false) × (r < slot_count → is_of target p r ≡ true)

-- the slots from `from` on are linked: `firsts` has the first of each place, `counts` how many it has, and `nexts` for each slot of a place the next one of that place
pub record LinkedFrom (from : ℕ) (target firsts counts nexts : List ℕ) : Type 0 where
  pub whole : length target ≡ slot_count
  pub firsts_long : length firsts ≡ max_members
  pub counts_long : length counts ≡ max_members
  pub nexts_long : length nexts ≡ slot_count
  pub first : (p : ℕ) → p < max_members → NextOf target p from (get_or firsts p 0)
  pub count : (p : ℕ) → p < max_members → get_or counts p 0 ≡ length (slots_from target p from)
  pub next : (p : ℕ) → p < max_members → (s : ℕ) → from ≤ s → s < slot_count → is_of target p s ≡ true → NextOf target p (s + 1) (get_or nexts s 0)

abbrev pub Linked : List ℕ → List ℕ → List ℕ → List ℕ → Type 0
Linked = LinkedFrom 0
