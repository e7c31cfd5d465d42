-- Lists that rise, entry by entry.
use Rattle.std.specs.Prelude.{ℕ, suc, ◌≤◌, ◌<◌, ◌≡◌, Bool, true, false, List, get_or}
use Rattle.rules.specs.Refusals.{is_slot_set}

-- so many entries are held to the one before them at a time
abbrev pub stride : ℕ
stride = 8

-- each entry after entry a, up to entry b, is above the one before it
abbrev pub Rises : List ℕ → ℕ → ℕ → Type 0
Rises l a b = (k : ℕ) → a ≤ k → k < b → get_or l k 0 < get_or l (suc k) 0

-- r tells whether it rises there; a list that does not is no set of slots
abbrev pub TellsRising : List ℕ → ℕ → ℕ → Bool → Type 0
TellsRising l a b r = (r ≡ true → Rises l a b) × (r ≡ false → is_slot_set l ≡ false)
