-- The slots that the three tables stand for.
use Rattle.std.specs.Prelude.{ℕ, ◌≡◌, Bool, false, List, [], ◌∷◌, length, get_or}
use Rattle.rules.specs.Constants.{slot_count}
use Rattle.rules.specs.Group.{SlotState}
use Rattle.tables.specs.declared.Tables.{Tables}

abbrev pub view_lists : List ℕ → List ℕ → List Bool → List SlotState
view_lists [] hs ws = []
view_lists (t ∷ ts) [] ws = []
view_lists (t ∷ ts) (h ∷ hs) [] = []
view_lists (t ∷ ts) (h ∷ hs) (w ∷ ws) = record { target = t; holder = h; waiting = w } ∷ view_lists ts hs ws

abbrev pub slots_in : Tables → List SlotState
slots_in t = view_lists t.target t.holder t.waiting

-- slot s, by the entry that each table has for it
abbrev pub slot_at : Tables → ℕ → SlotState
slot_at t s = record { target = get_or t.target s 0; holder = get_or t.holder s 0; waiting = get_or t.waiting s false }

-- the tables have an entry for each slot
abbrev pub Whole : Tables → Type 0
Whole t = (length t.target ≡ slot_count) × (length t.holder ≡ slot_count) × (length t.waiting ≡ slot_count)
