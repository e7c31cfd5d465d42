-- What becomes of a slot of the tables.
use Rattle.std.specs.Prelude.{ℕ, Bool, true, false, List, map, get_or, if◌then◌else◌}
use Rattle.rules.specs.Group.{SlotState}
use Rattle.rules.specs.Effects.{freed, revoked, claimed}
use Rattle.tables.specs.declared.Tables.{Tables}
use Rattle.tables.specs.declared.advancing.Change.{Change}
use Rattle.tables.specs.declared.advancing.Change.TheVariants.{Waits, Stays, Revokes, Claims}
use Rattle.tables.specs.declared.changing.Entry.{Entry}

-- the slot that an entry of each table stands for
abbrev pub view_entry : Entry → SlotState
view_entry e = record { target = e.target; holder = e.holder; waiting = e.waiting }

-- the entries for slot s
abbrev pub entry_of : Tables → ℕ → Entry
entry_of t s = record { target = get_or t.target s 0; holder = get_or t.holder s 0; waiting = get_or t.waiting s false }

-- step 3, after P is freed or not: strays are revoked, or else what is free is claimed
unfoldable pub moved_by : Bool → Bool → ℕ → SlotState → SlotState
moved_by frees revokes p s = if revokes then revoked p (if frees then freed p s else s) else claimed p (if frees then freed p s else s)

-- all slots, where A or P changes
abbrev pub followed_by : Change → ℕ → List SlotState → List SlotState
followed_by Waits p vs = vs
followed_by Stays p vs = vs
followed_by (Revokes frees) p vs = map (moved_by frees true p) vs
followed_by (Claims frees) p vs = map (moved_by frees false p) vs
