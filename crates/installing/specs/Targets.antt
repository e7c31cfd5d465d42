-- A target by itself, a list with a place or `no_place` for each slot: the places whose sets a change of it changes, and the records that tell of it.
use Rattle.std.specs.Prelude.{ℕ, ◌+◌, ◌*◌, ◌<◌, ◌≡◌, Bool, false, not, List, [], ◌∷◌, ◌++◌, map, get_or}
use Rattle.rules.specs.Basics.{concat_map, same, up_to}
use Rattle.rules.specs.Constants.{max_members, slot_count, no_place}
use Rattle.rules.specs.Group.{SlotState, set_m}
use Rattle.rules.specs.Records.{Record, target_is, target_epoch}
use Rattle.rules.specs.Effects.{only_if}

-- the slots of a target, held by nobody: records 7 and 6 tell of no holder
abbrev pub unheld_slot : ℕ → SlotState
unheld_slot t = record { target = t; holder = no_place; waiting = false }

unfoldable pub unheld : List ℕ → List SlotState
unheld target = map unheld_slot target

-- those places are marked whose sets differ in two targets
abbrev pub Marked : List Bool → List ℕ → List ℕ → Type 0
Marked marks before after = (p : ℕ) → p < max_members → get_or marks p false ≡ not (same (set_m p (unheld before)) (set_m p (unheld after)))

-- record 7 of a place; those of the places that are marked, rising; and then record 6
unfoldable pub target_of : List ℕ → ℕ → Record
target_of target p = target_is (record { place = p; slots = set_m p (unheld target) })

abbrev pub record_at : List Bool → List ℕ → ℕ → List Record
record_at marks target p = only_if (get_or marks p false) (target_of target p)

abbrev pub marked_records : List Bool → List ℕ → List Record
marked_records marks target = concat_map (record_at marks target) (up_to 0 max_members)

unfoldable pub marked_install : List Bool → List ℕ → ℕ → List Record
marked_install marks target epoch = marked_records marks target ++ (target_epoch epoch ∷ [])

-- they take no more bytes
abbrev pub install_most : ℕ
install_most = 2 * slot_count + 4 * max_members + 6
