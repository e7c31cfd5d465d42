-- The slots near a place that a walk over the tables has still to give.
use Rattle.std.specs.Prelude.{ℕ, ◌-◌, List}
use Rattle.rules.specs.Constants.{slot_count}
use Rattle.slots.specs.Set.{select}
use Rattle.tables.specs.View.{slot_at}
use Rattle.tables.specs.Places.{near}
use Rattle.tables.specs.declared.Tables.{Tables}
use Rattle.tables.specs.declared.walking.SlotsNear.{SlotsNear}

-- the slots from `from` on that are near p, in rising order
abbrev pub near_from : Tables → ℕ → ℕ → List ℕ
near_from t p from = select (λ s. near p (slot_at t s)) from (slot_count - from)

-- those from the slot on at which the walk is
unfoldable pub rest : SlotsNear → List ℕ
rest w = near_from w.tables.now w.place.0 w.from
