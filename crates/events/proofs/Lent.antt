-- The group after an event, by what was written of it; and what the code's tests on it say of the group of the rules.
use Rattle.std.specs.Prelude as P
use Rattle.std.proofs.Common.{ℕ, ◌≡◌, refl, List, leb}
use Rattle.std.proofs.Math.Option.{Option}
use Rattle.rules.specs.Basics.{any, find}
use Rattle.rules.specs.Constants.{clock_limit}
use Rattle.rules.specs.Group as G
use Rattle.rules.specs.Group.{is_member, known, place_of, elapsed}
use Rattle.rules.specs.Refusals.{goes_back}
use Rattle.rules.specs.Effects.{changed}
use Rattle.rules.specs.declared.Place.{Place}
use Rattle.tables.specs.View.{slots_in}
use Rattle.group.specs.Columns.{view_members}
use Rattle.group.specs.View.{view, topics_in}
use Rattle.group.specs.Searches.{Finds}
use Rattle.group.specs.declared.Group.{Group}

-- the group with another group epoch, tick, members and slots
pub group_changed : (g g' : Group) (e t : ℕ) {ms : List (Option G.Member)} {ss : List G.SlotState} → g'.head ≡ record { epoch = e; target_epoch = g.head.target_epoch; tick = t }
    → g'.topics ≡ g.topics → view_members g'.members.cells ≡ ms → slots_in g'.tables ≡ ss → view g' ≡ changed (view g) e t ms ss
unfolding view changed
group_changed g g' e t h k m s = λ i. record {
  epoch = (h i).epoch;
  target_epoch = (h i).target_epoch;
  tick = (h i).tick;
  topics = topics_in (k i);
  members = m i;
  slots = s i;
}

-- ---- what the tests of the code say of the group

module _ (g : Group) where
  pub goes_back_is : (tick : ℕ) → leb clock_limit (elapsed tick g.head.tick) ≡ goes_back (view g) tick
  unfolding goes_back view
  goes_back_is tick = refl

  pub known_in : (id : List ℕ) (r : P.Option Place) → Finds (any (is_member id) (view_members g.members.cells)) (find (is_member id) (view_members g.members.cells)) r → Finds (known (view g) id) (place_of (view g) id) r
  unfolding known place_of view
  known_in id r f = f
