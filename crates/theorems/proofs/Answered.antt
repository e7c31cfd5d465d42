-- A list of calls is a list of items: no reading, and every answer went out.
use Prim.Native.Nat.{ℕ}
use mathlib.Core.Path.{◌≡◌, refl, sym, ap, ◌∙◌}
use mathlib.Core.Bool.{true}
use mathlib.Core.List.{List, [], ◌∷◌, map}
use Rattle.rules.specs.Group.{fresh}
use Rattle.rules.specs.Course.{AllTyped, Call, Course, begun, course_after, next}
use Rattle.rules.specs.Readings.{Item, ItemsTyped, Passage, group_after, happens, next_group, next_passage, observe_told, passage_after, reads, started}
use Rattle.rules.specs.Theorems.{Reached}

abbrev pub answered : List Call → List Item
answered ts = map (λ t. happens t true) ts

pub typed_answered : (ts : List Call) → AllTyped ts → ItemsTyped (answered ts)
typed_answered [] ok = tt
typed_answered (t ∷ ts) ok = (ok.0, typed_answered ts ok.1)

pub course_answered : (ts : List Call) (c : Passage) → (passage_after c (answered ts)).course ≡ course_after c.course ts
unfolding passage_after course_after next_passage next observe_told
course_answered [] c = refl
course_answered (t ∷ ts) c = course_answered ts (next_passage c (happens t true))

-- the group of a passage, from that at its start
pub group_passage : (is : List Item) (c : Passage) → (passage_after c is).course.group ≡ group_after c.course.group is
unfolding passage_after group_after next_passage next_group
group_passage [] c = refl
group_passage (happens t told ∷ is) c = group_passage is (next_passage c (happens t told))
group_passage (reads t ∷ is) c = group_passage is (next_passage c (reads t))

-- the group after a list of calls is reached
pub course_reached : (tick : ℕ) (ts : List Call) → AllTyped ts → Reached (course_after (begun (fresh tick)) ts).group
unfolding begun started
course_reached tick ts ok = record {
  tick = tick;
  items = answered ts;
  typed = typed_answered ts ok;
  is = ap (λ (c : Course). c.group) (sym (course_answered ts (started (fresh tick)))) ∙ group_passage (answered ts) (started (fresh tick));
}
