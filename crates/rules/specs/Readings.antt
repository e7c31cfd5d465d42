-- Demand 3 over readings (request 1 of 02): 'Demand 3's history goes on over the reading: it counts each event whose batch and all before it in the file are
-- stored (or that wrote none after only such ones), and what was told only where the answer went out'.
-- Here are the items of such a history, the events that count and the readings; which events count is `counted` of Journal.
use Rattle.std.specs.Prelude.{ℕ, ◌≡◌, ◌⊎◌, Bool, true, false, not, if◌then◌else◌}
use mathlib.Core.List.{List, [], ◌∷◌, ◌++◌, foldl}
use Rattle.std.proofs.Math.Option.{some}
use Rattle.rules.specs.Group.{Group}
use Rattle.rules.specs.Ledger.{Observation, reckon}
use Rattle.rules.specs.Course.{Call, Course, HeldByOne, History, Installed, Typed, begun, in_force_after, observe, of_sender, seen_of, stepped, subscription_after}
use Rattle.rules.specs.Rounds.{From, RegularCall, Settled}
use Rattle.rules.specs.Batches.{retimed}

-- ---- what happens to a group: events, and readings

pub data Item : Type 0 where
  happens : Call → Bool → Item  -- an event with what is lent to it, and whether its answer went out
  reads : ℕ → Item  -- a reading at a tick

-- 'Reading it gives the group that wrote it, but every last-heard tick, the tick P was set and the last tick become the tick of reading'
unfoldable pub next_group : Group → Item → Group
next_group g (happens t told) = (stepped g t).group
next_group g (reads t) = retimed t g

unfoldable pub group_after : Group → List Item → Group
group_after g is = foldl next_group g is

abbrev pub ItemTyped : Item → Type 0
ItemTyped (happens t told) = Typed t.event
ItemTyped (reads t) = Unit {0}

abbrev pub ItemsTyped : List Item → Type 0
ItemsTyped [] = Unit {0}
ItemsTyped (i ∷ is) = ItemTyped i × ItemsTyped is

-- ---- what is known

-- 'what was told only where the answer went out': of an answer that was lost no slot is told; all else of the event counts
unfoldable pub unsent : Observation → Observation
unsent o = record { event = o.event; answer = o.answer; list = []; stored = o.stored }

unfoldable pub observe_unsent : History → Observation → History
observe_unsent h o = record {
  ledger = reckon h.ledger (unsent o);
  last = h.last;
  subscription = subscription_after h.subscription o;
  in_force = in_force_after h.in_force o;
}

unfoldable pub observe_told : Bool → History → Observation → History
observe_told told h o = if told then observe h o else observe_unsent h o

-- a course, and the IDs whose last answer was lost
pub record Passage : Type 0 where
  pub course : Course
  pub lost : List ℕ → Bool

unfoldable pub started : Group → Passage
started g = record { course = begun g; lost = λ id. false }

-- the answer to an accepted join or ordinary heartbeat is lost where it did not go out
unfoldable pub lost_after : (List ℕ → Bool) → Observation → Bool → List ℕ → Bool
lost_after lost o told = of_sender lost o (λ b a. not told)

unfoldable pub next_passage : Passage → Item → Passage
next_passage c (happens t told) =
    let g = c.course.group in
    let o = seen_of t.event (stepped g t) in
    record { course = record { group = (stepped g t).group; history = observe_told told c.course.history o }; lost = lost_after c.lost o told }
next_passage c (reads t) = record { course = record { group = retimed t c.course.group; history = c.course.history }; lost = c.lost }

unfoldable pub passage_after : Passage → List Item → Passage
passage_after c is = foldl next_passage c is

-- ---- the single holder

-- DEMAND 3, first half, over readings and lost answers
unfoldable pub SingleHolderOver : Group → Type 0
SingleHolderOver start = (is : List Item) → ItemsTyped is → HeldByOne (passage_after (started start) is).course.history.ledger

-- ---- the three rounds

-- 'The three rounds suppose that a sender whose answer was lost has rejoined before': of no member was the last answer lost
abbrev pub NoneLost : Passage → Type 0
NoneLost c = (p : ℕ) (id : List ℕ) → c.course.history.ledger.name p ≡ some id → c.lost id ≡ false

-- the heartbeats of the rounds are regular, and answered; readings may come between them
abbrev pub RegularItem : Passage → Item → Type 0
RegularItem c (happens t told) = (told ≡ true) × RegularCall c.course t
RegularItem c (reads t) = Unit {0}

abbrev pub AllRegularOver : Passage → List Item → Type 0
AllRegularOver c [] = Unit {0}
AllRegularOver c (i ∷ is) = RegularItem c i × AllRegularOver (next_passage c i) is

abbrev pub SendsOver : List ℕ → List Item → Type 0
SendsOver id [] = ⊥
SendsOver id (happens t told ∷ is) = From id t.event ⊎ SendsOver id is
SendsOver id (reads t ∷ is) = SendsOver id is

abbrev pub RoundOver : History → List Item → Type 0
RoundOver h is = (p : ℕ) (id : List ℕ) → h.ledger.name p ≡ some id → SendsOver id is

-- DEMAND 3, second half, over readings and lost answers
unfoldable pub ThreeRoundsOver : Group → Type 0
ThreeRoundsOver start =
    (before : List Item) → ItemsTyped before
    → NoneLost (passage_after (started start) before)
    → (i : Installed) → (passage_after (started start) before).course.history.in_force ≡ some i
    → (first second third : List Item)
    → ItemsTyped (first ++ (second ++ third))
    → AllRegularOver (passage_after (started start) before) (first ++ (second ++ third))
    → RoundOver (passage_after (started start) before).course.history first
    → RoundOver (passage_after (started start) before).course.history second
    → RoundOver (passage_after (started start) before).course.history third
    → (p : ℕ) (id : List ℕ) → (passage_after (started start) before).course.history.ledger.name p ≡ some id
    → Settled (passage_after (started start) (before ++ (first ++ (second ++ third)))).course i p id
