-- Demand 3 of the code's own functions: a run is a list of exchanges, of which each is what the contract of the function called says.
use Rattle.std.specs.Prelude.{ℕ, ◌≡◌}
use mathlib.Core.List.{List, [], ◌∷◌, ◌++◌, foldl, map}
use Rattle.std.proofs.Math.Option.{some}
use Rattle.rules.specs.Step.{Stepped}
use Rattle.rules.specs.Course as R
use Rattle.rules.specs.Course.{AllTyped, Call, HeldByOne, History, Installed, no_history, observe, seen_of, stepped}
use Rattle.rules.specs.Rounds.{AllRegular, Round, Settled}
use Rattle.group.specs.declared.Group.{Group}
use Rattle.group.specs.View.{view}
use Rattle.events.specs.declared.Outcome.{Outcome}
use Rattle.events.specs.Outcomes.{took}

-- an event with what was lent to it, what the function handed back, and what the group, the buffer and the list then were
pub record Exchange : Type 0 where
  pub call : Call
  pub outcome : Outcome
  pub group : Group
  pub buffer : List ℕ
  pub list : List ℕ

abbrev pub shown : Exchange → Stepped
shown x = took x.outcome (view x.group) x.buffer x.list

abbrev pub calls_of : List Exchange → List Call
calls_of xs = map (λ x. x.call) xs

-- each event was given to the function for it, with the group as the one before left it: what every contract of the crate says
abbrev pub Run : Group → List Exchange → Type 0
Run g [] = Unit {0}
Run g (x ∷ xs) = (shown x ≡ stepped (view g) x.call) × Run x.group xs

-- ---- the course of a run

-- the group, and what is known from the events, the answers handed back and what the buffers and lists held
pub record Course : Type 0 where
  pub group : Group
  pub history : History

unfoldable pub begun : Group → Course
begun g = record { group = g; history = no_history }

unfoldable pub next : Course → Exchange → Course
next c x = record { group = x.group; history = observe c.history (seen_of x.call.event (shown x)) }

unfoldable pub course_after : Course → List Exchange → Course
course_after c xs = foldl next c xs

-- the course of the rules that it stands for
unfoldable pub view_course : Course → R.Course
view_course c = record { group = view c.group; history = c.history }

-- ---- demand 3

-- DEMAND 3, first half, of the code: after every run from this group no slot is in the sets of two IDs
unfoldable pub RunsSingleHolder : Group → Type 0
RunsSingleHolder start = (xs : List Exchange) → Run start xs → AllTyped (calls_of xs) → HeldByOne (course_after (begun start) xs).history.ledger

-- after the exchanges `before` and three rounds for the target then in force each member is settled
abbrev pub SettledBy : Group → List Exchange → List Exchange → List Exchange → List Exchange → Type 0
SettledBy start before first second third =
    AllTyped (calls_of before) → AllTyped (calls_of (first ++ (second ++ third)))
    → (i : Installed) → (course_after (begun start) before).history.in_force ≡ some i
    → AllRegular (view_course (course_after (begun start) before)) (calls_of (first ++ (second ++ third)))
    → Round (course_after (begun start) before).history (calls_of first)
    → Round (course_after (begun start) before).history (calls_of second)
    → Round (course_after (begun start) before).history (calls_of third)
    → (p : ℕ) (id : List ℕ) → (course_after (begun start) before).history.ledger.name p ≡ some id
    → Settled (view_course (course_after (begun start) (before ++ (first ++ (second ++ third))))) i p id

-- DEMAND 3, second half, of the code: after every run from this group, and three rounds for the target then in force, each member is settled
unfoldable pub RunsSettle : Group → Type 0
RunsSettle start =
    (before first second third : List Exchange)
    → Run start (before ++ (first ++ (second ++ third)))
    → SettledBy start before first second third
