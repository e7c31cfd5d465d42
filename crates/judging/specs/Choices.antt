-- The event of a batch chosen by what its records say, and run.
use Rattle.std.specs.Prelude.{ℕ, ◌≡◌, Bool, false, List}
use Rattle.std.specs.Prelude as P
use Rattle.std.proofs.Math.Option.{Option, none, some}
use Rattle.rules.specs.Basics.{case_of}
use Rattle.rules.specs.Group as G
use Rattle.rules.specs.Event.{Request, heartbeat}
use Rattle.rules.specs.Batches.{Witness, candidate, judged, retimed, tried}
use Rattle.group.specs.View.{view}
use Rattle.group.specs.declared.Group.{Group}
use Rattle.events.specs.declared.Outcome.{Outcome}
use Rattle.batches.specs.declared.Gathered.{Gathered}
use Rattle.batches.specs.Gathered.{Says}
use Rattle.judging.specs.Reads.{Fair, Ran, good_as}

-- a heartbeat, if there is one, as a candidate
unfoldable pub if_asked : G.Group → Option Request → Option Witness
if_asked g o = case_of o none (λ b. some (tried g (heartbeat b)))

-- on a group that has the tick of reading throughout the candidate of the records was run
abbrev pub Runs : P.Option Outcome → Group → Group → ℕ → List ℕ → List ℕ → List ℕ → Gathered → List Bool → List ℕ → Type 0
Runs ran before after t buffer buffer' list said table entries =
    (bytes target : List ℕ) (s : Says bytes said table target entries) → target ≡ before.tables.target → retimed t (view before) ≡ view before
    → Ran ran buffer' (view after) t (candidate t (view before) s.records)

-- on any group: the candidate was run with the tick of reading, and the batch judged by that; if it was not good, the group is as it was
pub record Attempts (r : Bool) (before after : Group) (t : ℕ) (batch : List ℕ) (said : Gathered) (table : List Bool) (entries : List ℕ) : Type 0 where
  pub judges : (bytes : List ℕ) (s : Says bytes said table before.tables.target entries) → Fair batch
      → good_as r (view after) ≡ judged t batch (candidate t (retimed t (view before)) s.records)
  pub keeps : r ≡ false → after ≡ before
