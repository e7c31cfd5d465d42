-- What reading a batch is promised to be, and what running the one event is that it can be of.
use Rattle.std.specs.Prelude.{ℕ, ◌≤◌, ◌≡◌, Bool, false, ◌&&◌, List, length, take, leb, if◌then◌else◌}
use Rattle.std.specs.Prelude as P
use Rattle.std.proofs.Math.Option.{Option, none, some}
use Rattle.rules.specs.Basics.{empty, same}
use Rattle.rules.specs.Constants.{batch_limit}
use Rattle.rules.specs.Group as G
use Rattle.rules.specs.Batches.{Witness, judged, read_batch}
use Rattle.group.specs.View.{view}
use Rattle.group.specs.declared.Group.{Group}
use Rattle.events.specs.declared.Outcome.{Outcome}

-- a batch that is good is read as the group after it
unfoldable pub good_as : Bool → G.Group → Option G.Group
good_as good g = if good then some g else none

-- a batch read for a group: good exactly if the rules read it, as the group that they read; a batch that is refused leaves every entry of the group
pub record Reads (r : Bool) (before after : Group) (t : ℕ) (batch : List ℕ) : Type 0 where
  pub reads : good_as r (view after) ≡ read_batch t (view before) batch
  pub keeps : r ≡ false → after ≡ before

-- ---- an event run

-- bytes that an event may have written
pub record Fair (batch : List ℕ) : Type 0 where
  pub stored : empty batch ≡ false
  pub short : length batch ≤ batch_limit

-- the first n bytes of the buffer are there and are the batch
unfoldable pub is_batch : List ℕ → ℕ → List ℕ → Bool
is_batch buffer n batch = leb n (length buffer) && same (take n buffer) batch

-- what was run wrote the batch; and nothing did, where nothing was run
unfoldable pub wrote : List ℕ → P.Option Outcome → List ℕ → Bool
wrote buffer P.None batch = false
wrote buffer (P.Some o) batch = is_batch buffer o.written batch

-- a candidate was run: by the bytes that it wrote to the buffer, and the group after it, every batch is judged
abbrev pub Ran : P.Option Outcome → List ℕ → G.Group → ℕ → Option Witness → Type 0
Ran ran buffer after t candidate =
    (batch : List ℕ) → Fair batch → good_as (wrote buffer ran batch) after ≡ judged t batch candidate
