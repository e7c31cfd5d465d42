-- The bytes and the count of a topic's number, as they are read and set.
use Rattle.std.specs.Prelude.{◌≡◌, ℕ, ◌*◌, ◌<◌, List, take, drop, ◌==◌, ◌≢◌, if◌then◌else◌}
use Rattle.std.proofs.Math.Option.{Option, none, some}
use Rattle.rules.specs.Constants.{topic_count, id_length}
use Rattle.rules.specs.Group as G

-- the ID of a number
abbrev pub id_at : List ℕ → ℕ → List ℕ
id_at ids t = take id_length (drop (t * id_length) ids)

-- the topic of an ID and a count; with count 0 there is none
unfoldable pub topic_of : List ℕ → ℕ → Option G.Topic
topic_of id n = if n == 0 then none else some (record { id = id; count = n })

-- the ID of number t is set, where there is such a number, and every other stays
pub record Copied (id : List ℕ) (t : ℕ) (ids ids' : List ℕ) : Type 0 where
  pub there : t < topic_count → id_at ids' t ≡ id
  pub others : (k : ℕ) → (k ≢ t) → id_at ids' k ≡ id_at ids k
