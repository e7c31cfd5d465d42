-- The entries of the topics, from the places in order, the subscription at each place and the count of each topic.
use Rattle.std.specs.Prelude.{ℕ, ◌≤◌, min, ◌≡◌, List, length, get_or, take}
use Rattle.rules.specs.Basics.{concat_map, keep, up_to}
use Rattle.rules.specs.Constants.{max_members, max_partitions, topic_count}
use Rattle.rules.specs.Group.{includes_topic}
use Rattle.rules.specs.Assignor.{padded, runs}

-- those of the places that subscribe to topic t, in their order
unfoldable pub among : List ℕ → List ℕ → ℕ → List ℕ
among order subscriptions t = keep (λ p. includes_topic t (get_or subscriptions p 0)) order

-- the first n entries of an array of places are these
pub record Lists (places list : List ℕ) (n : ℕ) : Type 0 where
  pub size : length list ≡ max_members
  pub most : n ≤ max_members
  pub front : take n list ≡ places

-- the entries of topic t, and of all topics
unfoldable pub entries_of : List ℕ → List ℕ → List ℕ → ℕ → List ℕ
entries_of order subscriptions counts t =
    padded (runs (min (get_or counts t 0) max_partitions) (length (among order subscriptions t)) 0 (among order subscriptions t))

unfoldable pub all_entries : List ℕ → List ℕ → List ℕ → List ℕ
all_entries order subscriptions counts = concat_map (entries_of order subscriptions counts) (up_to 0 topic_count)
