-- Request 4, 'Our own range assignor': a target for the group as it is. It is an assignor's, not the coordinator's: it counts once it is installed.
use Rattle.std.specs.Prelude.{ℕ, suc, ◌+◌, ◌-◌, ◌*◌, ◌/◌, ◌%◌, ◌≤◌, ◌<◌, min, ◌≡◌, ◌≢◌, ◌⊎◌, Bool, true, false, ◌&&◌, ◌||◌, List, [], ◌∷◌, ◌++◌, eqb, ltb, pos, length, get_or, replicate, if◌then◌else◌}
use Rattle.std.proofs.Math.Option.{none}
use Rattle.rules.specs.Basics.{case_of, concat_map, indices, keep, up_to}
use Rattle.rules.specs.Constants.{max_partitions, no_place, slot_count, topic_count}
use Rattle.rules.specs.Group.{Group, member_at, subscribes}
use Rattle.rules.specs.Records.{all_bytes}
use Rattle.rules.specs.Event.{Event, install, with_rule}
use Rattle.rules.specs.Refusals.{left_over}
use Rattle.rules.specs.Effects.{effect}
use Rattle.rules.specs.Step.{step}
use Rattle.rules.specs.declared.Refusal.{Refusal}
use Rattle.rules.specs.declared.Refusal.TheVariants.{Room}
use Rattle.rules.specs.declared.Answer.TheVariants.{Done, Refused}

-- ---- 'For each topic, take its subscribers in rising order of ID bytes'

-- whether one ID comes before another: by the first byte in which they differ
unfoldable pub precedes : List ℕ → List ℕ → Bool
precedes [] [] = false
precedes [] (y ∷ ys) = true
precedes (x ∷ xs) [] = false
precedes (x ∷ xs) (y ∷ ys) = ltb x y || (eqb x y && precedes xs ys)

-- places in rising order of their keys; places with equal keys, which no two members have, in the order in which they came
unfoldable pub insert_by : (ℕ → List ℕ) → ℕ → List ℕ → List ℕ
insert_by key p [] = p ∷ []
insert_by key p (q ∷ qs) = if precedes (key q) (key p) then q ∷ insert_by key p qs else p ∷ q ∷ qs

unfoldable pub sort_by : (ℕ → List ℕ) → List ℕ → List ℕ
sort_by key [] = []
sort_by key (p ∷ ps) = insert_by key p (sort_by key ps)

unfoldable pub id_at : Group → ℕ → List ℕ
id_at g p = (member_at g p).id

unfoldable pub subscribers_of : Group → ℕ → List ℕ
subscribers_of g t = sort_by (id_at g) (indices (subscribes t) 0 g.members)

-- ---- 'n partitions over k subscribers, the first n mod k get one more than the rest, each a run of neighbours, in order. With k = 0 none are given'

-- n: the slots of the topic that exist
unfoldable pub partitions_of : Group → ℕ → ℕ
partitions_of g t = case_of (get_or g.topics t none) 0 (λ k. min k.count max_partitions)

-- how many of the n the subscriber gets that comes after i others
unfoldable pub share : ℕ → ℕ → ℕ → ℕ
share n k i = if ltb i (n % k) then suc (n / k) else n / k

-- the owners of the topic's partitions, of whom the first comes after i others
unfoldable pub runs : ℕ → ℕ → ℕ → List ℕ → List ℕ
runs n k i [] = []
runs n k i (p ∷ ps) = replicate (share n k i) p ++ runs n k (suc i) ps

unfoldable pub owners_of : Group → ℕ → List ℕ
owners_of g t = let places = subscribers_of g t in runs (partitions_of g t) (length places) 0 places

-- the entries of a topic's 64 slots: those that are not given have none
unfoldable pub padded : List ℕ → List ℕ
padded owners = owners ++ replicate (max_partitions - length owners) no_place

unfoldable pub topic_target : Group → ℕ → List ℕ
topic_target g t = padded (owners_of g t)

unfoldable pub range_target : Group → List ℕ
range_target g = concat_map (topic_target g) (up_to 0 topic_count)

-- ---- what holds of it in every group, or in every one whose places are below 255, which means none. The proofs are in crates/theorems/proofs

-- an entry for each slot: those of topic t from slot 64t on
pub record ByTopic (g : Group) : Type 0 where
  pub long : length (range_target g) ≡ slot_count
  pub entry : (t p : ℕ) → t < topic_count → p < max_partitions → get_or (range_target g) (t * max_partitions + p) no_place ≡ get_or (topic_target g t) p no_place

abbrev pub RangeByTopic : Type 0
RangeByTopic = (g : Group) → ByTopic g

-- an install of it for the current epoch
abbrev pub range_install : Group → Event
range_install g = install with_rule (pos g.epoch) (range_target g)

-- 'The result must always be accepted by an install for the current epoch if T is below G and there is room for the records'
abbrev pub RangeAccepted : Type 0
RangeAccepted =
    (g : Group) → length g.members ≤ no_place → g.target_epoch < g.epoch
    → (buffer list : List ℕ) → length (all_bytes (effect g (range_install g)).records) ≤ length buffer
    → (step g (range_install g) buffer list).answer ≡ Done

-- so nothing but 1003 refuses it
abbrev pub RangeOnlyRoom : Type 0
RangeOnlyRoom =
    (g : Group) → length g.members ≤ no_place → g.target_epoch < g.epoch
    → (buffer list : List ℕ) (r : Refusal)
    → (step g (range_install g) buffer list).answer ≡ Refused r
    → r ≡ Room

-- request 3's rule holds of it: each existing slot whose topic some member subscribes to goes to a member that subscribes to it, and no other slot is given
pub record Gives (g : Group) (s : ℕ) : Type 0 where
  pub owned : left_over g s ≡ true → subscribes (s / max_partitions) (get_or g.members (get_or (range_target g) s no_place) none) ≡ true
  pub others : left_over g s ≡ false → get_or (range_target g) s no_place ≡ no_place

abbrev pub RangeGives : Type 0
RangeGives = (g : Group) (s : ℕ) → s < slot_count → Gives g s

-- p comes before q: by its ID, or where the IDs are equal by its place
abbrev pub Ahead : Group → ℕ → ℕ → Type 0
Ahead g p q = (precedes (id_at g p) (id_at g q) ≡ true) ⊎ ((id_at g p ≡ id_at g q) × (p < q))

-- how many partitions of topic t go to place p
abbrev pub share_of : Group → ℕ → ℕ → ℕ
share_of g t p = length (keep (λ e. eqb e p) (topic_target g t))

-- the shares of two subscribers differ by at most one, and who comes first has no smaller one
pub record Fair (g : Group) (t p q : ℕ) : Type 0 where
  pub by_one : share_of g t p ≤ share_of g t q + 1
  pub first_more : Ahead g p q → share_of g t q ≤ share_of g t p

abbrev pub RangeFair : Type 0
RangeFair =
    (g : Group) → length g.members ≤ no_place → (t p q : ℕ)
    → subscribes t (get_or g.members p none) ≡ true → subscribes t (get_or g.members q none) ≡ true
    → Fair g t p q

-- each share is a run of neighbours, and of two shares that comes first whose owner does
pub record InRuns (g : Group) (t : ℕ) : Type 0 where
  pub neighbours : (x y z : ℕ) → x ≤ y → y ≤ z → get_or (topic_target g t) x no_place ≡ get_or (topic_target g t) z no_place
      → get_or (topic_target g t) y no_place ≡ get_or (topic_target g t) x no_place
  pub ordered : (x y : ℕ) → x ≤ y → get_or (topic_target g t) y no_place ≢ no_place
      → (get_or (topic_target g t) x no_place ≡ get_or (topic_target g t) y no_place) ⊎ Ahead g (get_or (topic_target g t) x no_place) (get_or (topic_target g t) y no_place)

abbrev pub RangeInRuns : Type 0
RangeInRuns = (g : Group) → length g.members ≤ no_place → (t : ℕ) → InRuns g t

-- two groups with the same topics, the same subscriptions and the same IDs
pub record Alike (g h : Group) : Type 0 where
  pub topics : g.topics ≡ h.topics
  pub places : length g.members ≡ length h.members
  pub subscribed : (t p : ℕ) → subscribes t (get_or g.members p none) ≡ subscribes t (get_or h.members p none)
  pub named : (p : ℕ) → id_at g p ≡ id_at h p

-- it depends on nothing else
abbrev pub RangeOfAlike : Type 0
RangeOfAlike = (g h : Group) → Alike g h → range_target g ≡ range_target h

-- all of them
pub record RangeTheorems : Type 0 where
  pub by_topic : RangeByTopic
  pub accepted : RangeAccepted
  pub only_room : RangeOnlyRoom
  pub gives : RangeGives
  pub fair : RangeFair
  pub in_runs : RangeInRuns
  pub of_alike : RangeOfAlike
