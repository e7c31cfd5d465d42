-- What is written is the rules' target. The places in order, of which those that subscribe are kept, are the subscribers in order (`subscribers_are`): so are the
-- entries of each topic (`entries_are`) and of all (`all_are`). Then the entries one topic after another. Assumes nothing.
use Rattle.std.proofs.Common.{ℕ, zero, suc, ◌+◌, ◌-◌, ◌*◌, ◌≤◌, ◌<◌, min, zero-add, add-one, arith, ◌≡◌, refl, sym, ap, ap₂, ◌∙◌, true, false, List, [], ◌∷◌, ◌++◌, append-nil, eqb, length, get_or, length-append, drop_of_length-le, ne_eqb}
use mathlib.Core.Bool.{false≢true}
use mathlib.Core.List.{map}
use mathlib.Core.Option.{Option, none, some}
use Rattle.std.specs.Int.{w128, from_be_bytes}
use Rattle.rules.specs.Basics.{case_of, concat_map, default, indices, keep, up_to}
use Rattle.rules.specs.Constants.{max_members, max_partitions, slot_count, topic_count}
use Rattle.rules.specs.Group as G
use Rattle.rules.specs.Group.{includes_topic, member_at, nobody, subscribes, vacant}
use Rattle.rules.specs.Step.{overlay}
use Rattle.rules.specs.Assignor.{id_at, owners_of, partitions_of, precedes, range_target, runs, sort_by, subscribers_of, topic_target}
use Rattle.rules.proofs.Lists.{Listed}
use Rattle.ranges.proofs.Sorting.{Each, each_map, indices_keep, indices_pass, keep_sort, sort_same, up_rising}
use Rattle.ranges.proofs.Runs.{padded_long, runs_most}
use Rattle.numbers.specs.Buffer.{Wrote}
use Rattle.group.specs.Columns.{numbers_at, view_members}
use Rattle.group.specs.Entries.{subscription_of}
use Rattle.group.specs.Topics.{topic_of}
use Rattle.group.specs.Topics as T
use Rattle.group.specs.View.{view_topic, view_topics}
use Rattle.group.proofs.Columns.{members_long}
use Rattle.group.proofs.Installing.{subscribes_is, subscriptions_at}
use Rattle.group.proofs.PlaceTests.{somebody}
use Rattle.group.proofs.Putting.{made_at}
use Rattle.assignor.specs.Keys.{KeysOf, key_in}
use Rattle.assignor.specs.Shares.{all_entries, among, entries_of}
use Rattle.assignor.proofs.Numbering.{key_precedes}
use Rattle.assignor.proofs.Ordering.{sort_alike, up_below}

-- ---- of a group

-- a member that subscribes to something is there
there : (t : ℕ) (m : Option G.Member) → subscribes t m ≡ true → vacant m ≡ false
unfolding vacant subscribes
there t none e = absurd (false≢true e)
there t (some m) e = refl

count_of : (id : List ℕ) (k : ℕ) → min k max_partitions ≡ case_of (topic_of id k) 0 (λ (x : G.Topic). min x.count max_partitions)
unfolding topic_of
count_of id zero = refl
count_of id (suc k) = let z : eqb (suc k) 0 ≡ false = ne_eqb (suc k) 0 (λ q. omega (arith, q)) in rw z

topic_here : (ids cs : List ℕ) (t : ℕ) → t < topic_count → get_or (view_topics ids cs) t none ≡ topic_of (T.id_at ids t) (get_or cs t 0)
unfolding view_topics view_topic topic_of
topic_here ids cs t h = made_at (view_topic ids cs) none 0 topic_count t h ∙ ap (view_topic ids cs) (zero-add t)

all_same : (f h : ℕ → List ℕ) (P : ℕ → Type 0) → ((t : ℕ) → P t → f t ≡ h t) → (l : List ℕ) → Each P l → concat_map f l ≡ concat_map h l
all_same f h P e [] a = refl
all_same f h P e (t ∷ ts) a = ap₂ (λ (x y : List ℕ). x ++ y) (e t a.0) (all_same f h P e ts a.1)

module _ (g : G.Group) (ids counts : List ℕ) (topics : g.topics ≡ view_topics ids counts) (ms : List ℕ) (members : g.members ≡ view_members ms)
    (keys : List ℕ) (are : KeysOf ms keys) where
  abbrev named : ℕ → List ℕ
  named p = (numbers_at ms p).id

  abbrev order : List ℕ
  order = sort_by (key_in keys) (up_to 0 max_members)

  abbrev subscriptions : List ℕ
  subscriptions = map subscription_of (view_members ms)

  key_at : (p : ℕ) → p < max_members → key_in keys p ≡ from_be_bytes w128 (named p) ∷ []
  unfolding key_in
  key_at p h = ap (λ (x : ℕ). x ∷ []) (are.same p h)

  by_id : order ≡ sort_by named (up_to 0 max_members)
  by_id =
      sort_alike (key_in keys) named (λ p. p < max_members)
      (λ p q h k. ap₂ precedes (key_at p h) (key_at q k) ∙ key_precedes (named p) (named q) (are.named p h) (are.named q k))
      (up_to 0 max_members) (up_below 0 max_members)

  id_is : (t q : ℕ) → Listed (subscribes t) (view_members ms) 0 none q → named q ≡ id_at g q
  unfolding id_at member_at
  id_is t q h =
      let e : q ≡ h.0 = h.1 ∙ zero-add h.0 in
      let s : subscribes t (get_or (view_members ms) q none) ≡ true = ap (λ (k : ℕ). subscribes t (get_or (view_members ms) k none)) e ∙ h.3 in
      ap (λ (m : Option G.Member). (default nobody m).id) (sym (somebody ms q (there t _ s)))
      ∙ ap (λ (l : List (Option G.Member)). (default nobody (get_or l q none)).id) (sym members)

  kept : (t : ℕ) → keep (λ p. includes_topic t (get_or subscriptions p 0)) (up_to 0 max_members) ≡ indices (subscribes t) 0 (view_members ms)
  kept t =
      ap (λ (m : ℕ). keep (λ p. includes_topic t (get_or subscriptions p 0)) (up_to 0 m)) (sym (members_long ms))
      ∙ indices_keep (subscribes t) none (λ p. includes_topic t (get_or subscriptions p 0)) 0 (view_members ms)
      (λ k l. ap (λ (p : ℕ). includes_topic t (get_or subscriptions p 0)) (zero-add k) ∙ ap (includes_topic t) (subscriptions_at (view_members ms) k)
      ∙ sym (subscribes_is t (get_or (view_members ms) k none)))

  subscribers_are : (t : ℕ) → among order subscriptions t ≡ subscribers_of g t
  unfolding among subscribers_of
  subscribers_are t =
      ap (keep (λ p. includes_topic t (get_or subscriptions p 0))) by_id
      ∙ keep_sort named (λ p. includes_topic t (get_or subscriptions p 0)) (up_to 0 max_members) (up_rising 0 max_members)
      ∙ ap (sort_by named) (kept t)
      ∙ sort_same named (id_at g) (indices (subscribes t) 0 (view_members ms))
      (each_map (id_is t) (indices (subscribes t) 0 (view_members ms)) (indices_pass (subscribes t) none 0 (view_members ms)))
      ∙ ap (λ (l : List (Option G.Member)). sort_by (id_at g) (indices (subscribes t) 0 l)) (sym members)

  partitions_are : (t : ℕ) → t < topic_count → min (get_or counts t 0) max_partitions ≡ partitions_of g t
  unfolding partitions_of
  partitions_are t h =
      count_of (T.id_at ids t) (get_or counts t 0)
      ∙ ap (λ (x : Option G.Topic). case_of x 0 (λ (k : G.Topic). min k.count max_partitions))
      (sym (ap (λ (l : List (Option G.Topic)). get_or l t none) topics ∙ topic_here ids counts t h))

  entries_are : (t : ℕ) → t < topic_count → entries_of order subscriptions counts t ≡ topic_target g t
  unfolding entries_of topic_target owners_of
  entries_are t h = rw (subscribers_are t, partitions_are t h)

  pub all_are : all_entries (sort_by (key_in keys) (up_to 0 max_members)) (map subscription_of (view_members ms)) counts ≡ range_target g
  unfolding all_entries range_target
  all_are = all_same (entries_of order subscriptions counts) (topic_target g) (λ t. t < topic_count) entries_are (up_to 0 topic_count) (up_below 0 topic_count)

-- ---- one topic after another

module _ (order subscriptions counts : List ℕ) where
  -- the entries of the topics from t on
  abbrev pub From : ℕ → List ℕ
  From t = concat_map (entries_of order subscriptions counts) (up_to t (topic_count - t))

  pub entries_long : (t : ℕ) → length (entries_of order subscriptions counts t) ≡ max_partitions
  unfolding entries_of
  entries_long t =
      let n = min (get_or counts t 0) max_partitions in
      let ps = among order subscriptions t in
      padded_long (runs n (length ps) 0 ps) (omega (arith, runs_most n ps))

  pub from_start : From 0 ≡ all_entries order subscriptions counts
  unfolding all_entries
  from_start = refl

  pub from_next : (t : ℕ) → t < topic_count → From t ≡ entries_of order subscriptions counts t ++ From (t + 1)
  unfolding up_to
  from_next t h =
      let e : topic_count - t ≡ suc (topic_count - (t + 1)) = omega arith in
      rw (e, add-one t)

  pub from_end : (t : ℕ) → topic_count ≤ t → From t ≡ []
  unfolding up_to
  from_end t h = let e : topic_count - t ≡ 0 = omega arith in rw e

  from_long : (k t : ℕ) → length (concat_map (entries_of order subscriptions counts) (up_to t k)) ≡ k * max_partitions
  unfolding up_to
  from_long zero t = refl
  from_long (suc k) t = length-append (entries_of order subscriptions counts t) _ ∙ omega (arith, entries_long t, from_long k (suc t))

  pub all_long : length (all_entries order subscriptions counts) ≡ slot_count
  unfolding all_entries
  all_long = from_long topic_count 0

-- a list over all of a buffer
pub wrote_all : {w b last : List ℕ} {r : ℕ} → Wrote w b last r → length b ≤ length w → last ≡ w
unfolding overlay
wrote_all {w} {b} s h = s.bytes ∙ ap (λ (x : List ℕ). w ++ x) (drop_of_length-le b h) ∙ append-nil w
