-- No event of a legible group, as every reached one is, stores more than `batch_limit` bytes, nor tells more than `slot_count` slots. A number takes a byte for each seven bits, so that
-- a place takes one, a slot or the size of a set two, an epoch five. A slot is in A or in P of one place, and in the target of one place: so all the sets
-- that one event stores have at most `slot_count` elements together.
use Prim.Native.Nat.{ℕ, zero, suc, ◌+◌, ◌-◌, ◌*◌, ◌/◌, ◌≤◌, ◌<◌}
use native.Mathlib.Omega.{arith}
use mathlib.Core.Path.{◌≡◌, refl, ◌∙◌}
use mathlib.Core.Logic.{⊎_elim}
use mathlib.Core.Bool.{Bool, true, false, ◌&&◌, ◌||◌, true≢false}
use mathlib.Core.List.{List, [], ◌∷◌, ◌++◌}
use mathlib.Core.Option.{none}
use lib.ListN.{length, length-append}
use lib.Dec.{eqb, ltb}
use borrow.Author.Tests.{eqb-true, lt-ltb, ltb-true, ne_eqb}
use Rattle.rules.specs.Basics.{all, any, concat_map, indices, keep, rising, up_to}
use Rattle.rules.specs.Constants.{batch_limit, id_length, last_epoch, max_members, max_partitions, max_timeout, slot_count, subscription_count, topic_count}
use Rattle.rules.specs.Group.{Group, SlotState, assigned, is_member, known, place_of, revoking, set_a, set_m, set_p, targeted}
use Rattle.rules.specs.Records.{CurrentAssignment, MemberMetadata, Record, TargetAssignment, TopicMetadata, all_bytes, bytes_of, current_gone, current_is, differences, group_epoch, groups, member_gone, member_is, number, set_bytes, target_epoch, target_is, topic_is}
use Rattle.rules.specs.Event.{Event, Request, heartbeat, install, sweep, topic}
use Rattle.rules.specs.Refusals.{Kind, first_of, heartbeat_table, invalid, is_slot_set, joins, kind_of, leaves, ordinary, sender_of, table}
use Rattle.rules.specs.Effects.{changed, current_after, current_of, effect, epoch_after, gone_records, heartbeat_effect, install_effect, install_records, join_at, join_effect, join_place, join_records, joined_at, joiner, leave_at, leave_effect, leave_records, member_after, metadata_of, moves, no_target, only_if, ordinary_at, ordinary_records, overdue, overdue_places, removal_records, retargeted, slots_after, sweep_effect, sweep_of, sweep_records, target_record, topic_effect, topic_records, updates, with_topic, group_epoch_after}
use Rattle.rules.specs.Course.{Typed}
use Rattle.rules.specs.Batches.{Legible}
use Rattle.rules.specs.Theorems.{BatchFits, NeverRoom, WithinLimits}
use Rattle.rules.proofs.Lists.{and_true, find_lt, not_is_false}
use Rattle.theorems.proofs.Cases.{by_cases, if_cases}
use Rattle.theorems.proofs.Refusing.{room_only_then}
use Rattle.theorems.proofs.Accepting.{AllFalse, rows_false}
use Rattle.theorems.proofs.ReadBack.{empty_set, slot_set}
use Rattle.theorems.proofs.Moves.{length_retargeted, moves_advanced}
use Rattle.theorems.proofs.SingleHolder.{join_place_lem}
use Rattle.theorems.proofs.Untouched.{good_topic}
use Rattle.theorems.proofs.Bounds.{accepted_last, heartbeat_last, joiner_in_range}
use Rattle.theorems.proofs.Legible.{legible_reached, sender_stays_in_range}

-- ---- numbers

-- every number below `limit` takes at most `k` bytes
abbrev Short : ℕ → ℕ → Type 0
Short k limit = (fuel n : ℕ) → n < limit → length (groups fuel n) ≤ k

short_1 : Short 1 128
unfolding groups
short_1 zero n h = omega arith
short_1 (suc fuel) n h = rw (lt-ltb n 128 h) (omega arith)

short_more : (k limit : ℕ) → Short k limit → Short (suc k) (limit * 128)
unfolding groups
short_more k limit s zero n h = omega arith
short_more k limit s (suc fuel) n h = if_cases (λ (l : List ℕ). length l ≤ suc k) (ltb n 128) (λ _. omega arith) (λ _. omega (arith, s fuel (n / 128) (omega arith)))

short_2 : Short 2 16384
short_2 = short_more 1 128 short_1

short_3 : Short 3 2097152
short_3 = short_more 2 16384 short_2

short_5 : Short 5 34359738368
short_5 = short_more 4 268435456 (short_more 3 2097152 short_3)

bytes : (k limit : ℕ) → Short k limit → (n : ℕ) → n < limit → length (number n) ≤ k
unfolding number
bytes k limit s n h = s n n h

place_size : (p : ℕ) → p < max_members → length (number p) ≤ 1
place_size p h = bytes 1 128 short_1 p (omega arith)

epoch_size : (e : ℕ) → e ≤ last_epoch → length (number e) ≤ 5
epoch_size e h = bytes 5 34359738368 short_5 e (omega arith)

-- ---- sets

differences_size : (s : List ℕ) (from : ℕ) → all (λ x. ltb x slot_count) s ≡ true → length (differences from s) ≤ 2 * length s
unfolding differences
differences_size [] from h = omega arith
differences_size (x ∷ xs) from h =
    let k = and_true (ltb x slot_count) (all (λ y. ltb y slot_count) xs) h in
    simp length-append (omega (arith, bytes 2 16384 short_2 (x - from) (omega (arith, ltb-true x slot_count k.0)), differences_size xs x k.1))

set_size : (s : List ℕ) → is_slot_set s ≡ true → length s ≤ slot_count → length (set_bytes s) ≤ 2 + 2 * length s
unfolding set_bytes is_slot_set
set_size s h l =
    simp length-append (omega (arith, bytes 2 16384 short_2 (length s) (omega arith), differences_size s 0 (and_true (rising 0 s) (all (λ x. ltb x slot_count) s) h).1))

-- ---- how many pass a test

module _ {A : Type 0} where
  pub indices_size : (f : A → Bool) (n : ℕ) (l : List A) → length (indices f n l) ≤ length l
  indices_size f n [] = omega arith
  indices_size f n (x ∷ xs) =
      let h = indices_size f (suc n) xs in
      if_cases (λ (l : List ℕ). length l ≤ suc (length xs)) (f x) (λ _. omega arith) (λ _. omega arith)

  -- two tests that none passes both: those that pass one and those that pass the other are those that pass either
  indices_either : (f g : A → Bool) → ((x : A) → f x && g x ≡ false) → (n : ℕ) (l : List A)
      → length (indices f n l) + length (indices g n l) ≡ length (indices (λ x. f x || g x) n l)
  indices_either f g apart n [] = refl
  indices_either f g apart n (x ∷ xs) =
      let h = indices_either f g apart (suc n) xs in
      by_cases (f x)
      (λ e. let no : g x ≡ false = rw e at (apart x) in rw (e, no) (omega (arith, h)))
      (λ e. by_cases (g x) (λ q. rw (e, q) (omega (arith, h))) (λ q. rw (e, q) h))

-- a slot is not both in A and in P
not_both : (p : ℕ) (s : SlotState) → assigned p s && revoking p s ≡ false
unfolding assigned revoking
not_both p s = by_cases (eqb s.holder p) (λ e. by_cases s.waiting (λ w. rw (e, w) refl) (λ w. rw (e, w) refl)) (λ e. rw e refl)

held_size : (p : ℕ) (ss : List SlotState) → length (set_a p ss) + length (set_p p ss) ≤ length ss
unfolding set_a set_p
held_size p ss = omega (arith, indices_either (assigned p) (revoking p) (not_both p) 0 ss, indices_size (λ s. assigned p s || revoking p s) 0 ss)

-- whether a slot's target is one of these places
abbrev aims_at : List ℕ → SlotState → Bool
aims_at ps s = any (λ p. targeted p s) ps

-- a slot with target p has none of the k places from n on, which are above p
aims_below : (p n k : ℕ) → p < n → (s : SlotState) → s.target ≡ p → aims_at (up_to n k) s ≡ false
unfolding up_to targeted
aims_below p n zero h s e = refl
aims_below p n (suc k) h s e = rw (ne_eqb s.target n (λ q. omega arith)) (aims_below p (suc n) k (omega arith) s e)

aims_once : (n k : ℕ) (s : SlotState) → targeted n s && aims_at (up_to (suc n) k) s ≡ false
unfolding targeted
aims_once n k s = by_cases (eqb s.target n) (λ e. rw e (aims_below n (suc n) k (omega arith) s (eqb-true s.target n e))) (λ e. rw e refl)

-- the targets of place n and of the k places after it
targets_more : (n k : ℕ) (ss : List SlotState) → length (set_m n ss) + length (indices (aims_at (up_to (suc n) k)) 0 ss) ≡ length (indices (aims_at (up_to n (suc k))) 0 ss)
unfolding set_m up_to
targets_more n k ss = indices_either (targeted n) (aims_at (up_to (suc n) k)) (aims_once n k) 0 ss

-- ---- records

group_epoch_size : (e : ℕ) → e ≤ last_epoch → length (bytes_of (group_epoch e)) ≤ 6
unfolding bytes_of
group_epoch_size e h = omega (arith, epoch_size e h)

target_epoch_size : (e : ℕ) → e ≤ last_epoch → length (bytes_of (target_epoch e)) ≤ 6
unfolding bytes_of
target_epoch_size e h = omega (arith, epoch_size e h)

topic_size : (t : TopicMetadata) → t.number < topic_count → length t.id ≡ id_length → t.count ≤ max_partitions → length (bytes_of (topic_is t)) ≤ 19
unfolding bytes_of
topic_size t h long k = simp length-append (omega (arith, bytes 1 128 short_1 t.number (omega arith), bytes 1 128 short_1 t.count (omega arith)))

member_size : (m : MemberMetadata) → m.place < max_members → length m.id ≡ id_length → m.timeout ≤ max_timeout → m.subscription < subscription_count
    → length (bytes_of (member_is m)) ≤ 25
unfolding bytes_of
member_size m h long t s =
    simp length-append (omega (arith, place_size m.place h, bytes 3 2097152 short_3 m.timeout (omega arith), bytes 3 2097152 short_3 m.subscription (omega arith)))

member_gone_size : (p : ℕ) → p < max_members → length (bytes_of (member_gone p)) ≤ 3
unfolding bytes_of
member_gone_size p h = simp length-append (omega (arith, place_size p h))

current_gone_size : (p : ℕ) → p < max_members → length (bytes_of (current_gone p)) ≤ 3
unfolding bytes_of
current_gone_size p h = simp length-append (omega (arith, place_size p h))

target_size : (t : TargetAssignment) → t.place < max_members → is_slot_set t.slots ≡ true → length t.slots ≤ slot_count → length (bytes_of (target_is t)) ≤ 4 + 2 * length t.slots
unfolding bytes_of
target_size t h i l = simp length-append (omega (arith, place_size t.place h, set_size t.slots i l))

no_target_size : (p : ℕ) → p < max_members → length (bytes_of (no_target p)) ≤ 4
no_target_size p h = target_size (record { place = p; slots = [] }) h empty_set (omega arith)

current_size : (c : CurrentAssignment) → c.place < max_members → c.epoch ≤ last_epoch → is_slot_set c.assigned ≡ true → is_slot_set c.revoking ≡ true
    → length c.assigned + length c.revoking ≤ slot_count → length (bytes_of (current_is c)) ≤ 11 + 2 * slot_count
unfolding bytes_of
current_size c h k i j l =
    simp length-append (omega (arith, place_size c.place h, epoch_size c.epoch k, set_size c.assigned i (omega arith), set_size c.revoking j (omega arith)))

-- record 8 of a place: no slot is both assigned and revoking
current_of_size : (p e : ℕ) (ss : List SlotState) → p < max_members → e ≤ last_epoch → length ss ≡ slot_count → length (bytes_of (current_is (current_of p e ss))) ≤ 11 + 2 * slot_count
unfolding current_of set_a set_p
current_of_size p e ss h k w =
    current_size (current_of p e ss) h k (slot_set (assigned p) ss (omega arith)) (slot_set (revoking p) ss (omega arith)) (omega (arith, held_size p ss))

-- ---- lists of records

-- these records take at most n bytes
record AtMost (n : ℕ) (rs : List Record) : Type 0 where
  size : length (all_bytes rs) ≤ n

within : {k n : ℕ} {rs : List Record} → AtMost k rs → k ≤ n → AtMost n rs
within a h = record { size = omega (arith, a.size) }

no_records : AtMost 0 []
unfolding all_bytes
no_records = record { size = omega arith }

one_more : {n : ℕ} {rs : List Record} (k : ℕ) (r : Record) → length (bytes_of r) ≤ k → AtMost n rs → AtMost (k + n) (r ∷ rs)
unfolding all_bytes
one_more k r h a = record { size = simp length-append (omega (arith, a.size)) }

size_append : (a b : List Record) → length (all_bytes (a ++ b)) ≡ length (all_bytes a) + length (all_bytes b)
unfolding all_bytes
size_append [] b = omega arith
size_append (r ∷ rs) b = simp length-append (omega (arith, size_append rs b))

both : {k n : ℕ} {a b : List Record} → AtMost k a → AtMost n b → AtMost (k + n) (a ++ b)
both {a = a} {b = b} x y = record { size = omega (arith, size_append a b, x.size, y.size) }

only : (c : Bool) (k : ℕ) (r : Record) → length (bytes_of r) ≤ k → AtMost k (only_if c r)
unfolding only_if
only true k r h = within (one_more k r h no_records) (omega arith)
only false k r h = within no_records (omega arith)

-- ---- a join

join_size : (retargets : Bool) (m : MemberMetadata) (e : ℕ) → m.place < max_members → length m.id ≡ id_length → m.timeout ≤ max_timeout → m.subscription < subscription_count
    → e ≤ last_epoch → AtMost batch_limit (join_records retargets m e)
unfolding join_records joined_at
join_size retargets m e h long t s l =
    within
    (both (only retargets 4 (no_target m.place) (no_target_size m.place h))
    (one_more 25 (member_is m) (member_size m h long t s)
    (one_more 6 (group_epoch e) (group_epoch_size e l)
    (one_more (11 + 2 * slot_count) (current_is (joined_at m.place e)) (current_size (joined_at m.place e) h l empty_set empty_set (omega arith)) no_records))))
    (omega arith)

-- ---- a leave, and a sweep

gone_size : (p : ℕ) (retargets : Bool) → p < max_members → AtMost 10 (gone_records p retargets)
unfolding gone_records
gone_size p retargets h =
    one_more 3 (current_gone p) (current_gone_size p h)
    (both (only retargets 4 (no_target p) (no_target_size p h)) (one_more 3 (member_gone p) (member_gone_size p h) no_records))

leave_size : (p : ℕ) (retargets raises : Bool) (e : ℕ) → p < max_members → e ≤ last_epoch → AtMost batch_limit (leave_records p retargets raises e)
unfolding leave_records
leave_size p retargets raises e h l = within (both (gone_size p retargets h) (only raises 6 (group_epoch e) (group_epoch_size e l))) (omega arith)

removals_size : (f : ℕ → Bool) (ss : List SlotState) (n k : ℕ) → n + k ≤ max_members → AtMost (10 * k) (concat_map (removal_records ss) (keep f (up_to n k)))
unfolding keep up_to removal_records
removals_size f ss n zero h = no_records
removals_size f ss n (suc k) h =
    let a = removals_size f ss (suc n) k (omega arith) in
    if_cases (λ ps. AtMost (10 * suc k) (concat_map (removal_records ss) ps)) (f n)
    (λ _. within (both (gone_size n (any (targeted n) ss) (omega arith)) a) (omega arith)) (λ _. within a (omega arith))

sweep_size : (g : Group) (tick : ℕ) → (sweep_effect g tick).group.epoch ≤ last_epoch → AtMost batch_limit (sweep_effect g tick).records
unfolding sweep_effect sweep_of sweep_records overdue_places changed
sweep_size g tick l = within (both (removals_size (overdue g tick) g.slots 0 max_members (omega arith)) (only _ 6 (group_epoch _) (group_epoch_size _ l))) (omega arith)

-- ---- an ordinary heartbeat

ordinary_size : (updates : Bool) (m : MemberMetadata) (raises : Bool) (e : ℕ) (moves : Bool) (p E : ℕ) (ss : List SlotState)
    → m.place < max_members → length m.id ≡ id_length → m.timeout ≤ max_timeout → m.subscription < subscription_count → e ≤ last_epoch
    → p < max_members → E ≤ last_epoch → length ss ≡ slot_count → AtMost batch_limit (ordinary_records updates m raises e moves (current_of p E ss))
unfolding ordinary_records
ordinary_size updates m raises e moves p E ss h long t s l i k w =
    within
    (both (only updates 25 (member_is m) (member_size m h long t s))
    (both (only raises 6 (group_epoch e) (group_epoch_size e l))
    (only moves (11 + 2 * slot_count) (current_is (current_of p E ss)) (current_of_size p E ss i k w))))
    (omega arith)

-- ---- a topic

topic_records_size : (changes : Bool) (t : TopicMetadata) (raises : Bool) (e : ℕ) → t.number < topic_count → length t.id ≡ id_length → t.count ≤ max_partitions → e ≤ last_epoch
    → AtMost batch_limit (topic_records changes t raises e)
unfolding topic_records
topic_records_size changes t raises e h long k l =
    within (both (only changes 19 (topic_is t) (topic_size t h long k)) (only raises 6 (group_epoch e) (group_epoch_size e l))) (omega arith)

-- ---- an install

target_record_size : (before after : List SlotState) (p : ℕ) → length after ≤ slot_count → p < max_members → AtMost (4 + 2 * length (set_m p after)) (target_record before after p)
unfolding target_record set_m
target_record_size before after p w h =
    only _ _ _ (target_size (record { place = p; slots = set_m p after }) h (slot_set (targeted p) after w) (omega (arith, indices_size (targeted p) 0 after)))

targets_size : (before after : List SlotState) → length after ≤ slot_count → (n k : ℕ) → n + k ≤ max_members
    → AtMost (4 * k + 2 * length (indices (aims_at (up_to n k)) 0 after)) (concat_map (target_record before after) (up_to n k))
unfolding up_to
targets_size before after w n zero h = within no_records (omega arith)
targets_size before after w n (suc k) h =
    within (both (target_record_size before after n w (omega arith)) (targets_size before after w (suc n) k (omega arith))) (omega (arith, targets_more n k after))

install_size : (before after : List SlotState) (e : ℕ) → length after ≤ slot_count → e ≤ last_epoch → AtMost batch_limit (install_records before after e)
unfolding install_records
install_size before after e w l =
    within (both (targets_size before after w 0 max_members (omega arith)) (one_more 6 (target_epoch e) (target_epoch_size e l) no_records))
    (omega (arith, indices_size (aims_at (up_to 0 max_members)) 0 after))

-- ---- every accepted event

pub known_place : (g : Group) (id : List ℕ) → length g.members ≡ max_members → known g id ≡ true → place_of g id < max_members
unfolding known place_of
known_place g id sized e = omega (arith, find_lt (is_member id) g.members e)

module _ (g : Group) (v : Legible g) where
  heartbeat_fits : (b : Request) → Typed (heartbeat b) → (k : Kind) → AllFalse (heartbeat_table g b k) → WithinLimits (heartbeat_effect g b k)
  unfolding heartbeat_effect join_effect join_at joiner metadata_of leave_effect leave_at ordinary_at current_after member_after slots_after set_a heartbeat_table changed
  heartbeat_fits b typed joins rows =
      let range = joiner_in_range g b rows.0 typed.1 in
      record {
        records = (join_size _ (metadata_of (join_place g b) (joiner g b)) _ (omega (arith, (join_place_lem g b rows.1.0).inside, v.places)) typed.0
            range.timeout range.subscription (heartbeat_last g v.last b joins rows)).size;
        told = omega arith;
      }
  heartbeat_fits b typed leaves rows = record {
    records = (leave_size (place_of g b.id) _ _ _ (known_place g b.id v.places (not_is_false (known g b.id) rows.1.0)) (heartbeat_last g v.last b leaves rows)).size;
    told = omega arith;
  }
  heartbeat_fits b typed invalid rows = absurd (true≢false rows.0)
  heartbeat_fits b typed (ordinary e) rows =
      let s = sender_of g b in
      let wide : length (slots_after g s b) ≡ slot_count = (moves_advanced s.place g.slots b.owned).long ∙ v.wide in
      let place = known_place g b.id v.places (not_is_false (known g b.id) rows.1.0) in
      let range = sender_stays_in_range g v b e typed rows in
      record {
        records = (ordinary_size _ (metadata_of s.place (member_after g s b)) _ (group_epoch_after g s b) _ s.place (epoch_after g s b) (slots_after g s b)
            place typed.0 range.timeout range.subscription (heartbeat_last g v.last b (ordinary e) rows) place (omega (arith, range.epoch, v.last)) wide).size;
        told = omega (arith, indices_size (assigned s.place) 0 (slots_after g s b));
      }

  pub effect_fits : (e : Event) → Typed e → AllFalse (table g e) → WithinLimits (effect g e)
  unfolding effect table sweep_effect sweep_of topic_effect with_topic install_effect
  effect_fits (heartbeat b) typed rows = heartbeat_fits b typed (kind_of b.epoch) rows.1
  effect_fits (sweep tick) typed rows = record { records = (sweep_size g tick (accepted_last g (sweep tick) v.last rows)).size; told = omega arith }
  effect_fits (topic t id n) typed rows =
      let good = good_topic g t n id rows.0 in
      record { records = (topic_records_size _ (record { number = t; id = id; count = n }) _ _ good.number typed good.most (accepted_last g (topic t id n) v.last rows)).size; told = omega arith }
  effect_fits (install rule e entries) typed rows = record {
    records = (install_size g.slots (retargeted g.slots entries) g.epoch (omega (arith, length_retargeted g.slots entries, v.wide)) v.last).size;
    told = omega arith;
  }

-- ---- the theorems

pub accepted_fits : (g : Group) (e : Event) → first_of (table g e) ≡ none → Typed e → Legible g → WithinLimits (effect g e)
accepted_fits g e rows typed v = effect_fits g v e typed (rows_false g e rows)

pub batch_fits : BatchFits
batch_fits g r e typed rows = accepted_fits g e rows typed (legible_reached g r)

pub never_room : NeverRoom
never_room g r e typed buffer list roomy wide h =
    let k = room_only_then g e buffer list h in
    let f = batch_fits g r e typed k.0 in
    ⊎_elim (λ x. omega (arith, f.records)) (λ x. omega (arith, f.told)) k.1
