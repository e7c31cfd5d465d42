-- In every reached group no two members have the same ID, and no two topics; each ID has 16 bytes and is not zero. So a topic event with the topic's own ID
-- and count is accepted, and changes nothing.
use Prim.Native.Nat.{ℕ, ◌<◌, ◌≤◌}
use native.Mathlib.Omega.{arith}
use mathlib.Core.Path.{◌≡◌, refl, sym, ap, ◌∙◌}
use mathlib.Core.Logic.{◌≢◌}
use mathlib.Core.Bool.{true, false}
use mathlib.Core.List.{List, []}
use mathlib.Core.Option.{Option, none, some}
use lib.ListN.{length, get_or, set, replicate, length-set}
use lib.Seq.{get_or-set_other, get_or-set_same}
use borrow.Author.Tests.{le-leb, le-ltb, lt-leb, ne_eqb}
use Rattle.rules.specs.Basics.{any, same}
use Rattle.rules.specs.Constants.{id_length, max_partitions, topic_count}
use Rattle.rules.specs.Group.{Group, Member, Topic, fresh}
use Rattle.rules.specs.Records.{all_bytes}
use Rattle.rules.specs.Event.{Event, Request, heartbeat, install, sweep, topic}
use Rattle.rules.specs.Refusals.{Kind, allows, first_of, has_id, heartbeat_table, invalid, joins, kind_of, lacking, leaves, malformed, ordinary, table, topic_bad, topic_raises, zero_id}
use Rattle.rules.specs.Effects.{changed, effect, heartbeat_effect, install_effect, join_at, join_effect, joiner, leave_at, leave_effect, member_after, only_if, ordinary_at, sweep_effect, sweep_of, topic_effect, topic_records, with_target, with_topic}
use Rattle.rules.specs.Step.{too_little_room, verdict}
use Rattle.rules.specs.Course.{Typed}
use Rattle.rules.specs.Ledger.{Ledger, empty_ledger, reckon}
use Rattle.rules.specs.Batches.{retimed}
use Rattle.rules.specs.Accepted.{Accepted, Sized}
use Rattle.rules.specs.Theorems.{MemberIds, Reached, SameCountAccepted, TopicIds}
use Rattle.rules.proofs.Lists.{any_at, or_false, same_eq, same_ne, same_refl}
use Rattle.theorems.proofs.Cases.{eq_cases, never, some_inj}
use Rattle.theorems.proofs.Picks.{Each, any_none_at, each_absent, each_put, none_set, some_lt}
use Rattle.theorems.proofs.Accepting.{AllFalse, accepts}
use Rattle.theorems.proofs.Reaching.{members_have, reached_has}
use Rattle.theorems.proofs.SingleHolder.{InvG, accepted, fresh_inv, member_id, retimed_inv, seen_if}
use Rattle.theorems.proofs.Legible.{legible_reached}
use Rattle.theorems.proofs.Untouched.{good_topic, no_change, same_count}

-- ---- members

abbrev GoodId : List ℕ → Type 0
GoodId id = (length id ≡ id_length) × (zero_id id ≡ false)

abbrev GoodMember : Member → Type 0
GoodMember m = GoodId m.id

well_formed : (b : Request) → malformed b ≡ false → zero_id b.id ≡ false
unfolding malformed
well_formed b e = (or_false (zero_id b.id) _ e).0

-- a ledger that names the members
reached_ledger : (g : Group) → Reached g → (l : Ledger) × InvG l g
reached_ledger =
    reached_has (λ g. (l : Ledger) × InvG l g) (λ tick. (empty_ledger, fresh_inv tick))
    (λ g e typed h rows. (reckon h.0 (seen_if e (effect g e) [] []), accepted h.0 g e [] [] typed h.1 rows))
    (λ t g h. (h.0, retimed_inv t h.0 g h.1))

pub member_ids : (g : Group) → Reached g → MemberIds g
unfolding heartbeat_table joiner member_after
member_ids g r =
    let good = members_have GoodMember (λ g b ok rows. (ok.0, well_formed b (or_false (malformed b) (lacking b) rows.0).0)) (λ g b e ok rows _. (ok.0, well_formed b rows.0)) (λ t m h. h) g r in
    record {
      long = λ p m e. (good p m e).0;
      nonzero = λ p m e. (good p m e).1;
      distinct = λ p q m n e f same'. (reached_ledger g r).1.distinct p q n.id (member_id g.members p m e ∙ ap some same') (member_id g.members q n f);
    }

-- ---- topics

abbrev FineTopic : Topic → Type 0
FineTopic k = GoodId k.id × (0 < k.count) × (k.count ≤ max_partitions)

record Topics (l : List (Option Topic)) : Type 0 where
  long : length l ≡ topic_count
  each : Each FineTopic l
  distinct : (t u : ℕ) (j k : Topic) → get_or l t none ≡ some j → get_or l u none ≡ some k → j.id ≡ k.id → t ≡ u

-- a topic is set, with an ID that no other topic has
topic_put : (l : List (Option Topic)) (t : ℕ) (k : Topic) → t < length l → FineTopic k → any (has_id k.id) (set l t none) ≡ false → Topics l → Topics (set l t (some k))
unfolding has_id
topic_put l t k inside fine others v = record {
  long = length-set l t (some k) ∙ v.long;
  each = each_put FineTopic l t k fine v.each;
  distinct = λ u w i j e f same'. eq_cases u t
      (λ a. eq_cases w t (λ b. a ∙ sym b) (λ b. absurd (apart w j b (there w j b f) (sym same' ∙ here u i a e))))
      (λ a. eq_cases w t (λ b. absurd (apart u i a (there u i a e) (same' ∙ here w j b f))) (λ b. v.distinct u w i j (there u i a e) (there w j b f) same'));
}
  where
    here : (u : ℕ) (i : Topic) → u ≡ t → get_or (set l t (some k)) u none ≡ some i → i.id ≡ k.id
    here u i a e = ap (λ (x : Topic). x.id) (some_inj (sym (sym (get_or-set_same l t (some k) none inside) ∙ ap (λ (n : ℕ). get_or (set l t (some k)) n none) (sym a) ∙ e)))

    there : (u : ℕ) (i : Topic) → u ≢ t → get_or (set l t (some k)) u none ≡ some i → get_or l u none ≡ some i
    there u i a e = sym (get_or-set_other l t u (some k) none a) ∙ e

    apart : (u : ℕ) (i : Topic) → u ≢ t → get_or l u none ≡ some i → i.id ≡ k.id → ⊥
    apart u i a e same' =
        let h : has_id k.id (get_or (set l t none) u none) ≡ false = any_at (has_id k.id) none refl (set l t none) others u in
        same_ne i.id k.id (ap (has_id k.id) (sym (get_or-set_other l t u none none a ∙ e)) ∙ h) same'

heartbeat_topics : (g : Group) (b : Request) (k : Kind) → (heartbeat_effect g b k).group.topics ≡ g.topics
unfolding heartbeat_effect join_effect join_at leave_effect leave_at ordinary_at changed
heartbeat_topics g b joins = refl
heartbeat_topics g b leaves = refl
heartbeat_topics g b invalid = refl
heartbeat_topics g b (ordinary e) = refl

accepted_topics : (g : Group) (e : Event) → Typed e → Topics g.topics → AllFalse (table g e) → Topics (effect g e).group.topics
unfolding table effect sweep_effect sweep_of changed topic_effect with_topic install_effect with_target
accepted_topics g (heartbeat b) typed v rows = rw (heartbeat_topics g b (kind_of b.epoch)) v
accepted_topics g (sweep tick) typed v rows = v
accepted_topics g (topic t id n) typed v rows =
    let good = good_topic g t n id rows.0 in
    topic_put g.topics t (record { id = id; count = n }) (omega (arith, good.number, v.long)) ((typed, good.nonzero), good.least, good.most) good.others v
accepted_topics g (install rule e entries) typed v rows = v

reached_topics : (g : Group) → Reached g → Topics g.topics
unfolding fresh retimed
reached_topics = reached_has (λ g. Topics g.topics) (λ tick. none') accepted_topics (λ t g v. v)
  where
    none' : Topics (replicate topic_count none)
    none' = record {
      long = refl;
      each = each_absent FineTopic topic_count;
      distinct = λ t u j k e. absurd (each_absent (λ (_ : Topic). ⊥) topic_count t j e);
    }

pub topic_ids : (g : Group) → Reached g → TopicIds g
topic_ids g r =
    let v = reached_topics g r in
    record {
      long = λ t k e. (v.each t k e).0.0;
      nonzero = λ t k e. (v.each t k e).0.1;
      distinct = v.distinct;
      counts = λ t k e. ((v.each t k e).1, (v.each t k e).2);
    }

pub sized : (g : Group) → Reached g → Sized g
sized g r = let v = legible_reached g r in record { topics = (reached_topics g r).long; members = v.places; slots = v.wide }

-- ---- the same count again

module _ (g : Group) (r : Reached g) (t : ℕ) (k : Topic) (known : get_or g.topics t none ≡ some k) where
  inside : t < topic_count
  inside = omega (arith, some_lt g.topics t k known, (reached_topics g r).long)

  no_other : any (has_id k.id) (set g.topics t none) ≡ false
  unfolding has_id
  no_other = any_none_at (has_id k.id) none (set g.topics t none) (λ u _. eq_cases u t (own u) (other u))
    where
      own : (u : ℕ) → u ≡ t → has_id k.id (get_or (set g.topics t none) u none) ≡ false
      own u e = ap (has_id k.id) (ap (λ (n : ℕ). get_or (set g.topics t none) n none) e ∙ none_set g.topics t)

      distinct : (u : ℕ) → u ≢ t → (o : Option Topic) → get_or g.topics u none ≡ o → has_id k.id o ≡ false
      distinct u h none e = refl
      distinct u h (some j) e = never (same j.id k.id) (λ q. h ((topic_ids g r).distinct u t j k e known (same_eq j.id k.id q)))

      other : (u : ℕ) → u ≢ t → has_id k.id (get_or (set g.topics t none) u none) ≡ false
      other u h = rw (get_or-set_other g.topics t u none none h) (distinct u h (get_or g.topics u none) refl)

  allowed : allows k.id k.count (get_or g.topics t none) ≡ true
  unfolding allows
  allowed = rw known (rw (same_refl k.id, le-leb k.count k.count (omega arith)) refl)

  not_bad : topic_bad g t k.id k.count ≡ false
  unfolding topic_bad
  not_bad =
      let ids = topic_ids g r in
      let counts = ids.counts t k known in
      rw (lt-leb topic_count t inside, ne_eqb k.count 0 (λ e. omega (arith, counts.0)), le-ltb max_partitions k.count counts.1, ids.nonzero t k known, no_other, allowed) refl

  same_accepted : (buffer list : List ℕ) → Accepted g (topic t k.id k.count) buffer list
  unfolding verdict table first_of topic_raises effect topic_effect topic_records only_if too_little_room all_bytes
  same_accepted buffer list =
      accepts g (topic t k.id k.count) buffer list
      (rw (not_bad, no_change g t k.count k.id k known refl, le-ltb (length buffer) 0 (omega arith), le-ltb (length list) 0 (omega arith)) refl)

pub same_count_accepted : SameCountAccepted
same_count_accepted g r t k buffer list known = same_count g t k.count k.id k buffer list known refl (same_accepted g r t k known buffer list)
