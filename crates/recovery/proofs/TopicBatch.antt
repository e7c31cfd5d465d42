-- The batch of a topic event: its record 4 says the event.
use Prim.Native.Nat.{ℕ}
use mathlib.Core.Path.{◌≡◌, refl, ap, ◌∙◌}
use mathlib.Core.Bool.{Bool, true, false, ◌&&◌, true≢false}
use mathlib.Core.List.{List}
use mathlib.Core.Option.{none, some}
use lib.ListN.{length, get_or}
use Rattle.rules.specs.Basics.{any, empty}
use Rattle.rules.specs.Constants.{id_length}
use Rattle.rules.specs.Group.{Group, subscribes}
use Rattle.rules.specs.Records.{TopicMetadata, parts_of}
use Rattle.rules.specs.Event.{topic}
use Rattle.rules.specs.Refusals.{count_changes, table, topic_bad, topic_changes, topic_raises}
use Rattle.rules.specs.Effects.{effect, only_if, topic_effect, topic_epoch, topic_records, with_topic}
use Rattle.rules.specs.Ledger.{gone}
use Rattle.rules.specs.Batches.{candidate, making, retimed, tried}
use Rattle.theorems.proofs.Accepting.{AllFalse}
use Rattle.recovery.proofs.Ticks.{alike_members, end_retimed, members_twice, subscribed_retimed}
use Rattle.recovery.proofs.Judging.{Found}

topic_candidate : (t : ℕ) (g : Group) (k : TopicMetadata) (raises : Bool) (e : ℕ) → candidate t g (topic_records true k raises e) ≡ some (making g k)
unfolding candidate topic_records only_if parts_of gone
topic_candidate t g k true e = refl
topic_candidate t g k false e = refl

-- an event that changes nothing writes nothing
changes : (x y : Bool) (k : TopicMetadata) (e : ℕ) → empty (topic_records x k (x && y) e) ≡ false → x ≡ true
unfolding topic_records only_if
changes true y k e h = refl
changes false y k e h = absurd (true≢false h)

module _ (t : ℕ) (g : Group) (k : ℕ) (id : List ℕ) (n : ℕ) where
  same_bad : topic_bad (retimed t g) k id n ≡ topic_bad g k id n
  unfolding topic_bad retimed
  same_bad = refl

  same_changes : topic_changes (retimed t g) k n ≡ topic_changes g k n
  unfolding topic_changes retimed
  same_changes = refl

  same_raises : topic_raises (retimed t g) k n ≡ topic_raises g k n
  unfolding topic_raises topic_changes retimed
  same_raises = ap (λ (c : Bool). count_changes n (get_or g.topics k none) && c) (subscribed_retimed t g k)

  same_epoch : topic_epoch (retimed t g) k n ≡ topic_epoch g k n
  unfolding topic_epoch retimed
  same_epoch = rw same_raises refl

  same_group : (u : ℕ) → retimed u (with_topic (retimed t g) k id n (topic_epoch (retimed t g) k n)) ≡ retimed u (with_topic g k id n (topic_epoch g k n))
  unfolding with_topic retimed
  same_group u =
      alike_members u (with_topic (retimed t g) k id n (topic_epoch (retimed t g) k n)) (with_topic g k id n (topic_epoch g k n))
      same_epoch refl refl (members_twice t u g.members) refl

  change : empty (effect g (topic k id n)).records ≡ false → topic_changes g k n ≡ true
  unfolding effect topic_effect topic_raises
  change h = changes (topic_changes g k n) (any (subscribes k) g.members) _ (topic_epoch g k n) h

  pub topic_found : length id ≡ id_length → AllFalse (table g (topic k id n)) → empty (effect g (topic k id n)).records ≡ false
      → Found t (retimed t g) (effect g (topic k id n)).records (effect g (topic k id n)).group
  unfolding effect topic_effect table making tried
  topic_found long rows some' =
      let made : TopicMetadata = record { number = k; id = id; count = n } in
      record {
        witness = making (retimed t g) made;
        found = ap (λ (c : Bool). candidate t (retimed t g) (topic_records c made (topic_raises g k n) (topic_epoch g k n))) (change some')
            ∙ topic_candidate t (retimed t g) made (topic_raises g k n) (topic_epoch g k n);
        typed = long;
        rows = (same_bad ∙ rows.0, (rw (same_raises, end_retimed t g) rows.1.0, tt));
        records = λ i. topic_records (same_changes i) made (same_raises i) (same_epoch i);
        group = same_group;
      }
