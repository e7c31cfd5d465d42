-- What a topic event comes to, by the tests of its rows; and the effect's records and group, by what the code decides.
use Rattle.std.specs.Prelude.{if◌then◌else◌}
use Rattle.std.proofs.Common.{ℕ, ◌<◌, arith, ◌≡◌, sym, ap, ◌∙◌, Bool, true, false, ◌&&◌, List, leb, set, ne_eqb}
use mathlib.Core.Option.{some}
use Rattle.std.specs.Bool.{then_some}
use Rattle.rules.specs.Constants.{last_epoch}
use Rattle.rules.specs.Group.{Group, raised}
use Rattle.rules.specs.Event.{topic}
use Rattle.rules.specs.Refusals.{first_of, table, topic_bad, topic_changes, topic_raises, at_end}
use Rattle.rules.specs.Effects.{effect, with_topic, topic_epoch, topic_records, topic_effect}
use Rattle.rules.specs.Step.{step, verdict, carry_out}
use Rattle.rules.specs.declared.Refusal.TheVariants.{BadTopic, EpochEnd}
use Rattle.tables.specs.View.{slots_in}
use Rattle.group.specs.Columns.{view_members}
use Rattle.group.specs.Topics.{topic_of}
use Rattle.group.specs.View.{view, topics_in}
use Rattle.group.specs.declared.Group as D
use Rattle.group.proofs.Rows.{raised_if}
use Rattle.records.specs.Storing.{topic_batch}
use Rattle.records.specs.Views.{view_topic_metadata}
use Rattle.records.specs.declared.batches.TopicBatch.{TopicBatch}
use Rattle.records.proofs.Batching.{topic_is_records}
use Rattle.events.specs.Outcomes.{carried}
use Rattle.events.proofs.Carrying.{denied}

-- ---- the rows

module _ (g : Group) (t : ℕ) (id : List ℕ) (n : ℕ) (b l : List ℕ) where
  pub row_bad : topic_bad g t id n ≡ true → step g (topic t id n) b l ≡ denied BadTopic g b l
  unfolding step verdict table first_of carry_out
  row_bad h = rw h

  module _ (h : topic_bad g t id n ≡ false) where
    pub row_end : (topic_raises g t n && at_end g) ≡ true → step g (topic t id n) b l ≡ denied EpochEnd g b l
    unfolding step verdict table first_of carry_out
    row_end e = rw (h, e)

    pub topic_step : (topic_raises g t n && at_end g) ≡ false → step g (topic t id n) b l ≡ carried g (topic_effect g t id n) b l
    unfolding step verdict table first_of carry_out carried effect
    topic_step e = rw (h, e)

-- ---- the effect

module _ (g : D.Group) (t n : ℕ) {raises : Bool} (hr : raises ≡ topic_raises (view g) t n) where
  -- row 1002 as the code tries it
  pub topic_end : {x : Bool} → x ≡ (raises && leb last_epoch g.head.epoch) → (topic_raises (view g) t n && at_end (view g)) ≡ x
  unfolding at_end view
  topic_end h = ap (λ (y : Bool). y && leb last_epoch g.head.epoch) (sym hr) ∙ sym h

  module _ (id : List ℕ) {e : ℕ} (x : (topic_raises (view g) t n && at_end (view g)) ≡ false) (he : e ≡ (if raises then raised g.head.epoch else g.head.epoch)) where
    epoch_is : e ≡ topic_epoch (view g) t n
    unfolding topic_epoch at_end view
    epoch_is = he ∙ ap (λ (y : Bool). if y then raised g.head.epoch else g.head.epoch) hr ∙ raised_if (topic_raises (view g) t n) g.head.epoch x

    pub topic_records_are : (b : TopicBatch) {changes : Bool} → changes ≡ topic_changes (view g) t n → b.topic ≡ then_some changes (record { number = t; id = id; count = n }) → b.epoch ≡ then_some raises (record { 0 = e })
        → topic_batch b ≡ (topic_effect (view g) t id n).records
    unfolding topic_effect view_topic_metadata
    topic_records_are b {changes} hc p q = topic_is_records b changes _ raises (record { 0 = e }) p q ∙ (λ i. topic_records (hc i) (record { number = t; id = id; count = n }) (hr i) (epoch_is i))

    pub topic_group : (g' : D.Group) → 0 < n → g'.head ≡ record { epoch = e; target_epoch = g.head.target_epoch; tick = g.head.tick } → g'.members ≡ g.members → g'.tables ≡ g.tables
        → topics_in g'.topics ≡ set (topics_in g.topics) t (topic_of id n) → view g' ≡ (topic_effect (view g) t id n).group
    unfolding topic_effect with_topic topic_of view
    topic_group g' pos h m s ts =
        let made : set (topics_in g.topics) t (topic_of id n) ≡ set (topics_in g.topics) t (some (record { id = id; count = n })) = rw (ne_eqb n 0 (λ z. omega (arith, z))) in
        (λ i. record {
          epoch = (h i).epoch;
          target_epoch = (h i).target_epoch;
          tick = (h i).tick;
          topics = (ts ∙ made) i;
          members = view_members (m i).cells;
          slots = slots_in (s i);
        })
        ∙ ap (with_topic (view g) t id n) epoch_is
