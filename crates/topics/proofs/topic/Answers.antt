-- At each return the tests that led there say which row applies, or that none does; then the records and the group are those of the effect.
use Rattle.std.proofs.Common.{arith, refl, sym, ◌∙◌}
use Rattle.rules.specs.Effects.{topic_effect}
use Rattle.group.specs.View.{view}
use Rattle.group.proofs.Rows.{topic_good}
use Rattle.events.proofs.Carrying.{refusal}
use Rattle.events.proofs.Ending.{no_room, written}
use Rattle.topics.proofs.TopicRows.{row_bad, row_end, topic_step, topic_end, topic_records_are, topic_group}
use Rattle.topics.proofs.topic.Goals as goal

pub returns-then-is_bad_topic : goal.returns-then-is_bad_topic
returns-then-is_bad_topic c =
    let a = c.args in
    λ l. refusal (row_bad (view a.group.now) a.number a.id a.count a.records.now l (sym c.is_bad_topic.ensures ∙ c.if-is_bad_topic.true))

pub returns-then-past_end : goal.returns-then-past_end
returns-then-past_end c =
    let a = c.args in
    let g = a.group.now in
    let good = sym c.is_bad_topic.ensures ∙ c.if-is_bad_topic.false in
    λ l. refusal (row_end (view g) a.number a.id a.count a.records.now l good (topic_end g a.number a.count c.topic_raises-raises.ensures c.past_end.ensures ∙ c.if-past_end.true))

pub returns-in_err-written : goal.returns-in_err-written
returns-in_err-written c =
    let a = c.args in
    let g = a.group.now in
    let good = sym c.is_bad_topic.ensures ∙ c.if-is_bad_topic.false in
    let rises = topic_end g a.number a.count c.topic_raises-raises.ensures c.past_end.ensures ∙ c.if-past_end.false in
    let is = topic_records_are g a.number a.count c.topic_raises-raises.ensures a.id rises c.epoch_after-epoch.ensures _ c.topic_changes-changes.ensures c.then_some.ensures c.then_some-2.ensures in
    λ l. no_room g a.records.now l (topic_effect (view g) a.number a.id a.count) is (topic_step (view g) a.number a.id a.count a.records.now l good rises)
    c.from_residual.result c.from_residual.ensures.1 c.in_err-written.ensures

pub overflow_cast-count : goal.overflow_cast-count
overflow_cast-count c =
    let a = c.args in
    let good = topic_good (view a.group.now) a.number a.id a.count (sym c.is_bad_topic.ensures ∙ c.if-is_bad_topic.false) in
    record { fits = omega (arith, good.2) }

pub returns : goal.returns
unfolding topic_effect
returns c =
    let a = c.args in
    let g = a.group.now in
    let good = sym c.is_bad_topic.ensures ∙ c.if-is_bad_topic.false in
    let rises = topic_end g a.number a.count c.topic_raises-raises.ensures c.past_end.ensures ∙ c.if-past_end.false in
    let is = topic_records_are g a.number a.count c.topic_raises-raises.ensures a.id rises c.epoch_after-epoch.ensures _ c.topic_changes-changes.ensures c.then_some.ensures c.then_some-2.ensures in
    let after = topic_group g a.number a.count c.topic_raises-raises.ensures a.id rises c.epoch_after-epoch.ensures _ (topic_good (view g) a.number a.id a.count good).1 refl refl refl c.put.ensures in
    λ l. (tt, refl, written g a.records.now l (topic_effect (view g) a.number a.id a.count) is (topic_step (view g) a.number a.id a.count a.records.now l good rises) _ refl c.in_ok-written.ensures refl after)
