-- Topic events: their refusals, and when G rises.
use Rattle.std.specs.Prelude.{refl, [], ◌∷◌, ◌++◌, replicate}
use Rattle.std.proofs.Math.Option.{none}
use Rattle.rules.specs.Event.{topic}
use Rattle.rules.specs.declared.Refusal.TheVariants.{BadTopic}
use Rattle.rules.specs.declared.Answer.TheVariants.{Done}
use Rattle.examples.specs.Running.{run}
use Rattle.examples.specs.Rows.{Runs, aa, answers, bb, group, group_with, id, in_a, in_room, member, one_member, refuses, topic_of, worker}

-- 1007: 'number above 15, count not 1 to 64, ID zero, ID of another topic, known number with another ID, count falling'
pub bad_topic_lem : Runs (one_member 1 5) (
    refuses (topic 16 (id 0x12) 64) BadTopic
    ∷ refuses (topic 15 (id 0x12) 65) BadTopic
    ∷ refuses (topic 15 (id 0x12) 0) BadTopic
    ∷ refuses (topic 15 (id 0) 1) BadTopic
    ∷ refuses (topic 1 (id 0x11) 4) BadTopic
    ∷ refuses (topic 0 (id 0x12) 4) BadTopic
    ∷ refuses (topic 0 (id 0x12) 3) BadTopic
    ∷ refuses (topic 0 (id 0x11) 2) BadTopic
    ∷ [])
unfolding run
bad_topic_lem = refl

-- 'The same count again is accepted and changes nothing', and needs no room
pub same_count : Runs (one_member 1 5) (
    in_room 0 0 (answers (topic 0 (id 0x11) 3) Done []
    (group 1 1 5 (worker aa 1 5 5 ∷ []) (in_a 0 0 ∷ in_a 0 0 ∷ in_a 0 0 ∷ [])))
    ∷ [])
unfolding run
same_count = refl

-- 'a known one's count raised', and 'some member subscribes to the topic': G rises; a new topic that nobody subscribes to, number 15, count 64: it does not
pub topic_changes_lem : Runs (one_member 1 5) (
    answers (topic 0 (id 0x11) 4) Done (0x04 ∷ 0x00 ∷ (id 0x11 ++ 0x04 ∷ 0x03 ∷ 0x02 ∷ []))
    (group_with (topic_of 0x11 4 ∷ []) 2 1 5 (worker aa 1 5 5 ∷ []) (in_a 0 0 ∷ in_a 0 0 ∷ in_a 0 0 ∷ []))
    ∷ answers (topic 15 (id 0x12) 64) Done (0x04 ∷ 0x0F ∷ (id 0x12 ++ 0x40 ∷ []))
    (group_with (topic_of 0x11 4 ∷ (replicate 14 none ++ (topic_of 0x12 64 ∷ []))) 2 1 5 (worker aa 1 5 5 ∷ []) (in_a 0 0 ∷ in_a 0 0 ∷ in_a 0 0 ∷ []))
    ∷ [])
unfolding run
topic_changes_lem = refl

-- 'a topic in it need not exist': G rises when it is made; and does not where only a topic changes that nobody subscribes to
pub topic_subscribed_before : Runs (group 1 1 5 (none ∷ member bb 1 6 300 5 5 ∷ []) []) (
    answers (topic 1 (id 0x12) 1) Done (0x04 ∷ 0x01 ∷ (id 0x12 ++ 0x01 ∷ 0x03 ∷ 0x02 ∷ []))
    (group_with (topic_of 0x11 3 ∷ topic_of 0x12 1 ∷ []) 2 1 5 (none ∷ member bb 1 6 300 5 5 ∷ []) [])
    ∷ answers (topic 0 (id 0x11) 64) Done (0x04 ∷ 0x00 ∷ (id 0x11 ++ 0x40 ∷ []))
    (group_with (topic_of 0x11 64 ∷ topic_of 0x12 1 ∷ []) 2 1 5 (none ∷ member bb 1 6 300 5 5 ∷ []) [])
    ∷ [])
unfolding run
topic_subscribed_before = refl
