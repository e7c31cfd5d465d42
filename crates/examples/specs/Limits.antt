-- The clock, the end of the epochs, room, and the order of the refusals.
use Rattle.std.specs.Prelude.{refl, [], ◌∷◌, ◌++◌, pos, negsuc}
use Rattle.std.proofs.Math.Option.{none, some}
use Rattle.rules.specs.Event.{sweep, topic}
use Rattle.rules.specs.declared.Refusal.TheVariants.{BadTopic, Clock, EpochEnd, FencedMemberEpoch, GroupMaxSizeReached, InvalidRequest, Room, UnknownMemberId}
use Rattle.rules.specs.declared.Answer.TheVariants.{Done, Left, Swept}
use Rattle.examples.specs.Running.{run}
use Rattle.examples.specs.Rows.{Runs, aa, answers, assigns, bb, cc, group, group_with, id, in_a, in_room, joining, leaving, one_member, ordinary, refuses, sent, topic_of, worker, workers}

-- 1001: 'tick 2^31 - 1 ahead accepted, 2^31 refused', of every event that has a tick
pub clock : Runs (one_member 1 5) (
    refuses (joining bb 2147483653) Clock
    ∷ refuses (ordinary aa 1 2147483653 none) Clock
    ∷ refuses (leaving aa 2147483653) Clock
    ∷ refuses (sweep 2147483653) Clock
    ∷ refuses (ordinary aa 1 4 none) Clock
    ∷ in_room 0 3 (assigns (ordinary aa 1 2147483652 none) 1 (0 ∷ 1 ∷ 2 ∷ []) []
    (group 1 1 2147483652 (worker aa 1 2147483652 5 ∷ []) (in_a 0 0 ∷ in_a 0 0 ∷ in_a 0 0 ∷ [])))
    ∷ [])
unfolding run
clock = refl

-- 1003: the buffer exact and one short (P2's 29 bytes)
pub buffer : Runs (group 0 0 0 [] []) (
    in_room 28 0 (refuses (joining aa 0) Room)
    ∷ in_room 29 0 (assigns (joining aa 0) 1 [] (0x05 ∷ 0x00 ∷ 0x01 ∷ (aa ++ 0xAC ∷ 0x02 ∷ 0x01 ∷ 0x03 ∷ 0x01 ∷ 0x08 ∷ 0x00 ∷ 0x01 ∷ 0x00 ∷ 0x00 ∷ []))
    (group 1 0 0 (worker aa 1 0 0 ∷ []) []))
    ∷ [])
unfolding run
buffer = refl

-- 1003: the list exact and one short; a sweep and a leave that don't fit
pub list_and_buffer : Runs (one_member 1 5) (
    in_room 64 2 (refuses (ordinary aa 1 6 none) Room)
    ∷ in_room 10 0 (refuses (sweep 45005) Room)
    ∷ in_room 10 0 (refuses (leaving aa 6) Room)
    ∷ in_room 0 3 (assigns (ordinary aa 1 6 none) 1 (0 ∷ 1 ∷ 2 ∷ []) []
    (group 1 1 6 (worker aa 1 6 5 ∷ []) (in_a 0 0 ∷ in_a 0 0 ∷ in_a 0 0 ∷ [])))
    ∷ [])
unfolding run
list_and_buffer = refl

-- G up to its largest value, 2,147,483,647; then 'a join, changed subscription or topic' gets 1002, and 'a leave .. still removes and G stays'
pub last_epoch_lem : Runs (group 2147483646 1 5 (worker aa 1 5 5 ∷ []) (in_a 0 0 ∷ [])) (
    assigns (joining bb 5) 2147483647 [] (0x05 ∷ 0x01 ∷ 0x01 ∷ (bb ++ 0xAC ∷ 0x02 ∷ 0x01 ∷ 0x03 ∷ 0xFF ∷ 0xFF ∷ 0xFF ∷ 0xFF ∷ 0x07 ∷ 0x08 ∷ 0x01 ∷ 0xFF ∷ 0xFF ∷ 0xFF ∷ 0xFF ∷ 0x07 ∷ 0x00 ∷ 0x00 ∷ []))
    (group 2147483647 1 5 (worker aa 1 5 5 ∷ worker bb 2147483647 5 5 ∷ []) (in_a 0 0 ∷ []))
    ∷ refuses (joining cc 5) EpochEnd
    ∷ refuses (joining aa 5) EpochEnd
    ∷ refuses (sent aa (pos 1) 5 (negsuc 0) (some 2) none) EpochEnd
    ∷ refuses (topic 0 (id 0x11) 4) EpochEnd
    -- what does not raise G is accepted
    ∷ assigns (sent aa (pos 1) 5 (pos 300) (some 1) none) 1 (0 ∷ []) []
    (group 2147483647 1 5 (worker aa 1 5 5 ∷ worker bb 2147483647 5 5 ∷ []) (in_a 0 0 ∷ []))
    ∷ answers (topic 0 (id 0x11) 3) Done []
    (group 2147483647 1 5 (worker aa 1 5 5 ∷ worker bb 2147483647 5 5 ∷ []) (in_a 0 0 ∷ []))
    ∷ answers (topic 1 (id 0x12) 4) Done (0x04 ∷ 0x01 ∷ (id 0x12 ++ 0x04 ∷ []))
    (group_with (topic_of 0x11 3 ∷ topic_of 0x12 4 ∷ []) 2147483647 1 5 (worker aa 1 5 5 ∷ worker bb 2147483647 5 5 ∷ []) (in_a 0 0 ∷ []))
    ∷ answers (leaving bb 6) Left (0x08 ∷ 0x01 ∷ 0x00 ∷ 0x05 ∷ 0x01 ∷ 0x00 ∷ [])
    (group_with (topic_of 0x11 3 ∷ topic_of 0x12 4 ∷ []) 2147483647 1 6 (worker aa 1 5 5 ∷ []) (in_a 0 0 ∷ []))
    ∷ answers (sweep 45005) (Swept 1) (0x08 ∷ 0x00 ∷ 0x00 ∷ 0x07 ∷ 0x00 ∷ 0x00 ∷ 0x05 ∷ 0x00 ∷ 0x00 ∷ [])
    (group_with (topic_of 0x11 3 ∷ topic_of 0x12 4 ∷ []) 2147483647 1 45005 [] [])
    ∷ [])
unfolding run
last_epoch_lem = refl

-- the order of the rows, at events to which two apply: 1001 before 42, 42 before 25, 25 before 110, 110 before 42 again
pub order_of_heartbeat : Runs (one_member 1 5) (
    refuses (ordinary (id 0) 1 2147483653 none) Clock
    ∷ refuses (leaving (id 0) 2147483653) Clock
    ∷ refuses (sent aa (negsuc 1) 2147483653 (negsuc 0) none none) Clock
    ∷ refuses (ordinary bb 1 5 (some (3 ∷ 3 ∷ []))) InvalidRequest
    ∷ refuses (ordinary bb 9 5 none) UnknownMemberId
    ∷ refuses (ordinary aa 2 5 (some (9 ∷ []))) FencedMemberEpoch
    ∷ [])
unfolding run
order_of_heartbeat = refl

-- 42 again before 1002, 1002 before 1003; of topics 1007 before 1002
pub order_at_last_epoch : Runs (one_member 2147483647 5) (
    refuses (sent aa (pos 1) 5 (negsuc 0) (some 2) (some (9 ∷ []))) InvalidRequest
    ∷ in_room 0 0 (refuses (sent aa (pos 1) 5 (negsuc 0) (some 2) none) EpochEnd)
    ∷ in_room 0 0 (refuses (joining bb 5) EpochEnd)
    ∷ in_room 0 0 (refuses (topic 0 (id 0x11) 4) EpochEnd)
    ∷ refuses (topic 0 (id 0x11) 65) BadTopic
    ∷ [])
unfolding run
order_at_last_epoch = refl

-- of joins 42 before 81, 81 before 1002
pub order_of_join : Runs (group 2147483647 0 1000 (workers 1 32) []) (
    refuses (sent (id 0xC8) (pos 0) 1000 (pos 0) (some 1) (some [])) InvalidRequest
    ∷ refuses (joining (id 0xC8) 1000) GroupMaxSizeReached
    ∷ refuses (joining (id 0x07) 1000) EpochEnd
    ∷ [])
unfolding run
order_of_join = refl
