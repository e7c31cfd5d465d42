-- Request 4 of 02, 'Our own range assignor'.
use Rattle.std.specs.Prelude.{ℕ, ◌≡◌, refl, List, [], ◌∷◌, ◌++◌, replicate}
use Rattle.std.proofs.Math.Option.{Option, none}
use Rattle.rules.specs.Basics.{up_to}
use Rattle.rules.specs.Group.{Group, Member, Topic, includes_topic, member_at, nobody, subscribes}
use Rattle.rules.specs.Assignor.{id_at, insert_by, owners_of, padded, partitions_of, precedes, range_target, runs, share, sort_by, subscribers_of, topic_target}
use Rattle.examples.specs.Rows.{aa, bb, cc, dd, entries, group_with, member, no_place, topic_of}

-- every definition is open here, so that a target is computed
unfoldable pub target : Group → List ℕ
unfolding up_to includes_topic subscribes nobody member_at precedes insert_by sort_by id_at subscribers_of partitions_of share runs owners_of padded topic_target range_target
target g = range_target g

-- the owners of the partitions of topic 0
unfoldable pub owners : Group → List ℕ
unfolding includes_topic subscribes nobody member_at precedes insert_by sort_by id_at subscribers_of partitions_of share runs owners_of
owners g = owners_of g 0

-- who has an ID and a subscription; the rest is not looked at
abbrev pub named : List ℕ → ℕ → Option Member
named id subscription = member id 7 subscription 300 5 5

abbrev pub with : List (Option Topic) → List (Option Member) → Group
with topics members = group_with topics 9 2 5 members []

-- Topic 0 has 7 partitions for AA*, BB* and CC*, of whom AA* is at place 1: 'the first n mod k get one more than the rest, each a run of neighbours, in order'.
-- Topic 1 has 2 for BB*, CC* and DD*, and DD* gets none; nobody subscribes to topic 2: 'With k = 0 none are given'. DD* subscribes to topic 3 too, which there is not
pub by_topics :
    target (with (topic_of 0x11 7 ∷ topic_of 0x12 2 ∷ topic_of 0x13 5 ∷ []) (named bb 3 ∷ named aa 1 ∷ named cc 3 ∷ named dd 10 ∷ []))
    ≡ entries (1 ∷ 1 ∷ 1 ∷ 0 ∷ 0 ∷ 2 ∷ 2 ∷ (replicate 57 no_place ++ 0 ∷ 2 ∷ []))
unfolding target
by_topics = refl

-- a group without members, and one without topics
pub nothing_to_give : target (with (topic_of 0x11 7 ∷ []) []) ≡ entries []
unfolding target
nothing_to_give = refl

pub nothing_given : target (with [] (named aa 1 ∷ [])) ≡ entries []
unfolding target
nothing_given = refl

-- 'rising order of ID bytes': the first byte in which two IDs differ decides, not the last, and the number of the byte, not its sign
pub first_byte_first :
    owners (with (topic_of 0x11 3 ∷ []) (named (0x7F ∷ replicate 15 0xFF) 1 ∷ named (0x80 ∷ replicate 15 0) 1 ∷ named (0x7F ∷ replicate 15 0xFE) 1 ∷ []))
    ≡ 2 ∷ 0 ∷ 1 ∷ []
unfolding owners
first_byte_first = refl

pub last_byte_last : owners (with (topic_of 0x11 2 ∷ []) (named (replicate 15 0xAA ++ 2 ∷ []) 1 ∷ named (replicate 15 0xAA ++ 1 ∷ []) 1 ∷ [])) ≡ 1 ∷ 0 ∷ []
unfolding owners
last_byte_last = refl

-- equal IDs, which no two members have, go by place
pub equal_ids : owners (with (topic_of 0x11 3 ∷ []) (named bb 1 ∷ named aa 1 ∷ named aa 1 ∷ [])) ≡ 1 ∷ 2 ∷ 0 ∷ []
unfolding owners
equal_ids = refl

-- a place without a member between the others, and who subscribes to another topic
pub others_passed : owners (with (topic_of 0x11 5 ∷ []) (named cc 1 ∷ none ∷ named bb 2 ∷ named aa 1 ∷ [])) ≡ 3 ∷ 3 ∷ 3 ∷ 0 ∷ 0 ∷ []
unfolding owners
others_passed = refl

-- shares that come out even, and a topic of 64
pub even : owners (with (topic_of 0x11 64 ∷ []) (named bb 1 ∷ named aa 1 ∷ [])) ≡ replicate 32 1 ++ replicate 32 0
unfolding owners
even = refl
