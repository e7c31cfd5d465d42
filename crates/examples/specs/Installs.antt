-- Installs: their refusals, which slot is reported, what they store and what they leave.
use Rattle.std.specs.Prelude.{ℕ, refl, [], ◌∷◌, ◌++◌, pos, negsuc, replicate}
use Rattle.rules.specs.Group.{Group}
use Rattle.rules.specs.Event.{install, with_rule}
use Rattle.rules.specs.Answers.{slot_number}
use Rattle.rules.specs.declared.Refusal.TheVariants.{Already, BadTarget, Room, Stale}
use Rattle.rules.specs.declared.Answer.TheVariants.{Done}
use Rattle.examples.specs.Running.{run}
use Rattle.examples.specs.Rows.{Runs, aa, answers, bb, entries, group, group_with, in_a, in_p, in_room, member, no_place, one_member, refuses, topic_of, unheld, worker}

-- the rows of an install in their order: the length before the epoch, the epoch before a bad entry and a slot left over
pub install_refused : Runs (one_member 2 5) (
    refuses (install with_rule (pos 2) (replicate 1023 no_place)) (BadTarget (slot_number 65535))
    ∷ refuses (install with_rule (pos 2) (replicate 1025 no_place)) (BadTarget (slot_number 65535))
    ∷ refuses (install with_rule (pos 9) []) (BadTarget (slot_number 65535))
    ∷ refuses (install with_rule (pos 9) (replicate 1024 9)) Stale
    ∷ refuses (install with_rule (pos 1) (entries (0 ∷ []))) Stale
    ∷ refuses (install with_rule (pos 3) (entries (0 ∷ []))) Stale
    ∷ refuses (install with_rule (negsuc 1) (entries (0 ∷ []))) Stale
    ∷ [])
unfolding run
install_refused = refl

-- 1005: 'T equals G', before a bad entry and a slot left over; and after 1004
pub already : Runs (one_member 1 5) (
    refuses (install with_rule (pos 1) (replicate 1024 9)) Already
    ∷ refuses (install with_rule (pos 1) (entries (0 ∷ 0 ∷ 0 ∷ []))) Already
    ∷ refuses (install with_rule (pos 1) (entries (0 ∷ []))) Already
    ∷ refuses (install with_rule (pos 2) (entries (0 ∷ []))) Stale
    ∷ [])
unfolding run
already = refl

-- 1006 again, 'first such slot reported': a place that is empty or above 31, a slot that doesn't exist, the first of several
pub bad_entry_lem : Runs (one_member 2 5) (
    refuses (install with_rule (pos 2) (replicate 1024 9)) (BadTarget (slot_number 0))
    ∷ refuses (install with_rule (pos 2) (entries (1 ∷ []))) (BadTarget (slot_number 0))
    ∷ refuses (install with_rule (pos 2) (entries (32 ∷ []))) (BadTarget (slot_number 0))
    ∷ refuses (install with_rule (pos 2) (entries (0 ∷ 254 ∷ []))) (BadTarget (slot_number 1))
    ∷ refuses (install with_rule (pos 2) (entries (0 ∷ 0 ∷ 1 ∷ 1 ∷ []))) (BadTarget (slot_number 2))
    ∷ refuses (install with_rule (pos 2) (entries (0 ∷ 0 ∷ 0 ∷ 0 ∷ []))) (BadTarget (slot_number 3))
    ∷ refuses (install with_rule (pos 2) (0 ∷ 0 ∷ 0 ∷ (replicate 1020 no_place ++ (0 ∷ [])))) (BadTarget (slot_number 1023))
    ∷ [])
unfolding run
bad_entry_lem = refl

-- 1006 again: 'whose member doesn't subscribe', by the topic of the slot
pub not_subscribed : Runs (group_with (topic_of 0x11 3 ∷ topic_of 0x12 1 ∷ []) 2 1 5 (member aa 1 2 300 5 5 ∷ worker bb 1 5 5 ∷ []) []) (
    refuses (install with_rule (pos 2) (entries (1 ∷ 0 ∷ []))) (BadTarget (slot_number 1))
    ∷ refuses (install with_rule (pos 2) (entries (1 ∷ 1 ∷ 1 ∷ (replicate 61 no_place ++ (1 ∷ []))))) (BadTarget (slot_number 64))
    ∷ [])
unfolding run
not_subscribed = refl

-- 1006 again: a slot of a topic that doesn't exist
pub missing_topic : Runs (group 2 1 5 (member aa 1 3 300 5 5 ∷ []) []) (
    refuses (install with_rule (pos 2) (entries (0 ∷ 0 ∷ 0 ∷ (replicate 61 no_place ++ (0 ∷ []))))) (BadTarget (slot_number 64))
    ∷ [])
unfolding run
missing_topic = refl

-- 'Slots may be left with none' where nobody subscribes; 'It replaces the target, and T becomes G'; A and P stay; '7 for each place whose set changed'
pub target_of_none : Runs (group 9 1 5 (member aa 1 2 300 5 5 ∷ []) (in_a 0 0 ∷ in_p 0 0 ∷ unheld 0 ∷ [])) (
    answers (install with_rule (pos 9) (replicate 1024 no_place)) Done (0x07 ∷ 0x00 ∷ 0x00 ∷ 0x06 ∷ 0x09 ∷ [])
    (group 9 9 5 (member aa 1 2 300 5 5 ∷ []) (in_a 0 no_place ∷ in_p 0 no_place ∷ []))
    ∷ [])
unfolding run
target_of_none = refl

-- the slots of topics 0 and 1 to place 0
abbrev two_topics : ℕ → Group
two_topics target =
    group_with (topic_of 0x11 1 ∷ topic_of 0x12 1 ∷ []) 2 target 5 (member aa 1 3 300 5 5 ∷ []) (unheld 0 ∷ (replicate 63 (unheld no_place) ++ unheld 0 ∷ []))

-- an install that changes no set has record 6 alone; the buffer exact and one short
pub same_target : Runs (two_topics 1) (
    in_room 1 0 (refuses (install with_rule (pos 2) (entries (0 ∷ (replicate 63 no_place ++ (0 ∷ []))))) Room)
    ∷ in_room 2 0 (answers (install with_rule (pos 2) (entries (0 ∷ (replicate 63 no_place ++ (0 ∷ []))))) Done (0x06 ∷ 0x02 ∷ []) (two_topics 2))
    ∷ [])
unfolding run
same_target = refl
