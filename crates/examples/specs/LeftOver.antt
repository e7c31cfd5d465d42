-- Request 3 of 02, 'No slot left over': which slots are left over, which is reported, and what is not claimed.
use Rattle.std.specs.Prelude.{ℕ, ◌≡◌, refl, [], ◌∷◌, ◌++◌, pos, replicate}
use Rattle.std.proofs.Common.{arith}
use Rattle.std.proofs.Math.Option.{none}
use Rattle.rules.specs.Group.{Group, below_count, exists, free_slot, includes_topic, subscribes}
use Rattle.rules.specs.Event.{Event, install, topic, with_rule, without_rule}
use Rattle.rules.specs.Answers.{slot_number}
use Rattle.rules.specs.Accepted.{AllOwned}
use Rattle.rules.specs.declared.Refusal.TheVariants.{BadTarget}
use Rattle.rules.specs.declared.Answer.TheVariants.{Done}
use Rattle.examples.specs.Running.{run}
use Rattle.examples.specs.Rows.{Row, Runs, aa, answers, bb, entries, group_with, id, in_a, member, no_place, one_member, refuses, topic_of, unheld, worker}

-- an install that is refused for a slot
abbrev reports : Event → ℕ → Row
reports event slot = refuses event (BadTarget (slot_number slot))

-- the member of `one_member`, with another target epoch
abbrev one_member_at : ℕ → Group
one_member_at target = group_with (topic_of 0x11 3 ∷ []) 2 target 5 (worker aa 1 5 5 ∷ []) (in_a 0 0 ∷ in_a 0 0 ∷ in_a 0 0 ∷ [])

-- 'an install is 1006 also when an existing slot has no owner while some member subscribes to its topic': the first, a middle one, the last; the slots past
-- the count don't exist, and may be left with none
pub forgotten : Runs (one_member 2 5) (
    reports (install with_rule (pos 2) (entries [])) 0
    ∷ reports (install with_rule (pos 2) (entries (0 ∷ no_place ∷ 0 ∷ []))) 1
    ∷ reports (install with_rule (pos 2) (entries (0 ∷ 0 ∷ []))) 2
    ∷ answers (install with_rule (pos 2) (entries (0 ∷ 0 ∷ 0 ∷ []))) Done (0x06 ∷ 0x02 ∷ []) (one_member_at 2)
    ∷ [])
unfolding run
forgotten = refl

-- 'The first bad slot of either sort is reported': a slot left over and an entry with nobody at its place, in either order; an entry for a slot that doesn't
-- exist after one left over
pub either_sort : Runs (one_member 2 5) (
    reports (install with_rule (pos 2) (entries (no_place ∷ 9 ∷ 0 ∷ []))) 0
    ∷ reports (install with_rule (pos 2) (entries (9 ∷ no_place ∷ 0 ∷ []))) 0
    ∷ reports (install with_rule (pos 2) (entries (0 ∷ 0 ∷ no_place ∷ 0 ∷ []))) 2
    ∷ [])
unfolding run
either_sort = refl

-- AA* subscribes to topic 0, which has one partition, and BB* to `others`; topic 1 has two
abbrev two : ℕ → ℕ → Group
two others target =
    group_with (topic_of 0x11 1 ∷ topic_of 0x12 2 ∷ []) 2 target 5 (worker aa 1 5 5 ∷ member bb 2 others 300 5 5 ∷ []) (unheld 0 ∷ [])

-- 'but for a slot nobody subscribes to': topic 1, and topic 2 that there is not
pub nobody_subscribes : Runs (two 5 1) (answers (install with_rule (pos 2) (entries (0 ∷ []))) Done (0x06 ∷ 0x02 ∷ []) (two 5 2) ∷ [])
unfolding run
nobody_subscribes = refl

-- 'some member': not the one that another slot goes to
pub another_subscribes : Runs (two 3 1) (
    reports (install with_rule (pos 2) (entries (0 ∷ []))) 64
    ∷ reports (install with_rule (pos 2) (entries (0 ∷ (replicate 63 no_place ++ 1 ∷ [])))) 65
    ∷ [])
unfolding run
another_subscribes = refl

-- the last slot of all
pub last_slot : Runs (group_with (replicate 15 none ++ topic_of 0x1F 64 ∷ []) 2 1 5 (member aa 1 0x8000 300 5 5 ∷ []) []) (
    reports (install with_rule (pos 2) (replicate 960 no_place ++ (replicate 63 0 ++ (no_place ∷ [])))) 1023
    ∷ [])
unfolding run
last_slot = refl

-- 'Journals are read without this rule'
pub read_back : Runs (one_member 2 5) (
    answers (install without_rule (pos 2) (entries (0 ∷ 0 ∷ []))) Done (0x07 ∷ 0x00 ∷ 0x02 ∷ 0x00 ∷ 0x01 ∷ 0x06 ∷ 0x02 ∷ [])
    (group_with (topic_of 0x11 3 ∷ []) 2 2 5 (worker aa 1 5 5 ∷ []) (in_a 0 0 ∷ in_a 0 0 ∷ in_a 0 no_place ∷ []))
    ∷ [])
unfolding run
read_back = refl

-- ---- it is a rule of installs alone

-- topic 0 has four partitions now, for which AA*'s target is not made yet
abbrev grown : Group
grown = group_with (topic_of 0x11 4 ∷ []) 3 2 5 (worker aa 1 5 5 ∷ []) (in_a 0 0 ∷ in_a 0 0 ∷ in_a 0 0 ∷ [])

-- a topic grows after an accepted install, and its new slot has none until the next
pub grows_later : Runs (one_member 2 5) (
    answers (install with_rule (pos 2) (entries (0 ∷ 0 ∷ 0 ∷ []))) Done (0x06 ∷ 0x02 ∷ []) (one_member_at 2)
    ∷ answers (topic 0 (id 0x11) 4) Done (0x04 ∷ 0x00 ∷ (id 0x11 ++ 0x04 ∷ 0x03 ∷ 0x03 ∷ [])) grown
    ∷ reports (install with_rule (pos 3) (entries (0 ∷ 0 ∷ 0 ∷ []))) 3
    ∷ answers (install with_rule (pos 3) (entries (0 ∷ 0 ∷ 0 ∷ 0 ∷ []))) Done (0x07 ∷ 0x00 ∷ 0x04 ∷ 0x00 ∷ 0x01 ∷ 0x01 ∷ 0x01 ∷ 0x06 ∷ 0x03 ∷ [])
    (group_with (topic_of 0x11 4 ∷ []) 3 3 5 (worker aa 1 5 5 ∷ []) (in_a 0 0 ∷ in_a 0 0 ∷ in_a 0 0 ∷ unheld 0 ∷ []))
    ∷ [])
unfolding run
grows_later = refl

-- so that not every group reached has an owner for each slot that somebody subscribes to
pub not_claimed_later : AllOwned grown → ⊥
unfolding exists below_count subscribes includes_topic free_slot
not_claimed_later owned = let h = (owned 3 refl refl).here in let z : ◌≡◌ {A = ℕ} 0 1 = cc in omega arith
