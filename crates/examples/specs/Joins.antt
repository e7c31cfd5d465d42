-- Joins and leaves: places, what a member begins with, and that nobody finds what another left.
use Rattle.std.specs.Prelude.{refl, [], ◌∷◌, ◌++◌, pos, negsuc, replicate}
use Rattle.std.proofs.Math.Option.{none, some}
use Rattle.rules.specs.declared.Refusal.TheVariants.{Clock, GroupMaxSizeReached, InvalidRequest, UnknownMemberId}
use Rattle.rules.specs.declared.Answer.TheVariants.{Left}
use Rattle.examples.specs.Running.{run}
use Rattle.examples.specs.Rows.{Runs, aa, answers, assigns, bb, cc, dd, group, id, in_a, in_p, in_room, joining, leaving, member, no_place, one_member, ordinary, refuses, sent, unheld, worker, workers}

-- 'A joiner takes the lowest free place'; E becomes the new G 'even while T is lower'
pub lowest_free_place : Runs (group 7 0 1000 (worker aa 5 1000 1000 ∷ none ∷ worker bb 6 1000 1000 ∷ []) []) (
    assigns (joining cc 1100) 8 [] (0x05 ∷ 0x01 ∷ 0x01 ∷ (cc ++ 0xAC ∷ 0x02 ∷ 0x01 ∷ 0x03 ∷ 0x08 ∷ 0x08 ∷ 0x01 ∷ 0x08 ∷ 0x00 ∷ 0x00 ∷ []))
    (group 8 0 1100 (worker aa 5 1000 1000 ∷ worker cc 8 1100 1100 ∷ worker bb 6 1000 1000 ∷ []) [])
    ∷ assigns (joining dd 1200) 9 [] (0x05 ∷ 0x03 ∷ 0x01 ∷ (dd ++ 0xAC ∷ 0x02 ∷ 0x01 ∷ 0x03 ∷ 0x09 ∷ 0x08 ∷ 0x03 ∷ 0x09 ∷ 0x00 ∷ 0x00 ∷ []))
    (group 9 0 1200 (worker aa 5 1000 1000 ∷ worker cc 8 1100 1100 ∷ worker bb 6 1000 1000 ∷ worker dd 9 1200 1200 ∷ []) [])
    ∷ [])
unfolding run
lowest_free_place = refl

-- '32nd joins, 33rd gets 81'; a known ID joins again in a full group
pub full_group : Runs (group 40 0 1000 (workers 1 31) []) (
    assigns (joining (id 0xC8) 1000) 41 [] (0x05 ∷ 0x1F ∷ 0x01 ∷ (id 0xC8 ++ 0xAC ∷ 0x02 ∷ 0x01 ∷ 0x03 ∷ 0x29 ∷ 0x08 ∷ 0x1F ∷ 0x29 ∷ 0x00 ∷ 0x00 ∷ []))
    (group 41 0 1000 (workers 1 31 ++ (worker (id 0xC8) 41 1000 1000 ∷ [])) [])
    ∷ refuses (joining (id 0xC9) 1000) GroupMaxSizeReached
    ∷ assigns (joining (id 0x07) 1500) 42 [] (0x05 ∷ 0x06 ∷ 0x01 ∷ (id 0x07 ++ 0xAC ∷ 0x02 ∷ 0x01 ∷ 0x03 ∷ 0x2A ∷ 0x08 ∷ 0x06 ∷ 0x2A ∷ 0x00 ∷ 0x00 ∷ []))
    (group 42 0 1500 (workers 1 6 ++ worker (id 0x07) 42 1500 1500 ∷ (workers 8 24 ++ (worker (id 0xC8) 41 1000 1000 ∷ []))) [])
    ∷ [])
unfolding run
full_group = refl

-- timeouts of a join: 1,800,000 and 1,800,001, 1 and 0, -1 and -2
pub join_timeouts : Runs (group 0 0 0 [] []) (
    refuses (sent aa (pos 0) 0 (pos 1800001) (some 1) (some [])) InvalidRequest
    ∷ refuses (sent aa (pos 0) 0 (pos 0) (some 1) (some [])) InvalidRequest
    ∷ refuses (sent aa (pos 0) 0 (negsuc 0) (some 1) (some [])) InvalidRequest
    ∷ refuses (sent aa (pos 0) 0 (negsuc 1) (some 1) (some [])) InvalidRequest
    ∷ assigns (sent aa (pos 0) 0 (pos 1800000) (some 1) (some [])) 1 [] (0x05 ∷ 0x00 ∷ 0x01 ∷ (aa ++ 0xC0 ∷ 0xEE ∷ 0x6D ∷ 0x01 ∷ 0x03 ∷ 0x01 ∷ 0x08 ∷ 0x00 ∷ 0x01 ∷ 0x00 ∷ 0x00 ∷ []))
    (group 1 0 0 (member aa 1 1 1800000 0 0 ∷ []) [])
    ∷ assigns (sent aa (pos 0) 0 (pos 1) (some 1) (some [])) 2 [] (0x05 ∷ 0x00 ∷ 0x01 ∷ (aa ++ 0x01 ∷ 0x01 ∷ 0x03 ∷ 0x02 ∷ 0x08 ∷ 0x00 ∷ 0x02 ∷ 0x00 ∷ 0x00 ∷ []))
    (group 2 0 0 (member aa 2 1 1 0 0 ∷ []) [])
    ∷ [])
unfolding run
join_timeouts = refl

-- 'a join without subscription, .. or without an empty list'; the ID all zero, and one byte of it not
pub incomplete_join : Runs (group 0 0 0 [] []) (
    refuses (sent aa (pos 0) 0 (pos 300) none (some [])) InvalidRequest
    ∷ refuses (sent aa (pos 0) 0 (pos 300) (some 1) none) InvalidRequest
    ∷ refuses (sent aa (pos 0) 0 (pos 300) (some 1) (some (0 ∷ []))) InvalidRequest
    ∷ refuses (joining (id 0) 0) InvalidRequest
    ∷ assigns (joining (replicate 15 0 ++ (1 ∷ [])) 0) 1 []
    (0x05 ∷ 0x00 ∷ 0x01 ∷ (replicate 15 0 ++ 0x01 ∷ 0xAC ∷ 0x02 ∷ 0x01 ∷ 0x03 ∷ 0x01 ∷ 0x08 ∷ 0x00 ∷ 0x01 ∷ 0x00 ∷ 0x00 ∷ []))
    (group 1 0 0 (worker (replicate 15 0 ++ (1 ∷ [])) 1 0 0 ∷ []) [])
    ∷ [])
unfolding run
incomplete_join = refl

-- 'A known ID keeps its place; its A, P and target are emptied first', and what others hold or are to have stays; both ticks are those of the join;
-- record 7 only where the target was not empty
pub rejoin : Runs (group 2 2 2000 (worker aa 1 1000 1500 ∷ worker bb 2 2000 2000 ∷ []) (in_a 0 0 ∷ in_p 0 1 ∷ in_a 1 1 ∷ [])) (
    assigns (sent aa (pos 0) 3000 (pos 500) (some 3) (some [])) 3 [] (0x07 ∷ 0x00 ∷ 0x00 ∷ 0x05 ∷ 0x00 ∷ 0x01 ∷ (aa ++ 0xF4 ∷ 0x03 ∷ 0x03 ∷ 0x03 ∷ 0x03 ∷ 0x08 ∷ 0x00 ∷ 0x03 ∷ 0x00 ∷ 0x00 ∷ []))
    (group 3 2 3000 (member aa 3 3 500 3000 3000 ∷ worker bb 2 2000 2000 ∷ []) (unheld no_place ∷ unheld 1 ∷ in_a 1 1 ∷ []))
    ∷ assigns (joining aa 3100) 4 [] (0x05 ∷ 0x00 ∷ 0x01 ∷ (aa ++ 0xAC ∷ 0x02 ∷ 0x01 ∷ 0x03 ∷ 0x04 ∷ 0x08 ∷ 0x00 ∷ 0x04 ∷ 0x00 ∷ 0x00 ∷ []))
    (group 4 2 3100 (worker aa 4 3100 3100 ∷ worker bb 2 2000 2000 ∷ []) (unheld no_place ∷ unheld 1 ∷ in_a 1 1 ∷ []))
    ∷ [])
unfolding run
rejoin = refl

-- 'A place freed is used again', and the new member there finds no slots and no target of the old; nor does its E fall to T
pub old_place_new_member : Runs (group 2 2 2000 (worker aa 2 2000 2000 ∷ worker bb 2 2000 2000 ∷ []) (in_a 0 0 ∷ in_p 0 1 ∷ unheld 0 ∷ [])) (
    answers (leaving aa 2100) Left (0x08 ∷ 0x00 ∷ 0x00 ∷ 0x07 ∷ 0x00 ∷ 0x00 ∷ 0x05 ∷ 0x00 ∷ 0x00 ∷ 0x03 ∷ 0x03 ∷ [])
    (group 3 2 2100 (none ∷ worker bb 2 2000 2000 ∷ []) (unheld no_place ∷ unheld 1 ∷ unheld no_place ∷ []))
    ∷ assigns (joining cc 2200) 4 [] (0x05 ∷ 0x00 ∷ 0x01 ∷ (cc ++ 0xAC ∷ 0x02 ∷ 0x01 ∷ 0x03 ∷ 0x04 ∷ 0x08 ∷ 0x00 ∷ 0x04 ∷ 0x00 ∷ 0x00 ∷ []))
    (group 4 2 2200 (worker cc 4 2200 2200 ∷ worker bb 2 2000 2000 ∷ []) (unheld no_place ∷ unheld 1 ∷ unheld no_place ∷ []))
    ∷ assigns (ordinary cc 4 2300 (some [])) 4 [] []
    (group 4 2 2300 (worker cc 4 2300 2200 ∷ worker bb 2 2000 2000 ∷ []) (unheld no_place ∷ unheld 1 ∷ unheld no_place ∷ []))
    ∷ [])
unfolding run
old_place_new_member = refl

-- of a leave 'only ID and tick are read', and it needs no room in the list
pub leave_reads_id_and_tick : Runs (one_member 1 5) (
    in_room 64 0 (answers (sent aa (negsuc 0) 5 (negsuc 4) (some 3) (some (9 ∷ 9 ∷ []))) Left (0x08 ∷ 0x00 ∷ 0x00 ∷ 0x07 ∷ 0x00 ∷ 0x00 ∷ 0x05 ∷ 0x00 ∷ 0x00 ∷ 0x03 ∷ 0x02 ∷ [])
    (group 2 1 5 [] []))
    ∷ [])
unfolding run
leave_reads_id_and_tick = refl

-- a leave without a target has no record 7; it sets the last tick, and what comes before that is 1001
pub leave_sets_last_tick : Runs (group 2 2 5 (worker aa 2 5 5 ∷ worker bb 2 5 5 ∷ []) (in_a 0 0 ∷ in_a 1 0 ∷ [])) (
    answers (leaving bb 6) Left (0x08 ∷ 0x01 ∷ 0x00 ∷ 0x05 ∷ 0x01 ∷ 0x00 ∷ 0x03 ∷ 0x03 ∷ [])
    (group 3 2 6 (worker aa 2 5 5 ∷ []) (in_a 0 0 ∷ unheld 0 ∷ []))
    ∷ refuses (ordinary aa 2 5 none) Clock
    ∷ refuses (leaving aa 5) Clock
    ∷ [])
unfolding run
leave_sets_last_tick = refl

-- 'For a leave, of the two rows 42 only the zero ID applies'; 25 for an unknown ID
pub leave_refused : Runs (one_member 1 5) (
    refuses (leaving (id 0) 5) InvalidRequest
    ∷ refuses (leaving bb 5) UnknownMemberId
    ∷ [])
unfolding run
leave_refused = refl
