-- Ordinary heartbeats: their three steps, their records and their refusals.
use Rattle.std.specs.Prelude.{refl, List, [], ◌∷◌, ◌++◌, pos, negsuc, replicate}
use Rattle.std.proofs.Math.Option.{none, some}
use Rattle.rules.specs.Group.{SlotState}
use Rattle.rules.specs.declared.Refusal.TheVariants.{FencedMemberEpoch, InvalidRequest, UnknownMemberId}
use Rattle.examples.specs.Running.{run}
use Rattle.examples.specs.Rows.{Runs, aa, assigns, bb, group, id, in_a, in_p, member, no_place, one_member, ordinary, refuses, sent, unheld, worker}

-- step 1: the same again changes nothing; 'A given timeout is stored'; 'A given subscription that differs is stored and G rises by one'; what is not
-- given stays; '5 if subscription or timeout changed, 3 if G did'
pub subscription_and_timeout : Runs (one_member 1 5) (
    assigns (sent aa (pos 1) 6 (pos 300) (some 1) none) 1 (0 ∷ 1 ∷ 2 ∷ []) []
    (group 1 1 6 (worker aa 1 6 5 ∷ []) (in_a 0 0 ∷ in_a 0 0 ∷ in_a 0 0 ∷ []))
    ∷ assigns (sent aa (pos 1) 7 (pos 301) none none) 1 (0 ∷ 1 ∷ 2 ∷ []) (0x05 ∷ 0x00 ∷ 0x01 ∷ (aa ++ 0xAD ∷ 0x02 ∷ 0x01 ∷ []))
    (group 1 1 7 (member aa 1 1 301 7 5 ∷ []) (in_a 0 0 ∷ in_a 0 0 ∷ in_a 0 0 ∷ []))
    ∷ assigns (sent aa (pos 1) 8 (negsuc 0) (some 3) none) 1 (0 ∷ 1 ∷ 2 ∷ []) (0x05 ∷ 0x00 ∷ 0x01 ∷ (aa ++ 0xAD ∷ 0x02 ∷ 0x03 ∷ 0x03 ∷ 0x02 ∷ []))
    (group 2 1 8 (member aa 1 3 301 8 5 ∷ []) (in_a 0 0 ∷ in_a 0 0 ∷ in_a 0 0 ∷ []))
    ∷ assigns (sent aa (pos 1) 9 (negsuc 0) none none) 1 (0 ∷ 1 ∷ 2 ∷ []) []
    (group 2 1 9 (member aa 1 3 301 9 5 ∷ []) (in_a 0 0 ∷ in_a 0 0 ∷ in_a 0 0 ∷ []))
    ∷ [])
unfolding run
subscription_and_timeout = refl

-- a subscription changed while P waits: it is stored and G rises; 'A, P and E stay'
pub subscription_while_p_waits : Runs (group 2 2 1000 (worker aa 1 1000 1000 ∷ []) (in_a 0 0 ∷ in_p 0 no_place ∷ [])) (
    assigns (sent aa (pos 1) 1100 (negsuc 0) (some 2) none) 1 (0 ∷ []) (0x05 ∷ 0x00 ∷ 0x01 ∷ (aa ++ 0xAC ∷ 0x02 ∷ 0x02 ∷ 0x03 ∷ 0x03 ∷ []))
    (group 3 2 1100 (member aa 1 2 300 1100 1000 ∷ []) (in_a 0 0 ∷ in_p 0 no_place ∷ []))
    ∷ [])
unfolding run
subscription_while_p_waits = refl

-- all three records in their order; 'E becomes the larger of E and T', and not G
pub three_records : Runs (group 2 2 1000 (worker aa 1 1000 1000 ∷ []) (in_a 0 0 ∷ unheld 0 ∷ [])) (
    assigns (sent aa (pos 1) 1100 (pos 301) (some 3) none) 2 (0 ∷ 1 ∷ []) (0x05 ∷ 0x00 ∷ 0x01 ∷ (aa ++ 0xAD ∷ 0x02 ∷ 0x03 ∷ 0x03 ∷ 0x03 ∷ 0x08 ∷ 0x00 ∷ 0x02 ∷ 0x02 ∷ 0x00 ∷ 0x01 ∷ 0x00 ∷ []))
    (group 3 2 1100 (member aa 2 3 301 1100 1000 ∷ []) (in_a 0 0 ∷ in_a 0 0 ∷ []))
    ∷ [])
unfolding run
three_records = refl

-- '8 if E .. did': E rises where A and P stay; and not where all three do
pub epoch_alone : Runs (group 2 2 1000 (worker aa 1 1000 1000 ∷ []) (in_a 0 0 ∷ [])) (
    assigns (ordinary aa 1 1100 none) 2 (0 ∷ []) (0x08 ∷ 0x00 ∷ 0x02 ∷ 0x01 ∷ 0x00 ∷ 0x00 ∷ [])
    (group 2 2 1100 (worker aa 2 1100 1000 ∷ []) (in_a 0 0 ∷ []))
    ∷ assigns (ordinary aa 2 1200 none) 2 (0 ∷ []) []
    (group 2 2 1200 (worker aa 2 1200 1000 ∷ []) (in_a 0 0 ∷ []))
    ∷ [])
unfolding run
epoch_alone = refl

-- slots 0, 127 and 255 in A of place 0
abbrev far_apart : List SlotState
far_apart = in_a 0 0 ∷ (replicate 126 (unheld no_place) ++ in_a 0 0 ∷ (replicate 127 (unheld no_place) ++ in_a 0 0 ∷ []))

-- a set is 'its size, then its lowest slot, then each difference from the one before': differences of 127 and 128
pub slots_far_apart : Runs (group 2 2 1000 (worker aa 1 1000 1000 ∷ []) far_apart) (
    assigns (ordinary aa 1 1100 none) 2 (0 ∷ 127 ∷ 255 ∷ []) (0x08 ∷ 0x00 ∷ 0x02 ∷ 0x03 ∷ 0x00 ∷ 0x7F ∷ 0x80 ∷ 0x01 ∷ 0x00 ∷ [])
    (group 2 2 1100 (worker aa 2 1100 1000 ∷ []) far_apart)
    ∷ [])
unfolding run
slots_far_apart = refl

-- '8 if .. P did': where P alone changes
pub p_alone : Runs (group 2 2 1000 (worker aa 2 1000 1000 ∷ []) (in_a 0 0 ∷ in_p 0 no_place ∷ [])) (
    assigns (ordinary aa 2 1100 (some (0 ∷ []))) 2 (0 ∷ []) (0x08 ∷ 0x00 ∷ 0x02 ∷ 0x01 ∷ 0x00 ∷ 0x00 ∷ [])
    (group 2 2 1100 (worker aa 2 1100 1000 ∷ []) (in_a 0 0 ∷ []))
    ∷ [])
unfolding run
p_alone = refl

-- step 2: 'when a list is given and has no slot of P, all of P is freed': one slot of P among those listed frees nothing
pub list_with_slot_of_p : Runs (group 2 2 1000 (worker aa 1 1000 1000 ∷ []) (in_a 0 0 ∷ in_p 0 no_place ∷ in_p 0 no_place ∷ [])) (
    assigns (ordinary aa 1 1100 (some (0 ∷ 2 ∷ []))) 1 (0 ∷ []) []
    (group 2 2 1100 (worker aa 1 1100 1000 ∷ []) (in_a 0 0 ∷ in_p 0 no_place ∷ in_p 0 no_place ∷ []))
    ∷ assigns (ordinary aa 1 1200 (some (1 ∷ []))) 1 (0 ∷ []) []
    (group 2 2 1200 (worker aa 1 1200 1000 ∷ []) (in_a 0 0 ∷ in_p 0 no_place ∷ in_p 0 no_place ∷ []))
    ∷ assigns (ordinary aa 1 1300 none) 1 (0 ∷ []) []
    (group 2 2 1300 (worker aa 1 1300 1000 ∷ []) (in_a 0 0 ∷ in_p 0 no_place ∷ in_p 0 no_place ∷ []))
    ∷ assigns (ordinary aa 1 1400 (some (0 ∷ []))) 2 (0 ∷ []) (0x08 ∷ 0x00 ∷ 0x02 ∷ 0x01 ∷ 0x00 ∷ 0x00 ∷ [])
    (group 2 2 1400 (worker aa 2 1400 1000 ∷ []) (in_a 0 0 ∷ []))
    ∷ [])
unfolding run
list_with_slot_of_p = refl

-- steps 2 and 3: freed, in the target again and held by nobody, so back in A at once
pub freed_and_back : Runs (group 3 3 1000 (worker aa 1 1000 1000 ∷ []) (in_a 0 0 ∷ in_p 0 0 ∷ [])) (
    assigns (ordinary aa 1 1100 (some [])) 3 (0 ∷ 1 ∷ []) (0x08 ∷ 0x00 ∷ 0x03 ∷ 0x02 ∷ 0x00 ∷ 0x01 ∷ 0x00 ∷ [])
    (group 3 3 1100 (worker aa 3 1100 1000 ∷ []) (in_a 0 0 ∷ in_a 0 0 ∷ []))
    ∷ [])
unfolding run
freed_and_back = refl

-- steps 2 and 3: P is freed and set anew at once; 'E stays', and nothing enters A, not even what was just freed
pub freed_and_moved_anew : Runs (group 3 3 1000 (worker aa 1 1000 1000 ∷ []) (in_a 0 0 ∷ in_a 0 no_place ∷ in_p 0 0 ∷ [])) (
    assigns (ordinary aa 1 1100 (some (0 ∷ 1 ∷ []))) 1 (0 ∷ []) (0x08 ∷ 0x00 ∷ 0x01 ∷ 0x01 ∷ 0x00 ∷ 0x01 ∷ 0x01 ∷ [])
    (group 3 3 1100 (worker aa 1 1100 1100 ∷ []) (in_a 0 0 ∷ in_p 0 no_place ∷ unheld 0 ∷ []))
    ∷ [])
unfolding run
freed_and_moved_anew = refl

-- step 3: 'every slot of M that nobody holds enters A': not those in another's A or P, until they are freed
pub held_by_another : Runs (group 3 3 1000 (worker aa 2 1000 1000 ∷ worker bb 3 1000 1000 ∷ []) (in_p 0 1 ∷ in_a 0 1 ∷ unheld 1 ∷ [])) (
    assigns (ordinary bb 3 1100 (some [])) 3 (2 ∷ []) (0x08 ∷ 0x01 ∷ 0x03 ∷ 0x01 ∷ 0x02 ∷ 0x00 ∷ [])
    (group 3 3 1100 (worker aa 2 1000 1000 ∷ worker bb 3 1100 1000 ∷ []) (in_p 0 1 ∷ in_a 0 1 ∷ in_a 1 1 ∷ []))
    ∷ assigns (ordinary aa 2 1200 (some (1 ∷ []))) 2 [] (0x08 ∷ 0x00 ∷ 0x02 ∷ 0x00 ∷ 0x01 ∷ 0x01 ∷ [])
    (group 3 3 1200 (worker aa 2 1200 1200 ∷ worker bb 3 1100 1000 ∷ []) (unheld 1 ∷ in_p 0 1 ∷ in_a 1 1 ∷ []))
    ∷ assigns (ordinary bb 3 1300 none) 3 (0 ∷ 2 ∷ []) (0x08 ∷ 0x01 ∷ 0x03 ∷ 0x02 ∷ 0x00 ∷ 0x02 ∷ 0x00 ∷ [])
    (group 3 3 1300 (worker aa 2 1200 1200 ∷ worker bb 3 1300 1000 ∷ []) (in_a 1 1 ∷ in_p 0 1 ∷ in_a 1 1 ∷ []))
    ∷ [])
unfolding run
held_by_another = refl

-- 110: 'ordinary, epoch is not E', one above and one below; 25: 'ID unknown'
pub fenced_or_unknown : Runs (group 5 5 5 (worker aa 5 5 5 ∷ []) (in_a 0 0 ∷ [])) (
    refuses (ordinary aa 4 5 none) FencedMemberEpoch
    ∷ refuses (ordinary aa 6 5 none) FencedMemberEpoch
    -- 25: an ID that differs in its last byte, in its first, is another one
    ∷ refuses (ordinary (replicate 15 0xAA ++ (0xAB ∷ [])) 5 5 none) UnknownMemberId
    ∷ refuses (ordinary (0xAB ∷ replicate 15 0xAA) 5 5 none) UnknownMemberId
    ∷ [])
unfolding run
fenced_or_unknown = refl

-- 42 again: 'a listed slot is in neither A nor P'; free, in another's A or in another's P. Those in its own A and P are accepted
pub not_held : Runs (group 3 3 5 (worker aa 3 5 5 ∷ worker bb 3 5 5 ∷ []) (in_a 0 0 ∷ in_p 0 no_place ∷ unheld 1 ∷ in_a 1 1 ∷ in_p 1 no_place ∷ [])) (
    refuses (ordinary aa 3 5 (some (2 ∷ []))) InvalidRequest
    ∷ refuses (ordinary aa 3 5 (some (0 ∷ 1 ∷ 3 ∷ []))) InvalidRequest
    ∷ refuses (ordinary aa 3 5 (some (0 ∷ 4 ∷ []))) InvalidRequest
    ∷ assigns (ordinary aa 3 6 (some (0 ∷ 1 ∷ []))) 3 (0 ∷ []) []
    (group 3 3 6 (worker aa 3 6 5 ∷ worker bb 3 5 5 ∷ []) (in_a 0 0 ∷ in_p 0 no_place ∷ unheld 1 ∷ in_a 1 1 ∷ in_p 1 no_place ∷ []))
    ∷ [])
unfolding run
not_held = refl

-- the first row 42 of an ordinary heartbeat: the ID, the timeout, the list
pub malformed : Runs (one_member 1 5) (
    refuses (ordinary (id 0) 1 5 none) InvalidRequest
    ∷ refuses (sent aa (pos 1) 5 (pos 0) none none) InvalidRequest
    ∷ refuses (sent aa (pos 1) 5 (pos 1800001) none none) InvalidRequest
    ∷ refuses (sent aa (pos 1) 5 (negsuc 1) none none) InvalidRequest
    ∷ refuses (ordinary aa 1 5 (some (0 ∷ 0 ∷ []))) InvalidRequest
    ∷ refuses (ordinary aa 1 5 (some (1 ∷ 0 ∷ []))) InvalidRequest
    -- an epoch below -1
    ∷ refuses (sent aa (negsuc 1) 5 (negsuc 0) none none) InvalidRequest
    -- a slot of 1,023 is well formed, 1,024 is not
    ∷ refuses (ordinary aa 2 5 (some (1023 ∷ []))) FencedMemberEpoch
    ∷ refuses (ordinary aa 2 5 (some (1024 ∷ []))) InvalidRequest
    ∷ [])
unfolding run
malformed = refl
