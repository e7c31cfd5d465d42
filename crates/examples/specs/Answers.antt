-- What each answer says: 01's number, the epoch, the interval, the count and the slot reported.
use Rattle.std.specs.Prelude.{ℕ, ◌≡◌, refl, [], ◌∷◌, map, ℤ, pos, negsuc}
use Rattle.rules.specs.Answers.{Said, said, slot_number}
use Rattle.rules.specs.declared.Refusal.TheVariants.{Already, BadTarget, BadTopic, Clock, EpochEnd, FencedMemberEpoch, GroupMaxSizeReached, InvalidRequest, Room, Stale, UnknownMemberId}
use Rattle.rules.specs.declared.Answer.TheVariants.{Assigned, Done, Left, Refused, Swept}

abbrev says : ℕ → ℤ → ℕ → ℕ → ℕ → Said
says number epoch interval count slot = record { number = number; epoch = epoch; interval = interval; count = count; slot = slot }

abbrev refusal : ℕ → ℕ → Said
refusal number slot = says number (pos 0) 0 0 slot

-- 'Each join or ordinary answer carries E, the interval and all of A'; leave: 'The answer's epoch is -1'; sweep: 'the number removed'
pub accepted_answers :
    map said (Assigned (record { epoch = 7; interval = 5000; count = 3 }) ∷ Left ∷ Swept 4 ∷ Done ∷ [])
    ≡ says 0 (pos 7) 5000 3 65535 ∷ says 0 (negsuc 0) 0 0 65535 ∷ says 0 (pos 0) 0 4 65535 ∷ says 0 (pos 0) 0 0 65535 ∷ []
accepted_answers = refl

-- the column 'Number'; 1006 reports a slot
pub refusal_numbers :
    map said (
    Refused Clock
    ∷ Refused InvalidRequest
    ∷ Refused UnknownMemberId
    ∷ Refused GroupMaxSizeReached
    ∷ Refused FencedMemberEpoch
    ∷ Refused (BadTarget (slot_number 1023))
    ∷ Refused Stale
    ∷ Refused Already
    ∷ Refused BadTopic
    ∷ Refused EpochEnd
    ∷ Refused Room
    ∷ [])
    ≡ refusal 1001 65535
    ∷ refusal 42 65535
    ∷ refusal 25 65535
    ∷ refusal 81 65535
    ∷ refusal 110 65535
    ∷ refusal 1006 1023
    ∷ refusal 1004 65535
    ∷ refusal 1005 65535
    ∷ refusal 1007 65535
    ∷ refusal 1002 65535
    ∷ refusal 1003 65535
    ∷ []
refusal_numbers = refl
