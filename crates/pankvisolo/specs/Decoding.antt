-- The answer that a reply's plain numbers stand for: a host knows which event it sent, so it can read the answer off the numbers, `said` of the rules backwards.
use Rattle.std.specs.Prelude.{ℕ, ◌≡◌, List, [], ◌∷◌, ℤ, pos, negsuc, eqb, if◌then◌else◌}
use Rattle.rules.specs.Group.{Group}
use Rattle.rules.specs.Event.{Event, heartbeat, sweep, topic, install}
use Rattle.rules.specs.Answers.{Said, number_of, said, slot_number}
use Rattle.rules.specs.Step.{step}
use Rattle.rules.specs.declared.Refusal.{Refusal}
use Rattle.rules.specs.declared.Refusal.TheVariants.{Clock, InvalidRequest, UnknownMemberId, GroupMaxSizeReached, FencedMemberEpoch, BadTarget, Stale, Already, BadTopic, EpochEnd, Room}
use Rattle.rules.specs.declared.Answer.{Answer}
use Rattle.rules.specs.declared.Answer.TheVariants.{Assigned, Left, Swept, Done, Refused}

-- the first refusal with a number; where none has it, which no reply says, the last of the table
abbrev pub first_numbered : ℕ → List Refusal → Refusal
first_numbered number [] = Room
first_numbered number (r ∷ rs) = if eqb number (number_of r) then r else first_numbered number rs

-- a number of 01's table, with the slot that is reported
unfoldable pub refusal_with : ℕ → ℕ → Refusal
refusal_with number slot = first_numbered number (Clock ∷ InvalidRequest ∷ UnknownMemberId ∷ GroupMaxSizeReached ∷ FencedMemberEpoch ∷ BadTarget (slot_number slot)
    ∷ Stale ∷ Already ∷ BadTopic ∷ EpochEnd ∷ Room ∷ [])

-- a heartbeat's answer has the epoch -1 if it is that of a leave
abbrev pub heartbeat_answer : ℤ → ℕ → ℕ → Answer
heartbeat_answer (pos epoch) interval count = Assigned (record { epoch = epoch; interval = interval; count = count })
heartbeat_answer (negsuc n) interval count = Left

abbrev pub accepted_answer : Event → Said → Answer
accepted_answer (heartbeat b) s = heartbeat_answer s.epoch s.interval s.count
accepted_answer (sweep tick) s = Swept s.count
accepted_answer (topic t id n) s = Done
accepted_answer (install rule e entries) s = Done

-- the answer to an event; the number 0 accepts it
unfoldable pub answer_to : Event → Said → Answer
answer_to e s = if eqb s.number 0 then accepted_answer e s else Refused (refusal_with s.number s.slot)

-- what is read off the numbers of a step's answer is that answer
unfoldable pub Decodes : Type 0
Decodes = (g : Group) (e : Event) (buffer list : List ℕ) → answer_to e (said (step g e buffer list).answer) ≡ (step g e buffer list).answer
