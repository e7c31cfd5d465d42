-- Request 1 of 02 by computation: batches that an event writes for a group, beside batches that none does.
use Rattle.std.specs.Prelude.{ℕ, ◌≡◌, refl, Bool, true, false, List, [], ◌∷◌, ◌++◌, map}
use Rattle.std.proofs.Math.Option.{some}
use Rattle.rules.specs.Group.{Group}
use Rattle.examples.specs.Rows.{aa, bb, group, group_with, id, in_a, in_p, member, topic_of, unheld, worker}
use Rattle.examples.specs.Recovering.{good, read, p1, p10, p4, p5, stores, tick}

-- each is good or not for the group
abbrev pub Judges : Group → List (List ℕ × Bool) → Type 0
Judges g cases = map (λ c. good g c.0) cases ≡ map (λ c. c.1) cases

-- AA* at place 0 with timeout 400 instead of 300
abbrev retimes : List ℕ → List ℕ
retimes rest = 0x05 ∷ 0x00 ∷ 0x01 ∷ (aa ++ 0x90 ∷ 0x03 ∷ 0x01 ∷ rest)

-- after P2
pub batches_of_a_member : Judges (group 1 0 tick (worker aa 1 tick tick ∷ []) []) (
    (p1, false)  -- the same topic again writes nothing
    ∷ (0x04 ∷ 0x00 ∷ (id 0x11 ++ 0x04 ∷ 0x03 ∷ 0x02 ∷ []), true)  -- a count raised
    ∷ (0x04 ∷ 0x00 ∷ (id 0x11 ++ 0x04 ∷ []), false)  -- AA* subscribes to it, so that G rises
    ∷ (retimes [], true)  -- another timeout
    ∷ (stores 0 aa [], false)  -- the same
    ∷ (p5, true)
    ∷ (stores 2 bb (0x03 ∷ 0x02 ∷ 0x08 ∷ 0x02 ∷ 0x02 ∷ 0x00 ∷ 0x00 ∷ []), false)  -- not the lowest free place
    ∷ [])
unfolding good
batches_of_a_member = refl

-- after P3 there are slots to be handed out, and every ordinary heartbeat does it
pub batches_that_hand_out : Judges (group 1 1 tick (worker aa 1 tick tick ∷ []) (unheld 0 ∷ unheld 0 ∷ unheld 0 ∷ [])) (
    (p4, true)
    ∷ (0x08 ∷ 0x00 ∷ 0x01 ∷ 0x02 ∷ 0x00 ∷ 0x01 ∷ 0x00 ∷ [], false)  -- not all of them
    ∷ (retimes [], false)
    ∷ (retimes p4, true)
    ∷ [])
unfolding good
batches_that_hand_out = refl

abbrev rejoins : List ℕ
rejoins = stores 0 aa (0x03 ∷ 0x02 ∷ 0x08 ∷ 0x00 ∷ 0x02 ∷ 0x00 ∷ 0x00 ∷ [])

-- after P4: a rejoin and a leave store the record 7 of a target that was not empty
pub batches_of_a_target : Judges (group 1 1 tick (worker aa 1 tick tick ∷ []) (in_a 0 0 ∷ in_a 0 0 ∷ in_a 0 0 ∷ [])) (
    (rejoins, false)
    ∷ (0x07 ∷ 0x00 ∷ 0x00 ∷ rejoins, true)
    ∷ (0x08 ∷ 0x00 ∷ 0x00 ∷ 0x07 ∷ 0x00 ∷ 0x00 ∷ 0x05 ∷ 0x00 ∷ 0x00 ∷ 0x03 ∷ 0x02 ∷ [], true)
    ∷ (0x08 ∷ 0x00 ∷ 0x00 ∷ 0x05 ∷ 0x00 ∷ 0x00 ∷ 0x03 ∷ 0x02 ∷ [], false)
    ∷ (0x08 ∷ 0x00 ∷ 0x00 ∷ 0x07 ∷ 0x00 ∷ 0x00 ∷ 0x05 ∷ 0x00 ∷ 0x00 ∷ [], false)
    ∷ [])
unfolding good
batches_of_a_target = refl

-- P is freed whole, and a heartbeat that frees it goes on to step 3
pub batches_that_free : Judges (group 2 2 tick (worker aa 1 tick tick ∷ worker bb 2 tick tick ∷ []) (in_a 0 0 ∷ in_a 0 0 ∷ in_p 0 1 ∷ [])) (
    (p10, true)
    ∷ (0x08 ∷ 0x00 ∷ 0x01 ∷ 0x02 ∷ 0x00 ∷ 0x01 ∷ 0x00 ∷ [], false)  -- freed, but E stays
    ∷ (retimes [], true)  -- nothing freed
    ∷ [])
unfolding good
batches_that_free = refl

-- 'whatever the ticks of both': any members may have been silent, one or several
pub batches_of_removals : Judges (group 2 0 tick (worker aa 1 tick tick ∷ worker bb 2 tick tick ∷ []) []) (
    (0x08 ∷ 0x01 ∷ 0x00 ∷ 0x05 ∷ 0x01 ∷ 0x00 ∷ 0x03 ∷ 0x03 ∷ [], true)
    ∷ (0x08 ∷ 0x00 ∷ 0x00 ∷ 0x05 ∷ 0x00 ∷ 0x00 ∷ 0x08 ∷ 0x01 ∷ 0x00 ∷ 0x05 ∷ 0x01 ∷ 0x00 ∷ 0x03 ∷ 0x03 ∷ [], true)
    ∷ (0x08 ∷ 0x01 ∷ 0x00 ∷ 0x05 ∷ 0x01 ∷ 0x00 ∷ 0x08 ∷ 0x00 ∷ 0x00 ∷ 0x05 ∷ 0x00 ∷ 0x00 ∷ 0x03 ∷ 0x03 ∷ [], false)  -- not rising
    ∷ (0x08 ∷ 0x02 ∷ 0x00 ∷ 0x05 ∷ 0x02 ∷ 0x00 ∷ 0x03 ∷ 0x03 ∷ [], false)  -- nobody is there
    ∷ [])
unfolding good
batches_of_removals = refl

-- an install that leaves a target as it was: slots 1 and 2 are left over, and 'Journals are read without this rule'; refused if its member no longer subscribes
pub batches_of_installs : Judges (group 1 0 tick (worker aa 1 tick tick ∷ []) (in_a 0 0 ∷ [])) ((0x06 ∷ 0x01 ∷ [], true) ∷ (0x06 ∷ 0x02 ∷ [], false) ∷ [])
unfolding good
batches_of_installs = refl

pub batches_of_unsubscribed : Judges (group 1 0 tick (member aa 1 2 300 tick tick ∷ []) (in_a 0 0 ∷ [])) ((0x06 ∷ 0x01 ∷ [], false) ∷ [])
unfolding good
batches_of_unsubscribed = refl

-- an install that gives slot 2 to nobody, as brokers did before request 3
pub batches_that_take_away : Judges (group 2 1 tick (worker aa 1 tick tick ∷ []) (in_a 0 0 ∷ in_a 0 0 ∷ in_a 0 0 ∷ []))
    ((0x07 ∷ 0x00 ∷ 0x02 ∷ 0x00 ∷ 0x01 ∷ 0x06 ∷ 0x02 ∷ [], true) ∷ (0x06 ∷ 0x02 ∷ [], true) ∷ (0x07 ∷ 0x00 ∷ 0x03 ∷ 0x00 ∷ 0x01 ∷ 0x01 ∷ 0x06 ∷ 0x02 ∷ [], false) ∷ [])
unfolding good
batches_that_take_away = refl

-- 'every last-heard tick, the tick P was set and the last tick become the tick of reading'
pub ticks_of_reading : read (group 1 0 1000 (worker aa 1 900 800 ∷ worker bb 1 1000 1000 ∷ []) []) (retimes [])
    ≡ some (group 1 0 tick (member aa 1 1 400 tick tick ∷ worker bb 1 tick tick ∷ []) [])
unfolding read
ticks_of_reading = refl

-- a topic event has no tick
pub tick_of_reading : read (group 0 0 1000 [] []) (0x04 ∷ 0x00 ∷ (id 0x11 ++ 0x04 ∷ [])) ≡ some (group_with (topic_of 0x11 4 ∷ []) 0 0 tick [] [])
unfolding read
tick_of_reading = refl
