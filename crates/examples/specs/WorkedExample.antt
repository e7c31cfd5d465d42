-- 'A morning with two workers': P1 to P12 of 01 as one table, and one theorem about the rules, proved by computation.
use Rattle.std.specs.Prelude.{ℕ, refl, List, [], ◌∷◌, ◌++◌, pos}
use Rattle.std.proofs.Math.Option.{none, some}
use Rattle.rules.specs.Group.{fresh}
use Rattle.rules.specs.Event.{Event, install, topic, with_rule}
use Rattle.rules.specs.declared.Refusal.TheVariants.{Already}
use Rattle.rules.specs.declared.Answer.TheVariants.{Done, Refused}
use Rattle.examples.specs.Running.{run}
use Rattle.examples.specs.Rows.{Row, Runs, aa, answers, assigns, bb, entries, group, id, in_a, in_p, joining, ordinary, unheld, worker}

-- slots 0, 1 and 2 to these places, all others to none
abbrev installing : ℕ → ℕ → ℕ → ℕ → Event
installing epoch a b c = install with_rule (pos epoch) (entries (a ∷ b ∷ c ∷ []))

-- The event; the answer (of a heartbeat E and the slots); the bytes; G, T and the last tick, the members by place (E, last heard, P last set), slots 0, 1
-- and 2, after it.
unfoldable pub cases : List Row
cases =
    -- P1 topic 0, ID 11*, count 3: G stays 0
    answers (topic 0 (id 0x11) 3) Done
    (0x04 ∷ 0x00 ∷ (id 0x11 ++ 0x03 ∷ []))
    (group 0 0 1000 [] [])
    -- P2 AA* joins, tick 1000, timeout 300, topic 0: answer 1, none
    ∷ assigns (joining aa 1000) 1 []
    (0x05 ∷ 0x00 ∷ 0x01 ∷ (aa ++ 0xAC ∷ 0x02 ∷ 0x01 ∷ 0x03 ∷ 0x01 ∷ 0x08 ∷ 0x00 ∷ 0x01 ∷ 0x00 ∷ 0x00 ∷ []))
    (group 1 0 1000 (worker aa 1 1000 1000 ∷ []) [])
    -- P3 install 1, slots 0 1 2 to place 0
    ∷ answers (installing 1 0 0 0) Done
    (0x07 ∷ 0x00 ∷ 0x03 ∷ 0x00 ∷ 0x01 ∷ 0x01 ∷ 0x06 ∷ 0x01 ∷ [])
    (group 1 1 1000 (worker aa 1 1000 1000 ∷ []) (unheld 0 ∷ unheld 0 ∷ unheld 0 ∷ []))
    -- P4 AA* at 1, no list: answer 1; 0 1 2
    ∷ assigns (ordinary aa 1 1000 none) 1 (0 ∷ 1 ∷ 2 ∷ [])
    (0x08 ∷ 0x00 ∷ 0x01 ∷ 0x03 ∷ 0x00 ∷ 0x01 ∷ 0x01 ∷ 0x00 ∷ [])
    (group 1 1 1000 (worker aa 1 1000 1000 ∷ []) (in_a 0 0 ∷ in_a 0 0 ∷ in_a 0 0 ∷ []))
    -- P5 BB* joins likewise, tick 2000: answer 2, none
    ∷ assigns (joining bb 2000) 2 []
    (0x05 ∷ 0x01 ∷ 0x01 ∷ (bb ++ 0xAC ∷ 0x02 ∷ 0x01 ∷ 0x03 ∷ 0x02 ∷ 0x08 ∷ 0x01 ∷ 0x02 ∷ 0x00 ∷ 0x00 ∷ []))
    (group 2 1 2000 (worker aa 1 1000 1000 ∷ worker bb 2 2000 2000 ∷ []) (in_a 0 0 ∷ in_a 0 0 ∷ in_a 0 0 ∷ []))
    -- P6 install 2, 0 and 1 to place 0, 2 to place 1
    ∷ answers (installing 2 0 0 1) Done
    (0x07 ∷ 0x00 ∷ 0x02 ∷ 0x00 ∷ 0x01 ∷ 0x07 ∷ 0x01 ∷ 0x01 ∷ 0x02 ∷ 0x06 ∷ 0x02 ∷ [])
    (group 2 2 2000 (worker aa 1 1000 1000 ∷ worker bb 2 2000 2000 ∷ []) (in_a 0 0 ∷ in_a 0 0 ∷ in_a 0 1 ∷ []))
    -- P7 BB* at 2, empty list: no bytes; answer 2, none
    ∷ assigns (ordinary bb 2 2000 (some [])) 2 []
    []
    (group 2 2 2000 (worker aa 1 1000 1000 ∷ worker bb 2 2000 2000 ∷ []) (in_a 0 0 ∷ in_a 0 0 ∷ in_a 0 1 ∷ []))
    -- P8 AA* at 1, list 0 1 2: answer 1; 0 1
    ∷ assigns (ordinary aa 1 2000 (some (0 ∷ 1 ∷ 2 ∷ []))) 1 (0 ∷ 1 ∷ [])
    (0x08 ∷ 0x00 ∷ 0x01 ∷ 0x02 ∷ 0x00 ∷ 0x01 ∷ 0x01 ∷ 0x02 ∷ [])
    (group 2 2 2000 (worker aa 1 2000 2000 ∷ worker bb 2 2000 2000 ∷ []) (in_a 0 0 ∷ in_a 0 0 ∷ in_p 0 1 ∷ []))
    -- P9 AA* at 1, no list: no bytes; answer 1; 0 1 (nothing freed)
    ∷ assigns (ordinary aa 1 2000 none) 1 (0 ∷ 1 ∷ [])
    []
    (group 2 2 2000 (worker aa 1 2000 2000 ∷ worker bb 2 2000 2000 ∷ []) (in_a 0 0 ∷ in_a 0 0 ∷ in_p 0 1 ∷ []))
    -- P10 AA* at 1, list 0 1: answer 2; 0 1
    ∷ assigns (ordinary aa 1 2000 (some (0 ∷ 1 ∷ []))) 2 (0 ∷ 1 ∷ [])
    (0x08 ∷ 0x00 ∷ 0x02 ∷ 0x02 ∷ 0x00 ∷ 0x01 ∷ 0x00 ∷ [])
    (group 2 2 2000 (worker aa 2 2000 2000 ∷ worker bb 2 2000 2000 ∷ []) (in_a 0 0 ∷ in_a 0 0 ∷ unheld 1 ∷ []))
    -- P11 BB* at 2, empty list: answer 2; 2
    ∷ assigns (ordinary bb 2 2000 (some [])) 2 (2 ∷ [])
    (0x08 ∷ 0x01 ∷ 0x02 ∷ 0x01 ∷ 0x02 ∷ 0x00 ∷ [])
    (group 2 2 2000 (worker aa 2 2000 2000 ∷ worker bb 2 2000 2000 ∷ []) (in_a 0 0 ∷ in_a 0 0 ∷ in_a 1 1 ∷ []))
    -- P12 install 2 again: 1005
    ∷ answers (installing 2 0 0 1) (Refused Already)
    []
    (group 2 2 2000 (worker aa 2 2000 2000 ∷ worker bb 2 2000 2000 ∷ []) (in_a 0 0 ∷ in_a 0 0 ∷ in_a 1 1 ∷ []))
    ∷ []

pub worked_example : Runs (fresh 1000) cases
unfolding cases run
worked_example = refl
