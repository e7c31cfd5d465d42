-- Sweeps, and the two ticks of a member that they read: when it was last heard and when P was last set.
use Rattle.std.specs.Prelude.{ℕ, refl, [], ◌∷◌, ◌++◌, pos}
use Rattle.std.proofs.Math.Option.{none, some}
use Rattle.rules.specs.Event.{sweep}
use Rattle.rules.specs.declared.Refusal.TheVariants.{Clock}
use Rattle.rules.specs.declared.Answer.TheVariants.{Swept}
use Rattle.examples.specs.Running.{run}
use Rattle.examples.specs.Rows.{Runs, aa, answers, assigns, bb, cc, group, in_a, in_p, member, no_place, one_member, ordinary, refuses, sent, unheld, worker}

-- six ticks before the run-over
abbrev before_run_over : ℕ
before_run_over = 4294967290

-- 'session elapsed 44,999 stays, 45,000 goes', across the run-over; without P the rebalance timeout of 300 does not run
pub session_timeout_lem : Runs (one_member 1 before_run_over) (
    answers (sweep 294) (Swept 0) []
    (group 1 1 294 (worker aa 1 before_run_over before_run_over ∷ []) (in_a 0 0 ∷ in_a 0 0 ∷ in_a 0 0 ∷ []))
    ∷ answers (sweep 44993) (Swept 0) []
    (group 1 1 44993 (worker aa 1 before_run_over before_run_over ∷ []) (in_a 0 0 ∷ in_a 0 0 ∷ in_a 0 0 ∷ []))
    ∷ answers (sweep 44994) (Swept 1) (0x08 ∷ 0x00 ∷ 0x00 ∷ 0x07 ∷ 0x00 ∷ 0x00 ∷ 0x05 ∷ 0x00 ∷ 0x00 ∷ 0x03 ∷ 0x02 ∷ [])
    (group 2 1 44994 [] [])
    ∷ [])
unfolding run
session_timeout_lem = refl

-- 'with P not empty and set for its rebalance timeout or longer': 299 ms stays, 300 goes; across the run-over
pub rebalance_timeout : Runs (group 1 1 before_run_over (worker aa 1 before_run_over before_run_over ∷ []) (in_a 0 0 ∷ in_a 0 0 ∷ in_p 0 no_place ∷ [])) (
    answers (sweep 293) (Swept 0) []
    (group 1 1 293 (worker aa 1 before_run_over before_run_over ∷ []) (in_a 0 0 ∷ in_a 0 0 ∷ in_p 0 no_place ∷ []))
    ∷ answers (sweep 294) (Swept 1) (0x08 ∷ 0x00 ∷ 0x00 ∷ 0x07 ∷ 0x00 ∷ 0x00 ∷ 0x05 ∷ 0x00 ∷ 0x00 ∷ 0x03 ∷ 0x02 ∷ [])
    (group 2 1 294 [] [])
    ∷ [])
unfolding run
rebalance_timeout = refl

-- 'not heard for 45,000 ms or more', though P has time left; without a target there is no record 7
pub session_timeout_with_p : Runs (group 1 1 1000 (member aa 1 1 1800000 1000 1000 ∷ []) (in_p 0 no_place ∷ [])) (
    answers (sweep 45999) (Swept 0) []
    (group 1 1 45999 (member aa 1 1 1800000 1000 1000 ∷ []) (in_p 0 no_place ∷ []))
    ∷ answers (sweep 46000) (Swept 1) (0x08 ∷ 0x00 ∷ 0x00 ∷ 0x05 ∷ 0x00 ∷ 0x00 ∷ 0x03 ∷ 0x02 ∷ [])
    (group 2 1 46000 [] [])
    ∷ [])
unfolding run
session_timeout_with_p = refl

-- 'G rises by one for the whole sweep if any went'; who is left keeps what it has, and nothing of those removed is left
pub several_swept_raise_once : Runs (group 40 38 20000 (worker aa 38 1000 1000 ∷ worker bb 30 1000 1000 ∷ worker cc 40 20000 20000 ∷ []) (in_a 0 0 ∷ in_p 1 2 ∷ in_a 2 2 ∷ [])) (
    answers (sweep 46000) (Swept 2) (0x08 ∷ 0x00 ∷ 0x00 ∷ 0x07 ∷ 0x00 ∷ 0x00 ∷ 0x05 ∷ 0x00 ∷ 0x00 ∷ 0x08 ∷ 0x01 ∷ 0x00 ∷ 0x05 ∷ 0x01 ∷ 0x00 ∷ 0x03 ∷ 0x29 ∷ [])
    (group 41 38 46000 (none ∷ none ∷ worker cc 40 20000 20000 ∷ []) (unheld no_place ∷ unheld 2 ∷ in_a 2 2 ∷ []))
    ∷ [])
unfolding run
several_swept_raise_once = refl

-- 'Accepted heartbeats and sweeps set the group's last tick': what comes before a sweep's tick is 1001
pub sweep_sets_last_tick : Runs (one_member 1 1000) (
    answers (sweep 3000) (Swept 0) []
    (group 1 1 3000 (worker aa 1 1000 1000 ∷ []) (in_a 0 0 ∷ in_a 0 0 ∷ in_a 0 0 ∷ []))
    ∷ refuses (sweep 2999) Clock
    ∷ refuses (ordinary aa 1 2999 none) Clock
    ∷ [])
unfolding run
sweep_sets_last_tick = refl

-- 'Accepted heartbeats set the last-heard tick': a sweep counts from an ordinary heartbeat, to the millisecond
pub heartbeat_sets_last_heard : Runs (one_member 1 1000) (
    assigns (ordinary aa 1 2000 none) 1 (0 ∷ 1 ∷ 2 ∷ []) []
    (group 1 1 2000 (worker aa 1 2000 1000 ∷ []) (in_a 0 0 ∷ in_a 0 0 ∷ in_a 0 0 ∷ []))
    ∷ answers (sweep 46999) (Swept 0) []
    (group 1 1 46999 (worker aa 1 2000 1000 ∷ []) (in_a 0 0 ∷ in_a 0 0 ∷ in_a 0 0 ∷ []))
    ∷ answers (sweep 47000) (Swept 1) (0x08 ∷ 0x00 ∷ 0x00 ∷ 0x07 ∷ 0x00 ∷ 0x00 ∷ 0x05 ∷ 0x00 ∷ 0x00 ∷ 0x03 ∷ 0x02 ∷ [])
    (group 2 1 47000 [] [])
    ∷ [])
unfolding run
heartbeat_sets_last_heard = refl

-- 'the tick P was last set, that is when slots last moved to it': a heartbeat that keeps P does not move it
pub tick_of_p : Runs (group 2 2 1000 (worker aa 1 1000 1000 ∷ []) (in_a 0 0 ∷ in_a 0 no_place ∷ [])) (
    assigns (ordinary aa 1 1200 none) 1 (0 ∷ []) (0x08 ∷ 0x00 ∷ 0x01 ∷ 0x01 ∷ 0x00 ∷ 0x01 ∷ 0x01 ∷ [])
    (group 2 2 1200 (worker aa 1 1200 1200 ∷ []) (in_a 0 0 ∷ in_p 0 no_place ∷ []))
    ∷ assigns (ordinary aa 1 1300 none) 1 (0 ∷ []) []
    (group 2 2 1300 (worker aa 1 1300 1200 ∷ []) (in_a 0 0 ∷ in_p 0 no_place ∷ []))
    ∷ answers (sweep 1499) (Swept 0) []
    (group 2 2 1499 (worker aa 1 1300 1200 ∷ []) (in_a 0 0 ∷ in_p 0 no_place ∷ []))
    ∷ answers (sweep 1500) (Swept 1) (0x08 ∷ 0x00 ∷ 0x00 ∷ 0x07 ∷ 0x00 ∷ 0x00 ∷ 0x05 ∷ 0x00 ∷ 0x00 ∷ 0x03 ∷ 0x03 ∷ [])
    (group 3 2 1500 [] [])
    ∷ [])
unfolding run
tick_of_p = refl

-- 'freeing leaves it'; and with P empty the rebalance timeout does not run
pub freeing_leaves_tick_of_p : Runs (group 2 2 1300 (worker aa 1 1300 1200 ∷ []) (in_a 0 0 ∷ in_p 0 no_place ∷ [])) (
    assigns (ordinary aa 1 1400 (some (0 ∷ []))) 2 (0 ∷ []) (0x08 ∷ 0x00 ∷ 0x02 ∷ 0x01 ∷ 0x00 ∷ 0x00 ∷ [])
    (group 2 2 1400 (worker aa 2 1400 1200 ∷ []) (in_a 0 0 ∷ []))
    ∷ answers (sweep 5000) (Swept 0) []
    (group 2 2 5000 (worker aa 2 1400 1200 ∷ []) (in_a 0 0 ∷ []))
    ∷ [])
unfolding run
freeing_leaves_tick_of_p = refl

-- 'A given timeout is stored': a sweep goes by the one stored last, also for a P that was set before
pub changed_timeout : Runs (group 2 2 1000 (worker aa 1 1000 1000 ∷ []) (in_a 0 0 ∷ in_p 0 no_place ∷ [])) (
    assigns (sent aa (pos 1) 1100 (pos 500) none none) 1 (0 ∷ []) (0x05 ∷ 0x00 ∷ 0x01 ∷ (aa ++ 0xF4 ∷ 0x03 ∷ 0x01 ∷ []))
    (group 2 2 1100 (member aa 1 1 500 1100 1000 ∷ []) (in_a 0 0 ∷ in_p 0 no_place ∷ []))
    ∷ answers (sweep 1499) (Swept 0) []
    (group 2 2 1499 (member aa 1 1 500 1100 1000 ∷ []) (in_a 0 0 ∷ in_p 0 no_place ∷ []))
    ∷ answers (sweep 1500) (Swept 1) (0x08 ∷ 0x00 ∷ 0x00 ∷ 0x07 ∷ 0x00 ∷ 0x00 ∷ 0x05 ∷ 0x00 ∷ 0x00 ∷ 0x03 ∷ 0x03 ∷ [])
    (group 3 2 1500 [] [])
    ∷ [])
unfolding run
changed_timeout = refl
