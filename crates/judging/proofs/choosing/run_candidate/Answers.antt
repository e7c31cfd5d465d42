-- At each `return` the tests that led there say which candidate it is.
use Rattle.std.proofs.Common.{rules, length, ◌≡◌, sym, [], ◌∙◌, arith, to_z-of_z, w32, SFits, of_z, to_z}
use Rattle.rules.specs.Event.{install, without_rule}
use Rattle.rules.specs.Ledger.{gone}
use Rattle.rules.specs.Step.{step}
use Rattle.events.specs.Outcomes.{all_but_target}
use Rattle.coordinator.proofs.ByKind.{handed_on}
use Rattle.judging.proofs.Beating.{cast_none, cast_some, is_large}
use Rattle.judging.proofs.Candidates.{beats, installs, its_targets, makes, removes}
use Rattle.judging.proofs.Runs.{heartbeat_ran, install_ran, large_install, no_heartbeat, ran_as, sweep_ran, topic_ran}
use Rattle.judging.proofs.choosing.run_candidate.Goals as goal

pub returns-in_err-epoch : goal.returns-in_err-epoch
returns-in_err-epoch c bytes target s e still =
    let a = c.args in
    let g = a.group.now in
    let x : length g.tables.target ≡ 1024 = search rules in
    let y : length g.tables.holder ≡ 1024 = search rules in
    let z : length g.tables.waiting ≡ 1024 = search rules in
    rw c.from_residual.ensures (ran_as _ _ _ a.tick _ _ (installs s a.tick _ c.in-Some.n c.in-Some.is (its_targets g x y z ∙ sym e))
    (large_install _ _ a.tick _ c.in-Some.n a.entries.now (is_large _ (cast_none _ _ _ c.try_from.ensures c.in_err-epoch.ensures.value))))

pub returns-in-Some : goal.returns-in-Some
returns-in-Some c bytes target s e still =
    let a = c.args in
    let g = a.group.now in
    let f : SFits w32 c.in_ok-epoch.epoch = search rules in
    let epoch = cast_some _ _ c.try_from.ensures c.in_ok-epoch.ensures.value in
    let x : length g.tables.target ≡ 1024 = search rules in
    let y : length g.tables.holder ≡ 1024 = search rules in
    let z : length g.tables.waiting ≡ 1024 = search rules in
    let size : length a.scratch.now ≡ 4096 = search rules in
    ran_as _ _ _ a.tick _ _ (installs s a.tick _ c.in-Some.n c.in-Some.is (its_targets g x y z ∙ sym e))
    (install_ran a.tick c.in-Some.n _ a.entries.now (omega (arith, epoch.0)) (to_z-of_z f ∙ epoch.1) _ _ a.scratch.now _ size c.into.result
    (λ l. handed_on all_but_target _ _ _ _ (λ h. step h (install without_rule (to_z w32 (of_z w32 c.in_ok-epoch.epoch)) a.entries.now) a.scratch.now l) c.into.ensures (c.install.ensures l)) still)

pub returns-then-said : goal.returns-then-said
returns-then-said c bytes target s e still =
    let a = c.args in
    let size : length a.scratch.now ≡ 4096 = search rules in
    ran_as _ _ _ a.tick _ _ (removes s a.tick _ c.in_default.is c.if-said.true)
    (sweep_ran a.tick a.group.now _ _ a.scratch.now _ size c.sweep.result (c.sweep.ensures []) (gone s.records) (c.silence.ensures (gone s.records) s.marks) still)

pub returns-in-Some-topic : goal.returns-in-Some-topic
returns-in-Some-topic c bytes target s e still =
    let a = c.args in
    let k = c.in-Some-topic.t in
    let long : length k.id ≡ 16 = search rules in
    let size : length a.scratch.now ≡ 4096 = search rules in
    ran_as _ _ _ a.tick _ _ (makes s a.tick _ c.in_default.is c.if-said.false k c.in-Some-topic.is)
    (topic_ran a.tick k.number k.id k.count long _ _ a.scratch.now _ size c.topic.result c.topic.ensures still)

pub returns : goal.returns
returns c bytes target s e still =
    let a = c.args in
    let g = a.group.now in
    let x : length g.tables.target ≡ 1024 = search rules in
    let y : length g.tables.holder ≡ 1024 = search rules in
    let z : length g.tables.waiting ≡ 1024 = search rules in
    let size : length a.scratch.now ≡ 4096 = search rules in
    let wide : length a.list.now ≡ 1024 = search rules in
    ran_as _ _ _ a.tick _ _ (beats s a.tick _ c.in_default.is c.if-said.false c.in_default-topic.is)
    (heartbeat_ran a.said a.tick g _ s c.in_ok-request.request c.in_ok-request.ensures x y z a.scratch.now _ a.list.now _ size wide c.heartbeat.result c.heartbeat.ensures still)

pub returns-in_err-request : goal.returns-in_err-request
returns-in_err-request c bytes target s e still =
    let a = c.args in
    rw c.from_residual-in_err-request.ensures (ran_as _ _ _ a.tick _ _ (beats s a.tick _ c.in_default.is c.if-said.false c.in_default-topic.is) (no_heartbeat a.said a.tick a.group.now a.group.now s _ c.in_err-request.ensures))
