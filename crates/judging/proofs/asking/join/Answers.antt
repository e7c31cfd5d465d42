-- The request is that of the rules if its numbers fit.
use Rattle.std.proofs.Common.{rules, length, ◌≡◌, ◌<◌, ◌∙◌, refl, arith, to_z-of_z, w32, SFits}
use Rattle.judging.specs.Asks.{metadata_as}
use Rattle.judging.proofs.Beating.{cast_none, cast_some, is_large, is_wide, join_fits, joins_as, large_subscription, large_timeout}
use Rattle.judging.proofs.asking.join.Goals as goal

pub returns-in_err-timeout : goal.returns-in_err-timeout
returns-in_err-timeout c =
    let m = c.args.m in
    let n : length m.id ≡ 16 = search rules in
    rw c.from_residual.ensures (large_timeout c.args.tick (metadata_as m) n (is_large _ (cast_none _ _ _ c.try_from.ensures c.in_err-timeout.ensures.value)))

pub returns-in_err-subscription : goal.returns-in_err-subscription
returns-in_err-subscription c =
    let m = c.args.m in
    let n : length m.id ≡ 16 = search rules in
    let wide : m.subscription < 65536 → ⊥ = cast_none _ _ _ c.try_from-2.ensures c.in_err-subscription.ensures.value in
    rw c.from_residual-in_err-subscription.ensures (large_subscription c.args.tick (metadata_as m) n (is_wide _ wide))

pub returns : goal.returns
returns c =
    let m = c.args.m in
    let n : length m.id ≡ 16 = search rules in
    let f : SFits w32 c.in_ok-timeout.timeout = search rules in
    let timeout = cast_some _ _ c.try_from.ensures c.in_ok-timeout.ensures.value in
    let subscription = cast_some _ _ c.try_from-2.ensures c.in_ok-subscription.ensures.value in (
      join_fits c.args.tick (metadata_as m) n (omega (arith, timeout.0)) subscription.0,
      joins_as c.args.tick (metadata_as m) _ _ _ refl (to_z-of_z f ∙ timeout.1) subscription.1,
    )
