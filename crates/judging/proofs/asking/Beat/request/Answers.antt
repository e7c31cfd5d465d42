-- At each `return` a number doesn't fit, or all do.
use Rattle.std.proofs.Common.{rules, length, ◌≡◌, ◌<◌, ◌∙◌, to_z-of_z, w32, SFits}
use Rattle.judging.proofs.Beating.{all_fit, beats, cast_none, cast_some, is_signed_lem, is_wide, no_epoch, no_subscription, no_timeout, not_signed}
use Rattle.judging.proofs.asking.Beat.request.Goals as goal

pub returns-in_err-epoch : goal.returns-in_err-epoch
returns-in_err-epoch c =
    let a = c.args in
    let n : length a.self.seat.id ≡ 16 = search rules in
    let h : a.self.seat.subscription < 65536 = search rules in
    rw c.from_residual.ensures (no_epoch a.tick a.self.timeout a.self.subscription a.self.moves a.self.seat n h (not_signed _ (cast_none _ _ _ c.try_from.ensures c.in_err-epoch.ensures.value)))

pub returns-in_err-timeout : goal.returns-in_err-timeout
returns-in_err-timeout c =
    let a = c.args in
    let n : length a.self.seat.id ≡ 16 = search rules in
    let h : a.self.seat.subscription < 65536 = search rules in
    rw c.from_residual-in_err-timeout.ensures (no_timeout a.tick a.self.timeout a.self.subscription a.self.moves a.self.seat n h c.in_err-timeout.ensures)

pub returns-in_err-subscription : goal.returns-in_err-subscription
returns-in_err-subscription c =
    let a = c.args in
    let n : length a.self.seat.id ≡ 16 = search rules in
    let h : a.self.seat.subscription < 65536 = search rules in
    let wide : a.self.subscription < 65536 → ⊥ = cast_none _ _ _ c.try_from-2.ensures c.in_err-subscription.ensures.value in
    rw c.from_residual-in_err-subscription.ensures (no_subscription a.tick a.self.timeout a.self.subscription a.self.moves a.self.seat n h (is_wide _ wide))

pub returns : goal.returns
returns c =
    let a = c.args in
    let s = a.self.seat in
    let n : length s.id ≡ 16 = search rules in
    let h : s.subscription < 65536 = search rules in
    let f : SFits w32 c.in_ok-epoch.epoch = search rules in
    let k : SFits w32 c.in_ok-timeout.timeout = search rules in
    let epoch = cast_some _ _ c.try_from.ensures c.in_ok-epoch.ensures.value in
    let timeout = c.in_ok-timeout.ensures in
    let subscription = cast_some _ _ c.try_from-2.ensures c.in_ok-subscription.ensures.value in (
      all_fit a.tick a.self.timeout a.self.subscription a.self.moves s n h subscription.0 (is_signed_lem _ epoch.0) timeout.0,
      beats a.tick a.self.timeout a.self.subscription a.self.moves s n h _ _ _ (to_z-of_z f ∙ epoch.1) (to_z-of_z k ∙ timeout.1) subscription.1,
    )
