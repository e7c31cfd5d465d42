-- Each `return` is a row of the table: the tests that led there say that the rows before it do not apply. The last is the effect.
use Rattle.std.proofs.Common.{◌≡◌, ℕ, ℤ, List, sym, ap, ◌∙◌, eq-eqb, ne_eqb, arith, to_z-of_z}
use Rattle.rules.specs.Refusals.{is_epoch}
use Rattle.rules.specs.Effects.{install_effect}
use Rattle.group.specs.View.{view}
use Rattle.events.specs.Outcomes.{carried}
use Rattle.events.proofs.Carrying.{refusal}
use Rattle.installing.proofs.Installs.{install_short, install_stale, install_already, install_bad, install_step}
use Rattle.installing.proofs.install.Goals.{After-is_epoch}
use Rattle.installing.proofs.install.Goals as goal

-- the epoch is handed on as it came
told : (c : After-is_epoch) → is_epoch c.args.epoch c.args.group.now.head.epoch ≡ c.is_epoch.result
told c = ap (λ (z : ℤ). is_epoch z c.args.group.now.head.epoch) (sym (to_z-of_z c.ranges.epoch)) ∙ sym c.is_epoch.ensures

pub returns-in_default : goal.returns-in_default
returns-in_default c = λ l. refusal (install_short _ _ _ _ _ l (ne_eqb _ _ c.in_default.ensures.1))

pub returns-then-not-is_epoch : goal.returns-then-not-is_epoch
unfolding view
returns-then-not-is_epoch c = λ l. refusal (install_stale _ _ _ _ _ l (eq-eqb _ _ c.in-Ok.ensures.1.long) (told (goal.at.returns-then-not-is_epoch c).After-is_epoch ∙ c.if-not-is_epoch.true))

pub returns-then-group : goal.returns-then-group
unfolding view
returns-then-group c =
    λ l. refusal (install_already _ _ _ _ _ l (eq-eqb _ _ c.in-Ok.ensures.1.long) (told (goal.at.returns-then-group c).After-is_epoch ∙ c.if-not-is_epoch.false) (eq-eqb _ _ c.if-group.true))

pub returns-in-Some : goal.returns-in-Some
unfolding view
returns-in-Some c =
    let b = c.in-Some.ensures in
    λ l. refusal (install_bad _ _ _ _ _ l (eq-eqb _ _ c.in-Ok.ensures.1.long) (told (goal.at.returns-in-Some c).After-is_epoch ∙ c.if-not-is_epoch.false) (ne_eqb _ _ c.if-group.false) b.1 (omega (arith, b.0, c.in-Ok.ensures.1.long)))

pub returns : goal.returns
unfolding view
returns c =
    let a = c.args in
    let e = c.install_at.ensures in
    λ l. (
      (e l).0,
      (e l).1,
      (e l).2
          ∙ ap (λ (es : List ℕ). carried (view a.group.now) (install_effect (view a.group.now) es) a.records.now l) c.in-Ok.ensures.1.same
          ∙ sym (install_step _ _ _ _ _ l (eq-eqb _ _ c.in-Ok.ensures.1.long) (told (goal.at.returns c).After-is_epoch ∙ c.if-not-is_epoch.false) (ne_eqb _ _ c.if-group.false) (omega (arith, c.in_default-first_bad.ensures, c.in-Ok.ensures.1.long))),
    )
