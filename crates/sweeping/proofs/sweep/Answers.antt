-- The row of the clock, or else the effect at the places that are marked.
use Rattle.std.proofs.Common.{ℕ, List, refl, sym, ap, ◌∙◌}
use Rattle.rules.specs.Effects.{sweep_of}
use Rattle.group.specs.View.{view}
use Rattle.events.specs.Outcomes.{carried}
use Rattle.events.proofs.Carrying.{refusal}
use Rattle.events.proofs.Lent.{goes_back_is}
use Rattle.sweeping.proofs.SweepRows.{row_clock, sweep_step}
use Rattle.sweeping.proofs.sweep.Goals as goal

pub returns-then-goes_back : goal.returns-then-goes_back
returns-then-goes_back c =
    let a = c.args in
    let g = a.group.now in
    λ l. refusal (row_clock (view g) a.tick a.records.now l (sym (goes_back_is g a.tick) ∙ sym c.goes_back.ensures ∙ c.if-goes_back.true))

pub returns : goal.returns
unfolding view
returns c =
    let a = c.args in
    let g = a.group.now in
    let overdue = c.overdue_places-gone.ensures (view g) refl refl in
    λ l.
    let e = c.sweep_marked.ensures l in (
      e.0,
      e.1,
      e.2 ∙ ap (λ (ps : List ℕ). carried (view g) (sweep_of (view g) ps a.tick) a.records.now l) overdue
          ∙ sym (sweep_step (view g) a.tick a.records.now l (sym (goes_back_is g a.tick) ∙ sym c.goes_back.ensures ∙ c.if-goes_back.false)),
    )
