-- At each return the tests that led there say which row applies, or that none does.
use Rattle.std.proofs.Common.{ℕ, ◌≡◌, sym, ap, ◌∙◌}
use Rattle.rules.specs.Effects.{leave_at}
use Rattle.rules.specs.declared.Refusal.{Refusal}
use Rattle.rules.specs.declared.Refusal.TheVariants.{UnknownMemberId}
use Rattle.group.proofs.Finding.{hit, miss}
use Rattle.group.specs.View.{view}
use Rattle.events.specs.Outcomes.{carried, request_of}
use Rattle.events.proofs.Carrying.{denied, refusal}
use Rattle.events.proofs.Ending.{handed_on}
use Rattle.events.proofs.Lent.{goes_back_is, known_in}
use Rattle.leaving.proofs.LeaveRows.{row_clock, row_zero, row_unknown, leave_step}
use Rattle.leaving.proofs.leave.Goals as goal

pub returns-then-goes_back : goal.returns-then-goes_back
unfolding request_of
returns-then-goes_back c =
    let a = c.args in
    let g = a.group.now in
    λ owned l. refusal (row_clock (view g) (request_of a.b owned) a.records.now l (sym (goes_back_is g a.b.tick) ∙ sym c.goes_back.ensures ∙ c.if-goes_back.true))

pub returns-then-is_zero : goal.returns-then-is_zero
unfolding request_of
returns-then-is_zero c =
    let a = c.args in
    let g = a.group.now in
    λ owned l. refusal (row_zero (view g) (request_of a.b owned) a.records.now l (sym (goes_back_is g a.b.tick) ∙ sym c.goes_back.ensures ∙ c.if-goes_back.false) (sym c.is_zero.ensures ∙ c.if-is_zero.true))

pub returns-in_err-p : goal.returns-in_err-p
unfolding request_of
returns-in_err-p c =
    let a = c.args in
    let g = a.group.now in
    let nobody = c.in_err-p.ensures.ok_part in
    let why : c.in_err-p.field-0.0 ≡ UnknownMemberId = let e = rw nobody at c.in_err-p.ensures.value in cc in
    λ owned l. handed_on g a.records.now l c.from_residual.result c.from_residual.ensures.1
    (row_unknown (view g) (request_of a.b owned) a.records.now l (sym (goes_back_is g a.b.tick) ∙ sym c.goes_back.ensures ∙ c.if-goes_back.false) (sym c.is_zero.ensures ∙ c.if-is_zero.false)
    (miss _ nobody (known_in g _ _ c.find.ensures))
    ∙ ap (λ (w : Refusal). denied w (view g) a.records.now l) (sym why))

pub returns : goal.returns
unfolding request_of
returns c =
    let a = c.args in
    let g = a.group.now in
    let h = hit c.in_ok-p.ensures.ok_part (known_in g _ _ c.find.ensures) in
    λ owned l.
    let e = c.leave_at.ensures l in (
      e.0,
      e.1,
      e.2 ∙ ap (λ (p : ℕ). carried (view g) (leave_at (view g) p a.b.tick) a.records.now l) (sym h.first)
          ∙ sym (leave_step (view g) (request_of a.b owned) a.records.now l (sym (goes_back_is g a.b.tick) ∙ sym c.goes_back.ensures ∙ c.if-goes_back.false) (sym c.is_zero.ensures ∙ c.if-is_zero.false) h.found),
    )
