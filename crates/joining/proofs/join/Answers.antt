-- Each `return` is a row of the table: the tests that led there say that the rows before it do not apply. The last is the effect, at the place that was
-- chosen.
use Rattle.std.proofs.Common.{sym, ◌∙◌}
use Rattle.rules.specs.Refusals.{goes_back, at_end}
use Rattle.rules.specs.Effects.{join_at}
use Rattle.group.specs.View.{view}
use Rattle.events.specs.Outcomes.{request_of, carried}
use Rattle.events.proofs.Carrying.{refusal}
use Rattle.joining.proofs.JoinRows.{row_clock, row_invalid, row_full, row_end, join_step, named_id, taken}
use Rattle.joining.proofs.join.Goals as goal

pub returns-then-goes_back : goal.returns-then-goes_back
unfolding goes_back view request_of
returns-then-goes_back c = λ l. refusal (row_clock _ _ _ l (sym c.if-goes_back.ensures))

pub returns-then-is_bad_join : goal.returns-then-is_bad_join
unfolding goes_back view request_of
returns-then-is_bad_join c = λ l. refusal (row_invalid _ _ _ l (sym c.if-goes_back.ensures) (sym c.if-is_bad_join.ensures))

pub returns-then-at_end : goal.returns-then-at_end
unfolding goes_back at_end view request_of
returns-then-at_end c = λ l. refusal (row_end _ _ _ l (sym c.if-goes_back.ensures) (sym c.if-is_bad_join.ensures) c.in-Some.ensures.found (sym c.if-at_end.ensures))

pub returns-in_default : goal.returns-in_default
unfolding goes_back view request_of
returns-in_default c = λ l. refusal (row_full _ _ _ l (sym c.if-goes_back.ensures) (sym c.if-is_bad_join.ensures) c.in_default.ensures)

pub returns : goal.returns
unfolding goes_back at_end view request_of
returns c =
    λ l.
    let a = c.args in
    let b = request_of a.b a.owned.now in
    let g = view a.group.now in
    let at = taken a.group.now.members.cells a.b.id c.in-Some.ensures in
    let e = c.join_at.ensures a.owned.now l (record { rises = sym c.if-at_end.ensures; named = named_id b (sym c.if-is_bad_join.ensures); own = at.1 }) in (
      e.0,
      e.1,
      e.2
          ∙ (λ i. carried g (join_at g (sym c.in-Some.ensures.first i) (at.0 i) b) a.records.now l)
          ∙ sym (join_step g b a.records.now l (sym c.if-goes_back.ensures) (sym c.if-is_bad_join.ensures) c.in-Some.ensures.found (sym c.if-at_end.ensures)),
    )
