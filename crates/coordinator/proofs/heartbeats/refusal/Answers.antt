-- Two rows, and the second applies always.
use Rattle.std.proofs.Common.{sym, ◌∙◌}
use Rattle.group.specs.View.{view}
use Rattle.events.specs.Outcomes.{request_of, took}
use Rattle.events.proofs.Lent.{goes_back_is}
use Rattle.coordinator.proofs.ByKind.{invalid_clock, invalid_epoch}
use Rattle.coordinator.proofs.heartbeats.refusal.Goals as goal

pub returns-then-goes_back : goal.returns-then-goes_back
unfolding request_of took
returns-then-goes_back c = λ owned b l.
    sym (invalid_clock (view c.args.group.now) (request_of c.args.b owned) b l (sym (goes_back_is c.args.group.now c.args.b.tick) ∙ sym c.goes_back.ensures ∙ c.if-goes_back.true))

pub returns : goal.returns
unfolding request_of took
returns c = λ owned b l.
    sym (invalid_epoch (view c.args.group.now) (request_of c.args.b owned) b l (sym (goes_back_is c.args.group.now c.args.b.tick) ∙ sym c.goes_back.ensures ∙ c.if-goes_back.false))
