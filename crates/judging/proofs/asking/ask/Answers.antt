-- At each `return` the tests that led there say which heartbeat it is.
use Rattle.std.specs.Prelude as P
use Rattle.std.proofs.Common.{Bool, sym, subst, ◌∙◌}
use Rattle.std.proofs.Math.Option.{some}
use Rattle.rules.specs.Group.{member_at}
use Rattle.rules.specs.Batches.{current_in}
use Rattle.group.specs.View.{seated}
use Rattle.events.specs.declared.Request as Code
use Rattle.judging.specs.Asks.{Asks, beat_in, beating_as}
use Rattle.judging.proofs.Beating.{beats_at, moves_at, nobody_at}
use Rattle.judging.proofs.Candidates.{beat_beating, beat_joining, beat_moving, beat_none}
use Rattle.judging.proofs.asking.ask.Goals as goal

pub returns-then-is_join : goal.returns-then-is_join
returns-then-is_join c bytes table e e' s g is =
    let joins = sym (c.is_join.ensures (current_in s.records) s.current) ∙ c.if-is_join.true in
    subst (Asks c.join.result) (beat_joining s c.args.tick g c.in-Some.m c.in-Some.is joins) c.join.ensures

pub returns-in_err-seat : goal.returns-in_err-seat
returns-in_err-seat c bytes table e e' s g is =
    let a = c.args in
    let m = c.in-Some.m in
    let stays = sym (c.is_join.ensures (current_in s.records) s.current) ∙ c.if-is_join.false in
    subst (λ (r : P.Option Code.Request). Asks r (beat_in a.tick g s.records)) (sym c.from_residual.ensures)
    (subst (Asks P.None) (beat_beating s a.tick g m c.in-Some.is stays)
    (nobody_at P.None a.tick g a.members.now.cells is m.place c.in_err-seat.ensures m.timeout m.subscription (P.is_some a.said.current)))

pub returns-in-Some : goal.returns-in-Some
returns-in-Some c bytes table e e' s g is =
    let a = c.args in
    let m = c.in-Some.m in
    let r = c.request.result in
    let seat = c.in_ok-seat.seat in
    let stays = sym (c.is_join.ensures (current_in s.records) s.current) ∙ c.if-is_join.false in
    subst (Asks r) (beat_beating s a.tick g m c.in-Some.is stays)
    (beats_at r a.tick g a.members.now.cells is m.place seat c.in_ok-seat.ensures m.timeout m.subscription (P.is_some a.said.current)
    (subst (λ (b : Bool). Asks r (some (beating_as a.tick (seated seat) m.timeout m.subscription b))) c.is_some.ensures c.request.ensures))

pub returns-in_err-place : goal.returns-in_err-place
returns-in_err-place c bytes table e e' s g is =
    let a = c.args in
    subst (λ (r : P.Option Code.Request). Asks r (beat_in a.tick g s.records)) (sym c.from_residual-in_err-place.ensures)
    (subst (Asks P.None) (beat_none s a.tick g c.in_default.is c.in_err-place.was) tt)

pub returns-in_err-seat-2 : goal.returns-in_err-seat-2
returns-in_err-seat-2 c bytes table e e' s g is =
    let a = c.args in
    let p = c.in_ok-place.place in
    subst (λ (r : P.Option Code.Request). Asks r (beat_in a.tick g s.records)) (sym c.from_residual-in_err-seat-2.ensures)
    (subst (Asks P.None) (beat_moving s a.tick g c.in_default.is p _ c.in_ok-place.was)
    (nobody_at P.None a.tick g a.members.now.cells is p c.in_err-seat-2.ensures (member_at g p).timeout (member_at g p).subscription P.true))

pub returns : goal.returns
returns c bytes table e e' s g is =
    let a = c.args in
    let p = c.in_ok-place.place in
    let r = c.request-2.result in
    subst (Asks r) (beat_moving s a.tick g c.in_default.is p _ c.in_ok-place.was)
    (moves_at r a.tick g a.members.now.cells is p c.in_ok-seat-2.seat c.in_ok-seat-2.ensures c.request-2.ensures)
