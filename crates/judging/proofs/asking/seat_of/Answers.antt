-- Past the last place nobody is.
use Rattle.std.proofs.Common.{ap, sym, ◌∙◌, ℕ}
use Rattle.group.specs.View.{view_seat}
use Rattle.group.specs.Columns.{seat_at}
use Rattle.group.proofs.Columns.{past_members, seat_is}
use Rattle.batches.proofs.Places.{no_place_of, place_of}
use Rattle.judging.proofs.asking.seat_of.Goals as goal

pub returns : goal.returns
returns c =
    let cells = c.args.members.now.cells in
    let at = place_of _ _ c.try_from.ensures _ c.in_ok-ok.ensures.value in
    ap view_seat (c.seat_at.ensures ∙ ap (λ (k : ℕ). seat_at cells k) at.0) ∙ seat_is cells c.args.place

pub returns-in_err-ok : goal.returns-in_err-ok
returns-in_err-ok c =
    let past = no_place_of _ _ c.try_from.ensures c.in_err-ok.ensures.value in
    rw c.from_residual.ensures (sym (past_members c.args.members.now.cells c.args.place past))
