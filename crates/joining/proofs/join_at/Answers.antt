-- The records written and the group made are those of the effect, since each value that went into them is what the rules store.
use Rattle.std.proofs.Common.{Bool, ◌&&◌, refl, ap, ap₂, ◌∙◌}
use Rattle.std.specs.Prelude.{is_some}
use Rattle.rules.specs.Refusals.{zero_id}
use Rattle.rules.specs.Effects.{join_at}
use Rattle.records.specs.Storing.{join_batch}
use Rattle.records.specs.declared.kinds.MemberMetadata.{MemberMetadata}
use Rattle.group.specs.View.{view}
use Rattle.group.specs.declared.Seat.{Seat}
use Rattle.group.proofs.Rows.{raised_below}
use Rattle.events.specs.Outcomes.{request_of}
use Rattle.events.proofs.Ending.{no_room, written}
use Rattle.joining.proofs.JoinRows.{join_records_lem, join_answer, join_group}
use Rattle.joining.proofs.join_at.Goals as goal

pub returns-in_err-written : goal.returns-in_err-written
unfolding join_batch
returns-in_err-written c =
    λ owned l ready.
    let a = c.args in
    let g = a.group.now in
    let again = c.is_some.ensures ∙ ap is_some c.seat_at-had.ensures in
    let is = join_records_lem g a.p _ a.b owned (c.raised_epoch-epoch.ensures ∙ raised_below _ ready.rises) c.metadata_of-member.ensures (ap₂ (λ (x y : Bool). x && y) again c.has_target-aimed.ensures) in
    no_room g a.records.now l (join_at (view g) a.p.0 _ (request_of a.b owned)) is refl c.from_residual.result c.from_residual.ensures.1 c.in_err-written.ensures

pub returns : goal.returns
unfolding join_batch join_at
returns c =
    λ owned l ready.
    let a = c.args in
    let g = a.group.now in
    let e = c.raised_epoch-epoch.ensures ∙ raised_below _ ready.rises in
    let m = c.metadata_of-member.ensures in
    let again = c.is_some.ensures ∙ ap is_some c.seat_at-had.ensures in
    let aimed = ap₂ (λ (x y : Bool). x && y) again c.has_target-aimed.ensures in
    let seat = c.seat_of.ensures (rw (c.seat_at-had.ensures, m) ready.own) in
    let named = ap zero_id (ap (λ (s : Seat). s.id) seat ∙ ap (λ (x : MemberMetadata). x.id) m) ∙ ready.named in
    let after = join_group g a.p _ a.b owned e m aimed _ seat refl refl (c.put.ensures named) (c.vacate.ensures c.has_target-aimed.ensures) in (
      tt,
      refl,
      written g a.records.now l (join_at (view g) a.p.0 _ (request_of a.b owned)) (join_records_lem g a.p _ a.b owned e m aimed) refl _ refl c.in_ok-written.ensures
          (join_answer g a.p _ a.b owned e m aimed) after,
    )
