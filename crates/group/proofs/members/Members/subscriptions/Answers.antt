-- Place by place.
use Rattle.std.proofs.Common.{map, sym, ◌∙◌, arith, ext_get_or}
use lib.ListN.{length-map}
use Rattle.group.specs.Columns.{view_members}
use Rattle.group.specs.Entries.{subscription_of}
use Rattle.group.proofs.Columns.{members_long}
use Rattle.group.proofs.Installing.{subscriptions_at}
use Rattle.group.proofs.members.Members.subscriptions.Goals as goal

pub returns : goal.returns
returns c =
    let l = c.loop-k in
    let ms = view_members c.args.self.now.cells in
    ext_get_or 0 l.all (map subscription_of ms) (l.invariant.0 ∙ sym (length-map ms subscription_of ∙ members_long c.args.self.now.cells))
    (λ k p. l.invariant.1 k (omega (arith, l.invariant.0, p)) ∙ sym (subscriptions_at ms k))
