use Rattle.std.proofs.Common.{ℕ, arith, sym, ap, ◌∙◌, List, ◌++◌, append-nil, take, length-set}
use Rattle.assignor.proofs.Listing.{among_end, listed_next}
use Rattle.assignor.proofs.list_subscribers.Goals as goal

pub loop-p-preserved : goal.loop-p-preserved
loop-p-preserved c =
    let l = c.loop-p in
    let a = c.args in
    (omega arith, simp length-set l.invariant.1, listed_next a.order.now a.subscriptions.now a.topic l.p-index l.list l.n (omega arith) (omega arith) ∙ l.invariant.2)

pub returns : goal.returns
returns c =
    let l = c.loop-p in
    let a = c.args in
    record {
      size = l.invariant.1;
      most = omega arith;
      front = sym (append-nil (take l.n l.list)) ∙ ap (λ (x : List ℕ). take l.n l.list ++ x) (sym (among_end a.order.now a.subscriptions.now a.topic l.p-index (omega arith))) ∙ l.invariant.2;
    }
