use Rattle.std.proofs.Common.{◌≡◌, ℕ, ◌-◌, get_or, refl, arith}
use Rattle.std.proofs.lemmas.List.{length-replicate, get_or-replicate}
use Rattle.rules.specs.Constants.{max_members, slot_count}
use Rattle.slots.proofs.Selecting.{select_le}
use Rattle.installing.specs.Links.{is_of}
use Rattle.installing.proofs.Linking.{link_begin, link_none, link_some}
use Rattle.installing.proofs.retargeting.Links.of.Goals as goal

pub loop-s-init : goal.loop-s-init
loop-s-init c =
    link_begin _ _ _ _ c.told-target (length-replicate {A = ℕ} max_members slot_count) (length-replicate {A = ℕ} max_members 0) c.told-nexts
    (λ p h. get_or-replicate max_members p slot_count 0 h) (λ p h. get_or-replicate max_members p 0 0 h)

pub overflow_add-counts : goal.overflow_add-counts
overflow_add-counts c =
    let l = c.loop-s in
    let target = c.args.target.now in
    let p = get_or target (l.s - 1) 0 in
    omega (arith, l.invariant.count p c.if-p-lt-MEMBERS.true, select_le (is_of target p) l.s (slot_count - l.s))

pub loop-s-preserved-then-p-lt-MEMBERS : goal.loop-s-preserved-then-p-lt-MEMBERS
loop-s-preserved-then-p-lt-MEMBERS c =
    let l = c.loop-s in
    link_some _ _ _ _ (l.s - 1) l.invariant (omega arith) (omega arith) refl c.if-p-lt-MEMBERS.true

pub loop-s-preserved : goal.loop-s-preserved
loop-s-preserved c =
    let l = c.loop-s in
    link_none _ _ _ _ (l.s - 1) l.invariant (omega arith) (omega arith) (omega arith)

pub invariant_of-result : goal.invariant_of-result
invariant_of-result c =
    let l = c.loop-s in
    let e : l.s ≡ 0 = omega arith in
    record { linked = rw e at l.invariant }
