use Rattle.std.proofs.Common.{◌≡◌, subst, ◌&&◌, ◌||◌, ℕ, ◌%◌, arith, eqb}
use Rattle.slots.specs.Set.{bit}
use Rattle.slots.proofs.Bits.{bit_zero}
use Rattle.slots.proofs.Gathering.{gather_none, gather_more}
use Rattle.search.proofs.free.free_places.Goals as goal

pub loop-i-init : goal.loop-i-init
loop-i-init c = gather_none _ _ bit_zero

pub loop-i-preserved : goal.loop-i-preserved
loop-i-preserved c =
    let l = c.loop-i in
    let on = c.is_at.result in
    let e : l.i % 64 ≡ l.i = omega arith in
    gather_more (bit c.mark-word.result) l.invariant c.is_at.ensures
    (subst (λ (n : ℕ). (s : ℕ) → bit c.mark-word.result s ≡ (bit l.word s || (eqb s n && on))) e c.mark-word.ensures)

pub returns : goal.returns
returns c =
    let g = c.loop-i.invariant in
    record { here = λ i q. g.done i (omega arith); past = λ i q. g.rest i (omega arith) }
