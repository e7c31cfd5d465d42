use Rattle.std.proofs.Common.{◌≡◌, refl, not, ◌&&◌, ◌-◌, ◌^◌, arith, length, get_or, w64, Fits, rules}
use lib.Bits.{bit_and}
use Rattle.slots.proofs.Bits.{bit_without}
use Rattle.slots.proofs.Each.{each_more}
use Rattle.slots.proofs.Words.{wordwise}
use Rattle.slots.specs.Set.{word_count}
use Rattle.slots.proofs.SlotSet.difference.Goals as goal

pub loop-i-preserved : goal.loop-i-preserved
loop-i-preserved c = let l = c.loop-i in
    let n : length c.args.self.words ≡ word_count = search rules in
    (omega arith, each_more _ l.invariant.1 (omega (arith, l.invariant.1.len)) refl)

pub returns : goal.returns
returns c =
    let l = c.loop-i in
    let a = c.args in
    let na : length a.self.words ≡ word_count = search rules in
    let nb : length a.other.words ≡ word_count = search rules in
    wordwise (λ x y. bit_and x ((2 ^ 64 - 1) - y)) (λ x y. x && not y) refl bit_without a.self.words a.other.words l.r.words na nb
    (λ k. let f : Fits w64 (get_or a.other.words k 0) = search rules in f.fits) l.i (omega arith) l.invariant.1
