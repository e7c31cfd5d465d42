-- What is left of the word gives its lowest slot; where nothing is left of it, the walk enters the next word or is over.
use Rattle.std.proofs.Common.{rules, ◌≡◌, ◌+◌, length, get_or, [], Fits, w64, sym, ap, ◌∙◌, arith}
use Rattle.slots.specs.Set.{word_count}
use Rattle.slots.specs.Walk.{rest}
use Rattle.slots.proofs.Steps.{gives, goes_on, is_over}
use Rattle.slots.proofs.walking.SlotsIterator.next.Goals as goal

pub loop-self-preserved : goal.loop-self-preserved
unfolding rest
loop-self-preserved c =
    let l = c.loop-self in
    let n : length l.self.set.words ≡ word_count = search rules in
    let next = c.in_ok-self.ensures.lookup in
    let e : c.in_ok-self.field-0.now ≡ get_or l.self.set.words (l.self.word + 1) 0 = next.3.1 0 in
    rw e (sym (goes_on l.self.set.words l.self.left l.self.word (omega arith) (omega (arith, next.3.0))) ∙ l.invariant)

pub returns-in_err-self-clause-steps : goal.returns-in_err-self-clause-steps
unfolding rest
returns-in_err-self-clause-steps c =
    let l = c.loop-self in
    let n : length l.self.set.words ≡ word_count = search rules in
    let e : rest l.self ≡ [] = is_over l.self.set.words l.self.left l.self.word (omega arith) (omega (arith, c.in_err-self.ensures.lookup.3)) in
    rw c.from_residual.ensures (sym l.invariant ∙ e, e)

pub returns-clause-steps : goal.returns-clause-steps
unfolding rest
returns-clause-steps c =
    let l = c.loop-self in
    let f : Fits w64 l.self.left = search rules in
    sym l.invariant ∙ gives l.self.set.words l.self.left l.self.word (omega arith) f.fits

pub returns-clause-goes : goal.returns-clause-goes
returns-clause-goes c = let shorter = ap length (returns-clause-steps c) in search rules
