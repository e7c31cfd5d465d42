use Rattle.std.proofs.Common.{◌≡◌, ℕ, ◌+◌, ◌*◌, length, get_or, refl, sym, ap, ◌∙◌, arith}
use lib.Count.{ones, ones-le}
use Rattle.rules.specs.Basics.{keep, up_to}
use Rattle.slots.specs.Set.{has, select, slots_of, word_count}
use Rattle.slots.proofs.Selecting.{select_le}
use Rattle.slots.proofs.Counting.{word_more}
use Rattle.slots.proofs.SlotSet.count.Goals as goal

pub loop-word-init : goal.loop-word-init
unfolding keep up_to
loop-word-init c = (omega arith, refl)

pub overflow_add-n : goal.overflow_add-n
overflow_add-n c =
    let l = c.loop-word in
    let ws = c.args.self.words in
    omega (arith, ones-le 64 (get_or ws l.word-index 0) c.loop-word-test.element_fits.fits, l.invariant.1, select_le (has ws) 0 (l.word-index * 64))

pub loop-word-preserved : goal.loop-word-preserved
loop-word-preserved c =
    let l = c.loop-word in
    let ws = c.args.self.words in (
      omega arith,
      ap (λ (n : ℕ). n + ones (get_or ws l.word-index 0)) l.invariant.1 ∙ sym (word_more ws l.word-index c.loop-word-test.element_fits.fits),
    )

pub returns : goal.returns
unfolding slots_of
returns c =
    let l = c.loop-word in
    let ws = c.args.self.words in
    let e : l.word-index ≡ word_count = omega arith in
    l.invariant.1 ∙ ap (λ (k : ℕ). length (select (has ws) 0 (k * 64))) e
