use Rattle.std.proofs.Common.{rules, ◌≡◌, subst, length, get_or, ℕ, ◌+◌, ◌-◌, ◌*◌, ◌^◌, ◌<◌, Fits, w64}
use native.Mathlib.Omega.{arith}
use lib.Count.{count_trailing_zeros}
use Rattle.rules.specs.Records.{number}
use Rattle.rules.proofs.Number.{number_pos}
use Rattle.slots.specs.Set.{has, slots_of, word_count}
use Rattle.records.proofs.Extra.{Passed, none_passed, pass_empty, pass_word}
use Rattle.records.proofs.sets.extra_len.Goals.{then-word-ne0, else-word-ne0}
use Rattle.records.proofs.sets.extra_len.Goals as goal

pub loop-i-init : goal.loop-i-init
loop-i-init c = (omega arith, none_passed _)

pub overflow_sub-extra : goal.overflow_sub-extra
overflow_sub-extra c = omega (arith, c.size.ensures, number_pos)

pub loop-i-preserved : goal.loop-i-preserved
loop-i-preserved c =
    let l = c.loop-i in
    let word = get_or c.args.set.words l.i 0 in
    let fits : word < 2 ^ 64 = (let f : Fits w64 word = search rules in f.fits) in
    elim c.if-word-ne0.branch [
      | then-word-ne0 w ↦
          let x = l.i * 64 + count_trailing_zeros 64 word - l.last in
          let long : length (number x) ≡ 1 + (w.size.result - 1) = omega (arith, w.size.ensures, number_pos x) in
          rw (w.extra-is, w.last-is) (omega (arith, l.invariant.0, w.size.ensures), pass_word c.args.set.words l.i l.extra l.last l.invariant.1 fits (omega (arith, w.if-word-ne0.true)) _ long)
      | else-word-ne0 w ↦
          rw (w.extra-is, w.last-is) (omega (arith, l.invariant.0), pass_empty c.args.set.words l.i l.extra l.last l.invariant.1 w.if-word-ne0.false)
    ]

pub returns : goal.returns
unfolding slots_of
returns c =
    let l = c.loop-i in
    let e : l.i ≡ word_count = omega arith in
    ((subst (λ (n : ℕ). Passed (has c.args.set.words) (n * 64) l.extra l.last) e l.invariant.1).bytes, omega (arith, l.invariant.0))
