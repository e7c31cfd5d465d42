use Rattle.std.proofs.Common.{refl, arith}
use Rattle.rules.proofs.Number.{number_small, number_more, number_pos}
use Rattle.numbers.proofs.Writing.{to_go₁, same_len, put_one, ended}
use Rattle.numbers.proofs.put_number.Goals as goal

pub bounds-buf-at : goal.bounds-buf-at
bounds-buf-at c =
    let s = c.loop-rest.invariant in
    omega (arith, to_go₁ s, same_len s, s.fits, number_pos c.loop-rest.rest)

pub loop-rest-preserved : goal.loop-rest-preserved
loop-rest-preserved c = put_one (rw (number_more c.loop-rest.rest c.loop-rest-test.true) at c.loop-rest.invariant)

pub bounds-buf-at-2 : goal.bounds-buf-at-2
bounds-buf-at-2 c =
    let s = c.loop-rest.invariant in
    omega (arith, to_go₁ s, same_len s, s.fits, number_pos c.loop-rest.rest)

pub returns : goal.returns
returns c = ended (put_one (rw (number_small c.loop-rest.rest c.loop-rest-test.false) at c.loop-rest.invariant)) refl
