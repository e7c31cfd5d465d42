use Rattle.std.proofs.Common.{◌≡◌, ◌+◌, ◌/◌, length, arith}
use Rattle.rules.specs.Records.{number}
use Rattle.rules.proofs.Number.{number_small, number_more, number_five, number_pos}
use Rattle.numbers.proofs.number_len.Goals as goal

pub overflow_add-n : goal.overflow_add-n
overflow_add-n c = omega (arith, number_five c.args.x c.ranges.x.fits, number_pos c.loop-rest.rest)

pub loop-rest-preserved : goal.loop-rest-preserved
loop-rest-preserved c =
    let y = c.loop-rest.rest in
    let i : c.loop-rest.n + length (number y) ≡ 1 + length (number c.args.x) = c.loop-rest.invariant in
    let e : length (number y) ≡ 1 + length (number (y / 128)) = rw (number_more y c.loop-rest-test.true) (omega arith) in
    omega arith

pub returns : goal.returns
returns c =
    let e : length (number c.loop-rest.rest) ≡ 1 = rw (number_small c.loop-rest.rest c.loop-rest-test.false) in
    (omega arith, omega (arith, number_five c.args.x c.ranges.x.fits))
