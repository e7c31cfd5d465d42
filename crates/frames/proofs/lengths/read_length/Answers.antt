use Rattle.frames.proofs.Measures.{none_left, zero_length, short_length, long_length}
use Rattle.frames.proofs.lengths.read_length.Goals as goal

pub returns-in_default : goal.returns-in_default
returns-in_default c = none_left _ _ c.in_default.ensures.lookup.3

pub returns-then-first-ge128 : goal.returns-then-first-ge128
returns-then-first-ge128 c =
    let a = c.args in
    let some = c.in-Some.ensures.lookup.3 in
    long_length a.s.now a.at c.in-Some.b.now some.0 (some.1 0) c.if-first-ge128.true c.second_group.result c.second_group.ensures

pub returns-then-first-eq0 : goal.returns-then-first-eq0
returns-then-first-eq0 c =
    let a = c.args in
    let some = c.in-Some.ensures.lookup.3 in
    zero_length a.s.now a.at c.in-Some.b.now some.0 (some.1 0) c.if-first-eq0.true

pub returns : goal.returns
returns c =
    let a = c.args in
    let some = c.in-Some.ensures.lookup.3 in
    short_length a.s.now a.at c.in-Some.b.now some.0 (some.1 0) c.if-first-ge128.false c.if-first-eq0.false
