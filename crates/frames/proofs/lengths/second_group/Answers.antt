use Rattle.frames.proofs.Measures.{cut_second, third_group, for_nothing, too_long, two_groups}
use Rattle.frames.proofs.lengths.second_group.Goals.{then-b-ge128-via-then-b-ge128, then-b-ge128-via-else-b-ge128+then-b-eq0, then-b-ge128-via-else-b-ge128+else-b-eq0+then-n-gt-BATCH_LIMIT}
use Rattle.frames.proofs.lengths.second_group.Goals as goal

pub returns-in_default : goal.returns-in_default
returns-in_default c = cut_second _ _ _ c.in_default.ensures.lookup.3

pub returns-then-b-ge128 : goal.returns-then-b-ge128
returns-then-b-ge128 c =
    let a = c.args in
    let b = c.in-Some.b.now in
    let some = c.in-Some.ensures.lookup.3 in
    elim c.then-b-ge128.branch [
      | then-b-ge128-via-then-b-ge128 w ↦ third_group a.s.now a.at b some.0 (some.1 0) a.low w.if-b-ge128.true
      | then-b-ge128-via-else-b-ge128+then-b-eq0 w ↦ for_nothing a.s.now a.at b some.0 (some.1 0) a.low w.if-b-eq0.true
      | then-b-ge128-via-else-b-ge128+else-b-eq0+then-n-gt-BATCH_LIMIT w ↦
          too_long a.s.now a.at b some.0 (some.1 0) a.low w.if-b-ge128.false w.if-b-eq0.false w.if-n-gt-BATCH_LIMIT.true
    ]

pub returns : goal.returns
returns c =
    let a = c.args in
    let some = c.in-Some.ensures.lookup.3 in
    two_groups a.s.now a.at c.in-Some.b.now some.0 (some.1 0) a.low c.if-b-ge128.false c.if-b-eq0.false c.if-n-gt-BATCH_LIMIT.false
