-- The strides passed rise; the last one ends with the list.
use Rattle.std.proofs.Common.{◌*◌}
use Rattle.search.specs.Rising.{stride, Rises}
use Rattle.search.proofs.rising.rises.Given as goal

abbrev pub invariant-loop-stride : goal.invariant-loop-stride
invariant-loop-stride l = Rises l.list 0 (l.stride * stride)
