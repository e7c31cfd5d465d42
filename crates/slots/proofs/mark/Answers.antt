use Rattle.std.proofs.Common.{◌%◌, arith}
use Rattle.slots.proofs.Words.{bit_put}
use Rattle.slots.proofs.mark.Goals as goal

pub returns-then-on : goal.returns-then-on
returns-then-on c = let a = c.args in bit_put a.word (a.n % 64) a.on (omega arith) c.if-on.true
