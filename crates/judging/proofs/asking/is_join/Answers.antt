-- At each `return` a test of the rules is decided.
use Rattle.judging.proofs.Candidates.{no_epoch, not_current, same_epoch}
use Rattle.judging.proofs.asking.is_join.Goals as goal

pub returns-in-Some-Some : goal.returns-in-Some-Some
returns-in-Some-Some c = λ o is. same_epoch c.args.said o is _ _ _ c.in-Some-Some.is-0 c.in-Some-Some.is-1

pub returns-in_default : goal.returns-in_default
returns-in_default c = λ o is. not_current c.args.said o is c.in_default.is-1

pub returns-in_default-2 : goal.returns-in_default-2
returns-in_default-2 c = λ o is. no_epoch c.args.said o c.in_default.is-0
