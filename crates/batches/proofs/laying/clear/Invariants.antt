-- Before the entry none is p.
use Rattle.std.proofs.Common.{if◌then◌else◌, eqb}
use Rattle.rules.specs.Constants.{no_place}
use Rattle.slots.proofs.Each.{Each}
use Rattle.batches.proofs.laying.clear.Given as goal

abbrev pub invariant-loop-entry : goal.invariant-loop-entry
invariant-loop-entry l = Each (λ k x. if eqb x l.p then no_place else x) l.initial.entries l.entries l.entry-index
