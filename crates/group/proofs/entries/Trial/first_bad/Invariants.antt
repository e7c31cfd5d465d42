-- As long as no entry was refused, the first of the rest is the first of all.
use Rattle.std.specs.Prelude.{◌≡◌}
use Rattle.group.specs.Entries.{entry_bad}
use Rattle.group.proofs.Installing.{first_at}
use Rattle.group.proofs.entries.Trial.first_bad.Given as goal

abbrev pub invariant-loop-slot : goal.invariant-loop-slot
invariant-loop-slot l =
    let bad = entry_bad l.self.counts.now l.self.subscriptions l.self.wanted in
    first_at bad l.entries l.slot ≡ first_at bad l.entries 0
