-- Below i each slot is changed, and from i on none is.
use Rattle.std.proofs.Common.{◌≡◌, ℕ, ◌≤◌, ◌<◌}
use Rattle.tables.specs.View.{Whole}
use Rattle.tables.specs.Changes.{entry_of}
use Rattle.tables.proofs.Tables.change_each.Given as goal

abbrev pub invariant-loop-i : goal.invariant-loop-i
invariant-loop-i g l =
    Whole l.self × ((s : ℕ) → s < l.i → goal.F-post g l.change (entry_of l.fn.self s) (entry_of l.self s)) ×
    ((s : ℕ) → l.i ≤ s → entry_of l.self s ≡ entry_of l.fn.self s)
