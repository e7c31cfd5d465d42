-- The set is empty. Assumes nothing.
use mathlib.Core.Path.{ap}
use mathlib.Core.List.{List}
use Prim.Native.Nat.{ℕ}
use Rattle.rules.specs.Records.{target_is}
use Rattle.records.specs.Views.{view_target}
use Rattle.records.proofs.Differences.{slots_none}
use Rattle.records.proofs.batches.no_target.Goals as goal

pub returns : goal.returns
unfolding view_target
returns c = ap (λ (l : List ℕ). target_is (record { place = c.args.place.0; slots = l })) (slots_none c.empty.result.words c.empty.ensures)
