-- `coordinator::fresh` meets its contract: its view is the rules' fresh group, of which the rules' theorems hold, and a run of the code is a run of the rules.
use Rattle.std.proofs.Common.{ℕ, ◌≡◌, sym, subst}
use Rattle.rules.specs.Group.{fresh}
use Rattle.rules.specs.Course.{SingleHolder}
use Rattle.rules.specs.Rounds.{ThreeRounds}
use Rattle.rules.specs.Theorems.{Theorems}
use Rattle.theorems.proofs.SingleHolder.{single_holder}
use Rattle.theorems.proofs.ThreeRounds.{three_rounds}
use Rattle.theorems.proofs.All.{theorems}
use Rattle.group.specs.declared.Group.{Group}
use Rattle.group.specs.View.{view}
use Rattle.coordinator.specs.Runs.{RunsSingleHolder, RunsSettle}
use Rattle.coordinator.proofs.Following.{runs_single_holder, runs_settle}
use Rattle.coordinator.proofs.fresh.Goals as goal

promised : (g : Group) (tick : ℕ) → view g ≡ fresh tick
    → (view g ≡ fresh tick) × SingleHolder (view g) × ThreeRounds (view g) × RunsSingleHolder g × RunsSettle g × Theorems
promised g tick e =
    let single = subst SingleHolder (sym e) (single_holder tick) in
    let rounds = subst ThreeRounds (sym e) (three_rounds tick) in
    (e, single, rounds, runs_single_holder g single, runs_settle g rounds, theorems)

pub returns : goal.returns
returns c = promised _ _ c.fresh.ensures
