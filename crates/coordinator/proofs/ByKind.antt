-- A heartbeat is taken as one of the kind that its epoch has; of one that has no kind only the tick is looked at. And an event's function hands back what is
-- taken as its outcome.
use Rattle.std.proofs.Common.{ℕ, ◌≡◌, List, true, false, sym, ap, ◌∙◌, subst}
use Rattle.rules.specs.Group as G
use Rattle.rules.specs.Event.{Request, heartbeat}
use Rattle.rules.specs.Refusals as R
use Rattle.rules.specs.Refusals.{kind_of, invalid, first_of, goes_back, heartbeat_table}
use Rattle.rules.specs.Step.{Stepped, step, carry_out}
use Rattle.rules.specs.declared.Refusal.TheVariants.{Clock, InvalidRequest}
use Rattle.group.specs.View.{view}
use Rattle.group.specs.declared.Group.{Group}
use Rattle.events.specs.declared.Outcome.{Outcome}
use Rattle.events.specs.Outcomes.{Becomes, step_as, topics_of}
use Rattle.events.proofs.Carrying.{denied, step_kind}

-- what holds of the outcome that was handed back holds of what it became
pub handed_on : {Kept : Type 0} (kept : Group → Kept) (g g' : Group) (b l : List ℕ) (does : G.Group → Stepped) {o r : Outcome} → o ≡ r → Becomes kept r g g' b l does → Becomes kept o g g' b l does
handed_on kept g g' b l does e p = subst (λ (x : Outcome). Becomes kept x g g' b l does) (sym e) p

-- a heartbeat with an epoch of the kind k
pub taken_as : (g g' : Group) (q : Request) (b l b' l' : List ℕ) {o r : Outcome} {k : R.Kind} → o ≡ r → k ≡ kind_of q.epoch
    → Becomes topics_of r g g' b' l' (λ h. step_as k h q b l) → Becomes topics_of o g g' b' l' (λ h. step h (heartbeat q) b l)
taken_as g g' q b l b' l' e is p =
    handed_on topics_of g g' b' l' (λ h. step h (heartbeat q) b l) e (p.0, p.1, p.2 ∙ ap (λ (k : R.Kind). step_as k (view g) q b l) is ∙ sym (step_kind (view g) q b l))

module _ (g : G.Group) (q : Request) (b l : List ℕ) where
  pub invalid_clock : goes_back g q.tick ≡ true → step_as invalid g q b l ≡ denied Clock g b l
  unfolding step_as first_of carry_out
  invalid_clock h = rw h

  pub invalid_epoch : goes_back g q.tick ≡ false → step_as invalid g q b l ≡ denied InvalidRequest g b l
  unfolding step_as first_of carry_out heartbeat_table
  invalid_epoch h = rw h
