-- The end of an event that tells no slots: the code has worked out the records rs, which are those of the effect f. They are written, and the outcome is the
-- effect's.
use Rattle.std.proofs.Common.{ℕ, ◌≤◌, ◌≡◌, ◌∙◌, subst, List, [], length}
use Rattle.rules.specs.Group.{Group}
use Rattle.rules.specs.Records.{Record, all_bytes}
use Rattle.rules.specs.Effects.{Effect}
use Rattle.numbers.specs.Buffer.{Wrote}
use Rattle.events.specs.declared.Outcome.{Outcome}
use Rattle.events.specs.Outcomes.{took, carried}
use Rattle.events.proofs.Carrying.{carried_untold}

module _ (f : Effect) {rs : List Record} (e : rs ≡ f.records) (b l : List ℕ) (g : Group) where
  pub stored : (r : Outcome) (g' : Group) {b' : List ℕ} → f.told ≡ [] → length (all_bytes rs) ≤ length b
      → r.answer ≡ f.answer → g' ≡ f.group → Wrote (all_bytes rs) b b' r.written
      → took r g' b' l ≡ carried g f b l
  unfolding took
  stored r g' {b'} t p a v q =
      (λ i. record { answer = a i; group = g'; written = r.written; buffer = b'; list = l })
      ∙ carried_untold f b l g g' t (subst (λ (x : List Record). length (all_bytes x) ≤ length b) e p) v (subst (λ (x : List Record). Wrote (all_bytes x) b b' r.written) e q)
