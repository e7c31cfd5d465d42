-- The end of an event that hands a refusal on by `?`, or stores its records by `store`: they have no room, or they are written and the effect is carried out.
use Rattle.std.specs.Prelude.{◌<◌, length}
use Rattle.std.specs.Prelude.{Result, Ok, Err}
use Rattle.std.specs.Result.{IsErrAnd}
use Rattle.std.proofs.Common.{ℕ, ◌≡◌, sym, ap, ◌∙◌, subst, List, []}
use Rattle.rules.specs.Records.{Record, all_bytes}
use Rattle.rules.specs.Effects.{Effect}
use Rattle.rules.specs.Step.{Stepped}
use Rattle.rules.specs.declared.Refusal.{Refusal}
use Rattle.rules.specs.declared.Answer.{Answer}
use Rattle.rules.specs.declared.Answer.TheVariants.{Refused}
use Rattle.records.specs.Storing.{Stores}
use Rattle.group.specs.declared.Group.{Group}
use Rattle.group.specs.View.{view}
use Rattle.events.specs.declared.Outcome.{Outcome}
use Rattle.events.specs.Outcomes.{took, SameIfRefused, outcome_of, carried}
use Rattle.events.proofs.Carrying.{denied, refusal, records_denied}
use Rattle.events.proofs.Storing.{stored}

module _ (g : Group) (b l : List ℕ) {s : Stepped} where
  module _ {Kept : Type 0} {k : Kept} where
    -- a refusal that is handed on
    pub handed_on : (r : Result Outcome Refusal) {why : Refusal} → IsErrAnd r (λ e. e ≡ why) → s ≡ denied why (view g) b l
        → SameIfRefused (outcome_of r).answer g g × (k ≡ k) × (took (outcome_of r) (view g) b l ≡ s)
    handed_on (Ok o) e h = absurd e
    handed_on (Err x) e h = refusal (h ∙ ap (λ (w : Refusal). denied w (view g) b l) (sym e))

  module _ (f : Effect) {w : List Record} (is : w ≡ f.records) (whole : s ≡ carried (view g) f b l) where
    -- there was no room
    pub no_room : {Kept : Type 0} {k : Kept} (r : Result Outcome Refusal) {why : Refusal} {b' : List ℕ} → IsErrAnd r (λ e. e ≡ why) → Stores (all_bytes w) b b' (Err why)
        → SameIfRefused (outcome_of r).answer g g × (k ≡ k) × (took (outcome_of r) (view g) b' l ≡ s)
    no_room {Kept} {k} r {why} {b'} e t =
        let full = records_denied f b l (view g) (subst (λ (x : List Record). length b < length (all_bytes x)) is t.0) in
        let d : s ≡ denied why (view g) b l = whole ∙ full ∙ ap (λ (w : Refusal). denied w (view g) b l) (sym t.2) in
        let h = handed_on r e d in
        (h.0, h.1, ap (λ (x : List ℕ). took (outcome_of r) (view g) x l) t.1 ∙ h.2)

    -- there was
    pub written : {a : Answer} {n : ℕ} {b' : List ℕ} (g' : Group) → f.told ≡ [] → Stores (all_bytes w) b b' (Ok n) → a ≡ f.answer → view g' ≡ f.group
        → took (record { answer = a; written = n }) (view g') b' l ≡ s
    written {a} {n} g' t q e v = stored f is b l (view g) (record { answer = a; written = n }) (view g') t q.0 e v q.1 ∙ sym whole
