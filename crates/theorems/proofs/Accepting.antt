-- An accepted event: no row of its table applies, and the step carries out its effect. A refused one leaves everything.
use Prim.Native.Nat.{ℕ}
use mathlib.Core.Path.{◌≡◌, refl, sym, ap, ◌∙◌}
use mathlib.Core.Bool.{true, false}
use mathlib.Core.List.{List, [], ◌∷◌, ◌++◌, append-nil}
use mathlib.Core.Option.{Option, none, some}
use Rattle.rules.specs.Group.{Group}
use Rattle.rules.specs.Event.{Event, Request, heartbeat}
use Rattle.rules.specs.Refusals.{Kind, Row, ◌when◌, first_of, heartbeat_table, kind_of, table}
use Rattle.rules.specs.Effects.{effect, heartbeat_effect}
use Rattle.rules.specs.Step.{Stepped, carry_out, step, verdict}
use Rattle.rules.specs.Accepted.{Accepted, AfterAccepted, Sized}
use Rattle.rules.specs.declared.Refusal.{Refusal}
use Rattle.rules.specs.declared.Answer.TheVariants.{Refused}
use Rattle.theorems.proofs.Cases.{no_some}
use Rattle.theorems.proofs.Refusing.{effect_accepts}

-- ---- rows

abbrev pub AllFalse : List Row → Type 0
AllFalse [] = Unit {0}
AllFalse ((r when b) ∷ rows) = (b ≡ false) × AllFalse rows

none_first : (rows more : List Row) → first_of (rows ++ more) ≡ none → AllFalse rows
unfolding first_of
none_first [] more e = tt
none_first ((r when true) ∷ rows) more e = absurd (no_some r (sym e))
none_first ((r when false) ∷ rows) more e = (refl, none_first rows more e)

pub none_of : (rows more : List Row) → AllFalse rows → first_of more ≡ none → first_of (rows ++ more) ≡ none
unfolding first_of
none_of [] more a e = e
none_of ((r when b) ∷ rows) more a e = rw a.0 (none_of rows more a.1 e)

-- where no row applies, none is the first
pub rows_none : (rows : List Row) → AllFalse rows → first_of rows ≡ none
unfolding first_of
rows_none rows h = sym (ap first_of (append-nil rows)) ∙ none_of rows [] h refl

pub rows_false : (g : Group) (e : Event) → first_of (table g e) ≡ none → AllFalse (table g e)
rows_false g e h = none_first (table g e) [] (ap first_of (append-nil (table g e)) ∙ h)

-- ---- the step

pub accepts : (g : Group) (e : Event) (buffer list : List ℕ) → verdict g e buffer list ≡ none → Accepted g e buffer list
unfolding step carry_out
accepts g e buffer list h r q = effect_accepts g e r (rw h at q)

module _ (g : Group) (e : Event) (buffer list : List ℕ) where
  -- what holds of a refused step, and of an accepted one, holds of every step
  pub step_cases : (P : Stepped → Type 0) → ((r : Refusal) → P (carry_out (some r) g (effect g e) buffer list))
      → (Accepted g e buffer list → AllFalse (table g e) → P (carry_out none g (effect g e) buffer list)) → P (step g e buffer list)
  unfolding step verdict
  step_cases P refused ok = pick (verdict g e buffer list) refl
    where
      pick : (v : Option Refusal) → verdict g e buffer list ≡ v → P (carry_out v g (effect g e) buffer list)
      pick none q = ok (accepts g e buffer list q) (none_first (table g e) _ q)
      pick (some r) q = refused r

  module _ (accepted : Accepted g e buffer list) where
    whole : AllFalse (table g e) × (step g e buffer list ≡ carry_out none g (effect g e) buffer list)
    unfolding carry_out
    whole =
        step_cases (λ s. ((r : Refusal) → s.answer ≡ Refused r → ⊥) → AllFalse (table g e) × (s ≡ carry_out none g (effect g e) buffer list))
        (λ r no. absurd (no r refl)) (λ _ rows _. (rows, refl)) accepted

    pub no_row : AllFalse (table g e)
    no_row = whole.0

    pub carried : step g e buffer list ≡ carry_out none g (effect g e) buffer list
    carried = whole.1

-- what holds of the effect where no row applies holds of an accepted event
pub after_accepted_lem : (e : Event) (P : Group → Group → Type 0) → ((g : Group) → Sized g → AllFalse (table g e) → P g (effect g e).group) → AfterAccepted e P
unfolding carry_out
after_accepted_lem e P h g buffer list sized accepted = rw (carried g e buffer list accepted) (h g sized (no_row g e buffer list accepted))

pub accepted_heartbeat : (b : Request) (k : Kind) (P : Group → Group → Type 0) → kind_of b.epoch ≡ k
    → ((g : Group) → Sized g → AllFalse (heartbeat_table g b k) → P g (heartbeat_effect g b k).group)
    → AfterAccepted (heartbeat b) P
unfolding table effect
accepted_heartbeat b k P kind h = after_accepted_lem (heartbeat b) P (λ g sized rows. rw kind (h g sized (rw kind at rows.1)))
