-- A loop over the slots that gathers those that a test f picks: below i the set g is what f says, from i on it is empty.
use Rattle.std.proofs.Common.{◌≡◌, refl, sym, ◌∙◌, Bool, false, ◌&&◌, ◌||◌, ℕ, ◌+◌, ◌≤◌, ◌<◌, arith, eqb, below_more, eq-eqb, ne_eqb}
use mathlib.Core.Bool.{or-false}
use native.Mathlib.Decide.{dec_lt}

pub record Gather (f g : ℕ → Bool) (i : ℕ) : Type 0 where
  pub done : (s : ℕ) → s < i → g s ≡ f s
  pub rest : (s : ℕ) → i ≤ s → g s ≡ false

pub gather_none : (f g : ℕ → Bool) → ((s : ℕ) → g s ≡ false) → Gather f g 0
gather_none f g h = record { done = λ s q. absurd (omega arith); rest = λ s q. h s }

-- the next slot is put in, or is not
pub gather_more : {f g : ℕ → Bool} {i : ℕ} {on : Bool} (h : ℕ → Bool) → Gather f g i → on ≡ f i → ((s : ℕ) → h s ≡ (g s || (eqb s i && on)))
    → Gather f h (i + 1)
gather_more {f} {g} {i} {on} h e p q = record {
  done = below_more (λ s. h s ≡ f s) i (λ s l. other s (λ (r : s ≡ i). omega arith) ∙ e.done s l) here;
  rest = λ s l. other s (λ (r : s ≡ i). omega arith) ∙ e.rest s (omega arith);
}
  where
    here : h i ≡ f i
    here = q i ∙ rw (e.rest i (omega arith), eq-eqb i i refl) p

    other : (s : ℕ) → (s ≡ i → ⊥) → h s ≡ g s
    other s r = q s ∙ rw (ne_eqb s i r) (or-false (g s))

-- slots that are not picked are stepped over
pub gather_skip : {f g : ℕ → Bool} {i : ℕ} (j : ℕ) → Gather f g i → i ≤ j → ((s : ℕ) → i ≤ s → s < j → f s ≡ false) → Gather f g j
gather_skip {f} {g} {i} j e h z = record { done = λ s q. go s q (dec_lt s i); rest = λ s q. e.rest s (omega arith) }
  where
    go : (s : ℕ) → s < j → Dec (s < i) → g s ≡ f s
    go s q (yes l) = e.done s l
    go s q (no r) = e.rest s (omega arith) ∙ sym (z s (omega arith) q)
