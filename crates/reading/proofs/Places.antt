-- Reading field by field: what is read at a place, and what then at the place after it.
use Rattle.std.proofs.Common.{if◌then◌else◌, ◌≡◌, refl, sym, ap, ◌∙◌, Bool, true, false, List, ℕ, leb, length, drop}
use mathlib.Core.Option.{Option, none, some}
use Rattle.rules.specs.Reader.{Reader, and_then, pure, ◌>>=◌}

module _ {A B : Type 0} (m : Reader A) (f : A → Reader B) where
  -- a field is found
  pub goes_on : {b rest : List ℕ} {a : A} → m b ≡ some (a, rest) → (m >>= f) b ≡ f a rest
  unfolding ◌>>=◌ and_then
  goes_on e = rw e

  -- a field is missing
  pub stops : {b : List ℕ} → m b ≡ none → (m >>= f) b ≡ none
  unfolding ◌>>=◌ and_then
  stops e = rw e

-- nothing more is wanted
pub ends : {A : Type 0} (a : A) (b : List ℕ) → pure a b ≡ some (a, b)
unfolding pure
ends a b = refl

pub ruleset read_on = (goes_on, stops, ends)

-- ---- at a place that may be beyond the end, where nothing is read

unfoldable pub read_at : {A : Type 0} → Reader A → List ℕ → ℕ → Option (A × List ℕ)
read_at m s at = if leb at (length s) then m (drop at s) else none

-- at the place `at` the reader finds a, and `next` is the place after it; or nothing, and `next` is beyond the end
pub record Reads {A : Type 0} (s : List ℕ) (at : ℕ) (m : Reader A) (a : A) (next : ℕ) : Type 0 where
  pub is : read_at (pure a) s next ≡ read_at m s at

-- what follows is read at the place after
module _ {A B : Type 0} (f : A → Reader B) where
  if_then : (x : Bool) (o : Option (A × List ℕ)) → (if x then and_then o f else none) ≡ and_then (if x then o else none) f
  unfolding and_then
  if_then true o = refl
  if_then false o = refl

  pub then_at : {s : List ℕ} {at next : ℕ} {m : Reader A} {a : A} → Reads s at m a next → read_at (m >>= f) s at ≡ read_at (f a) s next
  unfolding read_at ◌>>=◌ and_then pure
  then_at {s} {at} {next} {m} {a} r =
      if_then (leb at (length s)) (m (drop at s)) ∙ ap (λ (o : Option (A × List ℕ)). and_then o f) (sym r.is)
      ∙ sym (if_then (leb next (length s)) (some (a, drop next s)))
