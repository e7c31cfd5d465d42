-- Tests and changes of the elements of a list: whether some element passes a test, and the list with each element changed.
use Rattle.std.proofs.Common.{◌≡◌, ℕ, ◌<◌, Bool, true, false, ◌||◌, List, [], ◌∷◌, map, length, get_or, refl, ap, ap₂, ◌∙◌, arith}
use Rattle.std.specs.List.{list_any}
use Rattle.std.proofs.lemmas.List.{ext_get_or, get_or-map, length-map}
use Rattle.std.proofs.lemmas.List.Recursion.{same_from_clauses, or_at, or_from_places}
use Rattle.rules.specs.Basics.{any}

module _ {A : Type 0} (d : A) where
  pub any_off : (f : A → Bool) (l : List A) → ((i : ℕ) → i < length l → f (get_or l i d) ≡ false) → any f l ≡ false
  any_off f l h = or_from_places (any f) f refl (λ _ _. refl) l d h

  pub any_on : (f : A → Bool) (l : List A) (i : ℕ) → i < length l → f (get_or l i d) ≡ true → any f l ≡ true
  any_on f l i h e = or_at (any f) f refl (λ _ _. refl) l i d h e

  pub map_same : (k : A → A) (l : List A) → ((i : ℕ) → i < length l → k (get_or l i d) ≡ get_or l i d) → map k l ≡ l
  map_same k l h = ext_get_or d (map k l) l (length-map l k) (λ i q. let b : i < length l = omega (arith, length-map l k) in get_or-map k l i d d b ∙ h i b)

module _ {A : Type 0} where
  pub any_ext : (f g : A → Bool) → ((x : A) → f x ≡ g x) → (l : List A) → any f l ≡ any g l
  any_ext f g h [] = refl
  any_ext f g h (x ∷ l) = ap₂ ◌||◌ (h x) (any_ext f g h l)

  pub any_map : (f : A → Bool) (k : A → A) → ((x : A) → f (k x) ≡ f x) → (l : List A) → any f (map k l) ≡ any f l
  any_map f k h [] = refl
  any_map f k h (x ∷ l) = ap₂ ◌||◌ (h x) (any_map f k h l)

pub map_two : {A : Type 0} (f g : A → A) (l : List A) → map f (map g l) ≡ map (λ x. f (g x)) l
map_two f g [] = refl
map_two f g (x ∷ l) = ap (λ r. f (g x) ∷ r) (map_two f g l)

-- the test of std
pub any_is : {A : Type 0} (f : A → Bool) (l : List A) → list_any f l ≡ any f l
any_is f = same_from_clauses (list_any f) (any f) (λ x b. f x || b) refl (λ _ _. refl) (λ _ _. refl)
