-- Whether some element of two lists passes.
use Rattle.std.proofs.Common.{◌≡◌, refl, sym, ap, ◌∙◌, Bool, true, false, ◌||◌, List, [], ◌∷◌, ◌++◌, ℕ}
use Rattle.rules.specs.Basics.{any}

pub any_append : (f : ℕ → Bool) (l m : List ℕ) → any f (l ++ m) ≡ (any f l || any f m)
any_append f [] m = refl
any_append f (x ∷ l) m = ap (λ b. f x || b) (any_append f l m) ∙ sym (or_or (f x) (any f l) (any f m))
  where
    or_or : (a b c : Bool) → ((a || b) || c) ≡ (a || (b || c))
    or_or true b c = refl
    or_or false b c = refl
