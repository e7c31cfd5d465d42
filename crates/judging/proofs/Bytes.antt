-- The bytes in a buffer and a batch, compared.
use Rattle.std.proofs.Common.{ℕ, ◌≤◌, ◌<◌, ◌≡◌, refl, sym, ap, Bool, false, ◌&&◌, List, [], ◌∷◌, length, take, eqb, le-leb}
use lib.Pointwise.{pointwise}
use borrow.Author.Tests.{lt-leb}
use Rattle.rules.specs.Basics.{same}
use Rattle.rules.proofs.Lists.{same_eq}
use Rattle.theorems.proofs.Cases.{never}
use Rattle.judging.specs.Reads.{is_batch}

pub not_same : (a b : List ℕ) → (a ≡ b → ⊥) → same a b ≡ false
not_same a b h = never (same a b) (λ e. h (same_eq a b e))

module _ (a b : List ℕ) (n : ℕ) where
  pub too_short : length a < n → false ≡ is_batch a n b
  unfolding is_batch
  too_short h = rw (lt-leb n (length a) h)

  pub whole : n ≤ length a → same (take n a) b ≡ is_batch a n b
  unfolding is_batch
  whole h = sym (rw (le-leb n (length a) h))

pub pointwise_same : (a b : List ℕ) → pointwise eqb a b ≡ same a b
pointwise_same [] [] = refl
pointwise_same [] (y ∷ ys) = refl
pointwise_same (x ∷ xs) [] = refl
pointwise_same (x ∷ xs) (y ∷ ys) = ap (λ (z : Bool). eqb x y && z) (pointwise_same xs ys)
