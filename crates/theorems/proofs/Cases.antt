-- Proofs by cases: of a test, of two numbers, of what an `if` gives, of an option.
use Rattle.std.specs.Prelude.{if◌then◌else◌}
use Prim.Native.Nat.{ℕ}
use native.Mathlib.Omega.{arith}
use mathlib.Core.Path.{◌≡◌, refl, sym, ◌∙◌}
use mathlib.Core.Logic.{◌≢◌}
use mathlib.Core.Bool.{Bool, true, false}
use mathlib.Core.Option.{Option, none, some}
use lib.Dec.{eqb}
use borrow.Author.Tests.{eqb-true, eqb-false}

module _ {A : Type 0} where
  pub by_cases : (c : Bool) → (c ≡ true → A) → (c ≡ false → A) → A
  by_cases true f g = f refl
  by_cases false f g = g refl

  pub eq_cases : (p q : ℕ) → (p ≡ q → A) → (p ≢ q → A) → A
  eq_cases p q f g = by_cases (eqb p q) (λ e. f (eqb-true p q e)) (λ e. g (eqb-false p q e))

  pub if_cases : (P : A → Type 0) (c : Bool) {x y : A} → (c ≡ true → P x) → (c ≡ false → P y) → P (if c then x else y)
  if_cases P true f g = f refl
  if_cases P false f g = g refl

  pub if_so : (c : Bool) (x y : A) → (c ≡ false → ⊥) → (if c then x else y) ≡ x
  if_so c x y h = if_cases (λ z. z ≡ x) c (λ _. refl) (λ e. absurd (h e))

  pub if_not : (c : Bool) (x y : A) → (c ≡ true → ⊥) → (if c then x else y) ≡ y
  if_not c x y h = if_cases (λ z. z ≡ y) c (λ e. absurd (h e)) (λ _. refl)

  pub some_inj : {x y : A} → some x ≡ some y → x ≡ y
  some_inj e = cc

  pub no_some : (x : A) → none ≡ some x → ⊥
  no_some x e = let z : ◌≡◌ {A = ℕ} 0 1 = cc in omega arith

  pub none_not : {o : Option A} {x : A} → o ≡ none → o ≡ some x → ⊥
  none_not {o} {x} a b = no_some x (sym a ∙ b)

pub never : (c : Bool) → (c ≡ true → ⊥) → c ≡ false
never c h = by_cases c (λ e. absurd (h e)) (λ e. e)
