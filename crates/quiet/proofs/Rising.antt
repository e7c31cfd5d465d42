-- A rising list of numbers that all pass a test, as long as there are numbers that pass, is the list of them (`exactly`).
use Rattle.std.specs.Prelude.{if◌then◌else◌}
use Rattle.std.proofs.Common.{◌≡◌, ℕ, zero, suc, ◌+◌, ◌≤◌, ◌<◌, Bool, true, false, List, [], ◌∷◌, length, refl, sym, ap, ap₂, subst, ◌∙◌, arith, true≢false}
use native.Mathlib.Decide.{dec_lt}
use Rattle.std.proofs.lemmas.Grind.{common_steps}
use Rattle.rules.specs.Basics.{keep, up_to}
use Rattle.slots.specs.Set.{select}

-- strictly rising, from n on and below e, each passing f
abbrev pub Within : (ℕ → Bool) → ℕ → ℕ → List ℕ → Type 0
Within f n e [] = Unit {0}
Within f n e (s ∷ ss) = (n ≤ s) × (s < e) × (f s ≡ true) × Within f (suc s) e ss

abbrev pub Every : (ℕ → Bool) → List ℕ → Type 0
Every g [] = Unit {0}
Every g (s ∷ ss) = (g s ≡ true) × Every g ss

pub weaken : (f g : ℕ → Bool) → ((s : ℕ) → f s ≡ true → g s ≡ true) → (n e : ℕ) (l : List ℕ) → Within f n e l → Within g n e l
weaken f g h n e [] w = tt
weaken f g h n e (s ∷ ss) w = (w.0, w.1, h s w.2, weaken f g h (suc s) e ss w.3)

pub every : (f : ℕ → Bool) (n e : ℕ) (l : List ℕ) → Within f n e l → Every f l
every f n e [] w = tt
every f n e (s ∷ ss) w = (w.2, every f (suc s) e ss w.3)

-- a number in front of a list, or not
abbrev front : Bool → ℕ → List ℕ → List ℕ
front b n r = if b then n ∷ r else r

front_ge : (b : Bool) (n : ℕ) (r : List ℕ) → length r ≤ length (front b n r)
front_ge b n r = grind (arith, common_steps)

no_length : (l : List ℕ) → length l ≡ 0 → l ≡ []
no_length [] h = refl
no_length (x ∷ l) h = absurd (omega (arith, h))

module _ (f : ℕ → Bool) where
  -- there are as many as the list has
  enough : (k n e : ℕ) → n + k ≡ e → (l : List ℕ) → Within f n e l → length l ≤ length (select f n k)
  unfolding keep up_to
  enough zero n e h [] w = omega arith
  enough zero n e h (s ∷ ss) w = absurd (omega (arith, w.0, w.1))
  enough (suc k) n e h [] w = omega arith
  enough (suc k) n e h (s ∷ ss) w = go (dec_lt n s) (enough k (suc n) e (omega arith))
    where
      go : Dec (n < s) → ((l : List ℕ) → Within f (suc n) e l → length l ≤ length (select f (suc n) k)) → suc (length ss) ≤ length (front (f n) n (select f (suc n) k))
      go (yes q) ih = omega (arith, ih (s ∷ ss) (omega arith, w.1, w.2, w.3), front_ge (f n) n (select f (suc n) k))
      go (no q) ih =
          let e₁ : s ≡ n = omega (arith, w.0) in
          let t : f n ≡ true = subst (λ (m : ℕ). f m ≡ true) e₁ w.2 in
          let r : length ss ≤ length (select f (suc n) k) = ih ss (subst (λ (m : ℕ). Within f (suc m) e ss) e₁ w.3) in
          let a : length (front (f n) n (select f (suc n) k)) ≡ suc (length (select f (suc n) k)) = rw t in
          omega (arith, r, a)

  abbrev pub Exactly : ℕ → ℕ → ℕ → Type 0
  Exactly k n e = (l : List ℕ) → Within f n e l → length (select f n k) ≡ length l → select f n k ≡ l

  pub exactly : (k n e : ℕ) → n + k ≡ e → Exactly k n e
  unfolding keep up_to
  exactly zero n e h [] w c = refl
  exactly zero n e h (s ∷ ss) w c = absurd (omega (arith, w.0, w.1))
  exactly (suc k) n e h [] w c = no_length (front (f n) n (select f (suc n) k)) c
  exactly (suc k) n e h (s ∷ ss) w c = go (dec_lt n s) (exactly k (suc n) e (omega arith))
    where
      passed : n < s → (b : Bool) → Exactly k (suc n) e → length (front b n (select f (suc n) k)) ≡ suc (length ss) → front b n (select f (suc n) k) ≡ s ∷ ss
      passed q true ih c₁ = absurd (omega (arith, c₁, enough k (suc n) e (omega arith) (s ∷ ss) (omega arith, w.1, w.2, w.3)))
      passed q false ih c₁ = ih (s ∷ ss) (omega arith, w.1, w.2, w.3) c₁

      go : Dec (n < s) → Exactly k (suc n) e → front (f n) n (select f (suc n) k) ≡ s ∷ ss
      go (yes q) ih = passed q (f n) ih c
      go (no q) ih =
          let e₁ : s ≡ n = omega (arith, w.0) in
          let t : f n ≡ true = subst (λ (m : ℕ). f m ≡ true) e₁ w.2 in
          let a : front (f n) n (select f (suc n) k) ≡ n ∷ select f (suc n) k = rw t in
          let b : length (select f (suc n) k) ≡ length ss = omega (arith, c, ap length a) in
          a ∙ ap₂ (λ (m : ℕ) (l : List ℕ). m ∷ l) (sym e₁) (ih ss (subst (λ (m : ℕ). Within f (suc m) e ss) e₁ w.3) b)

  -- what holds of each number of the list holds of each that passes
  pub of_all : (g : ℕ → Bool) (k n : ℕ) → Every g (select f n k) → (s : ℕ) → n ≤ s → s < n + k → f s ≡ true → g s ≡ true
  unfolding keep up_to
  of_all g zero n w s a b t = absurd (omega (arith, a, b))
  of_all g (suc k) n w s a b t = go (dec_lt n s) (λ h q. of_all g k (suc n) h s q (omega (arith, b)) t)
    where
      rest : (x : Bool) → Every g (front x n (select f (suc n) k)) → Every g (select f (suc n) k)
      rest true h = h.1
      rest false h = h

      first : (x : Bool) → x ≡ true → Every g (front x n (select f (suc n) k)) → g n ≡ true
      first true e h = h.0
      first false e h = absurd (true≢false (sym e))

      go : Dec (n < s) → (Every g (select f (suc n) k) → suc n ≤ s → g s ≡ true) → g s ≡ true
      go (yes q) ih = ih (rest (f n) w) q
      go (no q) ih = let e : n ≡ s = omega (arith, a) in subst (λ (m : ℕ). g m ≡ true) e (first (f n) (ap f e ∙ t) w)
