-- The heading compared: a file begins with it, or ends inside it, or differs from it at some byte.
use Rattle.std.proofs.Common.{◌≡◌, refl, sym, ◌∙◌, Bool, true, false, ◌&&◌, true≢false, List, [], ◌∷◌, ℕ, eqb, length, take, drop, eqb-true, eq-eqb}
use lib.Pointwise.{pointwise}
use Rattle.std.specs.Prelude.{if◌then◌else◌}
use Rattle.rules.specs.Group.{fresh}
use Rattle.rules.proofs.Lists.{and_true}
use Rattle.rules.specs.Journal.{Reading, read_heading, refused_at, torn_from}

-- one list begins with the other
abbrev pub Begins : List ℕ → List ℕ → Bool
Begins p s = pointwise eqb p (take (length p) s)

module _ (t : ℕ) (more : List ℕ → Reading) where
  pub opening_right : (hs s : List ℕ) → Begins hs s ≡ true → read_heading hs s t more ≡ more (drop (length hs) s)
  unfolding read_heading
  opening_right [] s e = refl
  opening_right (h ∷ hs) [] e = absurd (true≢false (sym e))
  opening_right (h ∷ hs) (b ∷ s) e = go (eqb h b) e (λ q. opening_right hs s q)
    where
      go : (x : Bool) → (x && Begins hs s) ≡ true → (Begins hs s ≡ true → read_heading hs s t more ≡ more (drop (length hs) s))
          → (if x then read_heading hs s t more else record { group = fresh t; verdict = refused_at 0 }) ≡ more (drop (length hs) s)
      go true q ih = ih q
      go false q ih = absurd (true≢false (sym q))

  pub opening_cut : (hs s : List ℕ) → Begins hs s ≡ false → Begins s hs ≡ true → read_heading hs s t more ≡ record { group = fresh t; verdict = torn_from 0 }
  unfolding read_heading
  opening_cut [] s e f = absurd (true≢false e)
  opening_cut (h ∷ hs) [] e f = refl
  opening_cut (h ∷ hs) (b ∷ s) e f = go (eqb h b) refl e f (λ p q. opening_cut hs s p q)
    where
      go : (x : Bool) → eqb h b ≡ x → (x && Begins hs s) ≡ false → (eqb b h && Begins s hs) ≡ true
          → (Begins hs s ≡ false → Begins s hs ≡ true → read_heading hs s t more ≡ record { group = fresh t; verdict = torn_from 0 })
          → (if x then read_heading hs s t more else record { group = fresh t; verdict = refused_at 0 }) ≡ record { group = fresh t; verdict = torn_from 0 }
      go true i p q ih = ih p (and_true (eqb b h) (Begins s hs) q).1
      go false i p q ih = absurd (true≢false (sym (eq-eqb h b (sym (eqb-true b h (and_true (eqb b h) (Begins s hs) q).0))) ∙ i))

  pub opening_wrong : (hs s : List ℕ) → Begins hs s ≡ false → Begins s hs ≡ false → read_heading hs s t more ≡ record { group = fresh t; verdict = refused_at 0 }
  unfolding read_heading
  opening_wrong [] s e f = absurd (true≢false e)
  opening_wrong (h ∷ hs) [] e f = absurd (true≢false f)
  opening_wrong (h ∷ hs) (b ∷ s) e f = go (eqb h b) refl e f (λ p q. opening_wrong hs s p q)
    where
      go : (x : Bool) → eqb h b ≡ x → (x && Begins hs s) ≡ false → (eqb b h && Begins s hs) ≡ false
          → (Begins hs s ≡ false → Begins s hs ≡ false → read_heading hs s t more ≡ record { group = fresh t; verdict = refused_at 0 })
          → (if x then read_heading hs s t more else record { group = fresh t; verdict = refused_at 0 }) ≡ record { group = fresh t; verdict = refused_at 0 }
      go true i p q ih = ih p (rw (eq-eqb b h (sym (eqb-true h b i))) at q)
      go false i p q ih = refl
