-- Loops over the places: a loop keeps the list of the places that are left. What is stored place by place is told by such a list alone. Last, a table of marks
-- in which a place is marked.
use Rattle.std.proofs.Common.{ℕ, suc, ◌+◌, ◌-◌, ◌≤◌, ◌<◌, arith, add-one, ◌≡◌, sym, ap, ◌∙◌, Bool, true, false, ◌||◌, List, [], ◌∷◌, ◌++◌, eqb, length, get_or, set, get_or-set_same, get_or-set_other, eq-eqb, ne_eqb}
use native.Mathlib.Decide.{ℕ_discrete}
use Rattle.std.proofs.Math.Bool.{or-true, or-false}
use Rattle.rules.specs.Basics.{concat_map, up_to}
use Rattle.rules.specs.Constants.{max_members}
use Rattle.rules.specs.Records.{Record, all_bytes}
use Rattle.records.proofs.Lists.{all_append, all_none}

-- the places from i on
abbrev pub places_from : ℕ → List ℕ
places_from i = up_to i (max_members - i)

module _ (i : ℕ) where
  pub places_next : i < max_members → places_from i ≡ i ∷ places_from (i + 1)
  unfolding up_to
  places_next h = let e : max_members - i ≡ suc (max_members - (i + 1)) = omega arith in rw (e, add-one i)

  pub places_end : max_members ≤ i → places_from i ≡ []
  unfolding up_to
  places_end h = let e : max_members - i ≡ 0 = omega arith in rw e

-- ---- records place by place

module _ (rs : ℕ → List Record) where
  -- the bytes of the places ps
  abbrev pub bytes_at : List ℕ → List ℕ
  bytes_at ps = all_bytes (concat_map rs ps)

module _ (rs : ℕ → List Record) {ps : List ℕ} where
  -- the next place's come first
  module _ {p : ℕ} {qs : List ℕ} (e : ps ≡ p ∷ qs) where
    pub bytes_next : bytes_at rs ps ≡ all_bytes (rs p) ++ bytes_at rs qs
    bytes_next = ap (bytes_at rs) e ∙ all_append (rs p) (concat_map rs qs)

  pub bytes_end : ps ≡ [] → bytes_at rs ps ≡ []
  bytes_end e = ap (bytes_at rs) e ∙ all_none

-- ---- a place is marked

pub eqb_swap : (a b : ℕ) → eqb a b ≡ eqb b a
eqb_swap a b = go (ℕ_discrete a b)
  where
    go : Dec (a ≡ b) → eqb a b ≡ eqb b a
    go (yes e) = eq-eqb a b e ∙ sym (eq-eqb b a (sym e))
    go (no e) = ne_eqb a b e ∙ sym (ne_eqb b a (λ r. e (sym r)))

mark_none : (marks : List Bool) (p q : ℕ) → (q ≡ p → ⊥) → get_or marks q false ≡ (get_or marks q false || eqb q p)
mark_none marks p q e = sym (ap (λ (b : Bool). get_or marks q false || b) (ne_eqb q p e) ∙ or-false (get_or marks q false))

pub mark_set : (marks : List Bool) (p q : ℕ) → p < length marks → get_or (set marks p true) q false ≡ (get_or marks q false || eqb q p)
mark_set marks p q h = go (ℕ_discrete q p)
  where
    go : Dec (q ≡ p) → get_or (set marks p true) q false ≡ (get_or marks q false || eqb q p)
    go (yes e) = rw (eq-eqb q p e, e, get_or-set_same marks p true false h) (sym (or-true (get_or marks p false)))
    go (no e) = get_or-set_other marks p q true false e ∙ mark_none marks p q e
