-- Some slot passes a test, or none does, as a test for no slot tells it. A set whose slots are those that pass a test has the list that the rules pick by that
-- test, and is empty where no slot passes it.
use Rattle.std.specs.Prelude.{if◌then◌else◌}
use Rattle.std.proofs.Common.{◌≡◌, ℕ, zero, suc, ◌+◌, ◌≤◌, ◌<◌, Bool, true, false, not, ◌||◌, List, [], ◌∷◌, length, get_or, refl, sym, ap, ap₂, ◌∙◌, arith, true≢false}
use native.Mathlib.Decide.{ℕ_discrete}
use Rattle.std.proofs.lemmas.Grind.{common_steps}
use Rattle.rules.specs.Basics.{any, indices, keep, up_to}
use Rattle.rules.specs.Constants.{slot_count}
use Rattle.rules.specs.Group.{SlotState, free_slot, assigned, revoking, set_a, set_p}
use Rattle.slots.specs.Set.{has, select, slots_of, TellsEmpty, word_count}
use Rattle.slots.specs.declared.SlotSet.{SlotSet}
use Rattle.slots.proofs.Selecting.{slots_are}
use Rattle.slots.proofs.Words.{in_range_lem}
use Rattle.rules.proofs.Lists.{or_false}
use Rattle.tables.specs.Gathers.{Picks, Gathers}
use Rattle.tables.specs.Advances.{some_slot}
use Rattle.tables.specs.declared.gathering.PlaceSets.{PlaceSets}
use Rattle.tables.proofs.Lists.{any_off, any_on}

-- ---- some slot passes a test, or none does

some_at : (f : ℕ → Bool) (n b : ℕ) → any f (up_to b n) ≡ true → (s : ℕ) × (b ≤ s) × (s < b + n) × (f s ≡ true)
unfolding up_to
some_at f zero b e = absurd (true≢false (sym e))
some_at f (suc n) b e = go (f b) refl e (some_at f n (suc b))
  where
    go : (x : Bool) → f b ≡ x → (x || any f (up_to (suc b) n)) ≡ true
        → (any f (up_to (suc b) n) ≡ true → (s : ℕ) × (suc b ≤ s) × (s < suc b + n) × (f s ≡ true)) → (s : ℕ) × (b ≤ s) × (s < b + suc n) × (f s ≡ true)
    go true p q ih = (b, omega arith, omega arith, p)
    go false p q ih = let r = ih q in (r.0, omega arith, omega arith, r.3)

none_at : (f : ℕ → Bool) (n b : ℕ) → any f (up_to b n) ≡ false → (s : ℕ) → b ≤ s → s < b + n → f s ≡ false
unfolding up_to
none_at f zero b e s h l = absurd (omega arith)
none_at f (suc n) b e s h l = go (or_false (f b) (any f (up_to (suc b) n)) e) (ℕ_discrete s b) (none_at f n (suc b))
  where
    go : (f b ≡ false) × (any f (up_to (suc b) n) ≡ false) → Dec (s ≡ b)
        → (any f (up_to (suc b) n) ≡ false → (x : ℕ) → suc b ≤ x → x < suc b + n → f x ≡ false) → f s ≡ false
    go p (yes q) ih = ap f q ∙ p.0
    go p (no q) ih = ih p.1 s (omega arith) (omega arith)

module _ (f : ℕ → Bool) where
  pub slot_of : some_slot f ≡ true → (s : ℕ) × (s < slot_count) × (f s ≡ true)
  unfolding some_slot
  slot_of e = let r = some_at f slot_count 0 e in (r.0, r.2, r.3)

  pub none_of : some_slot f ≡ false → (s : ℕ) → s < slot_count → f s ≡ false
  unfolding some_slot
  none_of e s h = none_at f slot_count 0 e s (omega arith) (omega arith)

  -- as a test for no slot tells it of a set that has these slots
  pub some_told : (ws : List ℕ) → length ws ≡ word_count → ((s : ℕ) → has ws s ≡ f s) → (e : Bool) → TellsEmpty ws e → some_slot f ≡ not e
  some_told ws l is e t = grind (arith, common_steps, slot_of, none_of, is, t.0, t.1, in_range_lem)

  -- as the slots of a list pass
  pub some_listed : {A : Type 0} (t : A → Bool) (d : A) (vs : List A) → length vs ≡ slot_count
      → ((s : ℕ) → s < slot_count → f s ≡ t (get_or vs s d)) → any t vs ≡ some_slot f
  some_listed t d vs len is = grind (arith, common_steps, slot_of, none_of, is, any_on d t vs, any_off d t vs)

-- ---- the list of a set

module _ {A : Type 0} (t : A → Bool) (d : A) (f : ℕ → Bool) where
  -- a pick over the places of a list, and over the list
  pub select_indices : (l : List A) (b : ℕ) → ((i : ℕ) → i < length l → f (b + i) ≡ t (get_or l i d)) → select f b (length l) ≡ indices t b l
  unfolding keep up_to
  select_indices [] b h = refl
  select_indices (x ∷ l) b h =
      let e : f b ≡ t x = ap f (plus_zero b) ∙ h 0 (omega arith) in
      let r = select_indices l (suc b) (λ i p. ap f (move b i) ∙ h (suc i) (omega arith)) in
      ap₂ (λ (y : Bool) (z : List ℕ). if y then b ∷ z else z) e r
    where
      plus_zero : (n : ℕ) → n ≡ n + 0
      plus_zero n = omega arith

      move : (n i : ℕ) → suc n + i ≡ n + suc i
      move n i = omega arith

module _ (t : SlotState → Bool) (vs : List SlotState) (len : length vs ≡ slot_count) (a : SlotSet) (is : Picks t vs a) where
  pub picks_list : slots_of a.words ≡ indices t 0 vs
  picks_list =
      slots_are a.words (has a.words) (λ s h. refl) ∙ ap (λ (n : ℕ). select (has a.words) 0 n) (sym len)
      ∙ select_indices t free_slot (has a.words) vs 0 (λ i h. ap (has a.words) (zero_plus i) ∙ is i (omega (arith, len)))
    where
      zero_plus : (n : ℕ) → 0 + n ≡ n
      zero_plus n = omega arith

-- the sets of a place, as the rules list them
module _ (p : ℕ) (vs : List SlotState) (len : length vs ≡ slot_count) (r : PlaceSets) (g : Gathers p vs r) where
  pub gathered_assigned : slots_of r.assigned.words ≡ set_a p vs
  unfolding set_a
  gathered_assigned = picks_list (assigned p) vs len r.assigned g.assigned_are

  pub gathered_revoking : slots_of r.revoking.words ≡ set_p p vs
  unfolding set_p
  gathered_revoking = picks_list (revoking p) vs len r.revoking g.revoking_are
