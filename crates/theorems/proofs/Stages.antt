-- What one regular heartbeat does to the slots of its sender, and leaves of the others': the three stages of a member, of which its first, second and third
-- heartbeat bring one each.
use Prim.Native.Nat.{ℕ}
use mathlib.Core.Path.{◌≡◌, refl, sym, ◌∙◌}
use mathlib.Core.Logic.{◌≢◌, ◌⊎◌, inl, inr}
use mathlib.Core.Bool.{Bool, true, false, not, ◌&&◌}
use mathlib.Core.List.{List, map, Memᴰ}
use mathlib.Core.Option.{Option, some}
use lib.ListN.{get_or}
use Rattle.rules.specs.Basics.{all, any}
use Rattle.rules.specs.Constants.{no_place}
use Rattle.rules.specs.Group.{Member, SlotState, assigned, free_slot, revoking, set_a}
use Rattle.rules.specs.Effects.{advanced, after_free, claimed, frees, revoked, stray, strays, waits}
use Rattle.rules.proofs.Lists.{any_at}
use Rattle.theorems.proofs.Cases.{eq_cases, if_cases}
use Rattle.theorems.proofs.Picks.{any_none_at, any_none_mem, passes}
use Rattle.theorems.proofs.Slots.{claimed_gets, claimed_keeps, claimed_target, claimed_waiting, free_stray, its_target, not_revoking, not_stray, of_assigned, revoked_within, target_claimed}
use Rattle.theorems.proofs.Moves.{Moves, after_clean, after_same, at_claimed, at_revoked, holder_in, moves_after, target_after_lem, target_in, waiting_in}
use Rattle.theorems.proofs.Members.{Occupied}

-- A is within M; A is within M and P is empty; A is M and P is empty
abbrev pub Within : ℕ → List SlotState → Type 0
Within p ss = (s : ℕ) → holder_in ss s ≡ p → waiting_in ss s ≡ false → target_in ss s ≡ p

abbrev pub Clean : ℕ → List SlotState → Type 0
Clean p ss = (s : ℕ) → holder_in ss s ≡ p → (waiting_in ss s ≡ false) × (target_in ss s ≡ p)

abbrev pub Filled : ℕ → List SlotState → Type 0
Filled p ss = (s : ℕ) → target_in ss s ≡ p → holder_in ss s ≡ p

-- ---- the others

module _ (p q : ℕ) (ss tt' : List SlotState) (mv : Moves p ss tt') (aim : (s : ℕ) → target_in tt' s ≡ target_in ss s) (a : q ≢ p) (b : q ≢ no_place) where
  back : (s : ℕ) → holder_in tt' s ≡ q → (holder_in ss s ≡ q) × (waiting_in tt' s ≡ waiting_in ss s)
  unfolding holder_in waiting_in
  back s e = let r = (mv.at s).gain (λ f. a (sym e ∙ f)) (λ f. b (sym e ∙ f)) in (sym r.holder ∙ e, r.waiting)

  pub within_other : Within q ss → Within q tt'
  within_other h s e f = let r = back s e in aim s ∙ h s r.0 (sym r.1 ∙ f)

  pub clean_other : Clean q ss → Clean q tt'
  clean_other h s e = let r = back s e in let k = h s r.0 in (r.1 ∙ k.0, aim s ∙ k.1)

  pub full_other : Filled q ss → Filled q tt'
  unfolding holder_in
  full_other h s e =
      let k : holder_in ss s ≡ q = h s (sym (aim s) ∙ e) in
      ((mv.at s).keep (λ f. a (sym k ∙ f)) (λ f. b (sym k ∙ f))).holder ∙ k

-- ---- the sender

module _ (p : ℕ) (ss : List SlotState) (l : List ℕ) (away : p ≢ no_place) (mine : (s : ℕ) → Memᴰ s l → Memᴰ s (set_a p ss)) where
  listed_not : any (λ s. revoking p (get_or ss s free_slot)) l ≡ false
  unfolding set_a
  listed_not = any_none_mem (λ s. revoking p (get_or ss s free_slot)) l (λ s m. not_revoking p (get_or ss s free_slot) (λ _. (of_assigned p (get_or ss s free_slot) (passes (assigned p) ss free_slot s (mine s m))).1))

  pub no_wait : waits p ss (some l) ≡ false
  unfolding waits frees
  no_wait = rw listed_not (pick (any (revoking p) ss))
    where
      pick : (c : Bool) → c && not (c && true) ≡ false
      pick true = refl
      pick false = refl

  abbrev af : List SlotState
  af = after_free p ss (some l)

  pub no_strays : Within p ss → strays p ss (some l) ≡ false
  unfolding strays holder_in waiting_in target_in
  no_strays h = any_none_at (stray p) free_slot af (λ i _. not_stray p (get_or af i free_slot)
      (λ a w. let k = after_same p ss (some l) away i a in rw k (h i (rw k at a) (rw k at w))))

  claimed_clean : any (stray p) af ≡ false → Clean p (map (claimed p) af)
  unfolding holder_in waiting_in target_in
  claimed_clean e s =
      let x = get_or af s free_slot in
      let clean = after_clean p ss (some l) no_wait s in
      rw (at_claimed p af s, holder_in, waiting_in, target_in) (λ h. (claimed_waiting p x clean h, claimed_target p x (λ k. its_target p x (any_at (stray p) free_slot (free_stray p) af e s) k (clean k)) h))

  revoked_clean : Within p (map (revoked p) af)
  unfolding holder_in waiting_in target_in
  revoked_clean s = rw (at_revoked p af s, holder_in, waiting_in, target_in) (revoked_within p (get_or af s free_slot))

  -- after its heartbeat a member's A is within M
  pub own_within : Within p (advanced p ss (some l))
  unfolding advanced strays
  own_within = rw no_wait (if_cases (Within p) (any (stray p) af) (λ _. revoked_clean) (λ e s h w. (claimed_clean e s h).1))

  advanced_is : strays p ss (some l) ≡ false → advanced p ss (some l) ≡ map (claimed p) af
  unfolding advanced
  advanced_is e = rw (no_wait, e) refl

  -- and if it was so before, P is empty
  pub own_clean : Within p ss → Clean p (advanced p ss (some l))
  unfolding strays
  own_clean h = rw (advanced_is (no_strays h)) (claimed_clean (no_strays h))

  full_at : (s : ℕ) → (target_in ss s ≡ p → holder_in af s ≢ no_place → holder_in af s ≢ p → holder_in af s ≡ holder_in ss s → ⊥)
      → target_in (map (claimed p) af) s ≡ p → holder_in (map (claimed p) af) s ≡ p
  unfolding holder_in target_in
  full_at s other = rw (at_claimed p af s, target_in, holder_in) (λ t. gets (sym (target_claimed p (get_or af s free_slot)) ∙ t))
    where
      gets : (get_or af s free_slot).target ≡ p → (claimed p (get_or af s free_slot)).holder ≡ p
      gets u = eq_cases (get_or af s free_slot).holder no_place (claimed_gets p (get_or af s free_slot) u)
          (λ e. claimed_keeps p (get_or af s free_slot) e ∙ eq_cases (get_or af s free_slot).holder p (λ f. f)
          (λ f. absurd (other (sym (target_after_lem p ss (some l) s) ∙ u) e f (((moves_after p ss (some l)).at s).gain f e).holder)))

  -- and if all the others' A are within their M and their P empty, A is M
  pub own_full : (ms : List (Option Member)) → ((s : ℕ) → (holder_in ss s ≡ no_place) ⊎ Occupied ms (holder_in ss s)) → ((q : ℕ) → Occupied ms q → Clean q ss) → Within p ss → Filled p (advanced p ss (some l))
  own_full ms held all h = rw (advanced_is (no_strays h)) (λ s. full_at s (λ t n m f. third s t n m (held s) f))
    where
      third : (s : ℕ) → target_in ss s ≡ p → holder_in af s ≢ no_place → holder_in af s ≢ p → (holder_in ss s ≡ no_place) ⊎ Occupied ms (holder_in ss s) → holder_in af s ≡ holder_in ss s → ⊥
      third s t n m (inl e) f = n (f ∙ e)
      third s t n m (inr o) f = m (f ∙ sym (all (holder_in ss s) o s refl).1 ∙ t)
