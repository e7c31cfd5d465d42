-- The slots after an event, each by itself: what it was, moved as `Slots` says. So a third place keeps its A and its P, and targets stay.
use Prim.Native.Nat.{ℕ, zero, suc}
use native.Mathlib.Omega.{arith}
use mathlib.Core.Path.{◌≡◌, refl, sym, ap, ◌∙◌}
use mathlib.Core.Logic.{◌≢◌}
use mathlib.Core.Bool.{Bool, true, false, ◌&&◌}
use mathlib.Core.List.{List, [], ◌∷◌, map}
use mathlib.Core.Option.{Option}
use lib.ListN.{length, get_or, length-map, get_or-map}
use lib.Dec.{eqb}
use Rattle.rules.specs.Basics.{any, indices}
use Rattle.rules.specs.Constants.{no_place}
use Rattle.rules.specs.Group.{SlotState, assigned, free_slot, revoking, set_a, set_m, set_p, targeted}
use Rattle.rules.specs.Effects.{advanced, after_free, claimed, freed, frees, retargeted, revoked, strays, vacated, waits}
use Rattle.rules.proofs.Lists.{any_at}
use Rattle.theorems.proofs.Cases.{eq_cases, if_cases}
use Rattle.theorems.proofs.Picks.{indices_ext}
use Rattle.theorems.proofs.Slots.{Moved, Same, claimed_keeps, free_claimed, free_freed, free_revoked, free_revoking, free_vacated, freed_keeps, freed_same, freed_waiting, moved_claimed, moved_freed, moved_none, moved_revoked, moved_trans, moved_vacated, not_assigned, not_revoking, not_waiting, revoked_keeps, same_assigned, same_revoking, target_claimed, target_freed, target_revoked}

unfoldable pub holder_in : List SlotState → ℕ → ℕ
holder_in ss s = (get_or ss s free_slot).holder

unfoldable pub target_in : List SlotState → ℕ → ℕ
target_in ss s = (get_or ss s free_slot).target

unfoldable pub waiting_in : List SlotState → ℕ → Bool
waiting_in ss s = (get_or ss s free_slot).waiting

-- ---- one function for all slots, which leaves a free slot free

slot_map : (f : SlotState → SlotState) → f free_slot ≡ free_slot → (ss : List SlotState) (s : ℕ) → get_or (map f ss) s free_slot ≡ f (get_or ss s free_slot)
slot_map f e ss s = ap (get_or (map f ss) s) (sym e) ∙ get_or-map f ss s free_slot

module _ (p : ℕ) (ss : List SlotState) (s : ℕ) where
  pub at_vacated : get_or (map (vacated p) ss) s free_slot ≡ vacated p (get_or ss s free_slot)
  at_vacated = slot_map (vacated p) (free_vacated p) ss s

  at_freed : get_or (map (freed p) ss) s free_slot ≡ freed p (get_or ss s free_slot)
  at_freed = slot_map (freed p) (free_freed p) ss s

  pub at_revoked : get_or (map (revoked p) ss) s free_slot ≡ revoked p (get_or ss s free_slot)
  at_revoked = slot_map (revoked p) (free_revoked p) ss s

  pub at_claimed : get_or (map (claimed p) ss) s free_slot ≡ claimed p (get_or ss s free_slot)
  at_claimed = slot_map (claimed p) (free_claimed p) ss s

-- ---- steps 2 and 3 of an ordinary heartbeat

module _ (p : ℕ) (ss : List SlotState) (owned : Option (List ℕ)) where
  abbrev af : List SlotState
  af = after_free p ss owned

  length_after : length af ≡ length ss
  unfolding after_free
  length_after = if_cases (λ (l : List SlotState). length l ≡ length ss) (frees p ss owned) (λ _. length-map ss (freed p)) (λ _. refl)

  -- the slots are as they were, or all revoked, or all claimed
  pub advanced_cases : (P : List SlotState → Type 0) → (waits p ss owned ≡ true → P ss) → (waits p ss owned ≡ false → strays p ss owned ≡ true → P (map (revoked p) af))
      → (waits p ss owned ≡ false → strays p ss owned ≡ false → P (map (claimed p) af)) → P (advanced p ss owned)
  unfolding advanced
  advanced_cases P stay revoke claim = if_cases P (waits p ss owned) stay (λ e. if_cases P (strays p ss owned) (revoke e) (claim e))

  length_advanced : length (advanced p ss owned) ≡ length ss
  length_advanced = advanced_cases (λ l. length l ≡ length ss) (λ _. refl) (λ _ _. length-map af (revoked p) ∙ length_after) (λ _ _. length-map af (claimed p) ∙ length_after)

  -- what freeing, revoking and claiming keep of a slot, the steps keep of it
  module _ (s : ℕ) (R : SlotState → SlotState → Type 0) (none' : (x : SlotState) → R x x) (free : frees p ss owned ≡ true → R (get_or ss s free_slot) (freed p (get_or ss s free_slot))) where
    after_at : R (get_or ss s free_slot) (get_or af s free_slot)
    unfolding after_free
    after_at = if_cases (λ l. R (get_or ss s free_slot) (get_or l s free_slot)) (frees p ss owned) (λ e. rw (at_freed p ss s) (free e)) (λ _. none' (get_or ss s free_slot))

    advanced_at : ((x y z : SlotState) → R x y → R y z → R x z) → ((x : SlotState) → R x (revoked p x)) → ((x : SlotState) → R x (claimed p x)) → R (get_or ss s free_slot) (get_or (advanced p ss owned) s free_slot)
    advanced_at trans revoke claim =
        advanced_cases (λ l. R (get_or ss s free_slot) (get_or l s free_slot)) (λ _. none' (get_or ss s free_slot))
        (λ _ _. rw (at_revoked p af s) (trans _ _ _ after_at (revoke (get_or af s free_slot))))
        (λ _ _. rw (at_claimed p af s) (trans _ _ _ after_at (claim (get_or af s free_slot))))

  pub target_after_lem : (s : ℕ) → target_in af s ≡ target_in ss s
  unfolding target_in
  target_after_lem s = after_at s (λ x y. y.target ≡ x.target) (λ x. refl) (λ _. target_freed p (get_or ss s free_slot))

  pub target_advanced : (s : ℕ) → target_in (advanced p ss owned) s ≡ target_in ss s
  unfolding target_in
  target_advanced s =
      advanced_at s (λ x y. y.target ≡ x.target) (λ x. refl) (λ _. target_freed p (get_or ss s free_slot)) (λ x y z a b. b ∙ a) (target_revoked p) (target_claimed p)

  -- a slot that is not freed keeps its holder
  pub holder_advanced : (s : ℕ) → holder_in ss s ≢ no_place → (frees p ss owned ≡ true → revoking p (get_or ss s free_slot) ≡ false) → holder_in (advanced p ss owned) s ≡ holder_in ss s
  unfolding holder_in
  holder_advanced s h k =
      advanced_at s (λ x y. x.holder ≢ no_place → y.holder ≡ x.holder) (λ x _. refl) (λ e _. freed_keeps p (get_or ss s free_slot) (k e))
      (λ x y z a b n. b (λ q. n (sym (a n) ∙ q)) ∙ a n) (λ x _. revoked_keeps p x) (claimed_keeps p) h

  -- what the place holds after freeing it held, and where it does not wait none of it is in P
  pub after_same : p ≢ no_place → (s : ℕ) → (get_or af s free_slot).holder ≡ p → get_or af s free_slot ≡ get_or ss s free_slot
  after_same away s = after_at s (λ x y. y.holder ≡ p → y ≡ x) (λ x _. refl) (λ _. freed_same p (get_or ss s free_slot) away)

  pub after_clean : waits p ss owned ≡ false → (s : ℕ) → (get_or af s free_slot).holder ≡ p → (get_or af s free_slot).waiting ≡ false
  unfolding after_free waits
  after_clean e s =
      if_cases (λ l. (get_or l s free_slot).holder ≡ p → (get_or l s free_slot).waiting ≡ false) (frees p ss owned)
      (λ _. rw (at_freed p ss s) (freed_waiting p (get_or ss s free_slot)))
      (λ f. not_waiting p (get_or ss s free_slot) (any_at (revoking p) free_slot (free_revoking p) ss (nothing (any (revoking p) ss) (rw f at e)) s))
    where
      nothing : (c : Bool) → c && true ≡ false → c ≡ false
      nothing true q = q
      nothing false q = refl

-- ---- what another place has

pub record Moves (p : ℕ) (ss tt' : List SlotState) : Type 0 where
  pub long : length tt' ≡ length ss
  pub at : (s : ℕ) → Moved p (get_or ss s free_slot) (get_or tt' s free_slot)

pub moves_vacated : (p : ℕ) (ss : List SlotState) → Moves p ss (map (vacated p) ss)
moves_vacated p ss = record { long = length-map ss (vacated p); at = λ s. rw (at_vacated p ss s) (moved_vacated p (get_or ss s free_slot)) }

pub moves_after : (p : ℕ) (ss : List SlotState) (owned : Option (List ℕ)) → Moves p ss (after_free p ss owned)
moves_after p ss owned = record { long = length_after p ss owned; at = λ s. after_at p ss owned s (Moved p) (moved_none p) (λ _. moved_freed p (get_or ss s free_slot)) }

pub moves_advanced : (p : ℕ) (ss : List SlotState) (owned : Option (List ℕ)) → Moves p ss (advanced p ss owned)
moves_advanced p ss owned = record {
  long = length_advanced p ss owned;
  at = λ s. advanced_at p ss owned s (Moved p) (moved_none p) (λ _. moved_freed p (get_or ss s free_slot)) (moved_trans p) (moved_revoked p) (moved_claimed p);
}

module _ (q : ℕ) {p : ℕ} {ss tt' : List SlotState} (mv : Moves p ss tt') (a : q ≢ p) (b : q ≢ no_place) where
  -- a test of the holder q, whatever else it looks at but the target, picks the same slots
  keeps : (f : SlotState → Bool) → ((x y : SlotState) → Same x y → f y ≡ f x) → ((x : SlotState) → x.holder ≢ q → f x ≡ false) → indices f 0 tt' ≡ indices f 0 ss
  keeps f same' other = indices_ext f f free_slot free_slot tt' ss 0 mv.long (λ i _. at (get_or ss i free_slot) (get_or tt' i free_slot) (mv.at i))
    where
      at : (x y : SlotState) → Moved p x y → f y ≡ f x
      at x y m = eq_cases x.holder q
          (λ e. same' x y (m.keep (λ k. a (sym e ∙ k)) (λ k. b (sym e ∙ k))))
          (λ e. eq_cases y.holder q (λ h. same' x y (m.gain (λ k. a (sym h ∙ k)) (λ k. b (sym h ∙ k)))) (λ h. other y h ∙ sym (other x e)))

  pub keeps_a : set_a q tt' ≡ set_a q ss
  unfolding set_a
  keeps_a = keeps (assigned q) (same_assigned q) (not_assigned q)

  pub keeps_p : set_p q tt' ≡ set_p q ss
  unfolding set_p
  keeps_p = keeps (revoking q) (same_revoking q) (λ x h. not_revoking q x (λ e. absurd (h e)))

-- ---- an install

pub length_retargeted : (ss : List SlotState) (es : List ℕ) → length (retargeted ss es) ≡ length ss
unfolding retargeted
length_retargeted [] es = refl
length_retargeted (s ∷ ss) [] = refl
length_retargeted (s ∷ ss) (e ∷ es) = ap suc (length_retargeted ss es)

pub same_retargeted : (ss : List SlotState) (es : List ℕ) (s : ℕ) → Same (get_or ss s free_slot) (get_or (retargeted ss es) s free_slot)
unfolding retargeted
same_retargeted [] es s = record { holder = refl; waiting = refl }
same_retargeted (x ∷ xs) [] s = record { holder = refl; waiting = refl }
same_retargeted (x ∷ xs) (e ∷ es) zero = record { holder = refl; waiting = refl }
same_retargeted (x ∷ xs) (e ∷ es) (suc s) = same_retargeted xs es s

pub target_retargeted : (ss : List SlotState) (es : List ℕ) (s : ℕ) → length ss ≡ length es → target_in (retargeted ss es) s ≡ get_or es s no_place
unfolding target_in retargeted free_slot
target_retargeted [] [] s h = refl
target_retargeted [] (e ∷ es) s h = absurd (omega arith)
target_retargeted (x ∷ xs) [] s h = absurd (omega arith)
target_retargeted (x ∷ xs) (e ∷ es) zero h = refl
target_retargeted (x ∷ xs) (e ∷ es) (suc s) h = target_retargeted xs es s (omega arith)

module _ (p : ℕ) (ss : List SlotState) (es : List ℕ) where
  keeps_retargeted : (f : SlotState → Bool) → ((x y : SlotState) → Same x y → f y ≡ f x) → indices f 0 (retargeted ss es) ≡ indices f 0 ss
  keeps_retargeted f same' = indices_ext f f free_slot free_slot (retargeted ss es) ss 0 (length_retargeted ss es) (λ i _. same' (get_or ss i free_slot) (get_or (retargeted ss es) i free_slot) (same_retargeted ss es i))

  pub a_retargeted : set_a p (retargeted ss es) ≡ set_a p ss
  unfolding set_a
  a_retargeted = keeps_retargeted (assigned p) (same_assigned p)

  pub p_retargeted : set_p p (retargeted ss es) ≡ set_p p ss
  unfolding set_p
  p_retargeted = keeps_retargeted (revoking p) (same_revoking p)

  -- the slots that the entries name for the place
  pub M-retargeted : length ss ≡ length es → set_m p (retargeted ss es) ≡ indices (λ e. eqb e p) 0 es
  unfolding set_m targeted target_in
  M-retargeted long =
      indices_ext (targeted p) (λ e. eqb e p) free_slot no_place (retargeted ss es) es 0 (length_retargeted ss es ∙ long) (λ i _. ap (λ (t : ℕ). eqb t p) (target_retargeted ss es i long))
