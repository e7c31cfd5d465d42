-- One slot: what the tests say of it, and what becomes of it where a place is vacated, frees, revokes or claims. A slot that a third place holds, before or
-- after, stays with it.
use Rattle.std.specs.Prelude.{if◌then◌else◌}
use Prim.Native.Nat.{ℕ}
use mathlib.Core.Path.{◌≡◌, refl, sym, ◌∙◌}
use mathlib.Core.Logic.{◌≢◌}
use mathlib.Core.Bool.{Bool, true, false, not, ◌&&◌, true≢false}
use lib.Dec.{eqb}
use borrow.Author.Tests.{eqb-true, eqb-false, eq-eqb, ne_eqb}
use Rattle.rules.specs.Constants.{no_place}
use Rattle.rules.specs.Group.{SlotState, assigned, free_slot, revoking, targeted}
use Rattle.rules.specs.Effects.{claimed, freed, revoked, stray, vacated}
use Rattle.rules.proofs.Lists.{and_true, not_is_false, not_is_true}
use Rattle.theorems.proofs.Cases.{by_cases, eq_cases, if_cases}

-- ---- the tests

module _ (p : ℕ) (x : SlotState) where
  pub of_assigned : assigned p x ≡ true → (x.holder ≡ p) × (x.waiting ≡ false)
  unfolding assigned
  of_assigned e = let h = and_true (eqb x.holder p) (not x.waiting) e in (eqb-true x.holder p h.0, not_is_true x.waiting h.1)

  pub is_assigned : x.holder ≡ p → x.waiting ≡ false → assigned p x ≡ true
  unfolding assigned
  is_assigned e w = rw (eq-eqb x.holder p e, w) refl

  pub not_assigned : x.holder ≢ p → assigned p x ≡ false
  unfolding assigned
  not_assigned h = rw (ne_eqb x.holder p h) refl

  pub of_revoking : revoking p x ≡ true → (x.holder ≡ p) × (x.waiting ≡ true)
  unfolding revoking
  of_revoking e = let h = and_true (eqb x.holder p) x.waiting e in (eqb-true x.holder p h.0, h.1)

  pub not_revoking : (x.holder ≡ p → x.waiting ≡ false) → revoking p x ≡ false
  unfolding revoking
  not_revoking h = by_cases (eqb x.holder p) (λ e. rw (e, h (eqb-true x.holder p e)) refl) (λ e. rw e refl)

  pub not_waiting : revoking p x ≡ false → x.holder ≡ p → x.waiting ≡ false
  unfolding revoking
  not_waiting e h = sym (rw (eq-eqb x.holder p h) refl) ∙ e

  pub of_targeted : targeted p x ≡ true → x.target ≡ p
  unfolding targeted
  of_targeted e = eqb-true x.target p e

  pub of_stray : stray p x ≡ true → assigned p x ≡ true
  unfolding stray
  of_stray e = (and_true (assigned p x) (not (targeted p x)) e).0

  pub not_stray : (x.holder ≡ p → x.waiting ≡ false → x.target ≡ p) → stray p x ≡ false
  unfolding stray targeted
  not_stray h = by_cases (assigned p x) (λ e. let a = of_assigned e in rw (e, eq-eqb x.target p (h a.0 a.1)) refl) (λ e. rw e refl)

  pub its_target : stray p x ≡ false → x.holder ≡ p → x.waiting ≡ false → x.target ≡ p
  unfolding stray targeted
  its_target e h w = eqb-true x.target p (not_is_false (eqb x.target p) (sym (rw (is_assigned h w) refl) ∙ e))

-- ---- a free slot stays free

pub free_revoking : (p : ℕ) → revoking p free_slot ≡ false
unfolding free_slot
free_revoking p = not_revoking p free_slot (λ _. refl)

pub free_stray : (p : ℕ) → stray p free_slot ≡ false
unfolding free_slot
free_stray p = not_stray p free_slot (λ h _. h)

if_same : {A : Type 0} (c : Bool) (x : A) → (if c then x else x) ≡ x
if_same c x = if_cases (λ z. z ≡ x) c (λ _. refl) (λ _. refl)

pub free_vacated : (p : ℕ) → vacated p free_slot ≡ free_slot
unfolding vacated free_slot
free_vacated p = rw (if_same (eqb no_place p) no_place, if_same (eqb no_place p) false) refl

pub free_freed : (p : ℕ) → freed p free_slot ≡ free_slot
unfolding freed
free_freed p = rw (free_revoking p) refl

pub free_revoked : (p : ℕ) → revoked p free_slot ≡ free_slot
unfolding revoked
free_revoked p = rw (free_stray p) refl

pub free_claimed : (p : ℕ) → claimed p free_slot ≡ free_slot
unfolding claimed free_slot
free_claimed p = if_cases (λ z. z ≡ free_slot) (targeted p free_slot && eqb no_place no_place) (λ e. λ i. record { target = no_place; holder = its e i; waiting = false }) (λ _. refl)
  where
    its : targeted p free_slot && eqb no_place no_place ≡ true → p ≡ no_place
    its e = sym (of_targeted p free_slot (and_true (targeted p free_slot) (eqb no_place no_place) e).0)

-- ---- what changes

pub record Same (x y : SlotState) : Type 0 where
  pub holder : y.holder ≡ x.holder
  pub waiting : y.waiting ≡ x.waiting

pub same_assigned : (p : ℕ) (x y : SlotState) → Same x y → assigned p y ≡ assigned p x
unfolding assigned
same_assigned p x y e = rw (e.holder, e.waiting) refl

pub same_revoking : (p : ℕ) (x y : SlotState) → Same x y → revoking p y ≡ revoking p x
unfolding revoking
same_revoking p x y e = rw (e.holder, e.waiting) refl

-- x becomes y by what place p does
pub record Moved (p : ℕ) (x y : SlotState) : Type 0 where
  pub keep : x.holder ≢ p → x.holder ≢ no_place → Same x y
  pub gain : y.holder ≢ p → y.holder ≢ no_place → Same x y

same_trans : {x y z : SlotState} → Same x y → Same y z → Same x z
same_trans a b = record { holder = b.holder ∙ a.holder; waiting = b.waiting ∙ a.waiting }

pub moved_none : (p : ℕ) (x : SlotState) → Moved p x x
moved_none p x = record { keep = λ _ _. record { holder = refl; waiting = refl }; gain = λ _ _. record { holder = refl; waiting = refl } }

pub moved_trans : (p : ℕ) (x y z : SlotState) → Moved p x y → Moved p y z → Moved p x z
moved_trans p x y z a b = record {
  keep = λ h k. let e = a.keep h k in same_trans e (b.keep (λ q. h (sym e.holder ∙ q)) (λ q. k (sym e.holder ∙ q)));
  gain = λ h k. let e = b.gain h k in same_trans (a.gain (λ q. h (e.holder ∙ q)) (λ q. k (e.holder ∙ q))) e;
}

module _ (p : ℕ) (x : SlotState) where
  -- vacated
  pub vacated_other : x.holder ≢ p → Same x (vacated p x)
  unfolding vacated
  vacated_other h = record { holder = rw (ne_eqb x.holder p h) refl; waiting = rw (ne_eqb x.holder p h) refl }

  vacated_own : x.holder ≡ p → (vacated p x).holder ≡ no_place
  unfolding vacated
  vacated_own h = rw (eq-eqb x.holder p h) refl

  pub moved_vacated : Moved p x (vacated p x)
  moved_vacated = record { keep = λ a _. vacated_other a; gain = λ _ b. vacated_other (λ e. b (vacated_own e)) }

  -- the place neither holds it nor has it as target, unless it is no place
  pub vacated_holder : (vacated p x).holder ≡ p → p ≡ no_place
  vacated_holder e = eq_cases x.holder p (λ q. sym e ∙ vacated_own q) (λ q. absurd (q (sym (vacated_other q).holder ∙ e)))

  pub vacated_target : (vacated p x).target ≡ p → p ≡ no_place
  unfolding vacated
  vacated_target = if_cases (λ t. t ≡ p → p ≡ no_place) (eqb x.target p) (λ _. sym) (λ e q. absurd (eqb-false x.target p e q))

  -- freed
  pub moved_freed : Moved p x (freed p x)
  unfolding freed
  moved_freed = if_cases (Moved p x) (revoking p x) (λ e. record { keep = λ a _. absurd (a (of_revoking p x e).0); gain = λ _ b. absurd (b refl) }) (λ _. moved_none p x)

  pub target_freed : (freed p x).target ≡ x.target
  unfolding freed
  target_freed = if_cases (λ (z : SlotState). z.target ≡ x.target) (revoking p x) (λ _. refl) (λ _. refl)

  pub freed_keeps : revoking p x ≡ false → (freed p x).holder ≡ x.holder
  unfolding freed
  freed_keeps h = rw h refl

  pub freed_waiting : (freed p x).holder ≡ p → (freed p x).waiting ≡ false
  unfolding freed
  freed_waiting = if_cases (λ (z : SlotState). z.holder ≡ p → z.waiting ≡ false) (revoking p x) (λ _ _. refl) (not_waiting p x)

  pub freed_same : p ≢ no_place → (freed p x).holder ≡ p → freed p x ≡ x
  unfolding freed
  freed_same away = if_cases (λ (z : SlotState). z.holder ≡ p → z ≡ x) (revoking p x) (λ _ h. absurd (away (sym h))) (λ _ _. refl)

  -- revoked
  pub moved_revoked : Moved p x (revoked p x)
  unfolding revoked
  moved_revoked = if_cases (Moved p x) (stray p x) (λ e. let h = (of_assigned p x (of_stray p x e)).0 in record { keep = λ a _. absurd (a h); gain = λ a _. absurd (a h) }) (λ _. moved_none p x)

  pub target_revoked : (revoked p x).target ≡ x.target
  unfolding revoked
  target_revoked = if_cases (λ (z : SlotState). z.target ≡ x.target) (stray p x) (λ _. refl) (λ _. refl)

  pub revoked_keeps : (revoked p x).holder ≡ x.holder
  unfolding revoked
  revoked_keeps = if_cases (λ (z : SlotState). z.holder ≡ x.holder) (stray p x) (λ _. refl) (λ _. refl)

  pub revoked_within : (revoked p x).holder ≡ p → (revoked p x).waiting ≡ false → (revoked p x).target ≡ p
  unfolding revoked
  revoked_within = if_cases (λ (z : SlotState). z.holder ≡ p → z.waiting ≡ false → z.target ≡ p) (stray p x) (λ _ _ w. absurd (true≢false w)) (its_target p x)

  pub stray_revoked : stray p x ≡ true → revoking p (revoked p x) ≡ true
  unfolding revoked revoking
  stray_revoked e = rw (e, eq-eqb x.holder p (of_assigned p x (of_stray p x e)).0) refl

  -- claimed
  claims : targeted p x && eqb x.holder no_place ≡ true → (x.target ≡ p) × (x.holder ≡ no_place)
  claims e = let h = and_true (targeted p x) (eqb x.holder no_place) e in (of_targeted p x h.0, eqb-true x.holder no_place h.1)

  pub moved_claimed : Moved p x (claimed p x)
  unfolding claimed
  moved_claimed = if_cases (Moved p x) (targeted p x && eqb x.holder no_place) (λ e. record { keep = λ _ b. absurd (b (claims e).1); gain = λ a _. absurd (a refl) }) (λ _. moved_none p x)

  pub target_claimed : (claimed p x).target ≡ x.target
  unfolding claimed
  target_claimed = if_cases (λ (z : SlotState). z.target ≡ x.target) (targeted p x && eqb x.holder no_place) (λ _. refl) (λ _. refl)

  pub claimed_keeps : x.holder ≢ no_place → (claimed p x).holder ≡ x.holder
  unfolding claimed
  claimed_keeps h = if_cases (λ (z : SlotState). z.holder ≡ x.holder) (targeted p x && eqb x.holder no_place) (λ e. absurd (h (claims e).1)) (λ _. refl)

  -- a slot of M that nobody holds is claimed
  pub claimed_gets : x.target ≡ p → x.holder ≡ no_place → (claimed p x).holder ≡ p
  unfolding claimed targeted
  claimed_gets t h = rw (eq-eqb x.target p t, eq-eqb x.holder no_place h) refl

  pub claimed_waiting : (x.holder ≡ p → x.waiting ≡ false) → (claimed p x).holder ≡ p → (claimed p x).waiting ≡ false
  unfolding claimed
  claimed_waiting clean = if_cases (λ (z : SlotState). z.holder ≡ p → z.waiting ≡ false) (targeted p x && eqb x.holder no_place) (λ _ _. refl) (λ _. clean)

  pub claimed_target : (x.holder ≡ p → x.target ≡ p) → (claimed p x).holder ≡ p → (claimed p x).target ≡ p
  unfolding claimed
  claimed_target within = if_cases (λ (z : SlotState). z.holder ≡ p → z.target ≡ p) (targeted p x && eqb x.holder no_place) (λ e _. (claims e).0) (λ _. within)
