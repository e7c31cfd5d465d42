-- Steps 2 and 3 for one slot x of a place p below 255, by the place's tests of x alone. A slot of P is freed, or there is none (`z`).
use Rattle.std.specs.Prelude.{if◌then◌else◌}
use Rattle.std.proofs.Common.{◌≡◌, ℕ, Bool, true, false, not, ◌&&◌, ◌||◌, eqb, arith}
use Rattle.std.proofs.lemmas.Grind.{common_steps}
use Rattle.rules.specs.Constants.{no_place}
use Rattle.rules.specs.Group.{SlotState, assigned, revoking, targeted}
use Rattle.rules.specs.Effects.{freed, stray, revoked, claimed}
use Rattle.tables.specs.Places.{claimable}

abbrev pub free_if : Bool → ℕ → SlotState → SlotState
free_if f p x = if f then freed p x else x

module _ (p : ℕ) (n : eqb no_place p ≡ false) (same : eqb p p ≡ true) where
  -- freeing makes no stray and takes none away
  pub stray_free : (x : SlotState) → stray p (freed p x) ≡ stray p x
  unfolding freed stray assigned revoking
  stray_free x = grind (arith, common_steps)

  module _ (f : Bool) (x : SlotState) (z : f ≡ false → revoking p x ≡ false) where
    pub revoke_a : assigned p (revoked p (free_if f p x)) ≡ (assigned p x && targeted p x)
    unfolding freed revoked stray assigned revoking targeted
    revoke_a = grind (arith, common_steps)

    pub revoke_q : revoking p (revoked p (free_if f p x)) ≡ (assigned p x && not (targeted p x))
    unfolding freed revoked stray assigned revoking targeted
    revoke_q = grind (arith, common_steps)

    pub claim_a : assigned p (claimed p (free_if f p x)) ≡ (assigned p x || (claimable p x || (revoking p x && targeted p x)))
    unfolding freed claimed assigned revoking targeted claimable
    claim_a = grind (arith, common_steps)

    pub claim_q : revoking p (claimed p (free_if f p x)) ≡ false
    unfolding freed claimed revoking targeted
    claim_q = grind (arith, common_steps)

  pub claim_none : (x : SlotState) → claimable p x ≡ false → claimed p x ≡ x
  unfolding claimed claimable
  claim_none x e = grind (arith, common_steps)

  -- what is claimable, or in P, is not in A
  pub not_yet : (x : SlotState) (y : Bool) → (claimable p x || (revoking p x && y)) ≡ true → assigned p x ≡ false
  unfolding assigned revoking claimable targeted
  not_yet x y e = grind (arith, common_steps)
