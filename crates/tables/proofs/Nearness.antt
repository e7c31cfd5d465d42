-- A slot that is not near a place is in none of its sets; and the slots passed by a search that are not near it.
use Rattle.std.proofs.Common.{◌≡◌, ℕ, ◌+◌, ◌≤◌, ◌<◌, Bool, false, arith}
use Rattle.std.proofs.lemmas.Grind.{common_steps}
use Rattle.rules.specs.Group.{SlotState, assigned, revoking, targeted}
use Rattle.slots.proofs.Next.{none_one, none_join}
use Rattle.tables.specs.Places.{near, claimable}

-- a slot that is not near is in none of the four sets
module _ (p : ℕ) (x : SlotState) (n : near p x ≡ false) where
  pub far_a : assigned p x ≡ false
  unfolding near assigned
  far_a = grind (arith, common_steps)

  pub far_q : revoking p x ≡ false
  unfolding near revoking
  far_q = grind (arith, common_steps)

  pub far_m : targeted p x ≡ false
  unfolding near targeted
  far_m = grind (arith, common_steps)

  pub far_c : claimable p x ≡ false
  unfolding near claimable targeted
  far_c = grind (arith, common_steps)

-- one slot more that is not near
pub none_more : (f : ℕ → Bool) (from i : ℕ) → ((s : ℕ) → from ≤ s → s < i → f s ≡ false) → f i ≡ false → (s : ℕ) → from ≤ s → s < i + 1 → f s ≡ false
none_more f from i h e = none_join f from i (i + 1) h (none_one f i e)
