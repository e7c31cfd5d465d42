-- A pick over the slots is a set of slots, so that a list which is A of a place is no bad one. Assumes nothing.
use Rattle.std.proofs.Common.{◌≡◌, ℕ, suc, ◌+◌, ◌≤◌, Bool, true, false, not, ◌&&◌, List, [], ◌∷◌, length, ltb, refl, sym, ap, ◌∙◌, arith}
use Rattle.rules.specs.Basics.{all, indices, rising}
use Rattle.rules.specs.Constants.{slot_count}
use Rattle.rules.specs.Group.{SlotState, assigned, set_a}
use Rattle.rules.specs.Refusals.{is_slot_set, bad_list}
use Rattle.quiet.specs.Settling.{Quiet}

-- from a lower number on
lower : (l : List ℕ) (n : ℕ) → rising (suc n) l ≡ true → rising n l ≡ true
lower [] n e = refl
lower (x ∷ l) n e = grind arith

module _ {A : Type 0} (f : A → Bool) where
  picked_rise : (n : ℕ) (l : List A) → rising n (indices f n l) ≡ true
  picked_rise n [] = refl
  picked_rise n (x ∷ l) = grind (arith, picked_rise (suc n) l, lower (indices f (suc n) l) n)

  picked_below : (n k : ℕ) (l : List A) → n + length l ≤ k → all (λ s. ltb s k) (indices f n l) ≡ true
  picked_below n k [] h = refl
  picked_below n k (x ∷ l) h = grind (arith, picked_below (suc n) k l)

pub quiet_good : {p : ℕ} {vs : List SlotState} {l : List ℕ} → Quiet p vs l → length vs ≡ slot_count → bad_list l ≡ false
unfolding bad_list is_slot_set set_a
quiet_good {p} {vs} q n =
    ap (λ (x : List ℕ). not (rising 0 x && all (λ s. ltb s slot_count) x)) (sym q.assigned_are)
    ∙ rw (picked_rise (assigned p) 0 vs, picked_below (assigned p) 0 slot_count vs (omega (arith, n)))
