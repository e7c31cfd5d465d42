-- A slot has one holder, which has it in A or in P, and one target: A, P and M of a place are picks over the slots.
use Prim.Native.Nat.{ℕ}
use mathlib.Core.Path.{◌≡◌, sym, ◌∙◌}
use mathlib.Core.Logic.{◌⊎◌, inl, inr}
use mathlib.Core.Bool.{false≢true}
use mathlib.Core.List.{List, Memᴰ}
use lib.ListN.{get_or}
use Rattle.rules.specs.Group.{SlotState, assigned, free_slot, revoking, set_a, set_m, set_p, targeted}
use Rattle.rules.specs.Theorems.{AssignedOrRevoking, HeldOnce, TargetedOnce}
use Rattle.theorems.proofs.Picks.{passes}
use Rattle.theorems.proofs.Slots.{of_assigned, of_revoking, of_targeted}

held_by : (slots : List SlotState) (p s : ℕ) → Memᴰ s (set_a p slots) ⊎ Memᴰ s (set_p p slots) → (get_or slots s free_slot).holder ≡ p
unfolding set_a set_p
held_by slots p s (inl m) = (of_assigned p (get_or slots s free_slot) (passes (assigned p) slots free_slot s m)).0
held_by slots p s (inr m) = (of_revoking p (get_or slots s free_slot) (passes (revoking p) slots free_slot s m)).0

pub held_once : HeldOnce
held_once slots p q s a b = sym (held_by slots p s a) ∙ held_by slots q s b

pub assigned_or_revoking : AssignedOrRevoking
unfolding set_a set_p
assigned_or_revoking slots p s a b =
    let x = get_or slots s free_slot in
    false≢true (sym (of_assigned p x (passes (assigned p) slots free_slot s a)).1 ∙ (of_revoking p x (passes (revoking p) slots free_slot s b)).1)

pub targeted_once : TargetedOnce
unfolding set_m
targeted_once slots p q s a b =
    let x = get_or slots s free_slot in
    sym (of_targeted p x (passes (targeted p) slots free_slot s a)) ∙ of_targeted q x (passes (targeted q) slots free_slot s b)
