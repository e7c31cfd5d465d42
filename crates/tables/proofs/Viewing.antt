-- The three tables seen as one list of slots: its length, the slot at an index, another target, and the tables of a fresh group.
use Rattle.std.proofs.Common.{◌≡◌, ℕ, zero, suc, ◌<◌, Bool, false, List, [], ◌∷◌, length, get_or, replicate, refl, sym, ap, ◌∙◌, arith, le_of_suc-le-suc, not-suc-le-zero}
use native.Mathlib.Nat.{suc_inj}
use native.Mathlib.Decide.{dec_lt}
use lib.ListN.{get_or-eq_default}
use Rattle.std.proofs.lemmas.List.{get_or_default}
use Rattle.rules.specs.Constants.{slot_count, no_place}
use Rattle.rules.specs.Group.{SlotState, free_slot, fresh}
use Rattle.rules.specs.Effects.{retargeted}
use Rattle.tables.specs.View.{view_lists, slots_in, slot_at, Whole}
use Rattle.tables.specs.declared.Tables.{Tables}

pub view_length : (ts hs : List ℕ) (ws : List Bool) → length hs ≡ length ts → length ws ≡ length ts → length (view_lists ts hs ws) ≡ length ts
view_length [] hs ws p q = refl
view_length (t ∷ ts) [] ws p q = p
view_length (t ∷ ts) (h ∷ hs) [] p q = q
view_length (t ∷ ts) (h ∷ hs) (w ∷ ws) p q = ap suc (view_length ts hs ws (suc_inj p) (suc_inj q))

pub view_at : (ts hs : List ℕ) (ws : List Bool) (i : ℕ) (d : SlotState) → i < length ts → i < length hs → i < length ws
    → get_or (view_lists ts hs ws) i d ≡ record { target = get_or ts i 0; holder = get_or hs i 0; waiting = get_or ws i false }
view_at [] hs ws i d p q r = absurd (not-suc-le-zero p)
view_at (t ∷ ts) [] ws i d p q r = absurd (not-suc-le-zero q)
view_at (t ∷ ts) (h ∷ hs) [] i d p q r = absurd (not-suc-le-zero r)
view_at (t ∷ ts) (h ∷ hs) (w ∷ ws) zero d p q r = refl
view_at (t ∷ ts) (h ∷ hs) (w ∷ ws) (suc i) d p q r = view_at ts hs ws i d (le_of_suc-le-suc p) (le_of_suc-le-suc q) (le_of_suc-le-suc r)

pub view_retargeted : (es ts hs : List ℕ) (ws : List Bool) → length es ≡ length ts → view_lists es hs ws ≡ retargeted (view_lists ts hs ws) es
unfolding retargeted
view_retargeted [] [] hs ws e = refl
view_retargeted [] (t ∷ ts) hs ws e = absurd (omega arith)
view_retargeted (x ∷ es) [] hs ws e = absurd (omega arith)
view_retargeted (x ∷ es) (t ∷ ts) [] ws e = refl
view_retargeted (x ∷ es) (t ∷ ts) (h ∷ hs) [] e = refl
view_retargeted (x ∷ es) (t ∷ ts) (h ∷ hs) (w ∷ ws) e =
    ap (λ (l : List SlotState). record { target = x; holder = h; waiting = w } ∷ l) (view_retargeted es ts hs ws (omega arith))

module _ (ts hs : List ℕ) (ws : List Bool) (nt : length ts ≡ slot_count) (nh : length hs ≡ slot_count) (nw : length ws ≡ slot_count) where
  pub view_slots : length (view_lists ts hs ws) ≡ slot_count
  view_slots = view_length ts hs ws (nh ∙ sym nt) (nw ∙ sym nt) ∙ nt

  pub view_slot : (s : ℕ) → s < slot_count → (d : SlotState)
      → get_or (view_lists ts hs ws) s d ≡ record { target = get_or ts s 0; holder = get_or hs s 0; waiting = get_or ws s false }
  view_slot s h d = view_at ts hs ws s d (omega (arith, nt)) (omega (arith, nh)) (omega (arith, nw))

  -- the holder of any number: nobody's past the end
  pub view_holder : (s : ℕ) → (get_or (view_lists ts hs ws) s free_slot).holder ≡ get_or hs s no_place
  unfolding free_slot
  view_holder s = go (dec_lt s slot_count)
    where
      go : Dec (s < slot_count) → (get_or (view_lists ts hs ws) s free_slot).holder ≡ get_or hs s no_place
      go (yes h) = ap (λ (x : SlotState). x.holder) (view_slot s h free_slot) ∙ get_or_default hs s 0 no_place (omega (arith, nh))
      go (no h) =
          ap (λ (x : SlotState). x.holder) (get_or-eq_default (view_lists ts hs ws) free_slot (omega (arith, view_slots)))
          ∙ sym (get_or-eq_default hs no_place (omega (arith, nh)))

module _ (t : Tables) (whole : Whole t) where
  pub slots_length : length (slots_in t) ≡ slot_count
  slots_length = view_slots t.target t.holder t.waiting whole.0 whole.1 whole.2

  pub slot_in : (s : ℕ) → s < slot_count → (d : SlotState) → get_or (slots_in t) s d ≡ slot_at t s
  slot_in = view_slot t.target t.holder t.waiting whole.0 whole.1 whole.2

view_replicated : (n t h : ℕ) (w : Bool) → view_lists (replicate n t) (replicate n h) (replicate n w) ≡ replicate n (record { target = t; holder = h; waiting = w })
view_replicated zero t h w = refl
view_replicated (suc n) t h w =
    ap (λ (l : List SlotState). record { target = t; holder = h; waiting = w } ∷ l) (view_replicated n t h w)

-- the tables of a fresh group
pub view_fresh : view_lists (replicate slot_count no_place) (replicate slot_count no_place) (replicate slot_count false) ≡ (fresh 0).slots
unfolding fresh free_slot
view_fresh = view_replicated slot_count no_place no_place false
