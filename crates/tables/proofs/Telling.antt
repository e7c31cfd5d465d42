-- Tests of a place by one table are those of the slots that the tables stand for.
use Rattle.std.proofs.Common.{◌≡◌, ℕ, Bool, false, not, ◌||◌, List, [], ◌∷◌, map, length, get_or, eqb, refl, sym, ap, arith}
use Rattle.std.proofs.lemmas.Grind.{common_steps}
use Rattle.rules.specs.Basics.{any}
use Rattle.rules.specs.Constants.{slot_count, no_place}
use Rattle.rules.specs.Group.{SlotState, targeted}
use Rattle.rules.specs.Effects.{vacated}
use Rattle.tables.specs.View.{view_lists}
use Rattle.tables.specs.Places.{holder_not, held_by, is_place}
use Rattle.tables.proofs.Lists.{any_ext}
use Rattle.tables.proofs.Viewing.{view_holder}

module _ (p : ℕ) where
  -- p is not the holder of slot s, by the table of holders
  abbrev pub unheld : List ℕ → ℕ → Bool
  unheld hs s = not (eqb (get_or hs s no_place) p)

  module _ (ts hs : List ℕ) (ws : List Bool) (nt : length ts ≡ slot_count) (nh : length hs ≡ slot_count) (nw : length ws ≡ slot_count) where
    pub unheld_told : (list : List ℕ) → any (unheld hs) list ≡ any (holder_not (view_lists ts hs ws) p) list
    unheld_told list =
        any_ext (unheld hs) (holder_not (view_lists ts hs ws) p) (λ s. ap (λ (h : ℕ). not (eqb h p)) (sym (view_holder ts hs ws nt nh nw s))) list

  pub target_told : (ts hs : List ℕ) (ws : List Bool) → length hs ≡ length ts → length ws ≡ length ts → any (is_place p) ts ≡ any (targeted p) (view_lists ts hs ws)
  unfolding targeted
  target_told [] hs ws m n = refl
  target_told (t ∷ ts) [] ws m n = absurd (omega arith)
  target_told (t ∷ ts) (h ∷ hs) [] m n = absurd (omega arith)
  target_told (t ∷ ts) (h ∷ hs) (w ∷ ws) m n = ap (λ (b : Bool). eqb t p || b) (target_told ts hs ws (omega arith) (omega arith))

  pub holder_told : (ts hs : List ℕ) (ws : List Bool) → length hs ≡ length ts → length ws ≡ length ts → any (is_place p) hs ≡ any (held_by p) (view_lists ts hs ws)
  unfolding held_by
  holder_told [] [] ws m n = refl
  holder_told [] (h ∷ hs) ws m n = absurd (omega arith)
  holder_told (t ∷ ts) [] ws m n = absurd (omega arith)
  holder_told (t ∷ ts) (h ∷ hs) [] m n = absurd (omega arith)
  holder_told (t ∷ ts) (h ∷ hs) (w ∷ ws) m n = ap (λ (b : Bool). eqb h p || b) (holder_told ts hs ws (omega arith) (omega arith))

  -- a place that is no slot's target and holds none has nothing to be vacated
  pub vacated_none : (vs : List SlotState) → any (targeted p) vs ≡ false → any (held_by p) vs ≡ false → map (vacated p) vs ≡ vs
  unfolding targeted held_by vacated
  vacated_none [] t h = refl
  vacated_none (v ∷ vs) t h = grind (arith, common_steps, vacated_none vs)
