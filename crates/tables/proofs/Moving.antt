-- Steps 2 and 3 as one change of each slot (`advanced_moved`), where A or P changed.
use Rattle.std.specs.Prelude.{if◌then◌else◌}
use Rattle.std.proofs.Common.{◌≡◌, ℕ, Bool, true, false, not, ◌&&◌, List, map, refl, sym, ap, ◌∙◌}
use Rattle.std.proofs.Math.Option.{Option}
use Rattle.rules.specs.Group.{SlotState}
use Rattle.rules.specs.Effects.{waits, strays, advanced, frees, freed, after_free, revoked, claimed}
use Rattle.tables.specs.Advances.{frees_in, revokes_in, moves_in, Advances}
use Rattle.tables.specs.Changes.{moved_by, followed_by}
use Rattle.tables.specs.declared.advancing.Advance.{Advance}
use Rattle.tables.specs.declared.advancing.Change.{Change}
use Rattle.tables.specs.declared.advancing.Change.TheVariants.{Waits, Stays, Revokes, Claims}
use Rattle.tables.proofs.Lists.{map_two}

module _ (p : ℕ) (vs : List SlotState) (owned : Option (List ℕ)) where
  advanced_moved : (f r : Bool) → waits p vs owned ≡ false → f ≡ frees p vs owned → r ≡ (not (waits p vs owned) && strays p vs owned)
      → advanced p vs owned ≡ map (moved_by f r p) vs
  unfolding advanced after_free moved_by
  advanced_moved f r w hf hr =
      let st : strays p vs owned ≡ r = sym (hr ∙ ap (λ (b : Bool). not b && strays p vs owned) w) in
      rw (w, st, ← hf) (go f r)
    where
      go : (f r : Bool) → (if r then map (revoked p) (if f then map (freed p) vs else vs) else map (claimed p) (if f then map
          (freed p) vs else vs)) ≡ map (moved_by f r p) vs
      go true true = map_two (revoked p) (freed p) vs
      go true false = map_two (claimed p) (freed p) vs
      go false true = refl
      go false false = refl

  module _ (r : Advance) (t : Advances p vs owned r) where
    -- the slots are written only if A or P changes
    pub written : followed_by r.change p vs ≡ advanced p vs owned
    written = go r.change refl
      where
        go : (c : Change) → r.change ≡ c → followed_by c p vs ≡ advanced p vs owned
        go Waits e = sym (t.unchanged (ap moves_in e))
        go Stays e = sym (t.unchanged (ap moves_in e))
        go (Revokes f) e = sym (advanced_moved f true (t.moves (ap moves_in e)) (sym (ap frees_in e) ∙ t.frees_is) (sym (ap revokes_in e) ∙ t.revokes_is))
        go (Claims f) e = sym (advanced_moved f false (t.moves (ap moves_in e)) (sym (ap frees_in e) ∙ t.frees_is) (sym (ap revokes_in e) ∙ t.revokes_is))
