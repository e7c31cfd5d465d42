-- Steps 2 and 3 on the sets that were gathered for a place below 255 are those of the rules (`advances`): the tests on the sets are those of the rules
-- (`frees_so`, `waits_so`, `strays_so`), and each slot of the sets is what `Slotwise` says of it.
use Rattle.std.specs.Prelude.{if◌then◌else◌}
use Rattle.std.proofs.Common.{◌≡◌, ℕ, ◌<◌, Bool, true, false, not, ◌&&◌, ◌||◌, List, map, length, get_or, eqb, refl, sym, ap, ap₂, ◌∙◌, arith, true≢false, eq-eqb, ne_eqb}
use native.Mathlib.Decide.{dec_lt}
use mathlib.Core.Bool.{and-false, or-true}
use Rattle.std.proofs.Math.Option.{Option, none, some}
use lib.ListN.{length-map, get_or-eq_default}
use borrow.Author.Tests.{not-true}
use Rattle.std.proofs.lemmas.List.{get_or-map}
use Rattle.std.proofs.lemmas.Grind.{common_steps}
use Rattle.rules.specs.Basics.{any, same}
use Rattle.rules.specs.Constants.{slot_count, no_place}
use Rattle.rules.specs.Group.{SlotState, free_slot, assigned, revoking, targeted, set_a, set_p}
use Rattle.rules.specs.Effects.{waits, strays, advanced, frees, freed, after_free, stray, revoked, claimed}
use Rattle.rules.proofs.Lists.{or_false, and_true, same_refl}
use Rattle.slots.specs.Set.{has, slots_of, word_count}
use Rattle.slots.proofs.Words.{has_past}
use Rattle.slots.proofs.Selecting.{unlike}
use Rattle.tables.specs.Gathers.{Picks, Gathers}
use Rattle.tables.specs.Advances.{some_slot, frees_set, waits_on, stray_in, free_in, assigned_after, revoking_after, moves_in, AdvancesSets, Advances}
use Rattle.tables.specs.declared.gathering.PlaceSets.{PlaceSets}
use Rattle.tables.specs.declared.advancing.Advance.{Advance}
use Rattle.tables.proofs.Lists.{any_ext, any_map, map_same}
use Rattle.tables.proofs.Listing.{picks_list, slot_of, none_of, some_listed}
use Rattle.tables.proofs.Slotwise.{free_if, stray_free, revoke_a, revoke_q, claim_a, claim_q, claim_none, not_yet}

-- the steps keep the number of slots
pub advanced_length : (p : ℕ) (vs : List SlotState) (owned : Option (List ℕ)) → length (advanced p vs owned) ≡ length vs
unfolding advanced after_free
advanced_length p vs owned = grind (arith, common_steps, length-map {A = SlotState} {B = SlotState})

-- a test that fails at a flag that is not set
unset : (x y : Bool) → (x && not y) ≡ false → y ≡ false → x ≡ false
unset x y e f = grind (arith, common_steps)

module _ (p : ℕ) (vs : List SlotState) (len : length vs ≡ slot_count) (lt : p < no_place) (a : PlaceSets) (lp : length a.revoking.words ≡ word_count)
    (g : Gathers p vs a) (owned : Option (List ℕ)) where
  n : eqb no_place p ≡ false
  n = ne_eqb no_place p (λ e. omega arith)

  at_self : eqb p p ≡ true
  at_self = eq-eqb p p refl

  abbrev at : ℕ → SlotState
  at s = get_or vs s free_slot

  -- ---- the tests

  -- a number that is no slot is in no P
  revoking_at : (s : ℕ) → revoking p (at s) ≡ has a.revoking.words s
  unfolding revoking free_slot
  revoking_at s = go (dec_lt s slot_count)
    where
      go : Dec (s < slot_count) → revoking p (at s) ≡ has a.revoking.words s
      go (yes h) = sym (g.revoking_are s h)
      go (no h) =
          ap (revoking p) (get_or-eq_default vs free_slot (omega (arith, len))) ∙ and-false (eqb no_place p)
          ∙ sym (has_past a.revoking.words s (omega (arith, lp)))

  any_revoking : any (revoking p) vs ≡ some_slot (has a.revoking.words)
  any_revoking = some_listed (has a.revoking.words) (revoking p) free_slot vs len g.revoking_are

  frees_so : frees p vs owned ≡ frees_set a owned
  unfolding frees frees_set
  frees_so = go owned
    where
      go : (o : Option (List ℕ)) → frees p vs o ≡ frees_set a o
      go none = refl
      go (some l) = ap₂ (λ (x y : Bool). x && not y) any_revoking (any_ext (λ s. revoking p (at s)) (has a.revoking.words) revoking_at l)

  waits_so : waits p vs owned ≡ waits_on a owned
  unfolding waits waits_on
  waits_so = ap₂ (λ (x y : Bool). x && not y) any_revoking frees_so

  after_so : after_free p vs owned ≡ (if frees_set a owned then map (freed p) vs else vs)
  unfolding after_free
  after_so = ap (λ (x : Bool). if x then map (freed p) vs else vs) frees_so

  after_length_lem : length (after_free p vs owned) ≡ slot_count
  after_length_lem = grind (arith, common_steps, after_so, length-map {A = SlotState} {B = SlotState}, len)

  after_at : (s : ℕ) → s < slot_count → get_or (after_free p vs owned) s free_slot ≡ free_if (frees_set a owned) p (at s)
  after_at s h = let m = get_or-map (freed p) vs s free_slot free_slot (omega (arith, len)) in grind (arith, common_steps, after_so, m)

  strays_so : strays p vs owned ≡ some_slot (stray_in a)
  unfolding strays stray
  strays_so =
      ap (any (stray p)) after_so ∙ go (frees_set a owned)
      ∙ some_listed (stray_in a) (stray p) free_slot vs len (λ s h. ap₂ (λ (x y : Bool). x && not y) (g.assigned_are s h) (g.target_are s h))
    where
      go : (f : Bool) → any (stray p) (if f then map (freed p) vs else vs) ≡ any (stray p) vs
      go true = any_map (stray p) (freed p) (stray_free p n at_self) vs
      go false = refl

  -- what is freed is not empty
  freed_some : (o : Option (List ℕ)) → frees_set a o ≡ true → some_slot (has a.revoking.words) ≡ true
  unfolding frees_set
  freed_some none h = absurd (true≢false (sym h))
  freed_some (some l) h = (and_true (some_slot (has a.revoking.words)) _ h).0

  -- ---- the result

  module _ (r : Advance) (e : AdvancesSets a owned r) where
    abbrev PicksA : Type 0
    PicksA = Picks (assigned p) (advanced p vs owned) r.assigned

    abbrev PicksP : Type 0
    PicksP = Picks (revoking p) (advanced p vs owned) r.revoking

    list_a : PicksA → slots_of r.assigned.words ≡ set_a p (advanced p vs owned)
    unfolding set_a
    list_a = picks_list (assigned p) (advanced p vs owned) (advanced_length p vs owned ∙ len) r.assigned

    list_p : PicksP → slots_of r.revoking.words ≡ set_p p (advanced p vs owned)
    unfolding set_p
    list_p = picks_list (revoking p) (advanced p vs owned) (advanced_length p vs owned ∙ len) r.revoking

    -- A or P changed, or neither
    abbrev Changed : Bool → Type 0
    Changed b = b ≡ (not (same (set_a p (advanced p vs owned)) (set_a p vs)) || not (same (set_p p (advanced p vs owned)) (set_p p vs)))

    changed_a : PicksA → (s : ℕ) → s < slot_count → (has r.assigned.words s ≡ has a.assigned.words s → ⊥) → Changed true
    unfolding set_a
    changed_a pa s h d =
        let x : same (set_a p (advanced p vs owned)) (set_a p vs) ≡ false =
        ap₂ same (sym (list_a pa)) (sym (picks_list (assigned p) vs len a.assigned g.assigned_are)) ∙ unlike r.assigned.words a.assigned.words s h d in
        sym (ap (λ (b : Bool). not b || not (same (set_p p (advanced p vs owned)) (set_p p vs))) x)

    changed_p : PicksP → (s : ℕ) → s < slot_count → (has r.revoking.words s ≡ has a.revoking.words s → ⊥) → Changed true
    unfolding set_p
    changed_p pq s h d =
        let x : same (set_p p (advanced p vs owned)) (set_p p vs) ≡ false =
        ap₂ same (sym (list_p pq)) (sym (picks_list (revoking p) vs len a.revoking g.revoking_are)) ∙ unlike r.revoking.words a.revoking.words s h d in
        sym (ap (λ (b : Bool). not (same (set_a p (advanced p vs owned)) (set_a p vs)) || not b) x ∙ or-true (not (same (set_a p (advanced p vs owned)) (set_a p vs))))

    changed_none : advanced p vs owned ≡ vs → Changed false
    changed_none z = rw (z, same_refl (set_a p vs), same_refl (set_p p vs))

    made : PicksA → PicksP → Changed (moves_in r.change) → (moves_in r.change ≡ false → advanced p vs owned ≡ vs) → Advances p vs owned r
    made pa pq ch un = record {
      assigned_are = pa;
      revoking_are = pq;
      assigned_list = list_a pa;
      revoking_list = list_p pq;
      waits_is = e.waits_is ∙ sym waits_so;
      frees_is = e.frees_is ∙ sym frees_so;
      revokes_is = e.revokes_is ∙ sym (ap₂ (λ (x y : Bool). not x && y) waits_so strays_so);
      changed_is = ch;
      unchanged = un;
      moves = λ h. waits_so ∙ moved (waits_on a owned) _ (sym e.changed_is ∙ h);
    }
      where
        moved : (w y : Bool) → (not w && y) ≡ true → w ≡ false
        moved w y h = grind (arith, common_steps)

    by_wait : waits_on a owned ≡ true → Advances p vs owned r
    unfolding advanced assigned_after revoking_after
    by_wait w =
        let z : advanced p vs owned ≡ vs = rw (waits_so, w) in
        let c : moves_in r.change ≡ false = e.changed_is ∙ rw w in
        made (λ s h. e.assigned_are s ∙ rw (w, z) (g.assigned_are s h)) (λ s h. e.revoking_are s ∙ rw (w, z) (g.revoking_are s h))
        (c ∙ changed_none z) (λ _. z)

    module _ (w : waits_on a owned ≡ false) where
      -- where P is not freed there is none
      none_left : (s : ℕ) → s < slot_count → frees_set a owned ≡ false → revoking p (at s) ≡ false
      unfolding waits_on
      none_left s h f = sym (g.revoking_are s h) ∙ none_of (has a.revoking.words) (unset _ _ w f) s h

      -- each slot, after a change of each
      changed_at : (f : SlotState → SlotState) → advanced p vs owned ≡ map f (after_free p vs owned) → (s : ℕ) → s < slot_count
          → get_or (advanced p vs owned) s free_slot ≡ f (free_if (frees_set a owned) p (at s))
      changed_at f z s h = rw z (get_or-map f (after_free p vs owned) s free_slot free_slot (omega (arith, after_length_lem)) ∙ ap f (after_at s h))

      by_revoke : some_slot (stray_in a) ≡ true → Advances p vs owned r
      unfolding advanced assigned_after revoking_after
      by_revoke x =
          let z : advanced p vs owned ≡ map (revoked p) (after_free p vs owned) = rw (waits_so, w, strays_so, x) in
          let c : moves_in r.change ≡ true = e.changed_is ∙ rw (w, x) in
          let k = slot_of (stray_in a) x in
          let stray-k = and_true (has a.assigned.words k.0) _ k.2 in
          let pa : PicksA = λ s h. e.assigned_are s ∙ rw (w, x, g.assigned_are s h, g.target_are s h, changed_at (revoked p) z s h)
          (sym (revoke_a p n at_self (frees_set a owned) (at s) (none_left s h))) in
          let pq : PicksP = λ s h. e.revoking_are s ∙ rw (w, g.assigned_are s h, g.target_are s h, changed_at (revoked p) z s h)
          (sym (revoke_q p n at_self (frees_set a owned) (at s) (none_left s h))) in
          let gone : has r.assigned.words k.0 ≡ false = e.assigned_are k.0 ∙ rw (w, x, stray-k.0) (not-true _ stray-k.1) in
          made pa pq (c ∙ changed_a pa k.0 k.1 (λ q. true≢false (sym stray-k.0 ∙ sym q ∙ gone))) (λ h. absurd (true≢false (sym c ∙ h)))

      by_claim : some_slot (stray_in a) ≡ false → Advances p vs owned r
      unfolding advanced assigned_after revoking_after
      by_claim x =
          let z : advanced p vs owned ≡ map (claimed p) (after_free p vs owned) = rw (waits_so, w, strays_so, x) in
          let pa : PicksA = λ s h. e.assigned_are s ∙ rw (w, x, g.assigned_are s h, g.target_are s h, g.claimable_are s h, g.revoking_are s h, changed_at (claimed p) z s h)
          (sym (claim_a p n at_self (frees_set a owned) (at s) (none_left s h))) in
          let none_after : (s : ℕ) → s < slot_count → has r.revoking.words s ≡ false = λ s h. e.revoking_are s ∙ rw w (none_of (stray_in a) x s h) in
          let pq : PicksP = λ s h. none_after s h ∙ rw (changed_at (claimed p) z s h) (sym (claim_q p n at_self (frees_set a owned) (at s) (none_left s h))) in
          let c : moves_in r.change ≡ (frees_set a owned || some_slot (free_in a)) = e.changed_is ∙ rw (w, x) in
          made pa pq (c ∙ changes pa pq none_after z (frees_set a owned) (some_slot (free_in a)) refl refl)
          (λ h. let o = or_false (frees_set a owned) (some_slot (free_in a)) (sym c ∙ h) in nothing z o.0 o.1)
        where
          -- nothing is freed and nothing claimed
          nothing : advanced p vs owned ≡ map (claimed p) (after_free p vs owned) → frees_set a owned ≡ false → some_slot (free_in a) ≡ false
              → advanced p vs owned ≡ vs
          nothing z f k =
              let kept : after_free p vs owned ≡ vs = after_so ∙ ap (λ (b : Bool). if b then map (freed p) vs else vs) f in
              z ∙ ap (map (claimed p)) kept
              ∙ map_same free_slot (claimed p) vs (λ i h. let l : i < slot_count = omega (arith, len) in
              claim_none p n at_self (at i) (sym (g.claimable_are i l) ∙ (or_false (has a.claimable.words i) _ (none_of (free_in a) k i l)).0))

          changes : PicksA → PicksP → ((s : ℕ) → s < slot_count → has r.revoking.words s ≡ false)
              → advanced p vs owned ≡ map (claimed p) (after_free p vs owned) → (f k : Bool) → frees_set a owned ≡ f → some_slot (free_in a) ≡ k → Changed (f || k)
          changes pa pq no-p z true k hf hk =
              let s = slot_of (has a.revoking.words) (freed_some owned hf) in
              changed_p pq s.0 s.1 (λ q. true≢false (sym s.2 ∙ sym q ∙ no-p s.0 s.1))
          changes pa pq no-p z false true hf hk =
              let s = slot_of (free_in a) hk in
              let was : has a.assigned.words s.0 ≡ false = g.assigned_are s.0 s.1 ∙ not_yet p n at_self (at s.0) (targeted p (at s.0))
              (rw (← (g.claimable_are s.0 s.1), ← (g.revoking_are s.0 s.1), ← (g.target_are s.0 s.1)) s.2) in
              let is : has r.assigned.words s.0 ≡ true = e.assigned_are s.0 ∙ rw (w, x, was) s.2 in
              changed_a pa s.0 s.1 (λ q. true≢false (sym is ∙ q ∙ was))
          changes pa pq no-p z false false hf hk = changed_none (nothing z hf hk)

    -- what `PlaceSets::advance` came to is what the rules say
    pub advances : Advances p vs owned r
    advances = go (waits_on a owned) (some_slot (stray_in a)) refl refl
      where
        go : (w x : Bool) → waits_on a owned ≡ w → some_slot (stray_in a) ≡ x → Advances p vs owned r
        go true x hw hx = by_wait hw
        go false true hw hx = by_revoke hw hx
        go false false hw hx = by_claim hw hx
