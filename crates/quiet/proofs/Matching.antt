-- A set of slots that are settled, as many as are near the place, is all that the place holds and is to have (`quiet`).
use Rattle.std.proofs.Common.{◌≡◌, ℕ, suc, ◌<◌, Bool, true, false, not, ◌&&◌, List, [], ◌∷◌, length, get_or, eqb, ltb, leb, refl, sym, ap, subst, ◌∙◌, arith, zero-add, leb-true, ltb-true}
use Rattle.std.proofs.lemmas.Grind.{common_steps}
use Rattle.rules.specs.Basics.{all, any, indices, rising}
use Rattle.rules.specs.Constants.{slot_count}
use Rattle.rules.specs.Group.{SlotState, free_slot, assigned, revoking, targeted, set_a}
use Rattle.rules.specs.Effects.{stray, claimed}
use Rattle.rules.specs.Refusals.{is_slot_set}
use Rattle.rules.proofs.Lists.{and_true}
use Rattle.slots.specs.Set.{select}
use Rattle.tables.specs.View.{slots_in, slot_at, Whole}
use Rattle.tables.specs.Places.{near, holder_not}
use Rattle.tables.specs.declared.Tables.{Tables}
use Rattle.tables.proofs.Lists.{any_off, map_same}
use Rattle.tables.proofs.Listing.{select_indices}
use Rattle.tables.proofs.Viewing.{slots_length, slot_in}
use Rattle.quiet.specs.Settling.{near_count, settled, AllSettled, Quiet}
use Rattle.quiet.proofs.Rising.{Within, Every, weaken, every, exactly, of_all}

-- ---- tests of one slot: of h, p is its holder; of m, p is its target; w, it is to be given back

by_holder : (h w : Bool) → (h ≡ true → w ≡ false) → (h && w) ≡ false
by_holder h w q = grind (arith, common_steps)

by_target : (h w m : Bool) → (h ≡ true → m ≡ true) → ((h && not w) && not m) ≡ false
by_target h w m q = grind (arith, common_steps)

-- ---- settled lists

-- a set of slots that each pass
within : (f : ℕ → Bool) (n : ℕ) (l : List ℕ) → rising n l ≡ true → all (λ s. ltb s slot_count) l ≡ true → ((k : ℕ) → k < length l → f (get_or l k 0) ≡ true)
    → Within f n slot_count l
within f n [] r b h = tt
within f n (s ∷ ss) r b h =
    let u = and_true (leb n s) _ r in
    let v = and_true (ltb s slot_count) _ b in
    (leb-true n s u.0, ltb-true s slot_count v.0, h 0 (omega arith), within f (suc s) ss u.1 v.1 (λ k q. h (suc k) (omega (arith, q))))

set_within : (f : ℕ → Bool) (l : List ℕ) → is_slot_set l ≡ true → ((k : ℕ) → k < length l → f (get_or l k 0) ≡ true) → Within f 0 slot_count l
unfolding is_slot_set
set_within f l e h = let a = and_true (rising 0 l) _ e in within f 0 l a.0 a.1 h

module _ (t : Tables) (p : ℕ) where
  abbrev at : ℕ → SlotState
  at s = slot_at t s

  abbrev is_near : ℕ → Bool
  is_near s = near p (at s)

  abbrev is_settled : ℕ → Bool
  is_settled s = settled p (at s)

  abbrev H : ℕ → Bool
  H s = eqb (at s).holder p

  abbrev M : ℕ → Bool
  M s = eqb (at s).target p

  abbrev W : ℕ → Bool
  W s = (at s).waiting

  -- the tests of a slot, split
  settled_is : (s : ℕ) → is_settled s ≡ true → (H s ≡ true) × (M s ≡ true) × (W s ≡ false)
  unfolding settled
  settled_is s h = grind (arith, common_steps)

  near_held : (s : ℕ) → H s ≡ true → is_near s ≡ true
  unfolding near
  near_held s e = grind (arith, common_steps)

  near_meant : (s : ℕ) → M s ≡ true → is_near s ≡ true
  unfolding near
  near_meant s e = grind (arith, common_steps)

  far_is : (s : ℕ) → is_near s ≡ false → H s ≡ false
  unfolding near
  far_is s e = grind (arith, common_steps)

  module _ (whole : Whole t) (l : List ℕ) (is_set : is_slot_set l ≡ true) (all_settled : AllSettled t p l) (so-many : near_count t p slot_count ≡ length l) where
    abbrev vs : List SlotState
    vs = slots_in t

    is_within : Within is_settled 0 slot_count l
    is_within = set_within is_settled l is_set all_settled

    -- the slots near the place are the list, so that each is settled
    near_are : select is_near 0 slot_count ≡ l
    unfolding near_count
    near_are = exactly is_near slot_count 0 slot_count refl l (weaken _ _ (λ s h. near_held s (settled_is s h).0) 0 slot_count l is_within) so-many

    settled_there : (s : ℕ) → s < slot_count → is_near s ≡ true → (H s ≡ true) × (M s ≡ true) × (W s ≡ false)
    settled_there s b e =
        let every_one = subst (Every is_settled) (sym near_are) (every is_settled 0 slot_count l is_within) in
        settled_is s (of_all is_near is_settled slot_count 0 every_one s (omega arith) (omega arith) e)

    held : (s : ℕ) → s < slot_count → H s ≡ true → (M s ≡ true) × (W s ≡ false)
    held s b e = let r = settled_there s b (near_held s e) in (r.1, r.2)

    meant : (s : ℕ) → s < slot_count → M s ≡ true → (H s ≡ true) × (W s ≡ false)
    meant s b e = let r = settled_there s b (near_meant s e) in (r.0, r.2)

    assigned_near : (s : ℕ) → s < slot_count → (H s && not (W s)) ≡ is_near s
    assigned_near s b = grind (arith, common_steps, settled_there s b, far_is s)

    -- ---- so of the slots

    slot_is : (s : ℕ) → s < slot_count → get_or vs s free_slot ≡ at s
    slot_is s b = slot_in t whole s b free_slot

    vs_length : length vs ≡ slot_count
    vs_length = slots_length t whole

    none_of : (f : SlotState → Bool) → ((s : ℕ) → s < slot_count → f (at s) ≡ false) → any f vs ≡ false
    none_of f h = any_off free_slot f vs (λ i q. let b : i < slot_count = omega (arith, vs_length) in ap f (slot_is i b) ∙ h i b)

    picked : (f : SlotState → Bool) (g : ℕ → Bool) → ((s : ℕ) → s < slot_count → f (at s) ≡ g s) → indices f 0 vs ≡ select g 0 slot_count
    picked f g h = sym (ap (select g 0) (sym vs_length)
        ∙ select_indices f free_slot g vs 0 (λ i q. let b : i < slot_count = omega (arith, vs_length) in ap g (zero-add i) ∙ sym (ap f (slot_is i b) ∙ h i b)))

    all_listed_held : (k : ℕ) (l : List ℕ) → Within is_settled k slot_count l → any (holder_not vs p) l ≡ false
    all_listed_held k [] w = refl
    all_listed_held k (s ∷ ss) w =
        let e : eqb (get_or vs s free_slot).holder p ≡ true = ap (λ (x : SlotState). eqb x.holder p) (slot_is s w.1) ∙ (settled_is s w.2).0 in
        rw e (all_listed_held (suc s) ss w.3)

    -- a slot of M is held by the place already
    not_claimed : (s : ℕ) → s < slot_count → claimed p (at s) ≡ at s
    unfolding claimed targeted
    not_claimed s b = grind (arith, common_steps, meant s b)

    pub quiet : Quiet p vs l
    unfolding set_a assigned revoking targeted stray
    quiet = record {
      assigned_are = picked (assigned p) is_near assigned_near ∙ near_are;
      none_revoking = none_of (revoking p) (λ s b. by_holder (H s) (W s) (λ e. (held s b e).1));
      none_stray = none_of (stray p) (λ s b. by_target (H s) (W s) (M s) (λ e. (held s b e).0));
      none_claimed = map_same free_slot (claimed p) vs (λ i q. let b : i < slot_count = omega (arith, vs_length) in
          ap (claimed p) (slot_is i b) ∙ not_claimed i b ∙ sym (slot_is i b));
      all_held = all_listed_held 0 l is_within;
    }
