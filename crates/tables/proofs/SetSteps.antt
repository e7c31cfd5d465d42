-- Steps 2 and 3 by the tests that `PlaceSets::advance` makes on words (`AdvancesSets`): a place that waits, one whose strays are revoked, and one that claims.
use Rattle.std.proofs.Common.{◌≡◌, ℕ, Bool, true, false, not, ◌&&◌, ◌||◌, List, length, refl, sym, ap, ap₂, ◌∙◌, arith}
use Rattle.std.specs.Prelude as P
use Rattle.std.specs.Prelude.{MatchOption, if◌then◌else◌}
use Rattle.std.specs.Borrow.{Bor}
use Rattle.std.proofs.Math.Option.{Option, none, some}
use Rattle.std.proofs.lemmas.Grind.{common_steps}
use Rattle.rules.specs.Basics.{any}
use Rattle.slots.specs.Set.{has, TellsEmpty, word_count}
use Rattle.slots.specs.declared.SlotSet.{SlotSet}
use Rattle.tables.specs.Advances.{listed, FreesSet, some_slot, frees_set, waits_on, stray_in, free_in, assigned_after, revoking_after, waits_in, frees_in, revokes_in, moves_in, AdvancesSets}
use Rattle.tables.specs.declared.advancing.Change.{Change}
use Rattle.tables.specs.declared.advancing.Change.TheVariants.{Waits, Stays, Revokes, Claims}
use Rattle.tables.specs.declared.gathering.PlaceSets.{PlaceSets}
use Rattle.tables.proofs.Listing.{some_told}

not_freed : (x y : Bool) → (x && not y) ≡ true → false ≡ y
not_freed x y e = grind (arith, common_steps)

-- ---- what is claimed, or nothing

abbrev either : Bool → Bool → Change
either f k = if f || k then Claims f else Stays

waits_either : (f k : Bool) → waits_in (either f k) ≡ false
waits_either f k = grind (arith, common_steps)

frees_either : (f k : Bool) → frees_in (either f k) ≡ f
frees_either f k = grind (arith, common_steps)

revokes_either : (f k : Bool) → revokes_in (either f k) ≡ false
revokes_either f k = grind (arith, common_steps)

moves_either : (f k : Bool) → moves_in (either f k) ≡ (f || k)
moves_either f k = grind (arith, common_steps)

-- ---- step 2

module _ (a : PlaceSets) (lp : length a.revoking.words ≡ word_count) (nil : Bool) (tells : TellsEmpty a.revoking.words nil) where
  some_so : some_slot (has a.revoking.words) ≡ not nil
  some_so = some_told (has a.revoking.words) a.revoking.words lp (λ s. refl) nil tells

  -- P is empty
  pub sets_none : nil ≡ true → (owned : Option (List ℕ)) → FreesSet a owned (P.Some false)
  unfolding frees_set waits_on
  sets_none e owned = let n : some_slot (has a.revoking.words) ≡ false = some_so ∙ ap not e in (rw n, kept n owned)
    where
      kept : some_slot (has a.revoking.words) ≡ false → (o : Option (List ℕ)) → false ≡ frees_set a o
      kept n none = refl
      kept n (some l) = rw n

  module _ (e : nil ≡ false) (owned : P.Option (Bor (List ℕ))) (free : Bool)
      (given : MatchOption owned (free ≡ false) (λ list. free ≡ not (any (has a.revoking.words) list.now))) where
    free_so : frees_set a (listed owned) ≡ free
    unfolding frees_set
    free_so = go owned given
      where
        go : (o : P.Option (Bor (List ℕ))) → MatchOption o (free ≡ false) (λ list. free ≡ not (any (has a.revoking.words) list.now))
            → frees_set a (listed o) ≡ free
        go P.None h = sym h
        go (P.Some list) h = rw (some_so, e) (sym h)

    waits_so : waits_on a (listed owned) ≡ not free
    unfolding waits_on
    waits_so = ap₂ (λ (x y : Bool). x && not y) (some_so ∙ ap not e) free_so

    pub sets_free : free ≡ true → FreesSet a (listed owned) (P.Some true)
    sets_free f = (waits_so ∙ ap not f, sym f ∙ sym free_so)

    pub sets_kept : free ≡ false → FreesSet a (listed owned) P.None
    sets_kept f = waits_so ∙ ap not f

-- ---- step 3

module _ (a : PlaceSets) (owned : Option (List ℕ)) where
  pub sets_wait : FreesSet a owned P.None → AdvancesSets a owned
      (record { assigned = a.assigned; revoking = a.revoking; change = Waits })
  unfolding assigned_after revoking_after waits_on
  sets_wait w = record {
    assigned_are = λ s. rw w;
    revoking_are = λ s. rw w;
    waits_is = sym w;
    frees_is = not_freed (some_slot (has a.revoking.words)) (frees_set a owned) w;
    revokes_is = rw w;
    changed_is = rw w;
  }

  -- fr: whether P is freed; st: the strays
  module _ (fr : Bool) (f : FreesSet a owned (P.Some fr)) (st : SlotSet) (ls : length st.words ≡ word_count) (hs : (s : ℕ) → has st.words s ≡ stray_in a s)
      (es : Bool) (no_strays : TellsEmpty st.words es) where
    w : waits_on a owned ≡ false
    w = f.0

    some_stray : some_slot (stray_in a) ≡ not es
    some_stray = some_told (stray_in a) st.words ls hs es no_strays

    pub sets_revoke : es ≡ false → (r : SlotSet) → ((s : ℕ) → has r.words s ≡ (has a.assigned.words s && not (has st.words s)))
        → AdvancesSets a owned (record { assigned = r; revoking = st; change = Revokes fr })
    unfolding assigned_after revoking_after
    sets_revoke z r hr =
        let x = some_stray ∙ ap not z in
        record {
          assigned_are = λ s. grind (arith, common_steps, hr s, hs s, w, x);
          revoking_are = λ s. hs s ∙ sym (rw w);
          waits_is = sym w;
          frees_is = f.1;
          revokes_is = rw (w, x);
          changed_is = rw (w, x);
        }

    -- d: what of P is in the target; k: what is claimed
    pub sets_claim : es ≡ true → (d₁ d k r q : SlotSet) (ek : Bool) (ch : Change)
        → ((s : ℕ) → has d₁.words s ≡ (has a.revoking.words s && not (has a.target.words s)))
        → ((s : ℕ) → has d.words s ≡ (has a.revoking.words s && not (has d₁.words s)))
        → ((s : ℕ) → has k.words s ≡ (has a.claimable.words s || has d.words s))
        → ((s : ℕ) → has r.words s ≡ (has a.assigned.words s || has k.words s))
        → ((s : ℕ) → has q.words s ≡ false)
        → length k.words ≡ word_count → TellsEmpty k.words ek → ch ≡ (if fr || not ek then Claims fr else Stays)
        → AdvancesSets a owned (record { assigned = r; revoking = q; change = ch })
    unfolding assigned_after revoking_after
    sets_claim z d₁ d k r q ek ch hd₁ hd hk hr hq lk no-claims hch =
        let x = some_stray ∙ ap not z in
        let claims : (s : ℕ) → has k.words s ≡ free_in a s = λ s. grind (arith, common_steps, hk s, hd s, hd₁ s) in
        let c = some_told (free_in a) k.words lk claims ek no-claims in
        record {
          assigned_are = λ s. hr s ∙ ap (λ (y : Bool). has a.assigned.words s || y) (claims s) ∙ sym (rw (w, x));
          revoking_are = λ s. hq s ∙ sym (no_strays.0 z s) ∙ hs s ∙ sym (rw w);
          waits_is = ap waits_in hch ∙ (waits_either fr (not ek)) ∙ sym w;
          frees_is = ap frees_in hch ∙ (frees_either fr (not ek)) ∙ f.1;
          revokes_is = ap revokes_in hch ∙ (revokes_either fr (not ek)) ∙ rw (w, x);
          changed_is = ap moves_in hch ∙ (moves_either fr (not ek)) ∙ grind (arith, common_steps, f.1, c, w, x);
        }
