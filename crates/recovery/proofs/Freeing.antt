-- The list of an ordinary heartbeat decides one thing, whether P is freed, and what is stored tells that. If P was freed it has changed, so that a record 8 is
-- stored; if it was not freed and not empty, A, P and E stay, so that none is. And where A and P stay, every slot does.
use Rattle.std.specs.Prelude.{if◌then◌else◌}
use Prim.Native.Nat.{ℕ, ◌<◌}
use native.Mathlib.Omega.{arith}
use mathlib.Core.Path.{◌≡◌, refl, sym, ap, ◌∙◌, subst}
use mathlib.Core.Logic.{◌≢◌}
use mathlib.Core.Bool.{Bool, true, false, not, ◌&&◌, true≢false, false≢true}
use mathlib.Core.List.{List, [], map, Memᴰ}
use mathlib.Core.Option.{Option, none, some}
use lib.ListN.{length, get_or, length-map}
use lib.Seq.{ext_get_or}
use lib.Dec.{eqb}
use borrow.Author.Tests.{eq-eqb, eqb-true}
use Rattle.rules.specs.Basics.{any, find, same}
use Rattle.rules.specs.Constants.{no_place}
use Rattle.rules.specs.Group.{SlotState, assigned, free_slot, revoking, set_a, set_p, targeted}
use Rattle.rules.specs.Effects.{advanced, after_free, claimed, current_of, freed, frees, moves, revoked, stray, strays, waits}
use Rattle.rules.proofs.Lists.{and_true, find_holds, find_lt, not_is_false, or_false, same_eq, same_refl}
use Rattle.theorems.proofs.Cases.{by_cases, never}
use Rattle.theorems.proofs.Picks.{is_listed, passes}
use Rattle.theorems.proofs.Slots.{claimed_waiting, is_assigned, not_revoking, of_assigned, of_revoking, of_stray, revoked_keeps, stray_revoked}
use Rattle.theorems.proofs.Moves.{advanced_cases, after_clean, after_same, at_claimed, at_revoked}

-- ---- two lists that both free P, or both do not, do the same

module _ (p : ℕ) (ss : List SlotState) (o r : Option (List ℕ)) (e : frees p ss o ≡ frees p ss r) where
  pub same_waits : waits p ss o ≡ waits p ss r
  unfolding waits
  same_waits = ap (λ (c : Bool). any (revoking p) ss && not c) e

  same_after : after_free p ss o ≡ after_free p ss r
  unfolding after_free
  same_after = ap (λ (c : Bool). if c then map (freed p) ss else ss) e

  pub same_strays : strays p ss o ≡ strays p ss r
  unfolding strays
  same_strays = ap (any (stray p)) same_after

  pub same_advanced : advanced p ss o ≡ advanced p ss r
  unfolding advanced
  same_advanced = λ i. if same_waits i then ss else (if same_strays i then map (revoked p) (same_after i) else map (claimed p) (same_after i))

-- ---- whether a list freed P

-- E, A and P as they were
pub record Kept (p : ℕ) (e n : ℕ) (ss tt' : List SlotState) : Type 0 where
  pub epoch : n ≡ e
  pub assigned : set_a p tt' ≡ set_a p ss
  pub revoking : set_p p tt' ≡ set_p p ss

pub kept : (p e n : ℕ) (ss tt' : List SlotState) → moves (current_of p e ss) (current_of p n tt') ≡ false → Kept p e n ss tt'
unfolding moves current_of
kept p e n ss tt' h =
    let x = or_false (not (eqb n e)) _ h in
    let y = or_false (not (same (set_a p tt') (set_a p ss))) _ x.1 in
    record {
      epoch = eqb-true n e (not_is_false (eqb n e) x.0);
      assigned = same_eq (set_a p tt') (set_a p ss) (not_is_false (same (set_a p tt') (set_a p ss)) y.0);
      revoking = same_eq (set_p p tt') (set_p p ss) (not_is_false (same (set_p p tt') (set_p p ss)) y.1);
    }

keeps : (p e n : ℕ) (ss : List SlotState) → n ≡ e → moves (current_of p e ss) (current_of p n ss) ≡ false
unfolding moves current_of
keeps p e n ss h = rw (eq-eqb n e h, same_refl (set_a p ss), same_refl (set_p p ss)) refl

module _ (p : ℕ) (away : p ≢ no_place) (ss : List SlotState) (owned : Option (List ℕ)) where
  frees_some : frees p ss owned ≡ true → any (revoking p) ss ≡ true
  unfolding frees
  frees_some = pick owned
    where
      pick : (o : Option (List ℕ)) → frees p ss o ≡ true → any (revoking p) ss ≡ true
      pick none e = absurd (false≢true e)
      pick (some l) e = (and_true (any (revoking p) ss) _ e).0

  frees_no_wait : frees p ss owned ≡ true → waits p ss owned ≡ false
  unfolding waits
  frees_no_wait e = rw (frees_some e, e) refl

  -- a slot of P is not in P once P was freed
  given_back : frees p ss owned ≡ true → (s : ℕ) → revoking p (get_or ss s free_slot) ≡ true → revoking p (get_or (advanced p ss owned) s free_slot) ≡ false
  given_back e s r =
      let w = frees_no_wait e in
      let af = after_free p ss owned in
      let other : (get_or af s free_slot).holder ≢ p = λ h.
      true≢false (sym (of_revoking p (get_or ss s free_slot) r).1 ∙ (rw (after_same p ss owned away s h) at (after_clean p ss owned w s h))) in
      advanced_cases p ss owned (λ l. revoking p (get_or l s free_slot) ≡ false) (λ k. absurd (true≢false (sym k ∙ w)))
      (λ _ _. rw (at_revoked p af s) (not_revoking p (revoked p (get_or af s free_slot)) (λ h. absurd (other (sym (revoked_keeps p (get_or af s free_slot)) ∙ h)))))
      (λ _ _. rw (at_claimed p af s) (not_revoking p (claimed p (get_or af s free_slot)) (claimed_waiting p (get_or af s free_slot) (λ h. absurd (other h)))))

  freeing_changes : frees p ss owned ≡ true → set_p p (advanced p ss owned) ≡ set_p p ss → ⊥
  unfolding set_p
  freeing_changes e h =
      let has = frees_some e in
      let s = find (revoking p) ss in
      let r : revoking p (get_or ss s free_slot) ≡ true = find_holds (revoking p) ss free_slot has in
      let m = is_listed (revoking p) ss free_slot s (find_lt (revoking p) ss has) r in
      true≢false (sym (passes (revoking p) (advanced p ss owned) free_slot s (subst (λ (l : List ℕ). Memᴰ s l) (sym h) m)) ∙ given_back e s r)

  -- ---- where A and P stay, every slot does

  revoked_changes : any (stray p) ss ≡ true → set_p p (map (revoked p) ss) ≡ set_p p ss → ⊥
  unfolding set_p
  revoked_changes has h =
      let s = find (stray p) ss in
      let x = get_or ss s free_slot in
      let r : stray p x ≡ true = find_holds (stray p) ss free_slot has in
      let inside : s < length (map (revoked p) ss) = omega (arith, find_lt (stray p) ss has, length-map ss (revoked p)) in
      let m = is_listed (revoking p) (map (revoked p) ss) free_slot s inside (ap (revoking p) (at_revoked p ss s) ∙ stray_revoked p x r) in
      let was = passes (revoking p) ss free_slot s (subst (λ (l : List ℕ). Memᴰ s l) h m) in
      true≢false (sym (of_revoking p x was).1 ∙ (of_assigned p x (of_stray p x r)).1)

  claimed_stays : set_a p (map (claimed p) ss) ≡ set_a p ss → map (claimed p) ss ≡ ss
  unfolding set_a claimed
  claimed_stays h =
      ext_get_or free_slot (map (claimed p) ss) ss (length-map ss (claimed p))
      (λ s l. at_claimed p ss s ∙ by_cases (test s) (λ c. absurd (taken s l c)) (λ c. rw c refl))
    where
      test : ℕ → Bool
      test s = targeted p (get_or ss s free_slot) && eqb (get_or ss s free_slot).holder no_place

      taken : (s : ℕ) → s < length (map (claimed p) ss) → test s ≡ true → ⊥
      taken s l c =
          let x = get_or ss s free_slot in
          let got : assigned p (claimed p x) ≡ true = rw c (is_assigned p (record { target = x.target; holder = p; waiting = false }) refl refl) in
          let m = is_listed (assigned p) (map (claimed p) ss) free_slot s l (ap (assigned p) (at_claimed p ss s) ∙ got) in
          let was = passes (assigned p) ss free_slot s (subst (λ (k : List ℕ). Memᴰ s k) h m) in
          away (sym (of_assigned p x was).0 ∙ eqb-true x.holder no_place (and_true (targeted p x) (eqb x.holder no_place) c).1)

  unfreed_stays : frees p ss owned ≡ false → set_a p (advanced p ss owned) ≡ set_a p ss → set_p p (advanced p ss owned) ≡ set_p p ss → advanced p ss owned ≡ ss
  unfolding strays after_free
  unfreed_stays f =
      let same' : after_free p ss owned ≡ ss = rw f refl in
      advanced_cases p ss owned (λ l. set_a p l ≡ set_a p ss → set_p p l ≡ set_p p ss → l ≡ ss) (λ _ _ _. refl)
      (λ _ c. rw same' (λ _ r. absurd (revoked_changes (rw same' at c) r))) (λ _ _. rw same' (λ a _. claimed_stays a))

  -- ---- a record 8 is stored, or none

  module _ (e n : ℕ) where
    abbrev moved : Bool
    moved = moves (current_of p e ss) (current_of p n (advanced p ss owned))

    unmoved_unfreed : moved ≡ false → frees p ss owned ≡ false
    unmoved_unfreed h = never (frees p ss owned) (λ f. freeing_changes f (kept p e n ss (advanced p ss owned) h).revoking)

    pub unmoved_stays : moved ≡ false → advanced p ss owned ≡ ss
    unmoved_stays h = let k = kept p e n ss (advanced p ss owned) h in unfreed_stays (unmoved_unfreed h) k.assigned k.revoking

    -- a place that waits moves nothing
    unfreed_empty : (waits p ss owned ≡ true → n ≡ e) → frees p ss owned ≡ false → moved ≡ true → any (revoking p) ss ≡ false
    unfolding waits advanced
    unfreed_empty same' f h = never (any (revoking p) ss) (λ a.
        let w : waits p ss owned ≡ true = rw (a, f) refl in
        true≢false (sym h ∙ ap (λ (l : List SlotState). moves (current_of p e ss) (current_of p n l)) (rw w refl) ∙ keeps p e n ss (same' w)))

    -- an empty list where a record 8 is stored, and no list where none is, frees P exactly where it was freed
    pub frees_again : (waits p ss owned ≡ true → n ≡ e) → frees p ss (if moved then some [] else none) ≡ frees p ss owned
    unfolding frees
    frees_again same' = by_cases moved
        (λ m. by_cases (frees p ss owned) (λ f. rw (m, f, frees_some f) refl) (λ f. rw (m, f, unfreed_empty same' f m) refl))
        (λ m. rw (m, unmoved_unfreed m) refl)
