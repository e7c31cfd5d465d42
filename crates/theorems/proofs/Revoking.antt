-- What an accepted ordinary heartbeat leaves. Slots move to P exactly where the rules set the tick of it, and something is in P exactly where the place waits
-- or slots moved to it.
use Rattle.std.specs.Prelude.{if◌then◌else◌}
use Prim.Native.Nat.{ℕ, suc, max, ◌<◌}
use native.Mathlib.Omega.{arith}
use mathlib.Core.Path.{◌≡◌, refl, sym, ap, ◌∙◌, subst}
use mathlib.Core.Logic.{◌≢◌}
use mathlib.Core.Bool.{Bool, true, false, not, ◌&&◌, ◌||◌, true≢false, false≢true}
use mathlib.Core.List.Memᴰ
use mathlib.Core.List.{List, [], map, Memᴰ}
use mathlib.Core.Option.{Option, none, some}
use lib.ListN.{length, get_or, length-map}
use lib.Seq.{get_or-set_same, get_or-set_other}
use lib.Dec.{eqb}
use borrow.Author.Tests.{eq-eqb, ne_eqb}
use Rattle.rules.specs.Basics.{any, find}
use Rattle.rules.specs.Constants.{max_members, no_place}
use Rattle.rules.specs.Group.{Group, SlotState, assigned, free_slot, known, member_at, place_of, revoking, set_a, set_m, set_p, targeted}
use Rattle.rules.specs.Refusals.{heartbeat_table, new_subscription, new_timeout, ordinary, resubscribes, sender_of}
use Rattle.rules.specs.Effects.{advanced, after_free, changed, claimed, epoch_after, frees, group_epoch_after, heartbeat_effect, member_after, ordinary_at, revoked, revokes, slots_after, stray, strays, waits}
use Rattle.rules.specs.Accepted.{AcceptedOrdinary, AfterOrdinary, Sized}
use Rattle.rules.proofs.Lists.{and_true, find_holds, find_lt, not_is_false, not_is_true, or_false}
use Rattle.theorems.proofs.Cases.{by_cases, if_not, if_so}
use Rattle.theorems.proofs.Picks.{indices_ext, indices_none, is_listed, passes}
use Rattle.theorems.proofs.Accepting.{AllFalse, accepted_heartbeat}
use Rattle.theorems.proofs.Slots.{claimed_waiting, not_revoking, of_assigned, of_revoking, of_stray, stray_revoked}
use Rattle.theorems.proofs.Moves.{advanced_cases, after_clean, after_same, at_claimed, at_revoked, keeps_a, keeps_p, moves_advanced, moves_after, target_advanced, target_in}
use Rattle.theorems.proofs.SingleHolder.{id_lt, known_id}
use Rattle.theorems.proofs.Reachable.{member_known}
use Rattle.theorems.proofs.Emptying.{placed}

-- ---- the slots of the place

module _ (p : ℕ) (placed : p ≢ no_place) (ss : List SlotState) (owned : Option (List ℕ)) where
  abbrev af : List SlotState
  af = after_free p ss owned

  -- nothing is in P where the place neither waits nor revokes
  claimed_settled : waits p ss owned ≡ false → (s : ℕ) → revoking p (get_or (map (claimed p) af) s free_slot) ≡ false
  claimed_settled e s = rw (at_claimed p af s) (not_revoking p (claimed p (get_or af s free_slot)) (claimed_waiting p (get_or af s free_slot) (after_clean p ss owned e s)))

  -- a slot of A that is in P afterwards was moved there
  moved_revokes : (s : ℕ) → Memᴰ s (set_a p ss) → Memᴰ s (set_p p (advanced p ss owned)) → not (waits p ss owned) && strays p ss owned ≡ true
  unfolding set_a set_p
  moved_revokes s a r =
      advanced_cases p ss owned (λ l. revoking p (get_or l s free_slot) ≡ true → not (waits p ss owned) && strays p ss owned ≡ true)
      (λ _ m. absurd (false≢true (sym (of_assigned p _ (passes (assigned p) ss free_slot s a)).1 ∙ (of_revoking p _ m).1)))
      (λ w c _. rw (w, c) refl) (λ w _ m. absurd (false≢true (sym (claimed_settled w s) ∙ m))) (passes (revoking p) (advanced p ss owned) free_slot s r)

  -- where slots are moved, one is in A before and in P after
  revokes_moved : not (waits p ss owned) && strays p ss owned ≡ true → (s : ℕ) × Memᴰ s (set_a p ss) × Memᴰ s (set_p p (advanced p ss owned))
  unfolding advanced set_a set_p strays
  revokes_moved e =
      let t = and_true (not (waits p ss owned)) (strays p ss owned) e in
      let s = find (stray p) af in
      let l = find_lt (stray p) af t.1 in
      let x = find_holds (stray p) af free_slot t.1 in
      let was = of_stray p (get_or af s free_slot) x in
      let inside : s < length ss = omega (arith, l, (moves_after p ss owned).long) in (
        s,
        is_listed (assigned p) ss free_slot s inside (ap (assigned p) (sym (after_same p ss owned placed s (of_assigned p (get_or af s free_slot) was).0)) ∙ was),
        rw (not_is_true (waits p ss owned) t.0, t.1)
            (is_listed (revoking p) (map (revoked p) af) free_slot s (omega (arith, l, length-map af (revoked p)))
            (ap (revoking p) (at_revoked p af s) ∙ stray_revoked p (get_or af s free_slot) x)),
      )

  any_waiting : waits p ss owned ≡ true → any (revoking p) ss ≡ true
  unfolding waits
  any_waiting e = (and_true (any (revoking p) ss) (not (frees p ss owned)) e).0

  settled : waits p ss owned || (not (waits p ss owned) && strays p ss owned) ≡ false → set_p p (advanced p ss owned) ≡ []
  unfolding set_p
  settled e =
      let f = or_false (waits p ss owned) (not (waits p ss owned) && strays p ss owned) e in
      advanced_cases p ss owned (λ l. set_p p l ≡ []) (λ w. absurd (true≢false (sym w ∙ f.0)))
      (λ w c. absurd (true≢false (sym (rw (w, c) refl) ∙ f.1))) (λ w _. indices_none (revoking p) free_slot (map (claimed p) af) 0 (λ i _. claimed_settled w i))

  -- and else something is
  unsettled : waits p ss owned || (not (waits p ss owned) && strays p ss owned) ≡ true → set_p p (advanced p ss owned) ≡ [] → ⊥
  unfolding advanced set_p
  unsettled e none' = by_cases (waits p ss owned)
      (λ w. let t = any_waiting w in
      nothing (find (revoking p) ss) (rw w (is_listed (revoking p) ss free_slot (find (revoking p) ss) (find_lt (revoking p) ss t) (find_holds (revoking p) ss free_slot t))))
      (λ w. let r = revokes_moved (rw w (rw w at e)) in nothing r.0 r.2)
    where
      nothing : (s : ℕ) → Memᴰ s (set_p p (advanced p ss owned)) → ⊥
      nothing s m = Memᴰ.not-nil (subst (λ (l : List ℕ). Memᴰ s l) none' m)

-- ---- an accepted ordinary heartbeat

targets_stay : (p q : ℕ) (ss : List SlotState) (owned : Option (List ℕ)) → set_m q (advanced p ss owned) ≡ set_m q ss
unfolding set_m targeted target_in
targets_stay p q ss owned =
    indices_ext (targeted q) (targeted q) free_slot free_slot (advanced p ss owned) ss 0 (moves_advanced p ss owned).long
    (λ i _. ap (λ (t : ℕ). eqb t q) (target_advanced p ss owned i))

pub accepted_ordinary : AcceptedOrdinary
unfolding heartbeat_table heartbeat_effect ordinary_at changed member_after slots_after revokes epoch_after group_epoch_after resubscribes new_subscription new_timeout
accepted_ordinary b e kind = accepted_heartbeat b (ordinary e) (AfterOrdinary b) kind beat
  where
    beat : (g : Group) → Sized g → AllFalse (heartbeat_table g b (ordinary e)) → AfterOrdinary b g (heartbeat_effect g b (ordinary e)).group
    beat g sized rows =
        let p = place_of g b.id in
        let m = member_at g p in
        let n = member_after g (sender_of g b) b in
        let here = known_id g b.id (not_is_false (known g b.id) rows.1.0) in
        let lt = id_lt g.members p b.id here in
        let inside : p < max_members = omega (arith, lt, sized.members) in
        let there = placed p inside in
        let mv = moves_advanced p g.slots b.owned in
        record {
          place = p;
          inside = inside;
          sender = m;
          was = (member_known g p b.id here).0;
          sends = (member_known g p b.id here).1;
          member = n;
          here = get_or-set_same g.members p (some n) none lt;
          named = refl;
          heard = refl;
          moved = λ s r. ap (λ (c : Bool). if c then b.tick else m.revoked_at) (moved_revokes p there g.slots b.owned s r.0 r.1);
          unmoved = λ h. if_not (revokes g (sender_of g b) b) b.tick m.revoked_at (λ f. let r = revokes_moved p there g.slots b.owned f in h r.0 (r.1, r.2));
          target = targets_stay p p g.slots b.owned;
          others = λ q l d. record {
            member = get_or-set_other g.members p q (some n) none d;
            assigned = keeps_a q mv d (placed q l);
            revoking = keeps_p q mv d (placed q l);
            targeted = targets_stay p q g.slots b.owned;
          };
          ticked = record { last = refl; target_epoch = refl; topics = refl };
          waits = λ h. if_so (waits p g.slots b.owned || revokes g (sender_of g b) b) m.epoch (max m.epoch g.target_epoch) (λ f. h (settled p there g.slots b.owned f));
          advances = λ h. if_not (waits p g.slots b.owned || revokes g (sender_of g b) b) m.epoch (max m.epoch g.target_epoch) (λ f. unsettled p there g.slots b.owned f h);
          subscription = refl;
          timeout = refl;
          raises = λ h. ap (λ (c : Bool). if not c then suc g.epoch else g.epoch) (ne_eqb (new_subscription b m) m.subscription h);
          keeps = λ h. ap (λ (c : Bool). if not c then suc g.epoch else g.epoch) (eq-eqb (new_subscription b m) m.subscription h);
        }
