-- Nobody inherits: in a reached group a place with no member has nothing in A, P and M. Each kind of accepted event keeps this, by what specs/Accepted says of
-- it alone.
use Prim.Native.Nat.{ℕ, ◌<◌}
use mathlib.Core.Path.{◌≡◌, refl, sym, ap, ◌∙◌, subst}
use mathlib.Core.Logic.{◌≢◌}
use mathlib.Core.Bool.{Bool, false, true≢false}
use mathlib.Core.List.{List, []}
use mathlib.Core.Option.{none, some}
use lib.ListN.{get_or, replicate}
use lib.Dec.{eqb}
use borrow.Author.Tests.{eqb-true, ne_eqb}
use Rattle.rules.specs.Basics.{indices}
use Rattle.rules.specs.Constants.{max_members, no_place, slot_count}
use Rattle.rules.specs.Group.{Group, Member, SlotState, assigned, free_slot, fresh, revoking, set_a, set_m, set_p, targeted}
use Rattle.rules.specs.Event.{Event, Request, heartbeat, install, sweep, topic}
use Rattle.rules.specs.Refusals.{Kind, heartbeat_table, invalid, joins, kind_of, leaves, ordinary, table}
use Rattle.rules.specs.Effects.{overdue}
use Rattle.rules.specs.Step.{step}
use Rattle.rules.specs.Course.{stepped}
use Rattle.rules.specs.Batches.{retimed}
use Rattle.rules.specs.Accepted.{Accepted, AfterInstall, AfterLeave, AfterSweep, AfterTopic, Bare, Stays}
use Rattle.rules.specs.Theorems.{NobodyInherits, Reached}
use Rattle.theorems.proofs.Cases.{by_cases, eq_cases, never, none_not}
use Rattle.theorems.proofs.Picks.{blank_at, indices_none}
use Rattle.theorems.proofs.Retimed.{none_retimed}
use Rattle.theorems.proofs.Accepting.{AllFalse, no_row}
use Rattle.theorems.proofs.Reaching.{reached_keeps}
use Rattle.theorems.proofs.Slots.{free_revoking, not_assigned}
use Rattle.theorems.proofs.Vacating.{bare_stays}
use Rattle.theorems.proofs.Emptying.{accepted_join, accepted_leave, accepted_sweep, placed}
use Rattle.theorems.proofs.Revoking.{accepted_ordinary}
use Rattle.theorems.proofs.Untouched.{GoodTarget, accepted_install, accepted_topic, entry_occupied, good_target}
use Rattle.theorems.proofs.Ids.{sized}

abbrev VacantBare : Group → Type 0
VacantBare g = (p : ℕ) → p < max_members → get_or g.members p none ≡ none → Bare p g.slots

-- ---- a fresh group

fresh_bare : (p : ℕ) → p ≢ no_place → Bare p (replicate slot_count free_slot)
unfolding set_a set_p set_m targeted free_slot
fresh_bare p h = record {
  assigned = none' (assigned p) (not_assigned p free_slot other);
  revoking = none' (revoking p) (free_revoking p);
  targeted = none' (targeted p) (ne_eqb no_place p other);
}
  where
    other : no_place ≢ p
    other e = h (sym e)

    none' : (f : SlotState → Bool) → f free_slot ≡ false → indices f 0 (replicate slot_count free_slot) ≡ []
    none' f e = indices_none f free_slot (replicate slot_count free_slot) 0 (λ i _. ap f (blank_at free_slot slot_count i) ∙ e)

-- ---- an accepted event

module _ (g h : Group) (v : VacantBare g) where
  -- a place that stays as it was
  stayed : (p : ℕ) → p < max_members → Stays p g h → get_or h.members p none ≡ none → Bare p h.slots
  stayed p l s e = bare_stays g h p s (v p l (sym s.member ∙ e))

  -- a member is set at one place, and all others stay
  after_put : (q : ℕ) (m : Member) → get_or h.members q none ≡ some m → ((p : ℕ) → p < max_members → p ≢ q → Stays p g h) → VacantBare h
  after_put q m here others p l n = eq_cases p q (λ e. absurd (none_not (rw e at n) here)) (λ e. stayed p l (others p l e) n)

  after_leave : (b : Request) → AfterLeave b g h → VacantBare h
  after_leave b a p l n = eq_cases p a.place (λ e. rw e a.bare) (λ e. stayed p l (a.others p l e) n)

  after_sweep : (tick : ℕ) → AfterSweep tick g h → VacantBare h
  after_sweep tick a p l n = by_cases (overdue g tick p) (λ e. (a.gone p l e).1) (λ e. stayed p l (a.others p l e) n)

  after_topic : (t n : ℕ) (id : List ℕ) → AfterTopic t n id g h → VacantBare h
  after_topic t n id a p l e = rw a.slots (v p l (rw a.members at e))

  -- no entry names a place with no member
  after_install : (entries : List ℕ) → ((p : ℕ) → p < max_members → get_or g.members p none ≡ none → indices (λ e. eqb e p) 0 entries ≡ []) → AfterInstall entries g h → VacantBare h
  after_install entries unnamed a p l e =
      let n : get_or g.members p none ≡ none = rw a.members at e in
      let b = v p l n in
      record { assigned = a.assigned p ∙ b.assigned; revoking = a.revoking p ∙ b.revoking; targeted = a.targeted p ∙ unnamed p l n }

unnamed : {rule : Bool} (g : Group) (entries : List ℕ) → GoodTarget rule g entries
    → (p : ℕ) → p < max_members → get_or g.members p none ≡ none → indices (λ e. eqb e p) 0 entries ≡ []
unnamed g entries good p l n =
    indices_none (λ e. eqb e p) no_place entries 0
    (λ i _. never (eqb (get_or entries i no_place) p) (λ e. entry_occupied good i p (placed p l) (eqb-true (get_or entries i no_place) p e) n))

-- ---- every kind of event

keeps : (g : Group) → Reached g → VacantBare g → (e : Event) (buffer list : List ℕ) → Accepted g e buffer list → VacantBare (step g e buffer list).group
unfolding table heartbeat_table
keeps g r v (heartbeat b) buffer list ok = pick (kind_of b.epoch) refl
  where
    pick : (k : Kind) → kind_of b.epoch ≡ k → VacantBare (step g (heartbeat b) buffer list).group
    pick joins e = let a = accepted_join b e g buffer list (sized g r) ok in after_put g _ v a.place a.member a.here a.others
    pick leaves e = after_leave g _ v b (accepted_leave b e g buffer list (sized g r) ok)
    pick invalid e = absurd (true≢false (subst (λ (k : Kind). AllFalse (heartbeat_table g b k)) e (no_row g (heartbeat b) buffer list ok).1).0)
    pick (ordinary n) e = let a = accepted_ordinary b n e g buffer list (sized g r) ok in after_put g _ v a.place a.member a.here a.others
keeps g r v (sweep tick) buffer list ok = after_sweep g _ v tick (accepted_sweep tick g buffer list (sized g r) ok)
keeps g r v (topic t id n) buffer list ok = after_topic g _ v t n id (accepted_topic t n id g buffer list (sized g r) ok)
keeps g r v (install rule x entries) buffer list ok =
    let good = good_target rule g x entries (no_row g (install rule x entries) buffer list ok) in
    after_install g _ v entries (unnamed g entries good) (accepted_install rule x entries g buffer list (sized g r) ok)

pub nobody_inherits : NobodyInherits
unfolding fresh stepped retimed
nobody_inherits =
    reached_keeps VacantBare (λ tick p l n. fresh_bare p (placed p l)) (λ g r t typed v ok. keeps g r v t.event t.buffer t.list ok)
    (λ t g v p l n. v p l (none_retimed t g.members p n))
