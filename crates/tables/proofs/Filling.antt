-- The four sets of a place filled together, slot by slot; slots that are not near the place are stepped over.
use Rattle.std.proofs.Common.{◌≡◌, ℕ, ◌+◌, ◌/◌, ◌%◌, ◌≤◌, ◌<◌, Bool, false, not, ◌&&◌, ◌||◌, List, length, get_or, set, replicate, eqb, refl, sym, ap, ◌∙◌, arith, length-set}
use lib.ListN.{get_or-replicate}
use Rattle.rules.specs.Constants.{slot_count, no_place}
use Rattle.rules.specs.Group.{SlotState, free_slot, assigned, revoking, targeted}
use Rattle.slots.specs.Set.{bit, has, word_count}
use Rattle.slots.proofs.Words.{has_mark, has_none}
use Rattle.slots.proofs.Gathering.{Gather, gather_none, gather_more, gather_skip}
use Rattle.tables.specs.View.{slots_in, slot_at, Whole}
use Rattle.tables.specs.Places.{NoneNear, claimable}
use Rattle.tables.specs.Gathers.{Gathers}
use Rattle.tables.specs.declared.Tables.{Tables}
use Rattle.tables.proofs.Nearness.{far_a, far_q, far_m, far_c}
use Rattle.tables.proofs.Viewing.{slot_in}

-- the words of a set that has the slots below i which f picks, and none from i on
pub record Fills (f : ℕ → Bool) (ws : List ℕ) (i : ℕ) : Type 0 where
  pub whole : length ws ≡ word_count
  pub so : Gather f (has ws) i

-- no word is set yet
fill_none : (f : ℕ → Bool) → Fills f (replicate word_count 0) 0
fill_none f = record { whole = refl; so = gather_none _ _ (has_none (replicate word_count 0) (λ k h. get_or-replicate word_count k 0 0 h)) }

-- the slots up to i are stepped over
fill_to : (f : ℕ → Bool) (ws : List ℕ) (n i : ℕ) → Fills f ws n → n ≤ i → ((s : ℕ) → n ≤ s → s < i → f s ≡ false) → Fills f ws i
fill_to f ws n i e l z = record { whole = e.whole; so = gather_skip i e.so l z }

-- one slot is marked
fill_one : (f : ℕ → Bool) (ws : List ℕ) (i v : ℕ) (on : Bool) → Fills f ws i → i < slot_count → on ≡ f i
    → ((k : ℕ) → bit v k ≡ (bit (get_or ws (i / 64) 0) k || (eqb k (i % 64) && on))) → Fills f (set ws (i / 64) v) (i + 1)
fill_one f ws i v on e h p q = record { whole = simp length-set e.whole; so = gather_more _ e.so p (has_mark ws i v on (omega (arith, e.whole)) q) }

-- the four sets
module _ (p : ℕ) (t : Tables) where
  pub record Four (a q m c : List ℕ) (i : ℕ) : Type 0 where
    pub a_so : Fills (λ s. assigned p (slot_at t s)) a i
    pub q_so : Fills (λ s. revoking p (slot_at t s)) q i
    pub m_so : Fills (λ s. targeted p (slot_at t s)) m i
    pub c_so : Fills (λ s. claimable p (slot_at t s)) c i

  pub four_none : Four (replicate word_count 0) (replicate word_count 0) (replicate word_count 0) (replicate word_count 0) 0
  four_none = record { a_so = fill_none _; q_so = fill_none _; m_so = fill_none _; c_so = fill_none _ }

  -- slots that are not near are stepped over
  pub four_to : {a q m c : List ℕ} {n : ℕ} (i : ℕ) → Four a q m c n → n ≤ i → NoneNear p t n i → Four a q m c i
  four_to {a} {q} {m} {c} {n} i e l z = record {
    a_so = fill_to _ a n i e.a_so l (λ s x y. far_a p (slot_at t s) (z s x y));
    q_so = fill_to _ q n i e.q_so l (λ s x y. far_q p (slot_at t s) (z s x y));
    m_so = fill_to _ m n i e.m_so l (λ s x y. far_m p (slot_at t s) (z s x y));
    c_so = fill_to _ c n i e.c_so l (λ s x y. far_c p (slot_at t s) (z s x y));
  }

  abbrev pub Marks : List ℕ → ℕ → ℕ → Bool → Type 0
  Marks l i v on = (k : ℕ) → bit v k ≡ (bit (get_or l (i / 64) 0) k || (eqb k (i % 64) && on))

  pub four_more : {a q m c : List ℕ} {i : ℕ} (va vq vm vc : ℕ) → Four a q m c i → i < slot_count
      → Marks a i va (eqb (get_or t.holder i 0) p && not (get_or t.waiting i false))
      → Marks q i vq (eqb (get_or t.holder i 0) p && get_or t.waiting i false)
      → Marks m i vm (eqb (get_or t.target i 0) p)
      → Marks c i vc (eqb (get_or t.target i 0) p && eqb (get_or t.holder i 0) no_place)
      → Four (set a (i / 64) va) (set q (i / 64) vq) (set m (i / 64) vm) (set c (i / 64) vc) (i + 1)
  unfolding assigned revoking targeted claimable
  four_more {a} {q} {m} {c} {i} va vq vm vc e h ma mq mm mc = record {
    a_so = fill_one _ a i va _ e.a_so h refl ma;
    q_so = fill_one _ q i vq _ e.q_so h refl mq;
    m_so = fill_one _ m i vm _ e.m_so h refl mm;
    c_so = fill_one _ c i vc _ e.c_so h refl mc;
  }

-- at the end the sets are those that a pass gathers
module _ (p : ℕ) (t : Tables) (whole : Whole t) where
  filled : (a : List ℕ) (test : SlotState → Bool) → Fills (λ s. test (slot_at t s)) a slot_count → (s : ℕ) → s < slot_count
      → has a s ≡ test (get_or (slots_in t) s free_slot)
  filled a test e s h = e.so.done s h ∙ ap test (sym (slot_in t whole s h free_slot))

  pub four_all : {a q m c : List ℕ} → Four p t a q m c slot_count → Gathers p (slots_in t)
      (record { assigned = record { words = a }; revoking = record { words = q }; target = record { words = m }; claimable = record { words = c } })
  four_all {a} {q} {m} {c} e = record {
    assigned_are = filled a (assigned p) e.a_so;
    revoking_are = filled q (revoking p) e.q_so;
    target_are = filled m (targeted p) e.m_so;
    claimable_are = filled c (claimable p) e.c_so;
  }
