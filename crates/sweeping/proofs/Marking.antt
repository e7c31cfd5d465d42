-- The marks of the places with slots to give back, and what the marks of the places that are due say of a sweep.
use Rattle.std.specs.Prelude.{if◌then◌else◌}
use Rattle.std.specs.List.{list_any, fold}
use Rattle.std.proofs.Common.{ℕ, ◌+◌, ◌≤◌, ◌<◌, arith, ◌≡◌, refl, sym, ap, ◌∙◌, Bool, true, false, not, ◌&&◌, ◌||◌, List, [], ◌∷◌, eqb, leb, length, get_or, set, take, ne_eqb}
use mathlib.Core.Bool.{and-true, and-false, or-false, or_assoc}
use mathlib.Core.Option.{Option, none, some}
use Rattle.std.proofs.lemmas.List.Folds.{list_any_more}
use Rattle.rules.specs.Basics.{any}
use Rattle.rules.specs.Constants.{max_members, slot_count, session_timeout}
use Rattle.rules.specs.Group as G
use Rattle.rules.specs.Group.{SlotState, free_slot, revoking, elapsed}
use Rattle.rules.specs.Effects.{due, overdue, overdue_places}
use Rattle.rules.proofs.Lists.{keep_ext, or_false}
use Rattle.tables.specs.View.{view_lists, slots_in}
use Rattle.tables.specs.declared.Tables.{Tables}
use Rattle.tables.proofs.Lists.{any_is}
use Rattle.tables.proofs.Viewing.{view_slots, view_slot}
use Rattle.group.specs.Columns.{cell, member_of, view_place, view_members}
use Rattle.group.specs.Words.{all_zero}
use Rattle.group.proofs.Columns.{member_at_lem}
use Rattle.events.proofs.Places.{eqb_swap, mark_set}
use Rattle.sweeping.specs.Marks.{marked, MarksRevoking, MarksDue, MarksOverdue}

-- ---- places that are to give slots back: the marks of the slots below i

abbrev pub Marked : List SlotState → List Bool → ℕ → Type 0
Marked vs marks i = MarksRevoking (take i vs) marks

module _ (t : Tables) (nt : length t.target ≡ slot_count) (nh : length t.holder ≡ slot_count) (nw : length t.waiting ≡ slot_count) {i : ℕ} (h : i < slot_count) where
  -- one slot more
  next : (p : ℕ) → any (revoking p) (take (i + 1) (slots_in t)) ≡ (any (revoking p) (take i (slots_in t)) || (eqb (get_or t.holder i 0) p && get_or t.waiting i false))
  unfolding revoking
  next p =
      let vs = slots_in t in
      let long : i < length vs = omega (arith, view_slots t.target t.holder t.waiting nt nh nw) in
      sym (any_is (revoking p) (take (i + 1) vs)) ∙ list_any_more (revoking p) vs i free_slot long
      ∙ (λ j. any_is (revoking p) (take i vs) j || revoking p (view_slot t.target t.holder t.waiting nt nh nw i h free_slot j))

  module _ (marks : List Bool) (m : Marked (slots_in t) marks i) where
    passed : ((p : ℕ) → p < max_members → (eqb (get_or t.holder i 0) p && get_or t.waiting i false) ≡ false) → Marked (slots_in t) marks (i + 1)
    passed e p q = m p q ∙ sym (next p ∙ ap (λ (x : Bool). any (revoking p) (take i (slots_in t)) || x) (e p q) ∙ or-false (any (revoking p) (take i (slots_in t))))

    -- the slot does not wait
    pub mark_none : get_or t.waiting i false ≡ false → Marked (slots_in t) marks (i + 1)
    mark_none w = passed (λ p q. ap (λ (x : Bool). eqb (get_or t.holder i 0) p && x) w ∙ and-false (eqb (get_or t.holder i 0) p))

    -- it does, and its holder is a place of the group, or is none
    module _ (w : get_or t.waiting i false ≡ true) where
      here : (p : ℕ) → (eqb (get_or t.holder i 0) p && get_or t.waiting i false) ≡ eqb (get_or t.holder i 0) p
      here p = ap (λ (x : Bool). eqb (get_or t.holder i 0) p && x) w ∙ and-true (eqb (get_or t.holder i 0) p)

      pub mark_one : length marks ≡ max_members → get_or t.holder i 0 < max_members → Marked (slots_in t) (set marks (get_or t.holder i 0) true) (i + 1)
      mark_one k q p r =
          mark_set marks (get_or t.holder i 0) p (omega (arith, k))
          ∙ (λ j. m p r j || (eqb_swap p (get_or t.holder i 0) ∙ sym (here p)) j)
          ∙ sym (next p)

      pub mark_past : max_members ≤ get_or t.holder i 0 → Marked (slots_in t) marks (i + 1)
      mark_past q = passed (λ p r. here p ∙ ne_eqb (get_or t.holder i 0) p (λ x. omega (arith, x)))

-- some slot waits, of those that the sum has and of a list
pub any_waiting : (b : Bool) (ws : List Bool) → fold ◌||◌ b ws ≡ (b || list_any (λ w. w) ws)
any_waiting b [] = sym (or-false b)
any_waiting b (w ∷ ws) = any_waiting (b || w) ws ∙ or_assoc b w (list_any (λ x. x) ws)

-- where no slot waits, no place has a slot to give back
pub none_revoking : (ts hs : List ℕ) (ws : List Bool) → list_any (λ w. w) ws ≡ false → (p : ℕ) → any (revoking p) (view_lists ts hs ws) ≡ false
unfolding revoking
none_revoking [] hs ws e p = refl
none_revoking (t ∷ ts) [] ws e p = refl
none_revoking (t ∷ ts) (h ∷ hs) [] e p = refl
none_revoking (t ∷ ts) (h ∷ hs) (w ∷ ws) e p =
    let o = or_false w (list_any (λ x. x) ws) e in
    (λ i. (ap (λ (x : Bool). eqb h p && x) o.0 ∙ and-false (eqb h p)) i || none_revoking ts hs ws o.1 p i)

-- ---- places that are due

-- where a place has no slot to give back, its member is due if it was not heard for the session timeout
pub silent_is : (ms : List ℕ) (tick k : ℕ) → k < max_members
    → (leb session_timeout (elapsed tick (cell ms 7 k)) && not (all_zero (cell ms 0 k) (cell ms 1 k) (cell ms 2 k) (cell ms 3 k))) ≡ due tick false (get_or (view_members ms) k none)
unfolding due view_place member_of
silent_is ms tick k h = rw (member_at_lem ms k h) (go (all_zero (cell ms 0 k) (cell ms 1 k) (cell ms 2 k) (cell ms 3 k)) _ refl)
  where
    go : (z : Bool) (m : G.Member) → m.heard ≡ cell ms 7 k → (leb session_timeout (elapsed tick (cell ms 7 k)) && not z) ≡ due tick false (if z then none else some m)
    go true m e = and-false (leb session_timeout (elapsed tick (cell ms 7 k)))
    go false m e = and-true (leb session_timeout (elapsed tick (cell ms 7 k))) ∙ ap (λ (x : ℕ). leb session_timeout (elapsed tick x)) (sym e) ∙ sym (or-false (leb session_timeout (elapsed tick m.heard)))

-- the marks of those that are due are those of the places that a sweep removes
pub due_overdue : {ms : List (Option G.Member)} {vs : List SlotState} (tick : ℕ) (revokes : ℕ → Bool) (marks : List Bool)
    → MarksDue ms revokes tick marks → ((p : ℕ) → p < max_members → revokes p ≡ any (revoking p) vs) → MarksOverdue ms vs tick marks
unfolding marked overdue_places overdue
due_overdue tick revokes marks m e g mine held =
    keep_ext _ _ 0 max_members (λ p _ q. m p q ∙ (λ i. due tick ((e p q ∙ ap (any (revoking p)) (sym held)) i) (get_or (sym mine i) p none)))
