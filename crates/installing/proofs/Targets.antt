-- The set of a place in a target: it is picked slot by slot (`set_is`), and who holds a slot is no matter (`viewed`). Two targets give a
-- place the same set where they have it at the same slots (`same_sets`), and only there (`other_sets`). Then the pass that marks the places whose sets differ.
use Rattle.std.specs.Prelude.{if◌then◌else◌}
use Rattle.std.proofs.Common.{ℕ, suc, ◌+◌, ◌<◌, zero-add, arith, ◌≡◌, refl, sym, ap, ◌∙◌, Bool, true, false, not, ◌||◌, true≢false, List, [], ◌∷◌, eqb, length, get_or, below_more, eq-eqb, eqb-true}
use native.Mathlib.Nat.{suc_inj}
use lib.ListN.{length-map, get_or-map}
use Rattle.rules.specs.Basics.{any, indices, same}
use Rattle.rules.specs.Constants.{max_members, slot_count, no_place}
use Rattle.rules.specs.Group.{SlotState, free_slot, targeted, set_m}
use Rattle.slots.specs.Set.{select}
use Rattle.slots.proofs.Each.{get_d_any}
use Rattle.rules.proofs.Lists.{keep_ext, keep_has, or_false, same_refl, same_eq}
use Rattle.tables.specs.View.{view_lists}
use Rattle.tables.proofs.Listing.{select_indices}
use Rattle.events.proofs.Places.{eqb_swap}
use Rattle.installing.specs.Targets.{unheld_slot, unheld, Marked}
use Rattle.installing.specs.Links.{is_of}

module _ (p : ℕ) where
  view_from : (ts hs : List ℕ) (ws : List Bool) (n : ℕ) → length hs ≡ length ts → length ws ≡ length ts
      → indices (targeted p) n (view_lists ts hs ws) ≡ indices (targeted p) n (unheld ts)
  unfolding unheld targeted
  view_from [] hs ws n k l = refl
  view_from (t ∷ ts) [] ws n k l = absurd (omega (arith, k))
  view_from (t ∷ ts) (h ∷ hs) [] n k l = absurd (omega (arith, l))
  view_from (t ∷ ts) (h ∷ hs) (w ∷ ws) n k l =
      ap (λ (rest : List ℕ). if eqb t p then n ∷ rest else rest) (view_from ts hs ws (suc n) (suc_inj k) (suc_inj l))

  pub viewed : (ts hs : List ℕ) (ws : List Bool) → length hs ≡ length ts → length ws ≡ length ts → set_m p (view_lists ts hs ws) ≡ set_m p (unheld ts)
  unfolding set_m
  viewed ts hs ws k l = view_from ts hs ws 0 k l

  pub set_is : (ts : List ℕ) → length ts ≡ slot_count → set_m p (unheld ts) ≡ select (is_of ts p) 0 slot_count
  unfolding set_m unheld free_slot targeted
  set_is ts l =
      let n : length (unheld ts) ≡ slot_count = length-map ts unheld_slot ∙ l in
      sym (ap (select (is_of ts p) 0) (sym n) ∙ select_indices (targeted p) free_slot (is_of ts p) (unheld ts) 0 (λ i h. ap (is_of ts p) (zero-add i) ∙ at i (omega (arith, n))))
    where
      at : (i : ℕ) → i < slot_count → is_of ts p i ≡ targeted p (get_or (unheld ts) i free_slot)
      at i h =
          ap (λ (x : ℕ). eqb x p) (get_d_any ts i 0 no_place (omega (arith, l))) ∙ ap (λ (x : SlotState). eqb x.target p) (sym (get_or-map unheld_slot ts i no_place))

  module _ (ts us : List ℕ) (k : length ts ≡ slot_count) (l : length us ≡ slot_count) where
    pub same_sets : ((s : ℕ) → s < slot_count → is_of ts p s ≡ is_of us p s) → same (set_m p (unheld ts)) (set_m p (unheld us)) ≡ true
    same_sets h =
        let e = set_is ts k ∙ keep_ext (is_of ts p) (is_of us p) 0 slot_count (λ s _ q. h s (omega arith)) ∙ sym (set_is us l) in
        ap (λ (x : List ℕ). same x (set_m p (unheld us))) e ∙ same_refl (set_m p (unheld us))

    pub other_sets : (s : ℕ) → s < slot_count → (is_of ts p s ≡ is_of us p s → ⊥) → same (set_m p (unheld ts)) (set_m p (unheld us)) ≡ false
    other_sets s h d = go (same (set_m p (unheld ts)) (set_m p (unheld us))) refl
      where
        in_set : (vs : List ℕ) → length vs ≡ slot_count → any (eqb s) (set_m p (unheld vs)) ≡ is_of vs p s
        in_set vs n = ap (any (eqb s)) (set_is vs n) ∙ keep_has (is_of vs p) slot_count 0 s (omega arith) (omega arith)

        go : (x : Bool) → same (set_m p (unheld ts)) (set_m p (unheld us)) ≡ x → x ≡ false
        go true e =
            let q : any (eqb s) (set_m p (unheld ts)) ≡ any (eqb s) (set_m p (unheld us)) = ap (any (eqb s)) (same_eq (set_m p (unheld ts)) (set_m p (unheld us)) e) in
            absurd (d (sym (in_set ts k) ∙ q ∙ in_set us l))
        go false e = refl

-- ---- marks

-- below slot i: a place that is not marked is in both targets or in neither, and one that is marked is in one of them alone at some slot
pub record Marking (marks : List Bool) (before after : List ℕ) (i : ℕ) : Type 0 where
  pub agree : (p : ℕ) → p < max_members → get_or marks p false ≡ false → (s : ℕ) → s < i → is_of before p s ≡ is_of after p s
  pub differ : (p : ℕ) → p < max_members → get_or marks p false ≡ true → (s : ℕ) × (s < i) × (is_of before p s ≡ is_of after p s → ⊥)

module _ (before after : List ℕ) where
  abbrev agree_at : ℕ → ℕ → Type 0
  agree_at p s = is_of before p s ≡ is_of after p s

  pub mark_begin : (marks : List Bool) → ((p : ℕ) → p < max_members → get_or marks p false ≡ false) → Marking marks before after 0
  mark_begin marks none = record { agree = λ p h e s q. absurd (omega arith); differ = λ p h e. absurd (true≢false (sym e ∙ none p h)) }

  -- the targets are the same at slot i
  pub mark_skip : {marks : List Bool} {i : ℕ} → Marking marks before after i → get_or before i 0 ≡ get_or after i 0 → Marking marks before after (i + 1)
  mark_skip {marks} {i} m e = record {
    agree = λ p h f. below_more (agree_at p) i (m.agree p h f) (ap (λ (t : ℕ). eqb t p) e);
    differ = λ p h f. let w = m.differ p h f in (w.0, omega (arith, w.1), w.2);
  }

  -- they are not, and the places of both are marked
  module _ {marks : List Bool} (next last : List Bool) {i : ℕ} (m : Marking marks before after i) (d : get_or before i 0 ≡ get_or after i 0 → ⊥)
      (x : (q : ℕ) → q < max_members → get_or next q false ≡ (get_or marks q false || eqb q (get_or before i 0)))
      (y : (q : ℕ) → q < max_members → get_or last q false ≡ (get_or next q false || eqb q (get_or after i 0))) where
    mark_differs : (p : ℕ) → p < max_members → get_or last p false ≡ true → (s : ℕ) × (s < i + 1) × (agree_at p s → ⊥)
    mark_differs p h f = outer (get_or next p false) refl (sym (y p h) ∙ f)
      where
        in_one : (a b : ℕ) → a ≡ p → (a ≡ b → ⊥) → eqb a p ≡ eqb b p → ⊥
        in_one a b e n q = n (e ∙ sym (eqb-true b p (sym q ∙ eq-eqb a p e)))

        inner : (u : Bool) → get_or marks p false ≡ u → (u || eqb p (get_or before i 0)) ≡ true → (s : ℕ) × (s < i + 1) × (agree_at p s → ⊥)
        inner true e q = let w = m.differ p h e in (w.0, omega (arith, w.1), w.2)
        inner false e q = (i, omega arith, in_one (get_or before i 0) (get_or after i 0) (sym (eqb-true p (get_or before i 0) q)) d)

        outer : (u : Bool) → get_or next p false ≡ u → (u || eqb p (get_or after i 0)) ≡ true → (s : ℕ) × (s < i + 1) × (agree_at p s → ⊥)
        outer true e q = inner (get_or marks p false) refl (sym (x p h) ∙ e)
        outer false e q = (i, omega arith, λ r. in_one (get_or after i 0) (get_or before i 0) (sym (eqb-true p (get_or after i 0) q)) (λ z. d (sym z)) (sym r))

    pub mark_both : Marking last before after (i + 1)
    mark_both = record {
      agree = λ p h f.
          let b = or_false (get_or next p false) _ (sym (y p h) ∙ f) in
          let a = or_false (get_or marks p false) _ (sym (x p h) ∙ b.0) in
          below_more (agree_at p) i (m.agree p h a.0) (eqb_swap (get_or before i 0) p ∙ a.1 ∙ sym (eqb_swap (get_or after i 0) p ∙ b.1));
      differ = mark_differs;
    }

  pub mark_end : {marks : List Bool} {i : ℕ} → length before ≡ slot_count → length after ≡ slot_count → i ≡ slot_count → Marking marks before after i → Marked marks before after
  mark_end {marks} {i} k l h m p q = go (get_or marks p false) refl
    where
      go : (x : Bool) → get_or marks p false ≡ x → x ≡ not (same (set_m p (unheld before)) (set_m p (unheld after)))
      go true e = let w = m.differ p q e in sym (ap not (other_sets p before after k l w.0 (omega (arith, w.1, h)) w.2))
      go false e = sym (ap not (same_sets p before after k l (λ s r. m.agree p q e s (omega (arith, h)))))
