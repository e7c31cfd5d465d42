-- A place that is vacated has nothing left, and what other places have stays: members, A, P and M.
use Prim.Native.Nat.{ℕ}
use mathlib.Core.Path.{◌≡◌, refl, sym, ◌∙◌}
use mathlib.Core.Logic.{◌≢◌, ⊎_elim}
use mathlib.Core.List.Memᴰ
use mathlib.Core.List.{List, [], ◌∷◌, map, foldl, Memᴰ}
use mathlib.Core.Option.{none}
use lib.ListN.{get_or}
use lib.Seq.{get_or-set_other}
use lib.Dec.{eqb}
use borrow.Author.Tests.{eqb-true, ne_eqb}
use Rattle.rules.specs.Constants.{no_place}
use Rattle.rules.specs.Group.{Group, SlotState, revoking, set_m, set_p, targeted}
use Rattle.rules.specs.Effects.{changed, remove, vacated}
use Rattle.rules.specs.Accepted.{Bare, Stays}
use Rattle.theorems.proofs.Cases.{eq_cases, if_cases}
use Rattle.theorems.proofs.Picks.{indices_map, indices_map_none, none_set}
use Rattle.theorems.proofs.Slots.{not_revoking, vacated_holder, vacated_target}
use Rattle.theorems.proofs.Moves.{keeps_a, keeps_p, moves_vacated}
use Rattle.theorems.proofs.Members.{none_assigned}

-- ---- the place itself

pub bare_vacated : (p : ℕ) (ss : List SlotState) → p ≢ no_place → Bare p (map (vacated p) ss)
unfolding set_p set_m targeted
bare_vacated p ss h = record {
  assigned = none_assigned p ss h;
  revoking = indices_map_none (revoking p) (vacated p) (λ x. not_revoking p (vacated p x) (λ e. absurd (h (vacated_holder p x e)))) ss 0;
  targeted = indices_map_none (targeted p) (vacated p) (λ x. ne_eqb (vacated p x).target p (λ e. h (vacated_target p x e))) ss 0;
}

-- ---- another place

still_targeted : (p q : ℕ) (x : SlotState) → q ≢ p → q ≢ no_place → targeted q (vacated p x) ≡ targeted q x
unfolding targeted vacated
still_targeted p q x a b =
    if_cases (λ t. eqb t q ≡ eqb x.target q) (eqb x.target p)
    (λ e. rw (eqb-true x.target p e, ne_eqb no_place q (λ f. b (sym f)), ne_eqb p q (λ f. a (sym f))) refl) (λ _. refl)

pub stays_vacated : (g h : Group) (p q : ℕ) → h.slots ≡ map (vacated p) g.slots → get_or h.members q none ≡ get_or g.members q none → q ≢ p → q ≢ no_place → Stays q g h
unfolding set_m
stays_vacated g h p q slots members a b =
    let mv = moves_vacated p g.slots in
    record {
      member = members;
      assigned = rw slots (keeps_a q mv a b);
      revoking = rw slots (keeps_p q mv a b);
      targeted = rw slots (indices_map (targeted q) (vacated p) (λ x. still_targeted p q x a b) g.slots 0);
    }

-- what stays bare
pub bare_stays : (g h : Group) (p : ℕ) → Stays p g h → Bare p g.slots → Bare p h.slots
bare_stays g h p s b = record { assigned = s.assigned ∙ b.assigned; revoking = s.revoking ∙ b.revoking; targeted = s.targeted ∙ b.targeted }

-- ---- places removed, one after another

-- no member, and nothing in A, P and M
abbrev pub Emptied : ℕ → Group → Type 0
Emptied p g = (get_or g.members p none ≡ none) × Bare p g.slots

pub emptied_here : (g : Group) (p : ℕ) → p ≢ no_place → Emptied p (remove g p)
unfolding remove changed
emptied_here g p h = (none_set g.members p, bare_vacated p g.slots h)

stays_removed : (g : Group) (p q : ℕ) → q ≢ p → q ≢ no_place → Stays q g (remove g p)
unfolding remove changed
stays_removed g p q a b = stays_vacated g (remove g p) p q refl (get_or-set_other g.members p q none none a) a b

emptied_kept : (g : Group) (p q : ℕ) → q ≢ no_place → Emptied q g → Emptied q (remove g p)
emptied_kept g p q h k = eq_cases q p (λ e. rw e (emptied_here g p (λ f. h (e ∙ f))))
    (λ e. let s = stays_removed g p q e h in (s.member ∙ k.0, bare_stays g (remove g p) q s k.1))

stays_trans : (q : ℕ) (a b c : Group) → Stays q a b → Stays q b c → Stays q a c
stays_trans q a b c m n = record {
  member = n.member ∙ m.member;
  assigned = n.assigned ∙ m.assigned;
  revoking = n.revoking ∙ m.revoking;
  targeted = n.targeted ∙ m.targeted;
}

module _ (q : ℕ) (placed : q ≢ no_place) where
  emptied_kept_all : (ps : List ℕ) (g : Group) → Emptied q g → Emptied q (foldl remove g ps)
  emptied_kept_all [] g k = k
  emptied_kept_all (p ∷ ps) g k = emptied_kept_all ps (remove g p) (emptied_kept g p q placed k)

  pub emptied_all : (ps : List ℕ) (g : Group) → Memᴰ q ps → Emptied q (foldl remove g ps)
  emptied_all [] g m = absurd (Memᴰ.not-nil m)
  emptied_all (p ∷ ps) g m =
      ⊎_elim (λ e. emptied_kept_all ps (remove g p) (rw e (emptied_here g p (λ f. placed (e ∙ f))))) (emptied_all ps (remove g p)) (Memᴰ.cases_cons m)

  pub stays_all : (ps : List ℕ) (g : Group) → (Memᴰ q ps → ⊥) → Stays q g (foldl remove g ps)
  stays_all [] g h = record { member = refl; assigned = refl; revoking = refl; targeted = refl }
  stays_all (p ∷ ps) g h =
      stays_trans q g (remove g p) (foldl remove (remove g p) ps)
      (stays_removed g p q (λ e. h (Memᴰ.head e)) placed) (stays_all ps (remove g p) (λ m. h (Memᴰ.tail m)))
