-- `Base`: the history has each member's last answer and subscription, its epoch is at most G, and every holder is a member. Removing or setting a member,
-- a join, an install and a reading keep it.
use Rattle.std.specs.Prelude.{if◌then◌else◌}
use Prim.Native.Nat.{ℕ, suc, ◌≤◌, ◌<◌}
use native.Mathlib.Omega.{arith}
use mathlib.Core.Path.{◌≡◌, refl, sym, ap, ◌∙◌, subst}
use mathlib.Core.Logic.{◌≢◌, ◌⊎◌, ⊎_elim, inl, inr}
use mathlib.Core.List.{List, [], map}
use mathlib.Core.Option.{Option, none, some}
use lib.ListN.{length, get_or, set, length-map, length-set}
use lib.Seq.{get_or-set_same, get_or-set_other}
use Rattle.rules.specs.Basics.{same}
use Rattle.rules.specs.Constants.{max_members, no_place, slot_count}
use Rattle.rules.specs.Group.{Member, SlotState, assigned, free_slot, set_a}
use Rattle.rules.specs.Effects.{retargeted, vacated}
use Rattle.rules.specs.Course.{Told}
use Rattle.rules.specs.Batches.{retimed_member}
use Rattle.rules.proofs.Lists.{same_eq, same_refl}
use Rattle.theorems.proofs.Cases.{eq_cases, if_not, none_not, some_inj}
use Rattle.theorems.proofs.Picks.{indices_map_none, none_set}
use Rattle.theorems.proofs.Retimed.{member_retimed}
use Rattle.theorems.proofs.Slots.{not_assigned, vacated_holder}
use Rattle.theorems.proofs.Moves.{a_retargeted, Moves, at_vacated, holder_in, keeps_a, length_retargeted, moves_vacated, same_retargeted}
use Rattle.theorems.proofs.SingleHolder.{id_other, id_same, id_in, ids_retimed, member_id, member_placed}

-- ---- one ID's entry of a table by ID

at_own : {A : Type 0} (id i : List ℕ) (t x : A) → id ≡ i → (if same id i then t else x) ≡ t
at_own id i t x e = rw (ap (same id) (sym e) ∙ same_refl id) refl

at_other : {A : Type 0} (id i : List ℕ) (t x : A) → id ≢ i → (if same id i then t else x) ≡ x
at_other id i t x h = if_not (same id i) t x (λ e. h (same_eq id i e))

-- ---- members

abbrev pub Occupied : List (Option Member) → ℕ → Type 0
Occupied ms p = (i : List ℕ) × (id_in ms p ≡ some i)

-- after p is vacated it holds nothing
vacated_away : (p : ℕ) (ss : List SlotState) (s : ℕ) → holder_in (map (vacated p) ss) s ≢ no_place → holder_in (map (vacated p) ss) s ≢ p
unfolding holder_in
vacated_away p ss s n e = n (e ∙ vacated_holder p (get_or ss s free_slot) (sym (ap (λ (x : SlotState). x.holder) (at_vacated p ss s)) ∙ e))

pub none_assigned : (p : ℕ) (ss : List SlotState) → p ≢ no_place → set_a p (map (vacated p) ss) ≡ []
unfolding set_a
none_assigned p ss h = indices_map_none (assigned p) (vacated p) (λ x. not_assigned p (vacated p x) (λ e. h (vacated_holder p x e))) ss 0

pub record MemberOk (last : List ℕ → Told) (topics : List ℕ → ℕ) (G : ℕ) (ss : List SlotState) (p : ℕ) (m : Member) : Type 0 where
  pub told : last m.id ≡ record { epoch = m.epoch; slots = set_a p ss }
  pub subs : topics m.id ≡ m.subscription
  pub pos : 0 < m.epoch
  pub low : m.epoch ≤ G

pub record Base (last : List ℕ → Told) (topics : List ℕ → ℕ) (G T : ℕ) (ms : List (Option Member)) (ss : List SlotState) : Type 0 where
  pub sized : length ms ≡ max_members
  pub wide : length ss ≡ slot_count
  pub ok : (p : ℕ) (m : Member) → get_or ms p none ≡ some m → MemberOk last topics G ss p m
  pub held : (s : ℕ) → (holder_in ss s ≡ no_place) ⊎ Occupied ms (holder_in ss s)
  pub order : T ≤ G

pub base_raise : {last : List ℕ → Told} {topics : List ℕ → ℕ} {G H T : ℕ} {ms : List (Option Member)} {ss : List SlotState} → G ≤ H → Base last topics G T ms ss → Base last topics H T ms ss
base_raise h b = record {
  sized = b.sized;
  wide = b.wide;
  ok = λ p m e. let k = b.ok p m e in record { told = k.told; subs = k.subs; pos = k.pos; low = omega (arith, k.low) };
  held = b.held;
  order = omega (arith, b.order);
}

module _ {last : List ℕ → Told} {topics : List ℕ → ℕ} {G T : ℕ} {ms : List (Option Member)} {ss : List SlotState} (b : Base last topics G T ms ss) where
  -- a member elsewhere is as before where only p moves slots and p's record is set
  other_ok : (p : ℕ) (x : Option Member) (tt' : List SlotState) → Moves p ss tt' → (q : ℕ) (m : Member) → p ≢ q → get_or (set ms p x) q none ≡ some m
      → (get_or ms q none ≡ some m) × MemberOk last topics G tt' q m
  other_ok p x tt' mv q m h e =
      let f : get_or ms q none ≡ some m = sym (get_or-set_other ms p q x none (λ k. h (sym k))) ∙ e in
      let k = b.ok q m f in (
        f,
        record {
          told = k.told ∙ ap (λ (a : List ℕ). record { epoch = m.epoch; slots = a }) (sym (keeps_a q mv (λ j. h (sym j)) (member_placed ms q m.id b.sized (member_id ms q m f))));
          subs = k.subs;
          pos = k.pos;
          low = k.low;
        },
      )

  -- a slot that a third place holds afterwards was held by it, and it is a member
  third_held : (p : ℕ) (tt' : List SlotState) → Moves p ss tt' → (s : ℕ) → holder_in tt' s ≢ p → holder_in tt' s ≢ no_place → Occupied ms (holder_in tt' s)
  unfolding holder_in
  third_held p tt' mv s h k =
      let e : holder_in tt' s ≡ holder_in ss s = ((mv.at s).gain h k).holder in
      ⊎_elim (λ f. absurd (k (e ∙ f))) (λ (o : Occupied ms (holder_in ss s)). (o.0, ap (id_in ms) e ∙ o.1)) (b.held s)

  pub base_remove : (p : ℕ) → Base last topics G T (set ms p none) (map (vacated p) ss)
  base_remove p = record {
    sized = length-set ms p none ∙ b.sized;
    wide = length-map ss (vacated p) ∙ b.wide;
    ok = λ q m e. eq_cases p q
        (λ f. absurd (none_not (ap (λ (k : ℕ). get_or (set ms p none) k none) (sym f) ∙ none_set ms p) e))
        (λ f. (other_ok p none (map (vacated p) ss) (moves_vacated p ss) q m f e).1);
    held = λ s. eq_cases (holder_in (map (vacated p) ss) s) no_place inl (λ n.
        let away = vacated_away p ss s n in
        let o = third_held p (map (vacated p) ss) (moves_vacated p ss) s away n in
        inr (o.0, id_other ms p (holder_in (map (vacated p) ss) s) none away ∙ o.1));
    order = b.order;
  }

  -- a member's record is set and only its place moves slots: an ordinary heartbeat
  pub base_put : (p : ℕ) (m : Member) (u H : ℕ) (tt' : List SlotState) → Moves p ss tt' → p < length ms → m.subscription ≡ u → G ≤ H → 0 < m.epoch → m.epoch ≤ H
      → ((q : ℕ) → id_in ms q ≡ some m.id → q ≡ p)
      → Base (λ i. if same m.id i then record { epoch = m.epoch; slots = set_a p tt' } else last i) (λ i. if same m.id i then u else topics i) H T (set ms p (some m)) tt'
  base_put p m u H tt' mv lt u' up pos low only = record {
    sized = length-set ms p (some m) ∙ b.sized;
    wide = mv.long ∙ b.wide;
    ok = λ q n e. eq_cases p q
        (λ f. own q n f (some_inj (sym (get_or-set_same ms p (some m) none lt) ∙ ap (λ (k : ℕ). get_or (set ms p (some m)) k none) f ∙ e)))
        (λ f. foreign q n f (other_ok p (some m) tt' mv q n f e));
    held = λ s. eq_cases (holder_in tt' s) no_place inl
        (λ n. inr (eq_cases (holder_in tt' s) p
        (λ e. (m.id, ap (id_in (set ms p (some m))) e ∙ id_same ms p (some m) lt))
        (λ e. let o = third_held p tt' mv s e n in (o.0, id_other ms p (holder_in tt' s) (some m) e ∙ o.1))));
    order = omega (arith, b.order);
  }
    where
      own : (q : ℕ) (n : Member) → p ≡ q → m ≡ n
          → MemberOk (λ i. if same m.id i then record { epoch = m.epoch; slots = set_a p tt' } else last i) (λ i. if same m.id i then u else topics i) H tt' q n
      own q n f e = record {
        told = at_own m.id n.id _ (last n.id) (ap (λ (k : Member). k.id) e)
            ∙ (λ i. record { epoch = (e i).epoch; slots = set_a (f i) tt' });
        subs = at_own m.id n.id u (topics n.id) (ap (λ (k : Member). k.id) e) ∙ sym u' ∙ ap (λ (k : Member). k.subscription) e;
        pos = subst (λ (k : Member). 0 < k.epoch) e pos;
        low = subst (λ (k : Member). k.epoch ≤ H) e low;
      }

      foreign : (q : ℕ) (n : Member) → p ≢ q → (get_or ms q none ≡ some n) × MemberOk last topics G tt' q n
          → MemberOk (λ i. if same m.id i then record { epoch = m.epoch; slots = set_a p tt' } else last i) (λ i. if same m.id i then u else topics i) H tt' q n
      foreign q n f r =
          let apart : m.id ≢ n.id = λ e. f (sym (only q (member_id ms q n r.0 ∙ ap some (sym e)))) in
          record {
            told = at_other m.id n.id _ (last n.id) apart ∙ r.1.told;
            subs = at_other m.id n.id u (topics n.id) apart ∙ r.1.subs;
            pos = r.1.pos;
            low = omega (arith, r.1.low);
          }

  -- a join: its place is vacated
  pub base_join : (p : ℕ) (m : Member) (u : ℕ) → p < length ms → m.epoch ≡ suc G → m.subscription ≡ u
      → ((q : ℕ) → id_in ms q ≡ some m.id → q ≡ p)
      → Base (λ i. if same m.id i then record { epoch = suc G; slots = [] } else last i) (λ i. if same m.id i then u else topics i) (suc G) T (set ms p (some m)) (map (vacated p) ss)
  base_join p m u lt new u' only =
      let bare : set_a p (map (vacated p) ss) ≡ [] = none_assigned p ss (omega (arith, b.sized)) in
      subst (λ (t : Told). Base (λ i. if same m.id i then t else last i) (λ i. if same m.id i then u else topics i) (suc G) T (set ms p (some m)) (map (vacated p) ss))
      (λ j. record { epoch = new j; slots = bare j })
      (base_put p m u (suc G) (map (vacated p) ss) (moves_vacated p ss) lt u' (omega arith) (rw new (omega arith)) (rw new (omega arith)) only)

  pub base_install : (es : List ℕ) → Base last topics G G ms (retargeted ss es)
  unfolding holder_in
  base_install es = record {
    sized = b.sized;
    wide = length_retargeted ss es ∙ b.wide;
    ok = λ p m e. let k = b.ok p m e in record { told = k.told ∙ ap (λ (a : List ℕ). record { epoch = m.epoch; slots = a }) (sym (a_retargeted p ss es)); subs = k.subs; pos = k.pos; low = k.low };
    held = λ s. rw (same_retargeted ss es s).holder (b.held s);
    order = omega arith;
  }

  pub base_retimed : (t : ℕ) → Base last topics G T (map (retimed_member t) ms) ss
  base_retimed t = record {
    sized = length-map ms (retimed_member t) ∙ b.sized;
    wide = b.wide;
    ok = λ p m e.
        let r = member_retimed t ms p m e in
        let k = b.ok p r.0 r.1 in
        subst (MemberOk last topics G ss p) r.2 (record { told = k.told; subs = k.subs; pos = k.pos; low = k.low });
    held = λ s. ⊎_elim inl (λ (o : Occupied ms (holder_in ss s)). inr (o.0, ids_retimed t ms (holder_in ss s) ∙ o.1)) (b.held s);
    order = b.order;
  }

  -- other last answers that are the members' all the same
  pub base_last : (last' : List ℕ → Told) → ((p : ℕ) (m : Member) → get_or ms p none ≡ some m → last' m.id ≡ last m.id) → Base last' topics G T ms ss
  base_last last' same = record {
    sized = b.sized;
    wide = b.wide;
    ok = λ p m e. let k = b.ok p m e in record { told = same p m e ∙ k.told; subs = k.subs; pos = k.pos; low = k.low };
    held = b.held;
    order = b.order;
  }
