-- No slot is in the sets of two IDs, after every list of events and readings: each keeps it true that the ledger names the members at their places, and that
-- the holder of each slot of an ID's set is the member with this ID (`Inv`).
use Prim.Native.Nat.{ℕ, ◌<◌}
use native.Mathlib.Omega.{arith}
use mathlib.Core.Path.{◌≡◌, refl, sym, ap, ◌∙◌, subst}
use mathlib.Core.Logic.{◌≢◌, ◌⊎◌, inl, inr}
use mathlib.Core.Bool.{Bool, true, false, not, ◌&&◌, true≢false, false≢true}
use mathlib.Core.List.Memᴰ
use mathlib.Core.List.{List, [], ◌∷◌, ◌++◌, map, foldl, append_assoc, Memᴰ}
use mathlib.Core.Option.{Option, none, some}
use lib.ListN.{length, get_or, set, take, replicate, length-map, length-set}
use lib.Seq.{get_or-set_same, get_or-set_other}
use lib.Dec.{eqb}
use borrow.Author.Tests.{eqb-true, eq-eqb, ne_eqb}
use Rattle.rules.specs.Basics.{any, concat_map, default, find, to_list, same}
use Rattle.rules.specs.Constants.{id_length, max_members, no_place}
use Rattle.rules.specs.Group.{Group, Member, SlotState, assigned, free_slot, fresh, is_member, known, lowest_free, place_of, revoking, set_a, targeted, vacant}
use Rattle.rules.specs.Records.{MemberMetadata, Record, TargetAssignment, all_bytes, group_epoch, member_is, target_is, parts_of}
use Rattle.rules.specs.Event.{Event, Request, heartbeat, install, sweep, topic}
use Rattle.rules.specs.Answers.{unless_refused}
use Rattle.rules.specs.Refusals.{Kind, heartbeat_table, invalid, joins, kind_of, leaves, not_held_by, ordinary, table, sender_of}
use Rattle.rules.specs.Effects.{Effect, advanced, changed, effect, frees, gone_records, heartbeat_effect, install_effect, install_records, join_at, join_effect, join_place, join_records, joiner, leave_at, leave_effect, member_after, metadata_of, only_if, ordinary_at, overdue_places, removal_records, remove, slots_after, sweep_effect, sweep_epoch, sweep_of, sweep_records, topic_effect, vacated, with_target, with_topic}
use Rattle.rules.specs.Step.{carry_out, overlay}
use Rattle.rules.specs.Ledger.{Ledger, Observation, after_accepted, after_heartbeat, dropped, empty_ledger, forget, forget_name, gone, named, naming, reckon, records_in, set_name, set_work, slots_told}
use Rattle.rules.specs.Course.{Call, Course, HeldByOne, History, SingleHolder, Typed, begun, no_history, observe, seen_of, stepped}
use Rattle.rules.specs.Batches.{retimed, retimed_member}
use Rattle.rules.specs.Readings.{Item, ItemTyped, Passage, SingleHolderOver, happens, next_passage, observe_told, observe_unsent, passage_after, reads, started}
use Rattle.rules.proofs.Lists.{and_true, any_at, any_mem, find_holds, find_lt, not_is_false, not_is_true, same_eq, same_ne, same_refl}
use Rattle.theorems.proofs.Cases.{by_cases, eq_cases, if_cases, if_not, no_some, none_not, some_inj}
use Rattle.theorems.proofs.Picks.{blank_at, find_first, none_set, passes, some_lt}
use Rattle.theorems.proofs.Accepting.{AllFalse, step_cases}
use Rattle.theorems.proofs.Retimed.{get_d_retimed}
use Rattle.theorems.proofs.Reaching.{items_keep}
use Rattle.theorems.proofs.Answered.{answered, course_answered, typed_answered}
use Rattle.theorems.proofs.ReadBack.{AllProper, join_proper, overlaid, proper_append, proper_epoch, proper_removals, records_stored}
use Rattle.theorems.proofs.Slots.{not_revoking, of_assigned, vacated_other}
use Rattle.theorems.proofs.Moves.{at_vacated, holder_advanced, holder_in, same_retargeted}
use Rattle.theorems.proofs.Unsent.{unsent_less}

-- ---- the invariant

abbrev pub id_of : Option Member → Option (List ℕ)
id_of none = none
id_of (some m) = some m.id

unfoldable pub id_in : List (Option Member) → ℕ → Option (List ℕ)
id_in ms p = id_of (get_or ms p none)

-- the ledger's sets W and names N, and the group's members and slots
pub record Inv (W : List ℕ → List ℕ) (N : ℕ → Option (List ℕ)) (ms : List (Option Member)) (ss : List SlotState) : Type 0 where
  pub sized : length ms ≡ max_members
  pub names : (p : ℕ) → N p ≡ id_in ms p
  pub distinct : (p q : ℕ) (i : List ℕ) → id_in ms p ≡ some i → id_in ms q ≡ some i → p ≡ q
  pub holds : (i : List ℕ) (s : ℕ) → Memᴰ s (W i) → id_in ms (holder_in ss s) ≡ some i

abbrev pub InvG : Ledger → Group → Type 0
InvG l g = Inv l.works_on l.name g.members g.slots

-- what the invariant is for
inv_single : (l : Ledger) (g : Group) → InvG l g → (i j : List ℕ) (s : ℕ) → Memᴰ s (l.works_on i) → Memᴰ s (l.works_on j) → i ≡ j
inv_single l g v i j s a b = some_inj (sym (v.holds i s a) ∙ v.holds j s b)

pub fresh_inv : (tick : ℕ) → InvG empty_ledger (fresh tick)
unfolding fresh empty_ledger id_in
fresh_inv tick = record {
  sized = refl;
  names = λ p. sym (absent p);
  distinct = λ p q i a b. absurd (none_not (absent p) a);
  holds = λ i s m. absurd (Memᴰ.not-nil m);
}
  where
    absent : (p : ℕ) → id_of (get_or (replicate max_members none) p none) ≡ none
    absent p = ap id_of (blank_at none max_members p)

-- ---- members

pub member_id : (ms : List (Option Member)) (p : ℕ) (m : Member) → get_or ms p none ≡ some m → id_in ms p ≡ some m.id
unfolding id_in
member_id ms p m e = ap id_of e

pub member_of : (ms : List (Option Member)) (p : ℕ) (i : List ℕ) → id_in ms p ≡ some i → (m : Member) × (get_or ms p none ≡ some m) × (m.id ≡ i)
unfolding id_in
member_of ms p i e = pick (get_or ms p none) refl e
  where
    pick : (o : Option Member) → get_or ms p none ≡ o → id_of o ≡ some i → (m : Member) × (get_or ms p none ≡ some m) × (m.id ≡ i)
    pick none q f = absurd (no_some i f)
    pick (some m) q f = (m, q, some_inj f)

pub id_lt : (ms : List (Option Member)) (p : ℕ) (i : List ℕ) → id_in ms p ≡ some i → p < length ms
id_lt ms p i e = let m = member_of ms p i e in some_lt ms p m.0 m.1

pub id_same : (ms : List (Option Member)) (p : ℕ) (x : Option Member) → p < length ms → id_in (set ms p x) p ≡ id_of x
unfolding id_in
id_same ms p x h = ap id_of (get_or-set_same ms p x none h)

pub id_other : (ms : List (Option Member)) (p q : ℕ) (x : Option Member) → q ≢ p → id_in (set ms p x) q ≡ id_in ms q
unfolding id_in
id_other ms p q x h = ap id_of (get_or-set_other ms p q x none h)

is_member_lem : (id : List ℕ) (o : Option Member) → is_member id o ≡ true → id_of o ≡ some id
unfolding is_member
is_member_lem id none e = absurd (false≢true e)
is_member_lem id (some m) e = ap some (same_eq m.id id e)

not_member : (id : List ℕ) (o : Option Member) → is_member id o ≡ false → id_of o ≢ some id
unfolding is_member
not_member id none e q = no_some id q
not_member id (some m) e q = same_ne m.id id e (cc)

pub known_id : (g : Group) (id : List ℕ) → known g id ≡ true → id_in g.members (place_of g id) ≡ some id
unfolding known place_of id_in
known_id g id e = is_member_lem id (get_or g.members (find (is_member id) g.members) none) (find_holds (is_member id) g.members none e)

pub unknown_id : (g : Group) (id : List ℕ) → known g id ≡ false → (p : ℕ) → id_in g.members p ≢ some id
unfolding known id_in is_member
unknown_id g id e p = not_member id (get_or g.members p none) (any_at (is_member id) none refl g.members e p)

-- a place with a member is not no_place
pub member_placed : (ms : List (Option Member)) (p : ℕ) (i : List ℕ) → length ms ≡ max_members → id_in ms p ≡ some i → p ≢ no_place
member_placed ms p i z e q = let h = id_lt ms p i e in omega arith

-- ---- a place is given up

set_name_same : (N : ℕ → Option (List ℕ)) (p q : ℕ) (n : Option (List ℕ)) → p ≡ q → set_name N p n q ≡ n
unfolding set_name
set_name_same N p q n e = rw (eq-eqb p q e) refl

set_name_other : (N : ℕ → Option (List ℕ)) (p q : ℕ) (n : Option (List ℕ)) → p ≢ q → set_name N p n q ≡ N q
unfolding set_name
set_name_other N p q n e = rw (ne_eqb p q e) refl

pub id_none : (ms : List (Option Member)) (p : ℕ) → id_in (set ms p none) p ≡ none
unfolding id_in
id_none ms p = ap id_of (none_set ms p)

-- what is in a set after one ID's set was emptied was in it before, and the ID is another
emptied : (W : List ℕ → List ℕ) (id i : List ℕ) (s : ℕ) → Memᴰ s (set_work W id [] i) → (id ≢ i) × Memᴰ s (W i)
unfolding set_work
emptied W id i s m =
    if_cases (λ w. Memᴰ s w → (id ≢ i) × Memᴰ s (W i)) (same id i) (λ _ h. absurd (Memᴰ.not-nil h)) (λ e h. (same_ne id i e, h)) m

forgotten : (W : List ℕ → List ℕ) (n : Option (List ℕ)) (i : List ℕ) (s : ℕ) → Memᴰ s (forget_name W n i) → (n ≢ some i) × Memᴰ s (W i)
unfolding forget_name
forgotten W none i s m = (λ e. no_some i e, m)
forgotten W (some id) i s m = let h = emptied W id i s m in (λ e. h.0 (cc), h.1)

-- a slot whose holder is not p keeps it when p is vacated
still : (p : ℕ) (ss : List SlotState) (s : ℕ) → holder_in ss s ≢ p → holder_in (map (vacated p) ss) s ≡ holder_in ss s
unfolding holder_in
still p ss s h = ap (λ (x : SlotState). x.holder) (at_vacated p ss s) ∙ (vacated_other p (get_or ss s free_slot) h).holder

module _ {W : List ℕ → List ℕ} {N : ℕ → Option (List ℕ)} {ms : List (Option Member)} {ss : List SlotState} (v : Inv W N ms ss) where
  -- p gets the entry x and is vacated: all names but p's stay, and all slots of others
  names_set : (p : ℕ) (x : Option Member) → id_in (set ms p x) p ≡ id_of x → (q : ℕ) → set_name N p (id_of x) q ≡ id_in (set ms p x) q
  names_set p x here q = eq_cases p q
      (λ e. set_name_same N p q (id_of x) e ∙ sym here ∙ ap (id_in (set ms p x)) e)
      (λ e. set_name_other N p q (id_of x) e ∙ v.names q ∙ sym (id_other ms p q x (λ f. e (sym f))))

  there : (p : ℕ) (x : Option Member) (q : ℕ) (i : List ℕ) → p ≢ q → id_in (set ms p x) q ≡ some i → id_in ms q ≡ some i
  there p x q i e a = sym (id_other ms p q x (λ f. e (sym f))) ∙ a

  holds_set : (p : ℕ) (x : Option Member) (i : List ℕ) (s : ℕ) → Memᴰ s (W i) → holder_in ss s ≢ p → id_in (set ms p x) (holder_in (map (vacated p) ss) s) ≡ some i
  holds_set p x i s m other = rw (still p ss s other) (id_other ms p (holder_in ss s) x other ∙ v.holds i s m)

  remove_inv : (p : ℕ) → Inv (forget_name W (N p)) (set_name N p none) (set ms p none) (map (vacated p) ss)
  remove_inv p = record {
    sized = length-set ms p none ∙ v.sized;
    names = names_set p none (id_none ms p);
    distinct = λ q r i a b. v.distinct q r i (kept q i a) (kept r i b);
    holds = λ i s m. let f = forgotten W (N p) i s m in holds_set p none i s f.1 (λ e. f.0 (v.names p ∙ ap (id_in ms) (sym e) ∙ v.holds i s f.1));
  }
    where
      kept : (q : ℕ) (i : List ℕ) → id_in (set ms p none) q ≡ some i → id_in ms q ≡ some i
      kept q i a = eq_cases p q (λ e. absurd (none_not (ap (id_in (set ms p none)) (sym e) ∙ id_none ms p) a)) (λ e. there p none q i e a)

  -- a member joins at p, with an ID that stands at no other place, where no other ID stands
  join_inv : (p : ℕ) (m : Member) → p < length ms
      → ((q : ℕ) → id_in ms q ≡ some m.id → q ≡ p)
      → ((i : List ℕ) → id_in ms p ≡ some i → i ≡ m.id)
      → Inv (set_work W m.id []) (set_name N p (some m.id)) (set ms p (some m)) (map (vacated p) ss)
  join_inv p m lt only mine = record {
    sized = length-set ms p (some m) ∙ v.sized;
    names = names_set p (some m) here;
    distinct = λ q r i a b. eq_cases p q
        (λ e. eq_cases p r (λ f. sym e ∙ f) (λ f. sym e ∙ sym (only r (there p (some m) r i f b ∙ sym (new q i e a)))))
        (λ e. eq_cases p r (λ f. only q (there p (some m) q i e a ∙ sym (new r i f b)) ∙ f) (λ f. v.distinct q r i (there p (some m) q i e a) (there p (some m) r i f b)));
    holds = λ i s h. let f = emptied W m.id i s h in holds_set p (some m) i s f.1 (λ e. f.0 (sym (mine i (ap (id_in ms) (sym e) ∙ v.holds i s f.1))));
  }
    where
      here : id_in (set ms p (some m)) p ≡ some m.id
      here = id_same ms p (some m) lt

      new : (q : ℕ) (i : List ℕ) → p ≡ q → id_in (set ms p (some m)) q ≡ some i → some m.id ≡ some i
      new q i e a = sym here ∙ ap (id_in (set ms p (some m))) e ∙ a

-- ---- an ordinary heartbeat

set_works : (W : List ℕ → List ℕ) (id X i : List ℕ) (s : ℕ) → Memᴰ s (set_work W id X i) → ((id ≡ i) × Memᴰ s X) ⊎ ((id ≢ i) × Memᴰ s (W i))
unfolding set_work
set_works W id X i s m =
    if_cases (λ w. Memᴰ s w → ((id ≡ i) × Memᴰ s X) ⊎ ((id ≢ i) × Memᴰ s (W i))) (same id i) (λ e h. inl (same_eq id i e, h)) (λ e h. inr (same_ne id i e, h)) m

module _ {W : List ℕ → List ℕ} {N : ℕ → Option (List ℕ)} {ms : List (Option Member)} {ss : List SlotState} (v : Inv W N ms ss)
    (p : ℕ) (m : Member) (here : id_in ms p ≡ some m.id) where
  pub ids_same : (q : ℕ) → id_in (set ms p (some m)) q ≡ id_in ms q
  ids_same q = eq_cases p q
      (λ e. ap (id_in (set ms p (some m))) (sym e) ∙ id_same ms p (some m) (id_lt ms p m.id here) ∙ sym here ∙ ap (id_in ms) e)
      (λ e. id_other ms p q (some m) (λ f. e (sym f)))

  p_member_placed : p ≢ no_place
  p_member_placed = member_placed ms p m.id v.sized here

  told_held : (owned : Option (List ℕ)) (s : ℕ) → Memᴰ s (set_a p (advanced p ss owned)) → holder_in (advanced p ss owned) s ≡ p
  unfolding set_a holder_in
  told_held owned s h = (of_assigned p (get_or (advanced p ss owned) s free_slot) (passes (assigned p) (advanced p ss owned) free_slot s h)).0

  kept_held : (owned : Option (List ℕ)) → any (λ s. not (eqb (get_or ss s free_slot).holder p)) (default [] owned) ≡ false
      → (s : ℕ) → Memᴰ s (default (W m.id) owned) → holder_in (advanced p ss owned) s ≡ p
  unfolding frees holder_in
  kept_held none ok s h =
      let k = v.holds m.id s h in
      holder_advanced p ss none s (member_placed ms (holder_in ss s) m.id v.sized k) (λ e. absurd (false≢true e))
      ∙ v.distinct (holder_in ss s) p m.id k here
  kept_held (some l) ok s h =
      let e : holder_in ss s ≡ p = eqb-true (get_or ss s free_slot).holder p (not_is_false (eqb (get_or ss s free_slot).holder p) (any_mem (λ s. not (eqb (get_or ss s free_slot).holder p)) l ok h)) in
      holder_advanced p ss (some l) s (λ q. p_member_placed (sym e ∙ q))
      (λ f. any_mem (λ s. revoking p (get_or ss s free_slot)) l (not_is_true (any (λ s. revoking p (get_or ss s free_slot)) l) (and_true (any (revoking p) ss) (not (any (λ s. revoking p (get_or ss s free_slot)) l)) f).1) h)
      ∙ e

  beat_inv : (owned : Option (List ℕ)) → any (λ s. not (eqb (get_or ss s free_slot).holder p)) (default [] owned) ≡ false
      → Inv (set_work W m.id (default (W m.id) owned ++ set_a p (advanced p ss owned))) N (set ms p (some m)) (advanced p ss owned)
  unfolding holder_in
  beat_inv owned ok = record {
    sized = length-set ms p (some m) ∙ v.sized;
    names = λ q. v.names q ∙ sym (ids_same q);
    distinct = λ q r i a b. v.distinct q r i (sym (ids_same q) ∙ a) (sym (ids_same r) ∙ b);
    holds = λ i s h. ids_same (holder_in (advanced p ss owned) s) ∙ pick i s (set_works W m.id (default (W m.id) owned ++ set_a p (advanced p ss owned)) i s h);
  }
    where
      apart : (s : ℕ) → holder_in ss s ≢ p → revoking p (get_or ss s free_slot) ≡ false
      apart s h = not_revoking p (get_or ss s free_slot) (λ e. absurd (h e))

      mine : (i : List ℕ) (s : ℕ) → m.id ≡ i → Memᴰ s (default (W m.id) owned) ⊎ Memᴰ s (set_a p (advanced p ss owned))
          → id_in ms (holder_in (advanced p ss owned) s) ≡ some i
      mine i s e (inl h) = ap (id_in ms) (kept_held owned ok s h) ∙ here ∙ ap some e
      mine i s e (inr h) = ap (id_in ms) (told_held owned s h) ∙ here ∙ ap some e

      pick : (i : List ℕ) (s : ℕ)
          → ((m.id ≡ i) × Memᴰ s (default (W m.id) owned ++ set_a p (advanced p ss owned))) ⊎ ((m.id ≢ i) × Memᴰ s (W i))
          → id_in ms (holder_in (advanced p ss owned) s) ≡ some i
      pick i s (inl h) = mine i s h.0 (Memᴰ.append_cases (default (W m.id) owned) h.1)
      pick i s (inr h) =
          let k = v.holds i s h.1 in
          let other : holder_in ss s ≢ p = λ e. h.0 (some_inj (sym here ∙ ap (id_in ms) (sym e) ∙ k)) in
          ap (id_in ms) (holder_advanced p ss owned s (member_placed ms (holder_in ss s) i v.sized k) (λ _. apart s other)) ∙ k

-- ---- one accepted event

names_place : (b : Bool) (t : TargetAssignment) (m : MemberMetadata) (rs : List Record) → named (only_if b (target_is t) ++ (member_is m ∷ rs)) ≡ some m.place
unfolding only_if named parts_of
names_place true t m rs = refl
names_place false t m rs = refl

-- fewer slots in the sets, and the same names
fewer_inv : {W W' : List ℕ → List ℕ} {N N' : ℕ → Option (List ℕ)} {ms : List (Option Member)} {ss : List SlotState} → Inv W N ms ss
    → ((i : List ℕ) (s : ℕ) → Memᴰ s (W' i) → Memᴰ s (W i)) → ((q : ℕ) → N' q ≡ N q) → Inv W' N' ms ss
fewer_inv v sets names = record { sized = v.sized; names = λ q. names q ∙ v.names q; distinct = v.distinct; holds = λ i s h. v.holds i s (sets i s h) }

drop_own : (id : List ℕ) (o : Option (List ℕ)) → o ≡ some id → dropped id o ≡ none
unfolding dropped
drop_own id none e = refl
drop_own id (some i) e = rw (some_inj e, same_refl id) refl

drop_other : (id : List ℕ) (o : Option (List ℕ)) → o ≢ some id → dropped id o ≡ o
unfolding dropped
drop_other id none h = refl
drop_other id (some i) h = if_not (same id i) none (some i) (λ e. h (ap some (sym (same_eq id i e))))

any_none : (x y : Bool) → not x && not y ≡ false → x ≡ false → y ≡ true
any_none true y e q = absurd (true≢false q)
any_none false true e q = refl
any_none false false e q = absurd (true≢false e)

-- the place of a joiner: its own, or the lowest free one
pub record JoinPlace (g : Group) (id : List ℕ) (p : ℕ) : Type 0 where
  pub inside : p < length g.members
  pub again : known g id ≡ true → id_in g.members p ≡ some id
  pub free : known g id ≡ false → vacant (get_or g.members p none) ≡ true
  pub lowest : known g id ≡ false → (q : ℕ) → q < p → vacant (get_or g.members q none) ≡ false

pub join_place_lem : (g : Group) (b : Request) → not (known g b.id) && not (any vacant g.members) ≡ false → JoinPlace g b.id (join_place g b)
unfolding join_place lowest_free
join_place_lem g b h = if_cases (JoinPlace g b.id) (known g b.id)
    (λ e. let own = known_id g b.id e in record {
      inside = id_lt g.members (place_of g b.id) b.id own;
      again = λ _. own;
      free = λ f. absurd (true≢false (sym e ∙ f));
      lowest = λ f. absurd (true≢false (sym e ∙ f));
    })
    (λ e. let room = any_none (known g b.id) (any vacant g.members) h e in record {
      inside = find_lt vacant g.members room;
      again = λ f. absurd (false≢true (sym e ∙ f));
      free = λ _. find_holds vacant g.members none room;
      lowest = λ _. find_first vacant g.members none;
    })

pub is_vacant : (o : Option Member) → vacant o ≡ true → o ≡ none
unfolding vacant
is_vacant none e = refl
is_vacant (some m) e = absurd (false≢true e)

-- no other ID stands there, and its own at no other place
pub record JoinsAt (ms : List (Option Member)) (id : List ℕ) (p : ℕ) : Type 0 where
  pub inside : p < length ms
  pub only : (q : ℕ) → id_in ms q ≡ some id → q ≡ p
  pub mine : (i : List ℕ) → id_in ms p ≡ some i → i ≡ id

pub joins_at : (l : Ledger) (g : Group) → InvG l g → (b : Request) → not (known g b.id) && not (any vacant g.members) ≡ false → JoinsAt g.members b.id (join_place g b)
unfolding id_in
joins_at l g v b h =
    let p = join_place g b in
    let at = join_place_lem g b h in
    by_cases (known g b.id)
    (λ e. record { inside = at.inside; only = λ q f. v.distinct q p b.id f (at.again e); mine = λ i f. some_inj (sym f ∙ at.again e) })
    (λ e. record { inside = at.inside; only = λ q f. absurd (unknown_id g b.id e q f); mine = λ i f. absurd (none_not (ap id_of (is_vacant (get_or g.members p none) (at.free e))) f) })

-- a join's record 5 names its place
join_named : (g : Group) (b : Request) → length b.id ≡ id_length → (buffer : List ℕ)
    → named (records_in (take (length (all_bytes (join_effect g b).records)) (overlay (all_bytes (join_effect g b).records) buffer))) ≡ some (join_place g b)
unfolding join_effect join_at join_records metadata_of joiner
join_named g b long buffer =
    rw (records_stored _ (join_proper _ (metadata_of (join_place g b) (joiner g b)) g.epoch long) buffer)
    (names_place _ _ (metadata_of (join_place g b) (joiner g b)) _)

-- what is seen of an event that is carried out
abbrev pub seen_if : Event → Effect → List ℕ → List ℕ → Observation
seen_if e f buffer list = record {
  event = e;
  answer = f.answer;
  list = overlay f.told list;
  stored = take (length (all_bytes f.records)) (overlay (all_bytes f.records) buffer);
}

module _ (l : Ledger) (g : Group) (v : InvG l g) (b : Request) (long : length b.id ≡ id_length) (buffer list : List ℕ) where
  abbrev After : Kind → Type 0
  After k =
      let o = seen_if (heartbeat b) (heartbeat_effect g b k) buffer list in
      InvG (unless_refused (after_heartbeat l b (slots_told o) o.stored k) l o.answer) (heartbeat_effect g b k).group

  after_heartbeat_lem : (k : Kind) → AllFalse (heartbeat_table g b k) → After k
  unfolding heartbeat_effect join_effect join_at joiner member_after slots_after leave_effect ordinary_at after_heartbeat heartbeat_table changed remove naming not_held_by forget_name leave_at
  after_heartbeat_lem joins rows =
      let at = joins_at l g v b rows.1.0 in
      rw (join_named g b long buffer) (join_inv v (join_place g b) (joiner g b) at.inside at.only at.mine)
  after_heartbeat_lem leaves rows =
      let p = place_of g b.id in
      let here : id_in g.members p ≡ some b.id = known_id g b.id (not_is_false (known g b.id) rows.1.0) in
      let there : l.name p ≡ some b.id = v.names p ∙ here in
      fewer_inv
      (subst (λ (o : Option (List ℕ)). Inv (forget_name l.works_on o) (set_name l.name p none) (set g.members p none) (map (vacated p) g.slots)) there
      (remove_inv v p))
      (λ i s h. h)
      (λ q. eq_cases p q
      (λ e. drop_own b.id (l.name q) (ap l.name (sym e) ∙ there) ∙ sym (set_name_same l.name p q none e))
      (λ e. drop_other b.id (l.name q) (λ f. e (v.distinct p q b.id here (sym (v.names q) ∙ f))) ∙ sym (set_name_other l.name p q none e)))
  after_heartbeat_lem invalid rows = absurd (true≢false rows.0)
  after_heartbeat_lem (ordinary e) rows =
      let p = place_of g b.id in
      let here : id_in g.members p ≡ some b.id = known_id g b.id (not_is_false (known g b.id) rows.1.0) in
      rw (overlaid (set_a p (advanced p g.slots b.owned)) list)
      (beat_inv v p (member_after g (sender_of g b) b) here b.owned rows.1.1.1.0)

-- ---- a sweep

gone_append : (a b : List Record) → gone (a ++ b) ≡ gone a ++ gone b
unfolding gone
gone_append [] b = refl
gone_append (r ∷ rs) b = ap (λ (l : List ℕ). to_list (parts_of r).member_gone ++ l) (gone_append rs b) ∙ sym (append_assoc (to_list (parts_of r).member_gone) (gone rs) (gone b))

gone_one : (p : ℕ) (c : Bool) → gone (gone_records p c) ≡ p ∷ []
unfolding gone_records gone only_if parts_of
gone_one p true = refl
gone_one p false = refl

pub gone_removals : (g : Group) (ps : List ℕ) (c : Bool) (e : ℕ) → gone (concat_map (removal_records g.slots) ps ++ only_if c (group_epoch e)) ≡ ps
unfolding gone only_if parts_of removal_records
gone_removals g [] true e = refl
gone_removals g [] false e = refl
gone_removals g (p ∷ ps) c e =
    rw (
      append_assoc (removal_records g.slots p) (concat_map (removal_records g.slots) ps) (only_if c (group_epoch e)),
      gone_append (removal_records g.slots p) (concat_map (removal_records g.slots) ps ++ only_if c (group_epoch e)),
      gone_one p (any (targeted p) g.slots),
      gone_removals g ps c e,
    ) refl

all_removed : (ps : List ℕ) (l : Ledger) (g : Group) → InvG l g → InvG (foldl forget l ps) (foldl remove g ps)
unfolding forget remove changed
all_removed [] l g v = v
all_removed (p ∷ ps) l g v = all_removed ps (forget l p) (remove g p) (remove_inv v p)

gone_stored : (g : Group) (tick : ℕ) (buffer : List ℕ)
    → gone (records_in (take (length (all_bytes (sweep_effect g tick).records)) (overlay (all_bytes (sweep_effect g tick).records) buffer))) ≡ overdue_places g tick
unfolding sweep_effect sweep_of sweep_records
gone_stored g tick buffer =
    let ps = overdue_places g tick in
    let proper : AllProper (sweep_effect g tick).records = proper_append (concat_map (removal_records g.slots) ps) _ (proper_removals g ps) (proper_epoch _ _) in
    rw (records_stored (sweep_effect g tick).records proper buffer) (gone_removals g ps _ _)

-- ---- an install leaves the holders

rehold : {W : List ℕ → List ℕ} {N : ℕ → Option (List ℕ)} {ms : List (Option Member)} {ss ss' : List SlotState} → Inv W N ms ss → ((s : ℕ) → holder_in ss' s ≡ holder_in ss s) → Inv W N ms ss'
rehold {ms = ms} v e = record { sized = v.sized; names = v.names; distinct = v.distinct; holds = λ i s m. ap (id_in ms) (e s) ∙ v.holds i s m }

-- ---- every event

pub accepted : (l : Ledger) (g : Group) (e : Event) (buffer list : List ℕ) → Typed e → InvG l g → AllFalse (table g e)
    → InvG (reckon l (seen_if e (effect g e) buffer list)) (effect g e).group
unfolding holder_in reckon after_accepted effect table sweep_effect sweep_of sweep_epoch sweep_records topic_effect with_topic install_effect install_records with_target changed
accepted l g (heartbeat b) buffer list typed v rows = after_heartbeat_lem l g v b typed.0 buffer list (kind_of b.epoch) rows.1
accepted l g (sweep tick) buffer list long v rows = rw (gone_stored g tick buffer) (all_removed (overdue_places g tick) l g v)
accepted l g (topic t id n) buffer list long v rows = v
accepted l g (install rule e entries) buffer list long v rows = rehold v (λ s. (same_retargeted g.slots entries s).holder)

pub turn_inv : (l : Ledger) (g : Group) (t : Call) → Typed t.event → InvG l g → InvG (reckon l (seen_of t.event (stepped g t))) (stepped g t).group
unfolding stepped carry_out reckon seen_of
turn_inv l g t ok v =
    step_cases g t.event t.buffer t.list (λ s. InvG (reckon l (seen_of t.event s)) s.group)
    (λ r. v) (λ _ rows. accepted l g t.event t.buffer t.list ok v rows)

-- ---- lost answers, and readings

pub told_inv : (told : Bool) (h : History) (o : Observation) (g : Group) → InvG (reckon h.ledger o) g → InvG (observe_told told h o).ledger g
unfolding observe_told observe observe_unsent
told_inv true h o g v = v
told_inv false h o g v = let e = unsent_less h.ledger o in fewer_inv v e.sets e.names

id_retimed : (t : ℕ) (o : Option Member) → id_of (retimed_member t o) ≡ id_of o
unfolding retimed_member
id_retimed t none = refl
id_retimed t (some m) = refl

pub ids_retimed : (t : ℕ) (ms : List (Option Member)) (p : ℕ) → id_in (map (retimed_member t) ms) p ≡ id_in ms p
unfolding id_in
ids_retimed t ms p = ap id_of (get_d_retimed t ms p) ∙ id_retimed t (get_or ms p none)

pub retimed_inv : (t : ℕ) (l : Ledger) (g : Group) → InvG l g → InvG l (retimed t g)
unfolding retimed
retimed_inv t l g v =
    let same_id = ids_retimed t g.members in
    record {
      sized = length-map g.members (retimed_member t) ∙ v.sized;
      names = λ p. v.names p ∙ sym (same_id p);
      distinct = λ p q i a b. v.distinct p q i (sym (same_id p) ∙ a) (sym (same_id q) ∙ b);
      holds = λ i s h. same_id (holder_in g.slots s) ∙ v.holds i s h;
    }

-- ---- every item, and every list of them

abbrev InvP : Passage → Type 0
InvP c = InvG c.course.history.ledger c.course.group

next_inv : (c : Passage) (i : Item) → ItemTyped i → InvP c → InvP (next_passage c i)
unfolding next_passage
next_inv c (happens t told) ok v =
    let k = c.course in
    told_inv told k.history _ (stepped k.group t).group (turn_inv k.history.ledger k.group t ok v)
next_inv c (reads t) ok v = retimed_inv t c.course.history.ledger c.course.group v

pub single_holder_over : (tick : ℕ) → SingleHolderOver (fresh tick)
unfolding SingleHolderOver passage_after started begun no_history
single_holder_over tick is ok =
    let c = started (fresh tick) in
    inv_single _ (passage_after c is).course.group (items_keep next_passage InvP next_inv is c ok (fresh_inv tick))

-- where the items are calls
pub single_holder : (tick : ℕ) → SingleHolder (fresh tick)
unfolding SingleHolder SingleHolderOver started
single_holder tick ts ok =
    subst (λ (c : Course). HeldByOne c.history.ledger) (course_answered ts (started (fresh tick)))
    (single_holder_over tick (answered ts) (typed_answered ts ok))
