-- Request 4, the range assignor: the theorems of rules/specs/Assignor. A topic's entries are its owners and then none; its owners are its subscribers in order,
-- each as often as its share says (proofs/Sharing).
use Rattle.std.specs.Prelude.{if◌then◌else◌}
use Prim.Native.Nat.{ℕ, zero, suc, ◌+◌, ◌-◌, ◌*◌, ◌/◌, ◌%◌, ◌≤◌, ◌<◌, min}
use native.Mathlib.Omega.{arith}
use native.Mathlib.Decide.{dec_lt}
use native.Mathlib.Nat.{add-suc, add-zero, suc-add, zero-add}
use mathlib.Core.Path.{◌≡◌, refl, sym, ap, ap₂, ◌∙◌, subst}
use mathlib.Core.Logic.{◌≢◌, ◌⊎◌, inl, inr}
use mathlib.Core.Bool.{Bool, true, false, not, ◌&&◌, ◌||◌, true≢false, false≢true}
use mathlib.Core.List.{List, [], ◌∷◌, ◌++◌, Memᴰ}
use mathlib.Core.Option.{Option, none, some}
use lib.Dec.{ltb}
use lib.ListN.{length, get_or, replicate, length-append, get_or-append, get_or-eq_default}
use borrow.Author.Tests.{eq-eqb, ne_eqb, lt-ltb, le-ltb, ltb-false, ltb-true}
use Rattle.rules.specs.Basics.{any, case_of, concat_map, first_with, indices, up_to}
use Rattle.rules.specs.Constants.{max_partitions, no_place, slot_count, topic_count}
use Rattle.rules.specs.Group.{Group, Member, Topic, below_count, exists, subscribes}
use Rattle.rules.specs.Records.{all_bytes}
use Rattle.rules.specs.Event.{with_rule}
use Rattle.rules.specs.Refusals.{bad_entry, first_bad, is_epoch, left_over, misplaced, table}
use Rattle.rules.specs.Effects.{effect, install_effect}
use Rattle.rules.specs.Step.{carry_out, step, too_little_room, verdict}
use Rattle.rules.specs.Assignor.{Ahead, Alike, Fair, RangeAccepted, RangeByTopic, RangeFair, RangeGives, RangeInRuns, RangeOfAlike, RangeOnlyRoom, RangeTheorems, id_at, owners_of, padded, partitions_of, range_install, range_target, runs, share, share_of, sort_by, subscribers_of, topic_target}
use Rattle.rules.specs.Theorems.{RangeInstalled}
use Rattle.rules.specs.declared.Refusal.{Refusal}
use Rattle.rules.specs.declared.Refusal.TheVariants.{Room}
use Rattle.rules.specs.declared.Answer.{Answer}
use Rattle.rules.specs.declared.Answer.TheVariants.{Done, Refused}
use Rattle.rules.proofs.Lists.{and_true, any_at}
use Rattle.ranges.proofs.Sorting.{Before, Each, Sorted, before_trans, each_at, each_map, each_of, indices_pass, indices_rising, sort_each, sort_length, sort_mem, sort_same, sort_sorted, sorted_at}
use Rattle.ranges.proofs.Runs.{padded_long, runs_all, runs_most, share_falls, share_high, share_low}
use Rattle.theorems.proofs.Sharing.{HasShare, get_d_second, not_self, owner, owner_is, owner_rises, share_is, times, times_append, times_other}
use Rattle.theorems.proofs.Cases.{by_cases, if_cases}
use Rattle.theorems.proofs.Picks.{blank_at, first_none, indices_ext, is_listed}
use Rattle.theorems.proofs.Refusing.{effect_accepts, last_row}
use Rattle.theorems.proofs.Accepting.{AllFalse, rows_none}
use Rattle.theorems.proofs.Ids.{sized}
use Rattle.theorems.proofs.Sizes.{batch_fits}

-- ---- one topic

pub record Subscriber (g : Group) (t p : ℕ) : Type 0 where
  pub inside : p < length g.members
  pub subscribed : subscribes t (get_or g.members p none) ≡ true

module _ (g : Group) (t : ℕ) where
  count_fits : partitions_of g t ≤ max_partitions
  unfolding partitions_of
  count_fits = go (get_or g.topics t none)
    where
      go : (o : Option Topic) → case_of o 0 (λ k. min k.count max_partitions) ≤ max_partitions
      go none = omega arith
      go (some k) = omega arith

  abbrev owners : List ℕ
  owners = runs (partitions_of g t) (length (subscribers_of g t)) 0 (subscribers_of g t)

  topic_is_lem : topic_target g t ≡ owners ++ replicate (max_partitions - length owners) no_place
  unfolding topic_target owners_of padded
  topic_is_lem = refl

  topic_long : length (topic_target g t) ≡ max_partitions
  unfolding topic_target owners_of
  topic_long = padded_long owners (omega (arith, runs_most (partitions_of g t) (subscribers_of g t), count_fits))

  -- what is not given is none
  entry_is : (x : ℕ) → get_or (topic_target g t) x no_place ≡ get_or owners x no_place
  entry_is x = ap (λ (l : List ℕ). get_or l x no_place) topic_is_lem ∙ go (dec_lt x (length owners))
    where
      go : Dec (x < length owners) → get_or (owners ++ replicate (max_partitions - length owners) no_place) x no_place ≡ get_or owners x no_place
      go (yes h) = get_or-append owners _ no_place x h
      go (no h) =
          get_d_second owners (replicate (max_partitions - length owners) no_place) x no_place (omega arith)
          ∙ blank_at no_place (max_partitions - length owners) (x - length owners) ∙ sym (get_or-eq_default owners no_place (omega arith))

  not_given : (x : ℕ) → length owners ≤ x → get_or (topic_target g t) x no_place ≡ no_place
  not_given x h = entry_is x ∙ get_or-eq_default owners no_place h

  -- the index of the owner among the subscribers
  abbrev rank : ℕ → ℕ
  rank x = owner (partitions_of g t) (length (subscribers_of g t)) 0 (subscribers_of g t) x

  given_to : (x : ℕ) → x < length owners → (rank x < length (subscribers_of g t)) × (get_or (topic_target g t) x no_place ≡ get_or (subscribers_of g t) (rank x) no_place)
  given_to x h =
      let r = owner_is (partitions_of g t) (length (subscribers_of g t)) 0 (subscribers_of g t) x no_place h in
      (r.0, entry_is x ∙ r.1)

  -- ---- its subscribers

  subscribers : Each (Subscriber g t) (subscribers_of g t)
  unfolding subscribers_of
  subscribers =
      sort_each (id_at g) (Subscriber g t) (indices (subscribes t) 0 g.members)
      (each_map (λ q h. let e : h.0 ≡ q = sym (h.1 ∙ zero-add h.0) in
      record { inside = subst (λ (x : ℕ). x < length g.members) e h.2; subscribed = subst (λ (x : ℕ). subscribes t (get_or g.members x none) ≡ true) e h.3 })
      (indices (subscribes t) 0 g.members) (indices_pass (subscribes t) none 0 g.members))

  in_order : Sorted (id_at g) (subscribers_of g t)
  unfolding subscribers_of
  in_order = sort_sorted (id_at g) (indices (subscribes t) 0 g.members) (indices_rising (subscribes t) none 0 g.members)

  is_subscriber : (p : ℕ) → Subscriber g t p → Memᴰ p (subscribers_of g t)
  unfolding subscribers_of
  is_subscriber p s = sort_mem (id_at g) p (indices (subscribes t) 0 g.members) (is_listed (subscribes t) g.members none p s.inside s.subscribed)

  any_none : (l : List (Option Member)) (n : ℕ) → length (indices (subscribes t) n l) ≡ 0 → any (subscribes t) l ≡ false
  any_none [] n h = refl
  any_none (x ∷ xs) n h = go (subscribes t x) h (any_none xs (suc n))
    where
      go : (b : Bool) → length (if b then n ∷ indices (subscribes t) (suc n) xs else indices (subscribes t) (suc n) xs) ≡ 0
          → (length (indices (subscribes t) (suc n) xs) ≡ 0 → any (subscribes t) xs ≡ false) → b || any (subscribes t) xs ≡ false
      go true e ih = absurd (omega (arith, e))
      go false e ih = ih e

  no_subscriber : length (subscribers_of g t) ≡ 0 → any (subscribes t) g.members ≡ false
  unfolding subscribers_of
  no_subscriber h = any_none g.members 0 (sym (sort_length (id_at g) (indices (subscribes t) 0 g.members)) ∙ h)

  owned_by : (x : ℕ) → x < length owners → Subscriber g t (get_or (topic_target g t) x no_place)
  owned_by x h =
      let r = given_to x h in
      subst (Subscriber g t) (sym r.1) (each_at (Subscriber g t) (subscribers_of g t) no_place (rank x) subscribers r.0)

-- ---- shares

placed : (g : Group) (t p : ℕ) → length g.members ≤ no_place → Subscriber g t p → p ≢ no_place
placed g t p few s e = omega (arith, s.inside)

subscriber_at : (g : Group) (t p : ℕ) → subscribes t (get_or g.members p none) ≡ true → Subscriber g t p
unfolding subscribes
subscriber_at g t p h = record {
  inside = by_cases (ltb p (length g.members)) (ltb-true p (length g.members))
      (λ e. absurd (false≢true (sym (ap (subscribes t) (get_or-eq_default g.members none (ltb-false p (length g.members) e))) ∙ h)));
  subscribed = h;
}

module _ (g : Group) (few : length g.members ≤ no_place) (t : ℕ) where
  shared : (p : ℕ) → Subscriber g t p → HasShare (partitions_of g t) (length (subscribers_of g t)) 0 (subscribers_of g t) p
  shared p s = share_is (id_at g) (partitions_of g t) (length (subscribers_of g t)) p 0 (subscribers_of g t) (in_order g t) (is_subscriber g t p s)

  size_is : (p : ℕ) (s : Subscriber g t p) → share_of g t p ≡ share (partitions_of g t) (length (subscribers_of g t)) (shared p s).index
  size_is p s =
      ap (times p) (topic_is_lem g t) ∙ times_append p (owners g t) (replicate (max_partitions - length (owners g t)) no_place)
      ∙ rw (times_other (max_partitions - length (owners g t)) p no_place (λ e. placed g t p few s (sym e)), add-zero (times p (owners g t)))
      ((shared p s).size ∙ ap (share (partitions_of g t) (length (subscribers_of g t))) (zero-add (shared p s).index))

  fair_to : (p q : ℕ) → Subscriber g t p → Subscriber g t q → Fair g t p q
  fair_to p q a b =
      let n = partitions_of g t in
      let k = length (subscribers_of g t) in
      let i = (shared p a).index in
      let j = (shared q b).index in
      record {
        by_one = omega (arith, size_is p a, size_is q b, share_high n k i, share_low n k j);
        first_more = λ ahead. go (dec_lt j i) ahead;
      }
    where
      go : Dec ((shared q b).index < (shared p a).index) → Ahead g p q → share_of g t q ≤ share_of g t p
      go (yes l) ahead =
          let back : Before (id_at g) q p =
          rw (sym (shared q b).here, sym (shared p a).here) (sorted_at (id_at g) (subscribers_of g t) no_place (shared q b).index (shared p a).index (in_order g t) l (shared p a).inside) in
          absurd (not_self (id_at g) p p refl (before_trans (id_at g) p q p ahead back))
      go (no l) ahead =
          omega (arith, size_is p a, size_is q b, share_falls (partitions_of g t) (length (subscribers_of g t)) (shared p a).index (shared q b).index (omega arith))

pub range_fair : RangeFair
range_fair g few t p q a b = fair_to g few t p q (subscriber_at g t p a) (subscriber_at g t q b)

-- ---- neighbours

module _ (g : Group) (few : length g.members ≤ no_place) (t : ℕ) where
  abbrev entry : ℕ → ℕ
  entry x = get_or (topic_target g t) x no_place

  rank_rises : (x y : ℕ) → x ≤ y → rank g t x ≤ rank g t y
  rank_rises x y h = owner_rises (partitions_of g t) (length (subscribers_of g t)) 0 (subscribers_of g t) x y h

  same_rank : (x y : ℕ) → x < length (owners g t) → y < length (owners g t) → rank g t x ≡ rank g t y → entry x ≡ entry y
  same_rank x y h k e = (given_to g t x h).1 ∙ ap (λ (i : ℕ). get_or (subscribers_of g t) i no_place) e ∙ sym (given_to g t y k).1

  rank_ahead : (x y : ℕ) → x < length (owners g t) → y < length (owners g t) → rank g t x < rank g t y → Ahead g (entry x) (entry y)
  rank_ahead x y h k l =
      rw ((given_to g t x h).1, (given_to g t y k).1)
      (sorted_at (id_at g) (subscribers_of g t) no_place (rank g t x) (rank g t y) (in_order g t) l (given_to g t y k).0)

  run_of : (x y z : ℕ) → x ≤ y → y ≤ z → entry x ≡ entry z → entry y ≡ entry x
  run_of x y z h k e = go (dec_lt z (length (owners g t))) (dec_lt x (length (owners g t)))
    where
      inside : z < length (owners g t) → Dec (rank g t x < rank g t z) → entry y ≡ entry x
      inside l (yes r) = absurd (not_self (id_at g) (entry x) (entry z) e (rank_ahead x z (omega arith) l r))
      inside l (no r) = same_rank y x (omega arith) (omega arith) (omega (arith, rank_rises x y h, rank_rises y z k))

      go : Dec (z < length (owners g t)) → Dec (x < length (owners g t)) → entry y ≡ entry x
      go (yes l) m = inside l (dec_lt (rank g t x) (rank g t z))
      go (no l) (yes m) = absurd (placed g t (entry x) few (owned_by g t x m) (e ∙ not_given g t z (omega arith)))
      go (no l) (no m) = not_given g t y (omega arith) ∙ sym (not_given g t x (omega arith))

  ordered_at : (x y : ℕ) → x ≤ y → entry y ≢ no_place → (entry x ≡ entry y) ⊎ Ahead g (entry x) (entry y)
  ordered_at x y h far = go (dec_lt y (length (owners g t)))
    where
      inside : y < length (owners g t) → Dec (rank g t x < rank g t y) → (entry x ≡ entry y) ⊎ Ahead g (entry x) (entry y)
      inside l (yes r) = inr (rank_ahead x y (omega arith) l r)
      inside l (no r) = inl (same_rank x y (omega arith) l (omega (arith, rank_rises x y h)))

      go : Dec (y < length (owners g t)) → (entry x ≡ entry y) ⊎ Ahead g (entry x) (entry y)
      go (yes l) = inside l (dec_lt (rank g t x) (rank g t y))
      go (no l) = absurd (far (not_given g t y (omega arith)))

pub range_in_runs : RangeInRuns
range_in_runs g few t = record { neighbours = run_of g few t; ordered = ordered_at g few t }

-- ---- all topics

module _ (f : ℕ → List ℕ) (long : (t : ℕ) → length (f t) ≡ max_partitions) where
  all_long : (m k : ℕ) → length (concat_map f (up_to m k)) ≡ k * max_partitions
  unfolding up_to
  all_long m zero = refl
  all_long m (suc k) = length-append (f m) (concat_map f (up_to (suc m) k)) ∙ omega (arith, long m, all_long (suc m) k)

  all_at : (m k t p d : ℕ) → t < k → p < max_partitions → get_or (concat_map f (up_to m k)) (t * max_partitions + p) d ≡ get_or (f (m + t)) p d
  unfolding up_to
  all_at m zero t p d h l = absurd (omega arith)
  all_at m (suc k) zero p d h l =
      let e : 0 * max_partitions + p ≡ p = omega arith in
      rw (e, add-zero m) (get_or-append (f m) (concat_map f (up_to (suc m) k)) d p (omega (arith, long m)))
  all_at m (suc k) (suc t) p d h l =
      let e : suc t * max_partitions + p - length (f m) ≡ t * max_partitions + p = omega (arith, long m) in
      get_d_second (f m) (concat_map f (up_to (suc m) k)) (suc t * max_partitions + p) d (omega (arith, long m))
      ∙ ap (λ (x : ℕ). get_or (concat_map f (up_to (suc m) k)) x d) e ∙ all_at (suc m) k t p d (omega arith) l
      ∙ ap (λ (x : ℕ). get_or (f x) p d) (suc-add m t ∙ sym (add-suc m t))

pub range_by_topic : RangeByTopic
unfolding range_target
range_by_topic g = record {
  long = all_long (topic_target g) (topic_long g) 0 topic_count;
  entry = λ t p h l. all_at (topic_target g) (topic_long g) 0 topic_count t p no_place h l ∙ ap (λ (x : ℕ). get_or (topic_target g x) p no_place) (zero-add t);
}

-- the entry of a slot, by its topic
entry_of : (g : Group) (s : ℕ) → s < slot_count → get_or (range_target g) s no_place ≡ get_or (topic_target g (s / max_partitions)) (s % max_partitions) no_place
entry_of g s l =
    let e : s / max_partitions * max_partitions + s % max_partitions ≡ s = omega arith in
    ap (λ (y : ℕ). get_or (range_target g) y no_place) (sym e) ∙ (range_by_topic g).entry (s / max_partitions) (s % max_partitions) (omega arith) (omega arith)

-- ---- what is given

below_count_lem : (o : Option Topic) (p : ℕ) → p < max_partitions → below_count p o ≡ ltb p (case_of o 0 (λ k. min k.count max_partitions))
unfolding below_count
below_count_lem none p l = sym (le-ltb p 0 (omega arith))
below_count_lem (some k) p l = go (dec_lt p k.count)
  where
    go : Dec (p < k.count) → ltb p k.count ≡ ltb p (min k.count max_partitions)
    go (yes h) = lt-ltb p k.count h ∙ sym (lt-ltb p (min k.count max_partitions) (omega arith))
    go (no h) = le-ltb p k.count (omega arith) ∙ sym (le-ltb p (min k.count max_partitions) (omega arith))

any_some : (g : Group) (t p : ℕ) → Subscriber g t p → any (subscribes t) g.members ≡ true
unfolding subscribes
any_some g t p s = by_cases (any (subscribes t) g.members) (λ e. e) (λ e. absurd (true≢false (sym s.subscribed ∙ any_at (subscribes t) none refl g.members e p)))

wanted_exists : (g : Group) (s : ℕ) → left_over g s ≡ true → exists g s ≡ true
unfolding left_over
wanted_exists g s h = (and_true (exists g s) (any (subscribes (s / max_partitions)) g.members) h).0

-- of two refusals that are the same answer
refused_inj : {r s : Refusal} → ◌≡◌ {A = Answer} (Refused r) (Refused s) → r ≡ s
refused_inj e = cc

module _ (g : Group) (s : ℕ) where
  abbrev topic_of : ℕ
  topic_of = s / max_partitions

  abbrev partition : ℕ
  partition = s % max_partitions

  wanted_is : left_over g s ≡ ltb partition (partitions_of g topic_of) && any (subscribes topic_of) g.members
  unfolding left_over exists partitions_of
  wanted_is = ap (λ (b : Bool). b && any (subscribes topic_of) g.members) (below_count_lem (get_or g.topics topic_of none) partition (omega arith))

  -- a slot is given exactly where it exists and somebody subscribes to its topic
  is_given : left_over g s ≡ true → partition < length (owners g topic_of)
  is_given h = go (dec_lt 0 (length (subscribers_of g topic_of)))
    where
      both : (ltb partition (partitions_of g topic_of) ≡ true) × (any (subscribes topic_of) g.members ≡ true)
      both = and_true (ltb partition (partitions_of g topic_of)) (any (subscribes topic_of) g.members) (sym wanted_is ∙ h)

      go : Dec (0 < length (subscribers_of g topic_of)) → partition < length (owners g topic_of)
      go (yes k) = let l = ltb-true partition (partitions_of g topic_of) both.0 in omega (arith, l, runs_all (partitions_of g topic_of) (subscribers_of g topic_of) k)
      go (no k) = absurd (false≢true (sym (no_subscriber g topic_of (omega arith)) ∙ both.1))

  not_wanted : left_over g s ≡ false → length (owners g topic_of) ≤ partition
  not_wanted h = go (dec_lt partition (length (owners g topic_of)))
    where
      go : Dec (partition < length (owners g topic_of)) → length (owners g topic_of) ≤ partition
      go (no k) = omega arith
      go (yes k) =
          let o = owned_by g topic_of partition k in
          let there = lt-ltb partition (partitions_of g topic_of) (omega (arith, runs_most (partitions_of g topic_of) (subscribers_of g topic_of))) in
          absurd (false≢true (sym h ∙ wanted_is ∙ rw there (any_some g topic_of _ o)))

pub range_gives : RangeGives
range_gives g s l = record {
  owned = λ h. rw (entry_of g s l) (owned_by g (s / max_partitions) (s % max_partitions) (is_given g s h)).subscribed;
  others = λ h. entry_of g s l ∙ not_given g (s / max_partitions) (s % max_partitions) (not_wanted g s h);
}

-- ---- accepted

module _ (g : Group) (few : length g.members ≤ no_place) where
  -- no entry is bad, by 01's row or by request 3's
  stands : (s : ℕ) → s < slot_count → bad_entry with_rule g s (get_or (range_target g) s no_place) ≡ false
  unfolding bad_entry misplaced
  stands s l = by_cases (left_over g s) wanted free
    where
      wanted : left_over g s ≡ true → bad_entry with_rule g s (get_or (range_target g) s no_place) ≡ false
      wanted h =
          let o = subst (Subscriber g (s / max_partitions)) (sym (entry_of g s l)) (owned_by g (s / max_partitions) (s % max_partitions) (is_given g s h)) in
          rw (ne_eqb (get_or (range_target g) s no_place) no_place (placed g (s / max_partitions) _ few o), wanted_exists g s h, o.subscribed)

      free : left_over g s ≡ false → bad_entry with_rule g s (get_or (range_target g) s no_place) ≡ false
      free h = rw (eq-eqb (get_or (range_target g) s no_place) no_place ((range_gives g s l).others h), h)

  rows : g.target_epoch < g.epoch → AllFalse (table g (range_install g))
  unfolding table is_epoch first_bad
  rows h =
      let long = (range_by_topic g).long in
      let past = first_none (bad_entry with_rule g) no_place 0 (range_target g) (λ i l. rw (zero-add i) (stands i (omega (arith, long)))) in (
        ap not (eq-eqb (length (range_target g)) slot_count long),
        (
          ap not (eq-eqb g.epoch g.epoch refl),
          (
            ne_eqb g.target_epoch g.epoch (λ e. omega arith),
            (le-ltb (first_with (bad_entry with_rule g) 0 (range_target g)) slot_count (omega (arith, long, past)), tt),
          ),
        ),
      )

  -- so only the room decides
  by_room : g.target_epoch < g.epoch → (buffer list : List ℕ) → verdict g (range_install g) buffer list ≡ (if too_little_room (effect g (range_install g)) buffer list then some Room else none)
  unfolding verdict
  by_room h buffer list =
      last_row (table g (range_install g)) Room (too_little_room (effect g (range_install g)) buffer list) (rows_none (table g (range_install g)) (rows h))

  answer_is : g.target_epoch < g.epoch → (buffer list : List ℕ)
      → (step g (range_install g) buffer list).answer ≡ (if too_little_room (effect g (range_install g)) buffer list then Refused Room else Done)
  unfolding step carry_out effect install_effect
  answer_is h buffer list =
      ap (λ (v : Option Refusal). (carry_out v g (effect g (range_install g)) buffer list).answer) (by_room h buffer list)
      ∙ pick (too_little_room (effect g (range_install g)) buffer list)
    where
      pick : (b : Bool) → (carry_out (if b then some Room else none) g (install_effect g (range_target g)) buffer list).answer ≡ (if b then Refused Room else Done)
      pick true = refl
      pick false = refl

pub range_accepted : RangeAccepted
unfolding too_little_room effect install_effect
range_accepted g few h buffer list room =
    answer_is g few h buffer list
    ∙ rw (le-ltb (length buffer) (length (all_bytes (effect g (range_install g)).records)) room, le-ltb (length list) 0 (omega arith))

pub range_only_room : RangeOnlyRoom
unfolding effect install_effect
range_only_room g few h buffer list r e =
    if_cases (λ a. a ≡ Refused r → r ≡ Room) (too_little_room (effect g (range_install g)) buffer list) (λ _ q. sym (refused_inj q)) (λ _ q. absurd (effect_accepts g (range_install g) r q))
    (sym (answer_is g few h buffer list) ∙ e)

pub range_installed : RangeInstalled
range_installed g r h buffer list roomy =
    let few : length g.members ≤ no_place = omega (arith, (sized g r).members) in
    let f = batch_fits g r (range_install g) tt (rows_none (table g (range_install g)) (rows g few h)) in
    range_accepted g few h buffer list (omega (arith, f.records))

-- ---- what it depends on

module _ (g h : Group) (same : Alike g h) where
  same_subscribers : (t : ℕ) → subscribers_of g t ≡ subscribers_of h t
  unfolding subscribers_of
  same_subscribers t =
      sort_same (id_at g) (id_at h) (indices (subscribes t) 0 g.members) (each_of (indices (subscribes t) 0 g.members) (λ q _. same.named q))
      ∙ ap (sort_by (id_at h)) (indices_ext (subscribes t) (subscribes t) none none g.members h.members 0 same.places (λ i _. same.subscribed t i))

  same_topic : (t : ℕ) → topic_target g t ≡ topic_target h t
  unfolding topic_target owners_of partitions_of
  same_topic t = rw (same_subscribers t, same.topics)

all_same : (f k : ℕ → List ℕ) → ((t : ℕ) → f t ≡ k t) → (l : List ℕ) → concat_map f l ≡ concat_map k l
all_same f k e [] = refl
all_same f k e (t ∷ ts) = ap₂ (λ (x y : List ℕ). x ++ y) (e t) (all_same f k e ts)

pub range_of_alike : RangeOfAlike
unfolding range_target
range_of_alike g h same = all_same (topic_target g) (topic_target h) (same_topic g h same) (up_to 0 topic_count)

pub range_theorems : RangeTheorems
range_theorems = record {
  by_topic = range_by_topic;
  accepted = range_accepted;
  only_room = range_only_room;
  gives = range_gives;
  fair = range_fair;
  in_runs = range_in_runs;
  of_alike = range_of_alike;
}
