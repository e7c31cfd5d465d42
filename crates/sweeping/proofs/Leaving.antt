-- The members that go, entry by entry: those at the marked places; and what is stored of them and what becomes of the group, one after another.
use Rattle.std.proofs.Common.{ℕ, suc, ◌+◌, ◌≤◌, ◌<◌, arith, add-one, ◌≡◌, refl, sym, ap, ◌∙◌, Bool, true, false, List, [], ◌∷◌, ◌++◌, map, append-nil, length, get_or, set, drop, drop_of_length-le, replicate, length-set, length-append, drop-cons, get_or-set_other, below_more}
use mathlib.Core.List.{foldl}
use mathlib.Core.Option as M
use lib.ListN.{get_or-replicate}
use Rattle.std.specs.Prelude.{Option, None, Some}
use Rattle.std.specs.Bool.{then_some}
use Rattle.numbers.specs.Buffer.{flat}
use Rattle.numbers.proofs.Writing.{Writing, recut}
use Rattle.rules.specs.Basics.{concat_map, keep, up_to}
use Rattle.rules.specs.Constants.{max_members}
use Rattle.rules.specs.Group as G
use Rattle.rules.specs.Group.{SlotState}
use Rattle.rules.specs.Records.{Record, all_bytes, bytes_of, group_epoch}
use Rattle.rules.specs.Effects.{vacated, remove, removal_records}
use Rattle.slots.proofs.Each.{store_next}
use Rattle.tables.specs.View.{slots_in}
use Rattle.group.specs.Columns.{view_members}
use Rattle.group.specs.View.{view}
use Rattle.group.specs.declared.Group.{Group}
use Rattle.records.specs.Storing.{gone_batch, optional, optional_bytes}
use Rattle.records.specs.declared.batches.GoneBatch.{GoneBatch}
use Rattle.records.specs.declared.kinds.GroupEpoch.{GroupEpoch}
use Rattle.records.proofs.Lists.{all_none, all_append}
use Rattle.events.proofs.Lent.{group_changed}
use Rattle.sweeping.specs.Marks.{mark, marked}
use Rattle.sweeping.specs.Leavers.{leavers, places_of, leaver_at, Leaving, sweep_batch, Removes}

-- ---- those at the marked places

kept : (f : ℕ → Bool) (at : ℕ → GoneBatch) (l : List (Option GoneBatch)) (n : ℕ) → ((k m : ℕ) → k < length l → m ≡ n + k → get_or l k None ≡ then_some (f m) (at m))
    → leavers l ≡ map at (keep f (up_to n (length l)))
unfolding keep up_to
kept f at [] n e = refl
kept f at (x ∷ l) n e = go (f n) refl (e 0 n (omega arith) (omega arith)) (kept f at l (suc n) (λ k m h q. e (suc k) m (omega arith) (omega arith)))
  where
    go : (b : Bool) → f n ≡ b → x ≡ then_some (f n) (at n) → leavers l ≡ map at (keep f (up_to (suc n) (length l))) → leavers (x ∷ l) ≡ map at (keep f (up_to n (suc (length l))))
    go true q i h = rw (i, q, h)
    go false q i h = rw (i, q, h)

-- each entry is that of its place
pub all_leave : (vs : List SlotState) (gone : List Bool) (l : List (Option GoneBatch)) → length l ≡ max_members
    → ((p : ℕ) → p < max_members → get_or l p None ≡ then_some (mark gone p) (leaver_at vs p)) → Leaving vs (marked gone) l
unfolding marked
all_leave vs gone l n e =
    kept (mark gone) (leaver_at vs) l 0 (λ k m h q. ap (λ (j : ℕ). get_or l j None) (omega arith) ∙ e m (omega arith))
    ∙ ap (λ (k : ℕ). map (leaver_at vs) (keep (mark gone) (up_to 0 k))) n

-- the entries below i are those of their places, and none is after them
pub record Filled (vs : List SlotState) (gone : List Bool) (l : List (Option GoneBatch)) (i : ℕ) : Type 0 where
  pub long : length l ≡ max_members
  pub done : (p : ℕ) → p < i → get_or l p None ≡ then_some (mark gone p) (leaver_at vs p)
  pub rest : (p : ℕ) → i ≤ p → p < max_members → get_or l p None ≡ None

pub fill_begin : (vs : List SlotState) (gone : List Bool) → Filled vs gone (replicate max_members None) 0
fill_begin vs gone = record { long = refl; done = λ p q. absurd (omega arith); rest = λ p q r. get_or-replicate max_members p None None r }

module _ {vs : List SlotState} {gone : List Bool} {l : List (Option GoneBatch)} {i : ℕ} (s : Filled vs gone l i) (h : i < max_members) where
  pub fill_one : {b : GoneBatch} → mark gone i ≡ true → b ≡ leaver_at vs i → Filled vs gone (set l i (Some b)) (i + 1)
  fill_one {b} t e = record {
    long = length-set l i (Some b) ∙ s.long;
    done = store_next (λ p. then_some (mark gone p) (leaver_at vs p)) None l i (Some b) (omega (arith, s.long)) s.done (ap Some e ∙ ap (λ (x : Bool). then_some x (leaver_at vs i)) (sym t));
    rest = λ p q r. get_or-set_other l i p (Some b) None (λ x. omega (arith, x)) ∙ s.rest p (omega arith) r;
  }

  pub fill_none : mark gone i ≡ false → Filled vs gone l (i + 1)
  fill_none t = record {
    long = s.long;
    done = below_more (λ p. get_or l p None ≡ then_some (mark gone p) (leaver_at vs p)) i s.done (s.rest i (omega arith) h ∙ ap (λ (x : Bool). then_some x (leaver_at vs i)) (sym t));
    rest = λ p q r. s.rest p (omega arith) r;
  }

-- their places
places_at : (vs : List SlotState) (ps : List ℕ) → map (λ (b : GoneBatch). b.place.0) (map (leaver_at vs) ps) ≡ ps
places_at vs [] = refl
places_at vs (p ∷ ps) = ap (λ (l : List ℕ). p ∷ l) (places_at vs ps)

pub places_are : (vs : List SlotState) (ps : List ℕ) (l : List (Option GoneBatch)) → Leaving vs ps l → places_of l ≡ ps
places_are vs ps l e = ap (map (λ (b : GoneBatch). b.place.0)) e ∙ places_at vs ps

-- ---- what is stored of them

stored_at : (vs : List SlotState) (ps : List ℕ) → concat_map gone_batch (map (leaver_at vs) ps) ≡ concat_map (removal_records vs) ps
unfolding gone_batch removal_records
stored_at vs [] = refl
stored_at vs (p ∷ ps) = ap (λ (l : List Record). gone_batch (leaver_at vs p) ++ l) (stored_at vs ps)

pub stored_are : (vs : List SlotState) (ps : List ℕ) (l : List (Option GoneBatch)) → Leaving vs ps l → concat_map gone_batch (leavers l) ≡ concat_map (removal_records vs) ps
stored_are vs ps l e = ap (concat_map gone_batch) e ∙ stored_at vs ps

-- ---- entry by entry

-- the bytes of the entries
abbrev pub bytes_in : List (Option GoneBatch) → List ℕ
bytes_in l = all_bytes (concat_map gone_batch (leavers l))

-- those of a record 3 that may be there
abbrev pub epoch_in : Option GroupEpoch → List ℕ
epoch_in e = optional_bytes (λ x. bytes_of (group_epoch x.0)) e

abbrev pub bytes_at : Option GoneBatch → List ℕ
bytes_at x = optional_bytes (λ b. all_bytes (gone_batch b)) x

-- the next entry's come first
next_bytes : (x : Option GoneBatch) (l : List (Option GoneBatch)) → bytes_in (x ∷ l) ≡ bytes_at x ++ bytes_in l
next_bytes None l = refl
next_bytes (Some b) l = all_append (gone_batch b) (concat_map gone_batch (leavers l))

epoch_bytes : (x : Option GroupEpoch) → all_bytes (optional (λ y. group_epoch y.0) x) ≡ epoch_in x
unfolding all_bytes
epoch_bytes None = refl
epoch_bytes (Some y) = append-nil (bytes_of (group_epoch y.0))

-- all of a sweep
pub sweep_bytes : (l : List (Option GoneBatch)) (e : Option GroupEpoch) → bytes_in l ++ epoch_in e ≡ all_bytes (sweep_batch l e)
unfolding sweep_batch
sweep_bytes l e = sym (all_append (concat_map gone_batch (leavers l)) (optional (λ x. group_epoch x.0) e) ∙ ap (λ (u : List ℕ). bytes_in l ++ u) (epoch_bytes e))

module _ (l : List (Option GoneBatch)) (i : ℕ) where
  pub left_next : i < length l → bytes_in (drop i l) ≡ bytes_at (get_or l i None) ++ bytes_in (drop (i + 1) l)
  left_next h = ap bytes_in (drop-cons l i None h ∙ ap (λ (k : ℕ). get_or l i None ∷ drop k l) (sym (add-one i))) ∙ next_bytes (get_or l i None) (drop (i + 1) l)

  pub length_next : i < length l → length (bytes_in (drop i l)) ≡ length (bytes_at (get_or l i None)) + length (bytes_in (drop (i + 1) l))
  length_next h = ap length (left_next h) ∙ length-append (bytes_at (get_or l i None)) (bytes_in (drop (i + 1) l))

  left_end : length l ≤ i → bytes_in (drop i l) ≡ []
  left_end h = ap bytes_in (drop_of_length-le l h) ∙ all_none

  pub length_end : length l ≤ i → length (bytes_in (drop i l)) ≡ 0
  length_end h = ap length (left_end h)

  pub all_written : {w b₀ buf : List ℕ} {us : List (List ℕ)} {at : ℕ} → length l ≤ i → Writing w b₀ buf at (bytes_in (drop i l) ∷ us) → Writing w b₀ buf at us
  all_written {us = us} h s = recut s us (ap (λ (u : List ℕ). u ++ flat us) (sym (left_end h)))

-- ---- what becomes of the group

pub removed : (g g' : Group) (p : ℕ) → g'.head ≡ g.head → g'.topics ≡ g.topics → view_members g'.members.cells ≡ set (view_members g.members.cells) p M.none
    → slots_in g'.tables ≡ map (vacated p) (slots_in g.tables) → view g' ≡ remove (view g) p
unfolding remove view
removed g g' p h k m s = group_changed g g' g.head.epoch g.head.tick h k m s

-- those of the entries from i on are to be removed of g, and then it is as if all had been removed of g₀
pub record Removing (l : List (Option GoneBatch)) (g₀ g : Group) (i : ℕ) : Type 0 where
  pub left : foldl remove (view g) (places_of (drop i l)) ≡ foldl remove (view g₀) (places_of l)
  pub head : g.head ≡ g₀.head
  pub topics : g.topics ≡ g₀.topics

module _ {l : List (Option GoneBatch)} {g₀ g : Group} {i : ℕ} (s : Removing l g₀ g i) where
  next_places : {x : Option GoneBatch} → i < length l → get_or l i None ≡ x → places_of (x ∷ drop (i + 1) l) ≡ places_of (drop i l)
  next_places h e = sym (ap places_of (drop-cons l i None h ∙ (λ j. e j ∷ drop (sym (add-one i) j) l)))

  pub remove_one : {b : GoneBatch} (g' : Group) → i < length l → get_or l i None ≡ Some b → g'.head ≡ g.head → g'.topics ≡ g.topics → view g' ≡ remove (view g) b.place.0 → Removing l g₀ g' (i + 1)
  remove_one g' h e eh et v = record {
    left = ap (λ (x : G.Group). foldl remove x (places_of (drop (i + 1) l))) v ∙ ap (foldl remove (view g)) (next_places h e) ∙ s.left;
    head = eh ∙ s.head;
    topics = et ∙ s.topics;
  }

  pub remove_none : i < length l → get_or l i None ≡ None → Removing l g₀ g (i + 1)
  remove_none h e = record { left = ap (foldl remove (view g)) (next_places h e) ∙ s.left; head = s.head; topics = s.topics }

  pub remove_end : length l ≤ i → Removes (places_of l) g₀ g
  remove_end h = record { removed = sym (ap (λ (r : List (Option GoneBatch)). foldl remove (view g) (places_of r)) (drop_of_length-le l h)) ∙ s.left; head = s.head; topics = s.topics }
