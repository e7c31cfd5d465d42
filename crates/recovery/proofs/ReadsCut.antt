-- A journal as it was written, cut at any byte: it begins with the batches that are whole, and what is left is nothing, or the beginning of one more.
use Prim.Native.Nat.{ℕ, zero, suc, ◌+◌, ◌-◌, ◌≤◌, ◌<◌}
use native.Mathlib.Nat.{add-zero}
use native.Mathlib.Decide.{dec_lt}
use native.Mathlib.Omega.{arith}
use mathlib.Core.Path.{◌≡◌, refl, sym, ap, ◌∙◌, subst}
use mathlib.Core.Logic.{◌⊎◌, inl, inr}
use mathlib.Core.Bool.{false}
use mathlib.Core.List.{List, [], ◌∷◌, ◌++◌, append_assoc}
use lib.ListN.{length, take, length-append}
use lib.Seq.{take-append-add, take-append-le, take-append_seam, take-nil}
use lib.Dec.{leb}
use borrow.Author.Tests.{eq-eqb, le-leb, lt-leb, ne_eqb}
use Rattle.rules.specs.Basics.{empty}
use Rattle.rules.specs.Group.{Group, fresh}
use Rattle.rules.specs.Batches.{Legible, retimed}
use Rattle.rules.specs.Readings.{Item, ItemTyped, ItemsTyped, group_after, next_group}
use Rattle.rules.specs.Journal.{KeepsCounted, Reading, ReadsCut, after_length, batches, counted, ends_at, entry, heading, journal, read_batches, read_journal, read_length, stored_by}
use Rattle.theorems.proofs.Cases.{if_cases, never}
use Rattle.recovery.proofs.Lengths.{length_cut}
use Rattle.recovery.proofs.Items.{entry_none, entry_some, item_stored}
use Rattle.recovery.proofs.ReadsOn.{batch_short, good_legible, journals_good, reads_good}

pub take_whole : {A : Type 0} (n : ℕ) (x y : List A) → length x ≤ n → take n (x ++ y) ≡ x ++ take (n - length x) y
take_whole n x y h = let e : n ≡ length x + (n - length x) = omega arith in ap (λ (k : ℕ). take k (x ++ y)) e ∙ take-append-add x y (n - length x)

-- ---- the items that count

module _ (g : Group) (i : Item) (is : List Item) (n : ℕ) where
  counted_whole : length (entry (stored_by g i)) ≤ n → counted n g (i ∷ is) ≡ i ∷ counted (n - length (entry (stored_by g i))) (next_group g i) is
  unfolding counted
  counted_whole h = rw (le-leb (length (entry (stored_by g i))) n h) refl

  counted_cut : n < length (entry (stored_by g i)) → counted n g (i ∷ is) ≡ []
  unfolding counted
  counted_cut h = rw (lt-leb (length (entry (stored_by g i))) n h) refl

pub typed_counted : (n : ℕ) (g : Group) (is : List Item) → ItemsTyped is → ItemsTyped (counted n g is)
unfolding counted
typed_counted n g [] ok = tt
typed_counted n g (i ∷ is) ok =
    if_cases (λ (js : List Item). ItemsTyped js) (leb (length (entry (stored_by g i))) n)
    (λ _. (ok.0, typed_counted (n - length (entry (stored_by g i))) (next_group g i) is ok.1)) (λ _. tt)

-- ---- what is left after them

-- the beginning of a batch with its length that an item stores for this group
record CutEntry (g : Group) (rest : List ℕ) : Type 0 where
  item : Item
  typed : ItemTyped item
  stored : empty (stored_by g item) ≡ false
  size : ℕ
  short : size < length (entry (stored_by g item))
  begins : rest ≡ take size (entry (stored_by g item))

record CutFile (g : Group) (is : List Item) (n : ℕ) : Type 0 where
  rest : List ℕ
  split : take n (batches g is) ≡ batches g (counted n g is) ++ rest
  after : (rest ≡ []) ⊎ CutEntry (group_after g (counted n g is)) rest

cut_none : (g : Group) (n : ℕ) → CutFile g [] n
unfolding batches counted
cut_none g n = record { rest = []; split = take-nil n; after = inl refl }

module _ (g : Group) (i : Item) (is : List Item) (n : ℕ) where
  abbrev x : List ℕ
  x = entry (stored_by g i)

  cut_here : ItemTyped i → n < length x → CutFile g (i ∷ is) n
  unfolding batches group_after
  cut_here ok q =
      let e = counted_cut g i is n q in
      let filled = never (empty (stored_by g i)) (λ z. omega (arith, ap length (entry_none (stored_by g i) z))) in
      record {
        rest = take n x;
        split = take-append-le n x (batches (next_group g i) is) (omega arith) ∙ ap (λ (js : List Item). batches g js ++ take n x) (sym e);
        after = inr (subst (λ (js : List Item). CutEntry (group_after g js) (take n x)) (sym e)
            (record { item = i; typed = ok; stored = filled; size = n; short = q; begins = refl }));
      }

  cut_later : length x ≤ n → CutFile (next_group g i) is (n - length x) → CutFile g (i ∷ is) n
  unfolding batches group_after
  cut_later w r =
      let e = counted_whole g i is n w in
      record {
        rest = r.rest;
        split = take_whole n x (batches (next_group g i) is) w
            ∙ ap (λ (y : List ℕ). x ++ y) r.split
            ∙ sym (append_assoc x _ r.rest)
            ∙ ap (λ (js : List Item). batches g js ++ r.rest) (sym e);
        after = subst (λ (js : List Item). (r.rest ≡ []) ⊎ CutEntry (group_after g js) r.rest) (sym e) r.after;
      }

cut_file : (is : List Item) (g : Group) → ItemsTyped is → (n : ℕ) → CutFile g is n
cut_file [] g ok n = cut_none g n
cut_file (i ∷ is) g ok n = pick (dec_lt n (length (entry (stored_by g i)))) (cut_file is (next_group g i) ok.1 (n - length (entry (stored_by g i))))
  where
    pick : Dec (n < length (entry (stored_by g i))) → CutFile (next_group g i) is (n - length (entry (stored_by g i))) → CutFile g (i ∷ is) n
    pick (yes q) r = cut_here g i is n ok.0 q
    pick (no q) r = cut_later g i is n (omega arith) r

-- ---- it is torn

module _ (t at : ℕ) (g : Group) where
  abbrev torn : List ℕ → Reading
  torn rest = record { group = retimed t g; verdict = ends_at at (at + length rest) }

  torn_nothing : read_batches 1 t at (retimed t g) [] ≡ torn []
  unfolding read_batches read_length after_length ends_at
  torn_nothing = rw (add-zero at, eq-eqb at at refl) refl

  module _ (v : Legible (retimed t g)) (i : Item) (ok : ItemTyped i) (z : empty (stored_by g i) ≡ false) where
    abbrev stored : List ℕ
    stored = stored_by g i

    torn_entry : (k : ℕ) → k < length (entry stored) → (rest : List ℕ) → rest ≡ take k (entry stored)
        → read_batches (suc (length rest)) t at (retimed t g) rest ≡ torn rest
    unfolding read_batches ends_at
    torn_entry zero s rest f = rw f torn_nothing
    torn_entry (suc k) s [] f = torn_nothing
    torn_entry (suc k) s (b ∷ bs) f =
        let e = entry_some stored z in
        let more : Group → List ℕ → Reading = λ h l. read_batches (suc (length bs)) t (at + (suc (length bs) - length l)) h l in
        rw (ne_eqb at (at + suc (length bs)) (λ q. omega arith))
        (ap (λ (l : List ℕ). after_length (read_length l) t at (retimed t g) more) (f ∙ ap (take (suc k)) e.0)
        ∙ length_cut t at (retimed t g) more (length stored) stored e.1 (batch_short t (retimed t g) v stored (item_stored t g i ok z).writes) refl k
        (subst (λ (l : List ℕ). suc k < length l) e.0 s))

  torn_rest : Legible (retimed t g) → (rest : List ℕ) → (rest ≡ []) ⊎ CutEntry g rest → read_batches (suc (length rest)) t at (retimed t g) rest ≡ torn rest
  torn_rest v rest (inl e) = rw e torn_nothing
  torn_rest v rest (inr c) = torn_entry v c.item c.typed c.stored c.size c.short rest c.begins

-- ---- the file

module _ (s : ℕ) (is : List Item) (ok : ItemsTyped is) (n : ℕ) where
  abbrev g : Group
  g = fresh s

  abbrev js : List Item
  js = counted n g is

  c : CutFile g is n
  c = cut_file is g ok n

  found : heading ++ take n (batches g is) ≡ journal g js ++ c.rest
  unfolding journal
  found = ap (λ (y : List ℕ). heading ++ y) c.split ∙ sym (append_assoc heading (batches g js) c.rest)

  cut_read : (t : ℕ) → read_journal t (journal g js ++ c.rest) ≡ torn t (length (journal g js)) (group_after g js) c.rest
  cut_read t =
      let good = journals_good s t js (typed_counted n g is ok) in
      let h = group_after g js in
      reads_good t (journal g js) (retimed t h) good c.rest
      ∙ torn_rest t (length (journal g js)) h (good_legible t (journal g js) (retimed t h) good) c.rest c.after

pub reads_cut : ReadsCut
reads_cut s t is ok n = rw (found s is ok n, length-append (journal (fresh s) (counted n (fresh s) is)) (c s is ok n).rest) (cut_read s is ok n t)

pub keeps_counted : KeepsCounted
keeps_counted s is ok n =
    let kept = journal (fresh s) (counted n (fresh s) is) in
    ap (take (length kept)) (found s is ok n) ∙ take-append_seam kept (c s is ok n).rest
