-- A good file, whatever follows, is read as its group, and on from there; and the files that we wrote are good.
use Prim.Native.Nat.{ℕ, suc, ◌+◌, ◌-◌, ◌≤◌, ◌<◌}
use native.Mathlib.Omega.{arith}
use mathlib.Core.Path.{◌≡◌, refl, sym, ap, ◌∙◌, subst}
use mathlib.Core.List.{List, [], ◌∷◌, ◌++◌, append_assoc, append-nil}
use mathlib.Core.Option.{Option}
use lib.ListN.{length, length-append}
use Rattle.rules.specs.Basics.{empty}
use Rattle.rules.specs.Constants.{batch_limit}
use Rattle.rules.specs.Group.{Group, fresh}
use Rattle.rules.specs.Records.{number}
use Rattle.rules.specs.Effects.{effect}
use Rattle.rules.specs.Batches.{Legible, Writes, retimed, retimed_member}
use Rattle.rules.specs.Readings.{Item, ItemTyped, ItemsTyped, group_after, next_group}
use Rattle.rules.specs.Journal.{Reading, ReadsOn, ReadsWhole, after_batch, after_length, batches, entry, heading, journal, read_batches, read_heading, read_journal, read_length, stored_by}
use Rattle.rules.specs.Files.{GoodFile, JournalsGood, ReadsGood, heading_alone, one_batch_more}
use Rattle.rules.specs.Theorems.{Reached}
use Rattle.theorems.proofs.Cases.{by_cases}
use Rattle.theorems.proofs.Reaching.{reached_fresh, reached_next}
use Rattle.theorems.proofs.Legible.{legible_accepted, legible_alike, legible_fresh, legible_retimed}
use Rattle.recovery.proofs.Fits.{accepted_legal}
use Rattle.recovery.proofs.Exact.{writes_read}
use Rattle.recovery.proofs.Lengths.{fuel_any, length_whole}
use Rattle.recovery.proofs.Items.{entry_none, entry_some, item_stored, item_unstored}

-- ---- a batch that some event writes

module _ (t : ℕ) (g : Group) (v : Legible g) (x : List ℕ) (w : Writes g x) where
  its_group : Legible w.group
  its_group = legible_alike g w.group w.alike v

  leaves_legible : Legible (retimed t (effect w.group w.event).group)
  leaves_legible = legible_retimed t _ (legible_accepted w.group w.event w.accepted w.typed its_group)

  pub batch_short : length x ≤ batch_limit
  batch_short = subst (λ (y : List ℕ). length y ≤ batch_limit) w.writes (accepted_legal w.group its_group w.event w.accepted w.typed).short

  long_entry : 0 < length (entry x)
  long_entry = let e = entry_some x w.stored in omega (arith, ap length e.0, length-append (number (length x)) x, e.1)

  batch_read : (fuel at : ℕ) (rest : List ℕ)
      → read_batches (suc fuel) t at g (entry x ++ rest) ≡ read_batches fuel t (at + length (entry x)) (retimed t (effect w.group w.event).group) rest
  unfolding read_batches after_batch
  batch_read fuel at rest =
      let e = entry_some x w.stored in
      let more : Group → List ℕ → Reading = λ h l. read_batches fuel t (at + (length (entry x ++ rest) - length l)) h l in
      let d : at + (length (entry x ++ rest) - length rest) ≡ at + length (entry x) = omega (arith, length-append (entry x) rest) in
      ap (λ (y : List ℕ). after_length (read_length y) t at g more) (ap (λ (y : List ℕ). y ++ rest) e.0 ∙ append_assoc (number (length x)) x rest)
      ∙ length_whole t at g more (length x) x rest e.1 batch_short refl
      ∙ ap (λ (o : Option Group). after_batch o at g (λ h. more h rest)) (writes_read t g v x w)
      ∙ ap (λ (k : ℕ). read_batches fuel t k (retimed t (effect w.group w.event).group) rest) d

-- ---- a good file

pub good_legible : (t : ℕ) (file : List ℕ) (g : Group) → GoodFile t file g → Legible g
good_legible t file g heading_alone = legible_fresh t
good_legible t file g (one_batch_more {file = f} {g = k} v x w) = leaves_legible t k (good_legible t f k v) x w

heading_read : (t : ℕ) (bytes : List ℕ) → read_journal t (heading ++ bytes) ≡ read_batches (suc (length bytes)) t (length heading) (fresh t) bytes
unfolding read_journal read_heading heading
heading_read t bytes = refl

pub reads_good : ReadsGood
reads_good t file g heading_alone more = heading_read t more
reads_good t file g (one_batch_more {file = f} {g = k} v x w) more =
    let h = retimed t (effect w.group w.event).group in
    let l = good_legible t f k v in
    let n = length (entry x ++ more) in
    let long : length more < n = omega (arith, length-append (entry x) more, long_entry t k l x w) in
    ap (read_journal t) (append_assoc f (entry x) more)
    ∙ reads_good t f k v (entry x ++ more)
    ∙ batch_read t k l x w n (length f) more
    ∙ fuel_any n t (length f + length (entry x)) h more long
    ∙ ap (λ (at : ℕ). read_batches (suc (length more)) t at h more) (sym (length-append f (entry x)))

-- ---- our files

module _ (t : ℕ) where
  abbrev GoodWith : List ℕ → Group → Type 0
  GoodWith file g = GoodFile t file (retimed t g)

  good_next : (file : List ℕ) (g : Group) → Reached g → GoodWith file g → (i : Item) → ItemTyped i → GoodWith (file ++ entry (stored_by g i)) (next_group g i)
  good_next file g r v i ok =
      by_cases (empty (stored_by g i))
      (λ z. rw (entry_none (stored_by g i) z, append-nil file, item_unstored t g r i ok z) v)
      (λ z. let s = item_stored t g i ok z in subst (GoodFile t (file ++ entry (stored_by g i))) s.leaves (one_batch_more v (stored_by g i) s.writes))

  good_on : (is : List Item) (file : List ℕ) (g : Group) → Reached g → ItemsTyped is → GoodWith file g → GoodWith (file ++ batches g is) (group_after g is)
  unfolding batches group_after
  good_on [] file g r ok v = rw (append-nil file) v
  good_on (i ∷ is) file g r ok v =
      let x = entry (stored_by g i) in
      rw (← (append_assoc file x (batches (next_group g i) is)))
      (good_on is (file ++ x) (next_group g i) (reached_next g r i ok.0) ok.1 (good_next file g r v i ok.0))

fresh_retimed : (s t : ℕ) → retimed t (fresh s) ≡ fresh t
unfolding retimed fresh retimed_member
fresh_retimed s t = refl

pub journals_good : JournalsGood
unfolding journal
journals_good s t is ok = good_on t is heading (fresh s) (reached_fresh s) ok (subst (GoodFile t heading) (sym (fresh_retimed s t)) heading_alone)

pub reads_on : ReadsOn
reads_on s t is ok more = reads_good t (journal (fresh s) is) (retimed t (group_after (fresh s) is)) (journals_good s t is ok) more

pub reads_whole : ReadsWhole
unfolding read_batches read_length after_length
reads_whole s t is ok = ap (read_journal t) (sym (append-nil (journal (fresh s) is))) ∙ reads_on s t is ok []
