-- What a broker has after every failover is what the history says: its group is that after the events that count, its file their journal.
use Prim.Native.Nat.{ℕ, ◌-◌, ◌≤◌, ◌<◌}
use native.Mathlib.Decide.{dec_lt}
use native.Mathlib.Omega.{arith}
use mathlib.Core.Path.{◌≡◌, refl, sym, ap, ◌∙◌, subst}
use mathlib.Core.List.{List, [], ◌∷◌, ◌++◌, append_assoc, append-nil, foldl-append}
use lib.ListN.{length, take, length-append}
use lib.Seq.{take_all, take-append-le, take-length}
use lib.Dec.{eqb}
use borrow.Author.Tests.{eqb-true}
use Rattle.rules.specs.Group.{Group, fresh}
use Rattle.rules.specs.Course.{begun, stepped}
use Rattle.rules.specs.Rounds.{Settled}
use Rattle.rules.specs.Batches.{retimed}
use Rattle.rules.specs.Readings.{Item, ItemsTyped, SingleHolderOver, ThreeRoundsOver, group_after, happens, next_group, reads, started}
use Rattle.rules.specs.Journal.{Reading, Verdict, after_length, batches, counted, ends_at, entry, heading, journal, read_batches, read_heading, read_journal, read_length, stored_by, whole}
use Rattle.rules.specs.Brokers.{Continues, Life, SingleHolderAcross, ThreeRoundsAcross, TypedLife, acted, acts, born, born_at, counted_in, cut_off, failed, fails, headed, history_of, passage_of, state_of}
use Rattle.theorems.proofs.Cases.{if_cases}
use Rattle.theorems.proofs.Reaching.{typed_after}
use Rattle.theorems.proofs.Answered.{group_passage}
use Rattle.theorems.proofs.SingleHolder.{single_holder_over}
use Rattle.theorems.proofs.ThreeRounds.{three_rounds_over, typed_split}
use Rattle.recovery.proofs.AnyFile.{reads_heading}
use Rattle.recovery.proofs.ReadsCut.{keeps_counted, reads_cut, take_whole, typed_counted}

-- ---- one more item

batches_append : (is js : List Item) (g : Group) → batches g (is ++ js) ≡ batches g is ++ batches (group_after g is) js
unfolding batches group_after
batches_append [] js g = refl
batches_append (i ∷ is) js g =
    ap (λ (y : List ℕ). entry (stored_by g i) ++ y) (batches_append is js (next_group g i)) ∙ sym (append_assoc (entry (stored_by g i)) _ _)

module _ (g : Group) (is : List Item) where
  next_group_lem : (i : Item) → group_after g (is ++ i ∷ []) ≡ next_group (group_after g is) i
  unfolding group_after
  next_group_lem i = foldl-append next_group g is (i ∷ [])

  next_file : (i : Item) → journal g (is ++ i ∷ []) ≡ journal g is ++ entry (stored_by (group_after g is) i)
  unfolding journal batches
  next_file i =
      let x = entry (stored_by (group_after g is) i) in
      ap (λ (y : List ℕ). heading ++ y) (batches_append is (i ∷ []) g ∙ ap (λ (y : List ℕ). batches g is ++ y) (append-nil x))
      ∙ sym (append_assoc heading (batches g is) x)

  read_file : (t : ℕ) → journal g (is ++ reads t ∷ []) ≡ journal g is
  unfolding stored_by entry
  read_file t = next_file (reads t) ∙ append-nil (journal g is)

-- ---- a failover

heading_alone_lem : (t : ℕ) → read_journal t (heading ++ []) ≡ record { group = fresh t; verdict = whole }
unfolding read_journal read_heading heading read_batches read_length after_length
heading_alone_lem t = refl

headed_journal : (g : Group) (is : List Item) → headed (journal g is) ≡ journal g is
unfolding headed journal heading
headed_journal g is = refl

-- bytes that are good up to an offset, cut there
cut_there : (e : ℕ) (bytes : List ℕ) → cut_off (ends_at e (length bytes)) bytes ≡ take e bytes
unfolding cut_off ends_at
cut_there e bytes =
    if_cases (λ (v : Verdict). cut_off v bytes ≡ take e bytes) (eqb e (length bytes))
    (λ q. sym (take-length bytes) ∙ ap (λ (n : ℕ). take n bytes) (sym (eqb-true e (length bytes) q))) (λ _. refl)

module _ (s t : ℕ) (is : List Item) (ok : ItemsTyped is) where
  -- what is found, and what counts of it
  abbrev found : ℕ → List ℕ
  found n = take n (journal (fresh s) is)

  abbrev known : ℕ → List Item
  known n = counted (n - length heading) (fresh s) is

  record Failover (n : ℕ) : Type 0 where
    group : (read_journal t (found n)).group ≡ retimed t (group_after (fresh s) (known n))
    file : headed (cut_off (read_journal t (found n)).verdict (found n)) ≡ journal (fresh s) (known n)

  -- the heading is there
  late : (n : ℕ) → length heading ≤ n → Failover n
  unfolding journal
  late n h =
      let m = n - length heading in
      let bytes = heading ++ take m (batches (fresh s) is) in
      let e : found n ≡ bytes = take_whole n heading (batches (fresh s) is) h in
      let r = reads_cut s t is ok m in
      record {
        group = ap (λ (b : List ℕ). (read_journal t b).group) e ∙ ap (λ (x : Reading). x.group) r;
        file = ap (λ (b : List ℕ). headed (cut_off (read_journal t b).verdict b)) e
            ∙ ap (λ (x : Reading). headed (cut_off x.verdict bytes)) r
            ∙ ap headed (cut_there (length (journal (fresh s) (known n))) bytes ∙ keeps_counted s is ok m)
            ∙ headed_journal (fresh s) (known n);
      }

  -- it is not: what counts wrote nothing, so the group is fresh either way
  fresh_again : fresh t ≡ retimed t (group_after (fresh s) (counted 0 (fresh s) is))
  fresh_again = ap (λ (x : Reading). x.group) (sym (heading_alone_lem t) ∙ reads_cut s t is ok 0)

  heading_again : heading ≡ journal (fresh s) (counted 0 (fresh s) is)
  unfolding journal
  heading_again =
      let j = heading ++ batches (fresh s) (counted 0 (fresh s) is) in
      sym (take_all (length j) heading (omega (arith, length-append heading (batches (fresh s) (counted 0 (fresh s) is)))))
      ∙ ap (take (length j)) (sym (append-nil heading))
      ∙ keeps_counted s is ok 0

  early : (n : ℕ) → n < length heading → Failover n
  unfolding journal cut_off headed
  early n h =
      let z : n - length heading ≡ 0 = omega arith in
      let e : found n ≡ take n heading = take-append-le n heading (batches (fresh s) is) (omega arith) in
      let r = reads_heading t n h in
      record {
        group = ap (λ (b : List ℕ). (read_journal t b).group) e ∙ ap (λ (x : Reading). x.group) r
            ∙ fresh_again ∙ ap (λ (k : ℕ). retimed t (group_after (fresh s) (counted k (fresh s) is))) (sym z);
        file = ap (λ (b : List ℕ). headed (cut_off (read_journal t b).verdict b)) e ∙ ap (λ (x : Reading). headed (cut_off x.verdict (take n heading))) r
            ∙ heading_again ∙ ap (λ (k : ℕ). journal (fresh s) (counted k (fresh s) is)) (sym z);
      }

  failover : (n : ℕ) → Failover n
  failover n = pick (dec_lt n (length heading))
    where
      pick : Dec (n < length heading) → Failover n
      pick (yes q) = early n q
      pick (no q) = late n (omega arith)

-- ---- every life

typed_history : (l : Life) → TypedLife l → ItemsTyped (history_of l)
unfolding history_of counted_in
typed_history (born s) ok = tt
typed_history (acts l c told) ok = typed_after (history_of l) (happens c told) (typed_history l ok.1) ok.0
typed_history (fails l n t) ok =
    typed_after (counted_in n l (history_of l)) (reads t) (typed_counted _ (fresh (born_at l)) (history_of l) (typed_history l ok)) tt

born_file : (s : ℕ) → heading ≡ journal (fresh s) []
unfolding journal batches
born_file s = sym (append-nil heading)

pub continues : (l : Life) → TypedLife l → Continues l
unfolding state_of acted failed history_of born_at counted_in group_after next_group
continues (born s) ok = record { group = refl; file = born_file s }
continues (acts l c told) ok =
    let v = continues l ok.1 in
    let g = fresh (born_at l) in
    record {
      group = ap (λ (x : Group). (stepped x c).group) v.group ∙ sym (next_group_lem g (history_of l) (happens c told));
      file = (λ i. v.file i ++ entry (stored_by (v.group i) (happens c told))) ∙ sym (next_file g (history_of l) (happens c told));
    }
continues (fails l n t) ok =
    let v = continues l ok in
    let g = fresh (born_at l) in
    let r = failover (born_at l) t (history_of l) (typed_history l ok) n in
    let is = counted_in n l (history_of l) in
    record {
      group = ap (λ (f : List ℕ). (read_journal t (take n f)).group) v.file ∙ r.group ∙ sym (next_group_lem g is (reads t));
      file = ap (λ (f : List ℕ). headed (cut_off (read_journal t (take n f)).verdict (take n f))) v.file ∙ r.file ∙ sym (read_file g is t);
    }

-- ---- demand 3

pub single_holder_across : SingleHolderAcross
unfolding SingleHolderOver passage_of
single_holder_across l ok honest = single_holder_over (born_at l) (history_of l) (typed_history l ok)

-- the group that the history has is the broker's
its_group : (l : Life) → TypedLife l → (passage_of l (history_of l)).course.group ≡ (state_of l).group
unfolding passage_of started begun
its_group l ok = group_passage (history_of l) (started (fresh (born_at l))) ∙ sym (continues l ok).group

pub three_rounds_across : ThreeRoundsAcross
unfolding ThreeRoundsOver passage_of
three_rounds_across l ok honest before first second third is unlost i in_force regular one two three p id named =
    let c = (passage_of l (history_of l)).course in
    let typed = typed_split before (first ++ (second ++ third)) (subst ItemsTyped is (typed_history l ok)) in
    subst (λ (g : Group). Settled (record { group = g; history = c.history }) i p id) (its_group l ok)
    (subst (λ (is : List Item). Settled (passage_of l is).course i p id) (sym is)
    (three_rounds_over (born_at l) before typed.0 unlost i in_force first second third typed.1 regular one two three p id named))
