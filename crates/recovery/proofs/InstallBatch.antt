-- The batch of an install: its records 7, laid over the target before, give the entries. Both places of a slot that changes its place have a record 7, since
-- both sets change: so after the places below n its entry is the place after once that is passed, else none once the place before is, else the place before
-- (`Entry`). This needs that every target is a place that there is, or none: no record 7 is written for another, and it would stay where the entry is none.
use Rattle.std.specs.Prelude.{if◌then◌else◌}
use Prim.Native.Nat.{ℕ, zero, suc, ◌+◌, ◌/◌, ◌≤◌, ◌<◌}
use native.Mathlib.Nat.{add-zero, add-suc, suc-add, zero-add}
use native.Mathlib.Omega.{arith}
use mathlib.Core.Path.{◌≡◌, refl, sym, ap, ◌∙◌}
use mathlib.Core.Logic.{◌≢◌}
use mathlib.Core.Bool.{Bool, true, false, not}
use mathlib.Core.List.{List, [], ◌∷◌, ◌++◌, foldl, map}
use mathlib.Core.Option.{none, some}
use lib.IntN.{ℤ, pos}
use lib.ListN.{length, get_or, length-map, get_or-map}
use lib.Seq.{ext_get_or}
use lib.Dec.{eqb, ltb}
use borrow.Author.Tests.{eq-eqb, eqb-true, ne_eqb}
use Rattle.rules.specs.Basics.{any, concat_map, first_with, same, up_to}
use Rattle.rules.specs.Constants.{max_members, max_partitions, no_place, slot_count}
use Rattle.rules.specs.Group.{Group, SlotState, exists, free_slot, set_m, targeted}
use Rattle.rules.specs.Records.{Record, parts_of, target_epoch}
use Rattle.rules.specs.Event.{install, without_rule}
use Rattle.rules.specs.Refusals.{bad_entry, first_bad, is_epoch, misplaced, table}
use Rattle.rules.specs.Effects.{effect, install_effect, install_records, only_if, retargeted, target_record, with_target}
use Rattle.rules.specs.Batches.{Legible, candidate, entries_of, installing, laid, laid_over, retimed, target_epoch_in, targets_in, tried}
use Rattle.rules.proofs.Lists.{not_is_false, same_eq}
use Rattle.theorems.proofs.Cases.{eq_cases, if_cases}
use Rattle.theorems.proofs.Accepting.{AllFalse}
use Rattle.theorems.proofs.Picks.{listed_picked}
use Rattle.theorems.proofs.Moves.{length_retargeted, target_retargeted, target_in}
use Rattle.theorems.proofs.Untouched.{GoodTarget, entry_placed, good_target}
use Rattle.theorems.proofs.LeftOver.{without_rule_lem}
use Rattle.recovery.proofs.Ticks.{alike_members, at_retimed, members_twice, subscribes_retimed}
use Rattle.recovery.proofs.Judging.{Found}

-- ---- one slot

-- the entry x of a slot of which the target was b and becomes a, after the places below n
data Entry (n b a x : ℕ) : Type 0 where
  new : x ≡ a → Entry n b a x
  gone : x ≡ no_place → b < n → n ≤ a → Entry n b a x
  old : x ≡ b → n ≤ b → n ≤ a → Entry n b a x

-- of a place or none, what is no place is none
no_place_lem : (p : ℕ) → (p ≢ no_place → p < max_members) → max_members ≤ p → p ≡ no_place
no_place_lem p h l = eq_cases p no_place (λ e. e) (λ e. let k = h e in absurd (omega arith))

-- place n has a record 7, or its set stays
entry_laid : (n b a x : ℕ) → n < max_members → Entry n b a x → Entry (suc n) b a (if eqb a n then n else (if eqb x n then no_place else x))
entry_laid n b a x l e = eq_cases a n (λ q. rw (eq-eqb a n q) (new (sym q))) (λ q. rw (ne_eqb a n q) (pick q e))
  where
    pick : a ≢ n → Entry n b a x → Entry (suc n) b a (if eqb x n then no_place else x)
    pick q (new f) = rw (ne_eqb x n (λ h. q (sym f ∙ h))) (new f)
    pick q (gone f h k) = rw (ne_eqb x n (λ r. omega arith)) (gone f (omega arith) (omega arith))
    pick q (old f h k) =
        eq_cases x n (λ r. rw (eq-eqb x n r) (gone refl (omega arith) (omega arith))) (λ r. rw (ne_eqb x n r) (old f (omega arith) (omega arith)))

entry_stays : (n b a x : ℕ) → eqb b n ≡ eqb a n → Entry n b a x → Entry (suc n) b a x
entry_stays n b a x e (new f) = new f
entry_stays n b a x e (gone f h k) =
    eq_cases a n (λ q. absurd (let r = eqb-true b n (e ∙ eq-eqb a n q) in omega arith)) (λ q. gone f (omega arith) (omega arith))
entry_stays n b a x e (old f h k) =
    eq_cases a n (λ q. new (f ∙ eqb-true b n (e ∙ eq-eqb a n q) ∙ sym q))
    (λ q. eq_cases b n (λ r. absurd (q (eqb-true a n (sym e ∙ eq-eqb b n r)))) (λ r. old f (omega arith) (omega arith)))

-- after all places, where both targets are places or none
entry_last : (b a x : ℕ) → (b ≢ no_place → b < max_members) → (a ≢ no_place → a < max_members) → Entry max_members b a x → x ≡ a
entry_last b a x before after (new f) = f
entry_last b a x before after (gone f h k) = f ∙ sym (no_place_lem a after k)
entry_last b a x before after (old f h k) = f ∙ no_place_lem b before h ∙ sym (no_place_lem a after k)

-- ---- all slots

length_laid : (p : ℕ) (slots : List ℕ) (n : ℕ) (es : List ℕ) → length (laid p slots n es) ≡ length es
unfolding laid
length_laid p slots n [] = refl
length_laid p slots n (e ∷ es) = ap suc (length_laid p slots (suc n) es)

at_laid : (p : ℕ) (slots : List ℕ) (n : ℕ) (es : List ℕ) (s d : ℕ) → s < length es
    → get_or (laid p slots n es) s d ≡ (if any (eqb (n + s)) slots then p else (if eqb (get_or es s d) p then no_place else get_or es s d))
unfolding laid
at_laid p slots n [] s d h = absurd (omega arith)
at_laid p slots n (e ∷ es) zero d h = rw (add-zero n) refl
at_laid p slots n (e ∷ es) (suc s) d h = rw (add-suc n s, ← (suc-add n s)) (at_laid p slots (suc n) es s d (omega arith))

in_set : (ss : List SlotState) (p s : ℕ) → s < length ss → any (eqb s) (set_m p ss) ≡ eqb (target_in ss s) p
unfolding set_m targeted target_in
in_set ss p s h = listed_picked (targeted p) ss free_slot s h

-- the entries, where the target was that of `before` and becomes that of `after`, after the places below n
record Laid (before after : List SlotState) (n : ℕ) (l : List ℕ) : Type 0 where
  long : length l ≡ slot_count
  at : (s : ℕ) → s < slot_count → Entry n (target_in before s) (target_in after s) (get_or l s no_place)

module _ (before after : List SlotState) (wide : length before ≡ slot_count) (same-wide : length after ≡ slot_count) where
  laid_one : (n : ℕ) (l : List ℕ) → n < max_members → Laid before after n l → Laid before after (suc n) (laid n (set_m n after) 0 l)
  laid_one n l h v = record {
    long = length_laid n (set_m n after) 0 l ∙ v.long;
    at = λ s b.
        rw (at_laid n (set_m n after) 0 l s no_place (omega (arith, v.long)), zero-add s, in_set after n s (omega arith)) (entry_laid n _ _ _ h (v.at s b));
  }

  laid_none : (n : ℕ) (l : List ℕ) → same (set_m n before) (set_m n after) ≡ true → Laid before after n l → Laid before after (suc n) l
  laid_none n l e v = record {
    long = v.long;
    at = λ s b.
        let sets = ap (any (eqb s)) (same_eq (set_m n before) (set_m n after) e) in
        entry_stays n _ _ _ (sym (in_set before n s (omega arith)) ∙ sets ∙ in_set after n s (omega arith)) (v.at s b);
  }

  -- the entries l, with the records 7 of these laid over them, are those after all places
  abbrev Comes : List ℕ → List Record → Type 0
  Comes l rs = Laid before after max_members (foldl laid_over l (targets_in rs))

  laid_all : (e k n : ℕ) (l : List ℕ) → n + k ≡ max_members → Laid before after n l
      → Comes l (concat_map (target_record before after) (up_to n k) ++ (target_epoch e ∷ []))
  unfolding up_to targets_in parts_of target_record only_if laid_over
  laid_all e zero n l h v = let q : n ≡ max_members = omega arith in rw (← q) v
  laid_all e (suc k) n l h v =
      if_cases (λ (rs : List Record). Comes l ((rs ++ concat_map (target_record before after) (up_to (suc n) k)) ++ (target_epoch e ∷ [])))
      (not (same (set_m n before) (set_m n after)))
      (λ _. laid_all e k (suc n) (laid n (set_m n after) 0 l) (omega arith) (laid_one n l (omega arith) v))
      (λ q. laid_all e k (suc n) l (omega arith) (laid_none n l (not_is_false (same (set_m n before) (set_m n after)) q) v))

-- ---- bad entries, ticks aside

topics_same : (t : ℕ) (g : Group) → (retimed t g).topics ≡ g.topics
unfolding retimed
topics_same t g = refl

one_retimed : (t : ℕ) (g : Group) (s e : ℕ) → bad_entry without_rule (retimed t g) s e ≡ bad_entry without_rule g s e
unfolding bad_entry misplaced exists
one_retimed t g s e = rw (at_retimed t g e, subscribes_retimed t (s / max_partitions) (get_or g.members e none), topics_same t g) refl

first_retimed : (t : ℕ) (g : Group) (n : ℕ) (es : List ℕ) → first_with (bad_entry without_rule (retimed t g)) n es ≡ first_with (bad_entry without_rule g) n es
unfolding first_with
first_retimed t g n [] = refl
first_retimed t g n (e ∷ es) = rw (one_retimed t g n e, first_retimed t g (suc n) es) refl

bad_retimed : (t : ℕ) (g : Group) (es : List ℕ) → first_bad without_rule (retimed t g) es ≡ first_bad without_rule g es
unfolding first_bad
bad_retimed t g es = first_retimed t g 0 es

-- ---- an install

-- the first record 6, after the records 7
epoch_read : (before after : List SlotState) (e : ℕ) (ps : List ℕ) → target_epoch_in (concat_map (target_record before after) ps ++ (target_epoch e ∷ [])) ≡ some e
unfolding target_record only_if parts_of
epoch_read before after e [] = refl
epoch_read before after e (p ∷ ps) =
    if_cases (λ (rs : List Record). target_epoch_in ((rs ++ concat_map (target_record before after) ps) ++ (target_epoch e ∷ [])) ≡ some e)
    (not (same (set_m p before) (set_m p after))) (λ _. epoch_read before after e ps) (λ _. epoch_read before after e ps)

module _ (t : ℕ) (g : Group) (v : Legible g) (rule : Bool) (z : ℤ) (es : List ℕ) (rows : AllFalse (table g (install rule z es))) where
  abbrev after : List SlotState
  after = retargeted g.slots es

  abbrev written : List Record
  written = install_records g.slots after g.epoch

  -- whatever passes, passes without the rule
  loose : AllFalse (table g (install without_rule z es))
  loose = pick rule rows
    where
      pick : (r : Bool) → AllFalse (table g (install r z es)) → AllFalse (table g (install without_rule z es))
      pick true h = without_rule_lem g z es h
      pick false h = h

  good : GoodTarget without_rule g es
  good = good_target without_rule g z es loose

  same_long : length after ≡ slot_count
  same_long = length_retargeted g.slots es ∙ v.wide

  target_is : (s : ℕ) → target_in after s ≡ get_or es s no_place
  target_is s = target_retargeted g.slots es s (v.wide ∙ sym good.long)

  first_laid : Laid g.slots after 0 (map (λ s. s.target) g.slots)
  unfolding target_in free_slot
  first_laid = record {
    long = length-map g.slots (λ s. s.target) ∙ v.wide;
    at = λ s b. old (get_or-map (λ s. s.target) g.slots s free_slot) (omega arith) (omega arith);
  }

  entries_are : entries_of (retimed t g) written ≡ es
  unfolding entries_of install_records retimed target_in
  entries_are =
      let r = laid_all g.slots after v.wide same_long g.epoch max_members 0 (map (λ s. s.target) g.slots) refl first_laid in
      ext_get_or no_place _ es (r.long ∙ sym good.long)
      (λ s b. entry_last _ _ _ (v.targets s) (placed s) (r.at s (omega (arith, r.long))) ∙ target_is s)
    where
      placed : (s : ℕ) → target_in after s ≢ no_place → target_in after s < max_members
      placed s h = rw (target_is s) (omega (arith, v.places, entry_placed good s (λ e. h (target_is s ∙ e))))

  epoch_is : target_epoch_in written ≡ some g.epoch
  unfolding install_records
  epoch_is = epoch_read g.slots after g.epoch (up_to 0 max_members)

  candidate_is : candidate t (retimed t g) written ≡ some (tried (retimed t g) (install without_rule (pos g.epoch) es))
  unfolding candidate installing
  candidate_is = rw (epoch_is, entries_are) refl

  not_refused : AllFalse (table (retimed t g) (install without_rule (pos g.epoch) es))
  unfolding table is_epoch retimed
  not_refused =
      (loose.0, (ap not (eq-eqb g.epoch g.epoch refl), (loose.1.1.0, (ap (λ (x : ℕ). ltb x slot_count) (bad_retimed t g es) ∙ loose.1.1.1.0, tt))))

  same_records : (effect (retimed t g) (install without_rule (pos g.epoch) es)).records ≡ (effect g (install rule z es)).records
  unfolding effect install_effect retimed
  same_records = refl

  same_group : (u : ℕ) → retimed u (effect (retimed t g) (install without_rule (pos g.epoch) es)).group ≡ retimed u (effect g (install rule z es)).group
  unfolding effect install_effect with_target retimed
  same_group u =
      alike_members u (effect (retimed t g) (install without_rule (pos g.epoch) es)).group (effect g (install rule z es)).group refl refl refl (members_twice t u g.members) refl

  pub install_found : Found t (retimed t g) (effect g (install rule z es)).records (effect g (install rule z es)).group
  unfolding tried effect install_effect
  install_found = record {
    witness = tried (retimed t g) (install without_rule (pos g.epoch) es);
    found = candidate_is;
    typed = tt;
    rows = not_refused;
    records = same_records;
    group = same_group;
  }
