-- How many bytes the records of an install take at most: no slot is in the sets of two places, so that all sets together have no more slots than there are.
use Rattle.std.specs.Prelude.{if◌then◌else◌}
use Rattle.std.proofs.Common.{ℕ, zero, suc, ◌+◌, ◌-◌, ◌*◌, ◌^◌, ◌≤◌, ◌<◌, zero-add, arith, ◌≡◌, refl, sym, ◌∙◌, Bool, true, false, List, [], ◌∷◌, eqb, length, get_or, length-append, ne_eqb}
use native.Mathlib.Decide.{ℕ_discrete}
use Rattle.rules.specs.Basics.{concat_map, indices, keep, up_to}
use Rattle.rules.specs.Constants.{max_members, slot_count}
use Rattle.rules.specs.Group.{targeted, set_m}
use Rattle.rules.specs.Records.{differences, set_bytes, all_bytes, bytes_of}
use Rattle.rules.specs.Effects.{only_if}
use Rattle.rules.proofs.Number.{number_le, number_five}
use Rattle.slots.specs.Set.{select}
use Rattle.slots.proofs.Selecting.{select_le}
use Rattle.records.proofs.Parts.{target_epoch_length}
use Rattle.records.proofs.Lists.{all_none, all_cons, all_append}
use Rattle.installing.specs.Targets.{unheld, target_of, record_at, marked_install, install_most}
use Rattle.installing.specs.Links.{is_of}
use Rattle.installing.proofs.Targets.{set_is}

-- ---- sums over places

sum_from : (ℕ → ℕ) → ℕ → ℕ → ℕ
sum_from f b zero = 0
sum_from f b (suc k) = f b + sum_from f (suc b) k

sum_none : (b k : ℕ) → sum_from (λ _. 0) b k ≡ 0
unfolding sum_from
sum_none b zero = refl
sum_none b (suc k) = zero-add _ ∙ sum_none (suc b) k

-- f is g but at t, where it may be one more
module _ (f g : ℕ → ℕ) (t : ℕ) (other : (p : ℕ) → (p ≡ t → ⊥) → f p ≡ g p) where
  sum_past : (b k : ℕ) → t < b → sum_from f b k ≡ sum_from g b k
  unfolding sum_from
  sum_past b zero h = refl
  sum_past b (suc k) h = rw (other b (λ (e : b ≡ t). omega arith), sum_past (suc b) k (omega arith))

  sum_one : f t ≤ 1 + g t → (b k : ℕ) → sum_from f b k ≤ 1 + sum_from g b k
  unfolding sum_from
  sum_one h b zero = omega arith
  sum_one h b (suc k) = go (ℕ_discrete b t) (sum_one h (suc b) k)
    where
      go : Dec (b ≡ t) → sum_from f (suc b) k ≤ 1 + sum_from g (suc b) k → f b + sum_from f (suc b) k ≤ 1 + (g b + sum_from g (suc b) k)
      go (yes e) ih = let x : f b ≤ 1 + g b = rw e h in omega (arith, x, sum_past (suc b) k (omega (arith, e)))
      go (no e) ih = omega (arith, ih, other b e)

-- ---- the slots of all places

abbrev held_from : List ℕ → ℕ → ℕ → ℕ
held_from ts n p = length (indices (targeted p) n (unheld ts))

held_le : (ts : List ℕ) (n b k : ℕ) → sum_from (held_from ts n) b k ≤ length ts
unfolding unheld targeted
held_le [] n b k = omega (arith, sum_none b k)
held_le (t ∷ ts) n b k = omega (arith, sum_one (held_from (t ∷ ts) n) (held_from ts (suc n)) t other (one (eqb t t) (held_from ts (suc n) t) refl) b k, held_le ts (suc n) b k)
  where
    other : (p : ℕ) → (p ≡ t → ⊥) → held_from (t ∷ ts) n p ≡ held_from ts (suc n) p
    other p d = rw (ne_eqb t p (λ e. d (sym e)))

    one : (x : Bool) (m : ℕ) → m ≡ held_from ts (suc n) t → length (let l = indices (targeted t) (suc n) (unheld ts) in if x then n ∷ l else l) ≤ 1 + m
    one true m e = omega (arith, e)
    one false m e = omega (arith, e)

-- ---- the records

-- at most two bytes for each slot
differences_two : (f : ℕ → Bool) (p s n : ℕ) → s + n ≤ 128 ^ 2 → length (differences p (select f s n)) ≤ 2 * length (select f s n)
unfolding differences keep up_to
differences_two f p s zero h = omega arith
differences_two f p s (suc n) h = go (f s) (select f (suc s) n) (λ q. differences_two f q (suc s) n (omega arith))
  where
    go : (b : Bool) (l : List ℕ) → ((q : ℕ) → length (differences q l) ≤ 2 * length l) → length (differences p (if b then s ∷ l else l)) ≤ 2 * length (if b then s ∷ l else l)
    go true l ih = rw length-append (omega (arith, number_le 1 (s - p) (omega arith), ih s))
    go false l ih = ih p

module _ (marks : List Bool) (target : List ℕ) (whole : length target ≡ slot_count) where
  target_le : (p : ℕ) → p < 128 → length (bytes_of (target_of target p)) ≤ 4 + 2 * held_from target 0 p
  unfolding bytes_of target_of set_bytes set_m
  target_le p h =
      let l = set_m p (unheld target) in
      let e : l ≡ select (is_of target p) 0 slot_count = set_is p target whole in
      let d : length (differences 0 l) ≤ 2 * length l = rw e (differences_two (is_of target p) 0 0 slot_count (omega arith)) in
      let n : length l ≤ slot_count = rw e (select_le (is_of target p) 0 slot_count) in
      rw (length-append, length-append) (omega (arith, number_le 0 p (omega arith), number_le 1 (length l) (omega (arith, n)), d))

  at_le : (p : ℕ) → p < 128 → length (all_bytes (record_at marks target p)) ≤ 4 + 2 * held_from target 0 p
  unfolding only_if
  at_le p h = go (get_or marks p false)
    where
      go : (x : Bool) → length (all_bytes (only_if x (target_of target p))) ≤ 4 + 2 * held_from target 0 p
      go true = rw (all_cons, all_none, length-append) (omega (arith, target_le p h))
      go false = rw all_none (omega arith)

  records_le : (b k : ℕ) → b + k ≤ 128 → length (all_bytes (concat_map (record_at marks target) (up_to b k))) ≤ 4 * k + 2 * sum_from (held_from target 0) b k
  unfolding up_to sum_from
  records_le b zero h = rw all_none (omega arith)
  records_le b (suc k) h = rw (all_append, length-append) (omega (arith, at_le b (omega arith), records_le (suc b) k (omega arith)))

  pub install_le : (e : ℕ) → e < 2 ^ 32 → length (all_bytes (marked_install marks target e)) ≤ install_most
  unfolding marked_install
  install_le e h =
      rw (all_append, length-append, all_cons, all_none, length-append)
      (omega (arith, records_le 0 max_members (omega arith), held_le target 0 0 max_members, whole, target_epoch_length e, number_five e (omega arith)))
