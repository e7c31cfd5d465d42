-- Partitions shared out in runs. Of the partitions that are given, each has an owner among the subscribers (`owner_is`), whose index rises with the partition
-- (`owner_rises`); each subscriber gets the share of its index (`share_is`).
use Rattle.std.specs.Prelude.{if◌then◌else◌}
use Prim.Native.Nat.{ℕ, zero, suc, ◌+◌, ◌-◌, ◌≤◌, ◌<◌}
use native.Mathlib.Omega.{arith}
use native.Mathlib.Decide.{dec_lt}
use native.Mathlib.Nat.{add-suc, add-zero, suc-add, zero-add}
use mathlib.Core.Path.{◌≡◌, refl, sym, ap, ◌∙◌, subst}
use mathlib.Core.Logic.{◌≢◌, ◌⊎◌, inl, inr}
use mathlib.Core.Bool.{true≢false}
use mathlib.Core.List.Memᴰ
use mathlib.Core.List.{List, [], ◌∷◌, ◌++◌, Memᴰ}
use lib.Dec.{eqb, ltb}
use lib.ListN.{length, get_or, replicate, length-append, length-replicate, get_or-replicate, get_or-append}
use lib.Seq.{get_or-append-add}
use borrow.Author.Tests.{eq-eqb, ne_eqb, lt-ltb, le-ltb}
use Rattle.rules.specs.Basics.{keep}
use Rattle.rules.specs.Constants.{no_place}
use Rattle.rules.specs.Assignor.{precedes, runs, share}
use Rattle.ranges.proofs.Sorting.{Before, Each, Sorted, each_at, each_map, precedes_self}
use Rattle.theorems.proofs.Cases.{by_cases}

-- ---- lists

pub get_d_second : (a b : List ℕ) (x d : ℕ) → length a ≤ x → get_or (a ++ b) x d ≡ get_or b (x - length a) d
get_d_second a b x d h = let e : x ≡ length a + (x - length a) = omega arith in ap (λ (y : ℕ). get_or (a ++ b) y d) e ∙ get_or-append-add a b (x - length a) d

-- how often a place is among the entries
abbrev pub times : ℕ → List ℕ → ℕ
times p l = length (keep (λ e. eqb e p) l)

pub times_append : (p : ℕ) (a b : List ℕ) → times p (a ++ b) ≡ times p a + times p b
unfolding keep
times_append p [] b = sym (zero-add (times p b))
times_append p (x ∷ xs) b = by_cases (eqb x p) (λ e. rw e (ap suc (times_append p xs b) ∙ sym (suc-add (times p xs) (times p b)))) (λ e. rw e (times_append p xs b))

times_same : (c p : ℕ) → times p (replicate c p) ≡ c
unfolding keep
times_same zero p = refl
times_same (suc c) p = rw (eq-eqb p p refl) (ap suc (times_same c p))

pub times_other : (c p q : ℕ) → q ≢ p → times p (replicate c q) ≡ 0
unfolding keep
times_other zero p q h = refl
times_other (suc c) p q h = rw (ne_eqb q p h) (times_other c p q h)

-- ---- runs

module _ (n k : ℕ) where
  -- the index, among the subscribers ps, of the owner of partition x
  unfoldable pub owner : ℕ → List ℕ → ℕ → ℕ
  owner i [] x = 0
  owner i (p ∷ ps) x = if ltb x (share n k i) then 0 else suc (owner (suc i) ps (x - share n k i))

  pub owner_is : (i : ℕ) (ps : List ℕ) (x d : ℕ) → x < length (runs n k i ps) → (owner i ps x < length ps) × (get_or (runs n k i ps) x d ≡ get_or ps (owner i ps x) d)
  unfolding runs owner
  owner_is i [] x d h = absurd (omega arith)
  owner_is i (p ∷ ps) x d h = go (dec_lt x (share n k i)) (owner_is (suc i) ps (x - share n k i) d)
    where
      s : length (replicate (share n k i) p) ≡ share n k i
      s = length-replicate (share n k i) p

      go : Dec (x < share n k i)
          → (x - share n k i < length (runs n k (suc i) ps) → (owner (suc i) ps (x - share n k i) < length ps) × (get_or (runs n k (suc i) ps) (x - share n k i) d ≡ get_or ps (owner (suc i) ps (x - share n k i)) d))
          → ((if ltb x (share n k i) then 0 else suc (owner (suc i) ps (x - share n k i))) < suc (length ps))
          × (get_or (replicate (share n k i) p ++ runs n k (suc i) ps) x d ≡ get_or (p ∷ ps) (if ltb x (share n k i) then 0 else suc (owner (suc i) ps (x - share n k i))) d)
      go (yes l) ih =
          rw (lt-ltb x (share n k i) l)
          (omega arith, get_or-append (replicate (share n k i) p) (runs n k (suc i) ps) d x (omega (arith, s)) ∙ get_or-replicate (share n k i) x p d l)
      go (no l) ih =
          let e = simp length-append at h in
          let r = ih (omega (arith, s, e)) in
          let z : x - length (replicate (share n k i) p) ≡ x - share n k i = ap (λ (m : ℕ). x - m) s in
          rw (le-ltb x (share n k i) (omega arith))
          (omega (arith, r.0), get_d_second (replicate (share n k i) p) (runs n k (suc i) ps) x d (omega (arith, s)) ∙ ap (λ (y : ℕ). get_or (runs n k (suc i) ps) y d) z ∙ r.1)

  pub owner_rises : (i : ℕ) (ps : List ℕ) (x y : ℕ) → x ≤ y → owner i ps x ≤ owner i ps y
  unfolding owner
  owner_rises i [] x y h = omega arith
  owner_rises i (p ∷ ps) x y h = go (dec_lt x (share n k i)) (dec_lt y (share n k i)) (owner_rises (suc i) ps (x - share n k i) (y - share n k i) (omega arith))
    where
      go : Dec (x < share n k i) → Dec (y < share n k i) → owner (suc i) ps (x - share n k i) ≤ owner (suc i) ps (y - share n k i)
          → (if ltb x (share n k i) then 0 else suc (owner (suc i) ps (x - share n k i))) ≤ (if ltb y (share n k i) then 0 else suc (owner (suc i) ps (y - share n k i)))
      go (yes a) b ih = rw (lt-ltb x (share n k i) a) (omega arith)
      go (no a) (yes b) ih = absurd (omega arith)
      go (no a) (no b) ih = rw (le-ltb x (share n k i) (omega arith), le-ltb y (share n k i) (omega arith)) (omega arith)

  -- who is not among the subscribers gets nothing
  none_gets : (p i : ℕ) (ps : List ℕ) → Each (λ q. q ≢ p) ps → times p (runs n k i ps) ≡ 0
  unfolding runs keep
  none_gets p i [] h = refl
  none_gets p i (q ∷ ps) h =
      times_append p (replicate (share n k i) q) (runs n k (suc i) ps) ∙ rw (times_other (share n k i) p q h.0, none_gets p (suc i) ps h.1)

-- nobody comes before himself
pub not_self : (key : ℕ → List ℕ) (p q : ℕ) → p ≡ q → Before key p q → ⊥
not_self key p q e (inl h) = true≢false (sym h ∙ ap (λ (x : ℕ). precedes (key x) (key q)) e ∙ precedes_self (key q))
not_self key p q e (inr h) = omega (arith, h.1)

-- the index of a subscriber, and the share that it gets
pub record HasShare (n k i : ℕ) (ps : List ℕ) (p : ℕ) : Type 0 where
  pub index : ℕ
  pub inside : index < length ps
  pub here : get_or ps index no_place ≡ p
  pub size : times p (runs n k i ps) ≡ share n k (i + index)

module _ (key : ℕ → List ℕ) (n k p : ℕ) where
  pub share_is : (i : ℕ) (ps : List ℕ) → Sorted key ps → Memᴰ p ps → HasShare n k i ps p
  unfolding runs
  share_is i [] s m = absurd (Memᴰ.not-nil m)
  share_is i (q ∷ ps) s m = go (Memᴰ.cases_cons m) (share_is (suc i) ps s.1)
    where
      first : p ≡ q → HasShare n k i (q ∷ ps) p
      first e =
          let others = each_map {P = Before key q} {Q = λ x. x ≢ p} (λ x h z. not_self key q x (sym (z ∙ e)) h) ps s.0 in
          record {
            index = 0;
            inside = omega arith;
            here = sym e;
            size = times_append p (replicate (share n k i) q) (runs n k (suc i) ps)
                ∙ rw (none_gets n k p (suc i) ps others, sym e, times_same (share n k i) p, add-zero (share n k i), add-zero i);
          }

      later : HasShare n k (suc i) ps p → HasShare n k i (q ∷ ps) p
      later r =
          let before : Before key q p = subst (Before key q) r.here (each_at (Before key q) ps no_place r.index s.0 r.inside) in
          record {
            index = suc r.index;
            inside = omega (arith, r.inside);
            here = r.here;
            size = times_append p (replicate (share n k i) q) (runs n k (suc i) ps)
                ∙ rw (times_other (share n k i) p q (λ e. not_self key q p e before), zero-add (times p (runs n k (suc i) ps)))
                (r.size ∙ ap (share n k) (suc-add i r.index ∙ sym (add-suc i r.index)));
          }

      go : (p ≡ q) ⊎ Memᴰ p ps → (Memᴰ p ps → HasShare n k (suc i) ps p) → HasShare n k i (q ∷ ps) p
      go (inl e) ih = first e
      go (inr h) ih = later (ih h)
