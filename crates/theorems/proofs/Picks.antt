-- Laws of picks from a list: the first that passes, those that pass, and what the entries of a table have after one was set.
use Rattle.std.specs.Prelude.{if◌then◌else◌}
use Prim.Native.Nat.{ℕ, zero, suc, ◌+◌, ◌<◌, ◌≤◌, suc-le-suc}
use native.Mathlib.Nat.{zero-lt-suc, suc_inj, suc-ne-zero, add-suc, add-zero, le_of_suc-le-suc, not-suc-le-zero, suc-add, zero-add}
use native.Mathlib.Omega.{arith}
use mathlib.Core.Path.{◌≡◌, refl, sym, ap, ◌∙◌, subst}
use mathlib.Core.Logic.{⊎_elim}
use mathlib.Core.Bool.{Bool, true, false, true≢false, false≢true}
use mathlib.Core.List.{List, [], ◌∷◌, map, Memᴰ}
use mathlib.Core.Option.{Option, none, some}
use lib.ListN.{length, get_or, set, replicate}
use lib.Dec.{eqb}
use borrow.Author.Tests.{eq-eqb, eqb-true}
use Rattle.rules.specs.Basics.{any, find, first_with, indices, keep, up_to}
use Rattle.rules.proofs.Lists.{any_mem, indices_sound}
use Rattle.theorems.proofs.Cases.{by_cases, eq_cases, if_cases, never, no_some, none_not, some_inj}

pub blank_at : {A : Type 0} (d : A) (n i : ℕ) → get_or (replicate n d) i d ≡ d
blank_at d zero i = refl
blank_at d (suc n) zero = refl
blank_at d (suc n) (suc i) = blank_at d n i

module _ {A : Type 0} where
  pub any_none_at : (f : A → Bool) (d : A) (l : List A) → ((i : ℕ) → i < length l → f (get_or l i d) ≡ false) → any f l ≡ false
  any_none_at f d [] h = refl
  any_none_at f d (x ∷ xs) h = rw (h 0 (zero-lt-suc (length xs))) (any_none_at f d xs (λ i b. h (suc i) (suc-le-suc b)))

  pub any_none_mem : (f : A → Bool) (l : List A) → ((x : A) → Memᴰ x l → f x ≡ false) → any f l ≡ false
  any_none_mem f [] h = refl
  any_none_mem f (x ∷ xs) h = rw (h x (mathlib.Core.List.Memᴰ.head refl)) (any_none_mem f xs (λ y m. h y (mathlib.Core.List.Memᴰ.tail m)))

  -- none before the first that passes does
  pub find_first : (f : A → Bool) (l : List A) (d : A) (q : ℕ) → q < find f l → f (get_or l q d) ≡ false
  find_first f [] d q h = absurd (not-suc-le-zero h)
  find_first f (x ∷ xs) d q h = if_cases (λ n. q < n → f (get_or (x ∷ xs) q d) ≡ false) (f x) (λ _ k. absurd (not-suc-le-zero k)) (λ e. later e (find_first f xs d) q) h
    where
      later : f x ≡ false → ((k : ℕ) → k < find f xs → f (get_or xs k d) ≡ false) → (q : ℕ) → q < suc (find f xs) → f (get_or (x ∷ xs) q d) ≡ false
      later e ih zero k = e
      later e ih (suc q) k = ih q (le_of_suc-le-suc k)

  -- an index is listed exactly where its element passes
  pub passes : (f : A → Bool) (l : List A) (d : A) (s : ℕ) → Memᴰ s (indices f 0 l) → f (get_or l s d) ≡ true
  passes f l d s m =
      let r = indices_sound f l 0 d m in
      ap (λ (k : ℕ). f (get_or l k d)) (r.1 ∙ zero-add r.0) ∙ r.3

  listed_from : (f : A → Bool) (l : List A) (d : A) (n s : ℕ) → s < length l → f (get_or l s d) ≡ true → Memᴰ (n + s) (indices f n l)
  listed_from f [] d n s h e = absurd (not-suc-le-zero h)
  listed_from f (x ∷ xs) d n zero h e = rw (e, add-zero n) (mathlib.Core.List.Memᴰ.head refl)
  listed_from f (x ∷ xs) d n (suc s) h e =
      let m = listed_from f xs d (suc n) s (le_of_suc-le-suc h) e in
      rw (add-suc n s ∙ sym (suc-add n s)) (if_cases (λ l. Memᴰ (suc n + s) l) (f x) (λ _. mathlib.Core.List.Memᴰ.tail m) (λ _. m))

  pub is_listed : (f : A → Bool) (l : List A) (d : A) (s : ℕ) → s < length l → f (get_or l s d) ≡ true → Memᴰ s (indices f 0 l)
  is_listed f l d s h e = subst (λ (k : ℕ). Memᴰ k (indices f 0 l)) (zero-add s) (listed_from f l d 0 s h e)

  -- after each element changed
  pub indices_map : (f : A → Bool) (h : A → A) → ((x : A) → f (h x) ≡ f x) → (l : List A) (n : ℕ) → indices f n (map h l) ≡ indices f n l
  indices_map f h e [] n = refl
  indices_map f h e (x ∷ xs) n = rw (e x, indices_map f h e xs (suc n)) refl

  pub indices_map_none : (f : A → Bool) (h : A → A) → ((x : A) → f (h x) ≡ false) → (l : List A) (n : ℕ) → indices f n (map h l) ≡ []
  indices_map_none f h e [] n = refl
  indices_map_none f h e (x ∷ xs) n = rw (e x, indices_map_none f h e xs (suc n)) refl

  -- an entry that is there, and one that is set to none
  pub some_lt : (l : List (Option A)) (i : ℕ) (a : A) → get_or l i none ≡ some a → i < length l
  some_lt [] i a e = absurd (no_some a e)
  some_lt (x ∷ xs) zero a e = omega arith
  some_lt (x ∷ xs) (suc i) a e = omega (arith, some_lt xs i a e)

  pub none_set : (l : List (Option A)) (i : ℕ) → get_or (set l i none) i none ≡ none
  none_set [] i = refl
  none_set (x ∷ xs) zero = refl
  none_set (x ∷ xs) (suc i) = none_set xs i

  -- ---- what each entry of a table has

  module _ (Q : A → Type 0) where
    abbrev pub Each : List (Option A) → Type 0
    Each l = (p : ℕ) (a : A) → get_or l p none ≡ some a → Q a

    each_set : (l : List (Option A)) (p : ℕ) (x : Option A) → ((a : A) → x ≡ some a → Q a) → Each l → Each (set l p x)
    each_set [] p x h each q a e = each q a e
    each_set (y ∷ l) zero x h each zero a e = h a e
    each_set (y ∷ l) zero x h each (suc q) a e = each (suc q) a e
    each_set (y ∷ l) (suc p) x h each zero a e = each zero a e
    each_set (y ∷ l) (suc p) x h each (suc q) a e = each_set l p x h (λ i. each (suc i)) q a e

    pub each_none : (l : List (Option A)) (p : ℕ) → Each l → Each (set l p none)
    each_none l p = each_set l p none (λ a e. absurd (no_some a e))

    pub each_put : (l : List (Option A)) (p : ℕ) (b : A) → Q b → Each l → Each (set l p (some b))
    each_put l p b h = each_set l p (some b) (λ a e. subst Q (some_inj e) h)

    pub each_absent : (n : ℕ) → Each (replicate n none)
    each_absent n p a e = absurd (none_not (blank_at none n p) e)

-- ---- picks by their tests

pub indices_ext : {A B : Type 0} (f : A → Bool) (k : B → Bool) (d : A) (c : B) (l : List A) (r : List B) (n : ℕ) → length l ≡ length r
    → ((i : ℕ) → i < length l → f (get_or l i d) ≡ k (get_or r i c)) → indices f n l ≡ indices k n r
indices_ext f k d c [] [] n e h = refl
indices_ext f k d c [] (y ∷ ys) n e h = absurd (suc-ne-zero (length ys) (sym e))
indices_ext f k d c (x ∷ xs) [] n e h = absurd (suc-ne-zero (length xs) e)
indices_ext f k d c (x ∷ xs) (y ∷ ys) n e h =
    rw (h 0 (zero-lt-suc (length xs)), indices_ext f k d c xs ys (suc n) (suc_inj e) (λ i b. h (suc i) (suc-le-suc b))) refl

pub indices_none : {A : Type 0} (f : A → Bool) (d : A) (l : List A) (n : ℕ) → ((i : ℕ) → i < length l → f (get_or l i d) ≡ false) → indices f n l ≡ []
indices_none f d [] n h = refl
indices_none f d (x ∷ xs) n h = rw (h 0 (zero-lt-suc (length xs)), indices_none f d xs (suc n) (λ i b. h (suc i) (suc-le-suc b))) refl

-- whether a number is listed, as a test: it is the test by which the list was made
listed_as : (l : List ℕ) (s : ℕ) (c : Bool) → (c ≡ true → Memᴰ s l) → (Memᴰ s l → c ≡ true) → any (eqb s) l ≡ c
listed_as l s true in' out = by_cases (any (eqb s) l) (λ e. e) (λ e. absurd (true≢false (sym (eq-eqb s s refl) ∙ any_mem (eqb s) l e (in' refl))))
listed_as l s false in' out = any_none_mem (eqb s) l (λ x m. never (eqb s x) (λ e. false≢true (out (subst (λ (y : ℕ). Memᴰ y l) (sym (eqb-true s x e)) m))))

pub listed_picked : {A : Type 0} (f : A → Bool) (l : List A) (d : A) (s : ℕ) → s < length l → any (eqb s) (indices f 0 l) ≡ f (get_or l s d)
listed_picked f l d s h = listed_as (indices f 0 l) s (f (get_or l s d)) (is_listed f l d s h) (passes f l d s)

-- where the first that fails is past the end, none fails
pub none_fails : (f : ℕ → ℕ → Bool) (n : ℕ) (l : List ℕ) → n + length l ≤ first_with f n l → (d i : ℕ) → i < length l → f (n + i) (get_or l i d) ≡ false
unfolding first_with
none_fails f n [] h d i lt = absurd (omega arith)
none_fails f n (x ∷ xs) h d i lt = pick (f n x) refl h i lt (none_fails f (suc n) xs)
  where
    pick : (c : Bool) → f n x ≡ c → n + suc (length xs) ≤ (if c then n else first_with f (suc n) xs) → (i : ℕ) → i < suc (length xs)
        → (suc n + length xs ≤ first_with f (suc n) xs → (d i : ℕ) → i < length xs → f (suc n + i) (get_or xs i d) ≡ false) → f (n + i) (get_or (x ∷ xs) i d) ≡ false
    pick true e k i b ih = absurd (omega arith)
    pick false e k zero b ih = rw (add-zero n) e
    pick false e k (suc i) b ih = rw (add-suc n i ∙ sym (suc-add n i)) (ih (omega arith) d i (omega arith))

-- and where none fails, it is
pub first_none : (f : ℕ → ℕ → Bool) (d n : ℕ) (l : List ℕ) → ((i : ℕ) → i < length l → f (n + i) (get_or l i d) ≡ false) → first_with f n l ≡ n + length l
unfolding first_with
first_none f d n [] h = sym (add-zero n)
first_none f d n (x ∷ xs) h =
    rw (sym (ap (λ (k : ℕ). f k x) (add-zero n)) ∙ h 0 (omega arith))
    (first_none f d (suc n) xs (λ i b. rw (suc-add n i ∙ sym (add-suc n i)) (h (suc i) (omega arith))) ∙ suc-add n (length xs) ∙ sym (add-suc n (length xs)))

first_least : (f : ℕ → ℕ → Bool) (n : ℕ) (l : List ℕ) → n ≤ first_with f n l
unfolding first_with
first_least f n [] = omega arith
first_least f n (x ∷ xs) = if_cases (λ (k : ℕ). n ≤ k) (f n x) (λ _. omega arith) (λ _. let h = first_least f (suc n) xs in omega arith)

-- the first that fails does, and none before it
pub first_fails : (f : ℕ → ℕ → Bool) (n : ℕ) (l : List ℕ) (d i : ℕ) → i < length l → first_with f n l ≡ n + i
    → (f (n + i) (get_or l i d) ≡ true) × ((j : ℕ) → j < i → f (n + j) (get_or l j d) ≡ false)
unfolding first_with
first_fails f n [] d i lt e = absurd (omega arith)
first_fails f n (x ∷ xs) d i lt e = pick (f n x) refl i lt e (first_fails f (suc n) xs d)
  where
    before : (i : ℕ) → f n x ≡ false → ((j : ℕ) → j < i → f (suc n + j) (get_or xs j d) ≡ false) → (j : ℕ) → j < suc i → f (n + j) (get_or (x ∷ xs) j d) ≡ false
    before i q r zero k = rw (add-zero n) q
    before i q r (suc j) k = rw (add-suc n j ∙ sym (suc-add n j)) (r j (omega arith))

    pick : (c : Bool) → f n x ≡ c → (i : ℕ) → i < suc (length xs) → (if c then n else first_with f (suc n) xs) ≡ n + i
        → ((i : ℕ) → i < length xs → first_with f (suc n) xs ≡ suc n + i → (f (suc n + i) (get_or xs i d) ≡ true) × ((j : ℕ) → j < i → f (suc n + j) (get_or xs j d) ≡ false))
        → (f (n + i) (get_or (x ∷ xs) i d) ≡ true) × ((j : ℕ) → j < i → f (n + j) (get_or (x ∷ xs) j d) ≡ false)
    pick true q zero b h ih = (rw (add-zero n) q, λ j k. absurd (omega arith))
    pick true q (suc i) b h ih = absurd (omega arith)
    pick false q zero b h ih = absurd (omega (arith, first_least f (suc n) xs))
    pick false q (suc i) b h ih =
        let r = ih i (omega arith) (omega arith) in
        (rw (add-suc n i ∙ sym (suc-add n i)) r.0, before i q r.1)

-- where whatever passes one test passes another, the first that fails that comes no earlier
pub first_later : (f h : ℕ → ℕ → Bool) → ((n x : ℕ) → f n x ≡ false → h n x ≡ false) → (n : ℕ) (l : List ℕ) → first_with f n l ≤ first_with h n l
unfolding first_with
first_later f h weaker n [] = omega arith
first_later f h weaker n (x ∷ xs) =
    let rest = first_later f h weaker (suc n) xs in
    by_cases (f n x) (λ e. rw e (first_least h n (x ∷ xs))) (λ e. rw (e, weaker n x e) rest)

-- ---- numbers kept of those below a bound

pub keep_in : (f : ℕ → Bool) (l : List ℕ) (x : ℕ) → Memᴰ x l → f x ≡ true → Memᴰ x (keep f l)
unfolding keep
keep_in f [] x m e = m
keep_in f (y ∷ ys) x m e =
    if_cases (λ l. Memᴰ x l) (f y)
    (λ _. ⊎_elim (λ k. mathlib.Core.List.Memᴰ.head k) (λ k. mathlib.Core.List.Memᴰ.tail (keep_in f ys x k e)) (mathlib.Core.List.Memᴰ.cases_cons m))
    (λ q. ⊎_elim (λ k. absurd (false≢true (sym q ∙ ap f (sym k) ∙ e))) (λ k. keep_in f ys x k e) (mathlib.Core.List.Memᴰ.cases_cons m))

pub keep_passes : (f : ℕ → Bool) (l : List ℕ) (x : ℕ) → Memᴰ x (keep f l) → Memᴰ x l × (f x ≡ true)
unfolding keep
keep_passes f [] x m = absurd (mathlib.Core.List.Memᴰ.not-nil m)
keep_passes f (y ∷ ys) x m =
    let later : Memᴰ x (keep f ys) → Memᴰ x (y ∷ ys) × (f x ≡ true) = λ k. let r = keep_passes f ys x k in (mathlib.Core.List.Memᴰ.tail r.0, r.1) in
    if_cases (λ l. Memᴰ x l → Memᴰ x (y ∷ ys) × (f x ≡ true)) (f y)
    (λ e k. ⊎_elim (λ j. (mathlib.Core.List.Memᴰ.head j, ap f j ∙ e)) later (mathlib.Core.List.Memᴰ.cases_cons k)) (λ _. later) m

pub up_to_in : (n k x : ℕ) → n ≤ x → x < n + k → Memᴰ x (up_to n k)
unfolding up_to
up_to_in n zero x l h = absurd (omega arith)
up_to_in n (suc k) x l h = eq_cases x n (λ e. mathlib.Core.List.Memᴰ.head e) (λ e. mathlib.Core.List.Memᴰ.tail (up_to_in (suc n) k x (omega arith) (omega arith)))

pub up_to_below : (n k x : ℕ) → Memᴰ x (up_to n k) → x < n + k
unfolding up_to
up_to_below n zero x m = absurd (mathlib.Core.List.Memᴰ.not-nil m)
up_to_below n (suc k) x m = ⊎_elim (λ e. omega arith) (λ h. omega (arith, up_to_below (suc n) k x h)) (mathlib.Core.List.Memᴰ.cases_cons m)
