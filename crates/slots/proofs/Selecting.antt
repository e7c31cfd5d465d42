-- The rising list of the numbers that a test picks, by `select`: its first number, its length, which numbers it has, and that numbers that are not picked
-- are stepped over.
use Rattle.std.specs.Prelude.{if◌then◌else◌}
use Rattle.std.proofs.Common.{◌≡◌, refl, sym, ap, ◌∙◌, Bool, true, false, List, [], ◌∷◌, ◌++◌, ℕ, zero, suc, ◌+◌, ◌-◌, ◌≤◌, ◌<◌, add-suc, add-zero, suc-add, zero-add, add-one, arith, eqb, length}
use Rattle.rules.specs.Basics.{any, keep, same, up_to}
use Rattle.rules.specs.Constants.{slot_count}
use Rattle.rules.proofs.Lists.{keep_ext, keep_has, same_eq}
use Rattle.slots.specs.Set.{has, select, slots_of}

-- the first of the numbers that are left is picked, or is not
module _ (f : ℕ → Bool) (s n : ℕ) (h : s < n) where
  first_left : n - s ≡ suc (n - (s + 1))
  first_left = omega arith

  pub select_in : f s ≡ true → select f s (n - s) ≡ s ∷ select f (s + 1) (n - (s + 1))
  unfolding keep up_to
  select_in e = rw (first_left, e, add-one s)

  pub select_out : f s ≡ false → select f s (n - s) ≡ select f (s + 1) (n - (s + 1))
  unfolding keep up_to
  select_out e = rw (first_left, e, add-one s)

pub select_le : (f : ℕ → Bool) (b n : ℕ) → length (select f b n) ≤ n
unfolding keep up_to
select_le f b zero = omega arith
select_le f b (suc n) = go (f b) (select f (suc b) n) (select_le f (suc b) n)
  where
    go : (x : Bool) (l : List ℕ) → length l ≤ n → length (if x then b ∷ l else l) ≤ suc n
    go true l h = omega arith
    go false l h = omega arith

pub slots_le : (ws : List ℕ) → length (slots_of ws) ≤ slot_count
unfolding slots_of
slots_le ws = select_le (has ws) 0 slot_count

-- the numbers that are picked, in two parts
if_append : (b : Bool) (x : ℕ) (l r : List ℕ) → (if b then x ∷ (l ++ r) else (l ++ r)) ≡ (if b then x ∷ l else l) ++ r
if_append true x l r = refl
if_append false x l r = refl

pub select_split : (f : ℕ → Bool) (b m n : ℕ) → select f b (m + n) ≡ select f b m ++ select f (b + m) n
unfolding keep up_to
select_split f b zero n = rw (add-zero b, zero-add n)
select_split f b (suc m) n =
    rw (suc-add m n, add-suc b m, select_split f (suc b) m n, suc-add b m) (if_append (f b) b (select f (suc b) m) (select f (suc (b + m)) n))

-- slots that are not picked are stepped over
skip_some : (f : ℕ → Bool) (n k i : ℕ) → i + k ≤ n → ((s : ℕ) → i ≤ s → s < i + k → f s ≡ false) → select f i (n - i) ≡ select f (i + k) (n - (i + k))
skip_some f n zero i h z = ap (λ (j : ℕ). select f j (n - j)) (sym (add-zero i))
skip_some f n (suc k) i h z =
    let e : i + 1 + k ≡ i + suc k = omega arith in
    select_out f i n (omega arith) (z i (omega arith) (omega arith))
    ∙ skip_some f n k (i + 1) (omega arith) (λ s p q. z s (omega arith) (omega arith)) ∙ ap (λ (j : ℕ). select f j (n - j)) e

pub select_skip : (f : ℕ → Bool) (n i j : ℕ) → i ≤ j → j ≤ n → ((s : ℕ) → i ≤ s → s < j → f s ≡ false) → select f i (n - i) ≡ select f j (n - j)
select_skip f n i j h l z =
    let e : i + (j - i) ≡ j = omega arith in
    skip_some f n (j - i) i (omega arith) (λ s p q. z s p (omega arith)) ∙ ap (λ (k : ℕ). select f k (n - k)) e

pub select_none : (f : ℕ → Bool) (i n : ℕ) → i ≤ n → ((s : ℕ) → i ≤ s → s < n → f s ≡ false) → select f i (n - i) ≡ []
unfolding keep up_to
select_none f i n h z = let e : n - n ≡ 0 = omega arith in select_skip f n i n h (omega arith) z ∙ ap (select f n) e

-- sets that agree have the same list
pub slots_are : (ws : List ℕ) (f : ℕ → Bool) → ((s : ℕ) → s < slot_count → has ws s ≡ f s) → slots_of ws ≡ select f 0 slot_count
unfolding slots_of
slots_are ws f h = keep_ext (has ws) f 0 slot_count (λ s p q. h s (omega arith))

-- a number stands in the list where it is picked
pub slots_have : (ws : List ℕ) (s : ℕ) → s < slot_count → any (eqb s) (slots_of ws) ≡ has ws s
unfolding slots_of
slots_have ws s h = keep_has (has ws) slot_count 0 s (omega arith) (omega arith)

-- two sets that differ at a slot have different lists
pub unlike : (a b : List ℕ) (s : ℕ) → s < slot_count → (has a s ≡ has b s → ⊥) → same (slots_of a) (slots_of b) ≡ false
unlike a b s h d = go (same (slots_of a) (slots_of b)) refl
  where
    go : (x : Bool) → same (slots_of a) (slots_of b) ≡ x → x ≡ false
    go true e = absurd (d (sym (slots_have a s h) ∙ ap (any (eqb s)) (same_eq (slots_of a) (slots_of b) e) ∙ slots_have b s h))
    go false e = refl
