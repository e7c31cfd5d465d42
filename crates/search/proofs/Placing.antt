-- The first of a list that passes; and IDs compared by their four words.
use Rattle.std.proofs.Common.{ℕ, zero, suc, ◌+◌, ◌-◌, ◌*◌, ◌/◌, ◌%◌, ◌≤◌, ◌<◌, not-suc-le-zero, le_of_suc-le-suc, arith, ◌≡◌, refl, sym, ap, ap₂, ◌∙◌, Bool, true, false, ◌&&◌, List, [], ◌∷◌, eqb, length, get_or, eq-eqb, eqb-true}
use native.Mathlib.Decide.{dec_lt}
use Rattle.std.specs.Prelude.{cond, count_by, slice_range}
use Rattle.std.proofs.lemmas.List.{places}
use Rattle.std.proofs.lemmas.List.Sums.{get_or-le-sum_by}
use Rattle.rules.specs.Basics.{any, find, same}
use Rattle.rules.proofs.Lists.{same_refl, same_eq, and_true}
use Rattle.search.specs.Places.{step, first_word, id_of}

-- ---- the first that passes

-- no place below n passes
abbrev pub NoneBelow : (ℕ → Bool) → ℕ → Type 0
NoneBelow f n = (k : ℕ) → k < n → f k ≡ false

-- nor do those up to m
pub none_to : {f : ℕ → Bool} {n : ℕ} (m : ℕ) → NoneBelow f n → ((k : ℕ) → n ≤ k → k < m → f k ≡ false) → NoneBelow f m
none_to {f} {n} m below next k q = go (dec_lt k n)
  where
    go : Dec (k < n) → f k ≡ false
    go (yes l) = below k l
    go (no l) = next k (omega arith) q

-- a step that lacks a number has no place with it
pub lacks : (a : ℕ) (ids : List ℕ) (from : ℕ) → from + step ≤ length ids → count_by (λ x. eqb x a) (slice_range ids from (from + step)) ≡ 0
    → (k : ℕ) → from ≤ k → k < from + step → eqb (get_or ids k 0) a ≡ false
lacks a ids from room none k p q = go (eqb (get_or ids k 0) a) refl
  where
    part : List ℕ
    part = slice_range ids from (from + step)

    here : get_or part (k - from) 0 ≡ get_or ids k 0
    here = grind (arith, places)

    one : cond (eqb (get_or part (k - from) 0) a) 1 0 ≤ count_by (λ x. eqb x a) part
    one = get_or-le-sum_by (λ x. cond (eqb x a) 1 0) part (k - from) 0 (grind (arith, places))

    go : (b : Bool) → eqb (get_or ids k 0) a ≡ b → b ≡ false
    go false e = refl
    go true e = let c = rw (here, e) at one in absurd (omega (arith, c, none))

module _ {A : Type 0} (f : A → Bool) (d : A) where
  pub find_at : (l : List A) (r : ℕ) → r < length l → ((k : ℕ) → k < r → f (get_or l k d) ≡ false) → f (get_or l r d) ≡ true → (find f l ≡ r) × (any f l ≡ true)
  find_at [] r h b t = absurd (not-suc-le-zero h)
  find_at (x ∷ l) zero h b t = (rw t, rw t)
  find_at (x ∷ l) (suc r) h b t =
      let e : f x ≡ false = b 0 (omega arith) in
      let i = find_at l r (le_of_suc-le-suc h) (λ k q. b (suc k) (omega arith)) t in
      (rw e (ap suc i.0), rw e i.1)

-- ---- IDs as words

abbrev word_at : ℕ → List ℕ → ℕ
word_at k l = get_or l k 0 + 256 * get_or l (k + 1) 0 + 65536 * get_or l (k + 2) 0 + 16777216 * get_or l (k + 3) 0

read : (w : ℕ) → w % 256 + 256 * (w / 256 % 256) + 65536 * (w / 256 / 256 % 256) + 16777216 * (w / 256 / 256 / 256) ≡ w
read w =
    let a : w ≡ w % 256 + 256 * (w / 256) = omega arith in
    let b : w / 256 ≡ w / 256 % 256 + 256 * (w / 256 / 256) = omega arith in
    let c : w / 256 / 256 ≡ w / 256 / 256 % 256 + 256 * (w / 256 / 256 / 256) = omega arith in
    omega (arith, a, b, c)

sum_fits : (b c d : ℕ) → b < 4294967296 → c < 4294967296 → d < 4294967296 → b + c + d ≤ 12884901888
sum_fits b c d p q r = omega arith

sum_same : (m n s : ℕ) → m < 4294967296 → n < 4294967296 → s ≤ 12884901888 → (m + 12884901888 - s) % 4294967296 ≡ (n + 12884901888 - s) % 4294967296 → m ≡ n
sum_same m n s p q r e = omega (arith, e)

module _ (m b c d m' b' c' d' : ℕ) (fm : m < 4294967296) (fb : b < 4294967296) (fc : c < 4294967296) (fd : d < 4294967296) (fm' : m' < 4294967296) (fb' : b' < 4294967296) (fc' : c' < 4294967296) (fd' : d' < 4294967296) where
  abbrev equal : Bool
  equal = eqb m m' && (eqb b b' && (eqb c c' && eqb d d'))

  words_of : id_of m b c d ≡ id_of m' b' c' d' → (m ≡ m') × (b ≡ b') × (c ≡ c') × (d ≡ d')
  unfolding id_of first_word
  words_of e =
      let e₀ : first_word m b c d ≡ first_word m' b' c' d' = sym (read (first_word m b c d)) ∙ ap (word_at 0) e ∙ read (first_word m' b' c' d') in
      let e₁ : b ≡ b' = sym (read b) ∙ ap (word_at 4) e ∙ read b' in
      let e₂ : c ≡ c' = sym (read c) ∙ ap (word_at 8) e ∙ read c' in
      let e₃ : d ≡ d' = sym (read d) ∙ ap (word_at 12) e ∙ read d' in
      let s : b + c + d ≡ b' + c' + d' = ap₂ (λ (x y : ℕ). x + y) (ap₂ (λ (x y : ℕ). x + y) e₁ e₂) e₃ in
      let t : (m + 12884901888 - (b + c + d)) % 4294967296 ≡ (m' + 12884901888 - (b + c + d)) % 4294967296 = e₀ ∙ ap (λ (x : ℕ). (m' + 12884901888 - x) % 4294967296) (sym s) in
      (sum_same m m' (b + c + d) fm fm' (sum_fits b c d fb fc fd) t, e₁, e₂, e₃)

  pub same_words : same (id_of m b c d) (id_of m' b' c' d') ≡ equal
  same_words = go (same (id_of m b c d) (id_of m' b' c' d')) equal refl refl
    where
      go : (x y : Bool) → same (id_of m b c d) (id_of m' b' c' d') ≡ x → equal ≡ y → x ≡ y
      go true true p q = refl
      go false false p q = refl
      go true false p q =
          let w = words_of (same_eq (id_of m b c d) (id_of m' b' c' d') p) in
          sym (sym q ∙ rw (eq-eqb m m' w.0, eq-eqb b b' w.1, eq-eqb c c' w.2, eq-eqb d d' w.3))
      go false true p q =
          let i = and_true (eqb m m') _ q in
          let j = and_true (eqb b b') _ i.1 in
          let k = and_true (eqb c c') _ j.1 in
          sym p ∙ ap₂ (λ (u v : List ℕ). same u v) (λ t. id_of (eqb-true m m' i.0 t) (eqb-true b b' j.0 t) (eqb-true c c' k.0 t) (eqb-true d d' k.1 t)) refl ∙ same_refl (id_of m' b' c' d')
