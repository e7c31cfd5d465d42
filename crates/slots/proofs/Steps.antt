-- The slots of a set, from one to the next. The next one is the lowest bit of what is left of a word (`take_first`), and `w & (w - 1)` takes that bit off
-- (`take_off`); where nothing is left (`none_in`), the walk enters the next word (`enter`).
use Rattle.std.proofs.Common.{◌≡◌, refl, sym, ap, ◌∙◌, Bool, true, false, not, ◌&&◌, List, [], ◌∷◌, ◌++◌, ℕ, zero, suc, ◌+◌, ◌-◌, ◌*◌, ◌/◌, ◌%◌, ◌^◌, ◌≤◌, ◌<◌, add-suc, add-zero, mod-lt, pow-suc, suc-add, arith, eqb, lit<, get_or}
use mathlib.Core.Bool.{and-false}
use lib.Bits.{bit_and}
use lib.Count.{count_trailing_zeros, under}
use lib.Dec.{eqb-suc-suc, eqb-suc-zero}
use Rattle.rules.specs.Basics.{keep, up_to}
use Rattle.rules.proofs.Lists.{keep_ext}
use Rattle.slots.specs.Set.{bit, has, select, slots_of, word_count}
use Rattle.slots.specs.Walk.{slots_in, slots_from}
use Rattle.slots.proofs.Bits.{bit_and_lem, bit_low, bit_suc, bit_zero}
use Rattle.slots.proofs.Next.{trailing, trailing_lt}
use Rattle.slots.proofs.Selecting.{select_split}

twice : (b : Bool) → (b && b) ≡ (b && not false)
twice true = refl
twice false = refl

-- a word and one below it have the same bits, but for the lowest that is set and those below it
below_lowest : (k w : ℕ) → 0 < w → w < 2 ^ k → (i : ℕ) → (bit w i && bit (w - 1) i) ≡ (bit w i && not (eqb i (count_trailing_zeros k w)))
unfolding count_trailing_zeros
below_lowest zero w p h = absurd (omega arith)
below_lowest (suc k) w p h = go (w % 2) refl (mod-lt w (lit< tt)) (below_lowest k (w / 2))
  where
    h2 : w < 2 ^ k * 2
    h2 = rw pow-suc at h

    low : (x d : ℕ) → x % 2 ≡ d → bit x 0 ≡ eqb d 1
    low x d e = bit_low x ∙ ap (λ (y : ℕ). eqb y 1) e

    go : (d : ℕ) → w % 2 ≡ d → d < 2
        → (0 < w / 2 → w / 2 < 2 ^ k → (i : ℕ) → (bit (w / 2) i && bit (w / 2 - 1) i) ≡ (bit (w / 2) i && not (eqb i (count_trailing_zeros k (w / 2)))))
        → (i : ℕ) → (bit w i && bit (w - 1) i) ≡ (bit w i && not (eqb i (under d (count_trailing_zeros k (w / 2)))))
    go zero e l ih zero = rw (low w 0 e) refl
    go zero e l ih (suc i) =
        let half : (w - 1) / 2 ≡ w / 2 - 1 = omega arith in
        rw (bit_suc w i, bit_suc (w - 1) i, half, eqb-suc-suc i (count_trailing_zeros k (w / 2))) (ih (omega arith) (omega arith) i)
    go (suc zero) e l ih zero = rw (low (w - 1) 0 (omega arith)) refl
    go (suc zero) e l ih (suc i) =
        let half : (w - 1) / 2 ≡ w / 2 = omega arith in
        rw (bit_suc w i, bit_suc (w - 1) i, half, eqb-suc-zero i) (twice (bit (w / 2) i))
    go (suc (suc d)) e l ih i = absurd (omega arith)

-- the word without its lowest bit
take_off : (w i : ℕ) → 0 < w → w < 2 ^ 64 → bit (bit_and w (w - 1)) i ≡ (bit w i && not (eqb i (count_trailing_zeros 64 w)))
take_off w i p h = bit_and_lem w (w - 1) i ∙ below_lowest 64 w p h i

-- the first number that is picked, and those that are picked when it is not
select_first : (f g : ℕ → Bool) (n b t : ℕ) → t < n → ((i : ℕ) → i < t → f (b + i) ≡ false) → f (b + t) ≡ true
    → ((i : ℕ) → i < n → g (b + i) ≡ (f (b + i) && not (eqb i t))) → select f b n ≡ (b + t) ∷ select g b n
unfolding keep up_to
select_first f g zero b t l before on is = absurd (omega arith)
select_first f g (suc n) b zero l before on is =
    let here : f b ≡ true = ap f (sym (add-zero b)) ∙ on in
    let gone : g b ≡ false = ap g (sym (add-zero b)) ∙ is 0 (omega arith) ∙ and-false (f (b + 0)) in
    rw (here, gone, add-zero b) (ap (λ (l : List ℕ). b ∷ l) (keep_ext f g (suc b) n (λ s p q. sym (later s p q))))
  where
    later : (s : ℕ) → suc b ≤ s → s < suc b + n → g s ≡ f s
    later s p q =
        let e : b + suc (s - suc b) ≡ s = omega arith in
        ap g (sym e) ∙ is (suc (s - suc b)) (omega arith) ∙ rw (e, eqb-suc-zero (s - suc b)) (same (f s))
      where
        same : (x : Bool) → (x && not false) ≡ x
        same true = refl
        same false = refl
select_first f g (suc n) b (suc t) l before on is =
    let out : f b ≡ false = ap f (sym (add-zero b)) ∙ before 0 (omega arith) in
    let gone : g b ≡ false = ap g (sym (add-zero b)) ∙ is 0 (omega arith) ∙ ap (λ (x : Bool). x && not (eqb 0 (suc t))) (ap f (add-zero b) ∙ out) in
    rw (out, gone, add-suc b t, ← suc-add b t) (select_first f g n (suc b) t (omega arith) (λ i q. at i ∙ before (suc i) (omega arith)) (at t ∙ on)
    (λ i q. ap g (next i) ∙ is (suc i) (omega arith) ∙ rw (next i, eqb-suc-suc i t) refl))
  where
    next : (i : ℕ) → suc b + i ≡ b + suc i
    next i = omega arith

    at : (i : ℕ) → f (suc b + i) ≡ f (b + suc i)
    at i = ap f (next i)

-- the slot of the lowest bit, and those of the others
pub take_first : (w i : ℕ) → 0 < w → w < 2 ^ 64 → slots_in w i ≡ (i * 64 + count_trailing_zeros 64 w) ∷ slots_in (bit_and w (w - 1)) i
take_first w i p h =
    select_first (λ s. bit w (s % 64)) (λ s. bit (bit_and w (w - 1)) (s % 64)) 64 (i * 64) (count_trailing_zeros 64 w) below
    (λ j l. ap (bit w) (within j (omega (arith, below))) ∙ (trailing 64 w).0 j l) (ap (bit w) (within (count_trailing_zeros 64 w) below) ∙ (trailing 64 w).1 below)
    (λ j l. rw (within j l) (take_off w j p h))
  where
    below : count_trailing_zeros 64 w < 64
    below = trailing_lt 64 w p h

    within : (j : ℕ) → j < 64 → (i * 64 + j) % 64 ≡ j
    within j l = omega arith

-- nothing is left
none_picked : (f : ℕ → Bool) (b n : ℕ) → ((s : ℕ) → f s ≡ false) → select f b n ≡ []
unfolding keep up_to
none_picked f b zero h = refl
none_picked f b (suc n) h = rw (h b) (none_picked f (suc b) n h)

pub none_in : (i : ℕ) → slots_in 0 i ≡ []
none_in i = none_picked (λ s. bit 0 (s % 64)) (i * 64) 64 (λ s. bit_zero (s % 64))

-- the slots from a word on are its own and those of the words after it
pub enter : (ws : List ℕ) (i : ℕ) → i < word_count → slots_from ws i ≡ slots_in (get_or ws i 0) i ++ slots_from ws (i + 1)
enter ws i h =
    let e : (word_count - i) * 64 ≡ 64 + (word_count - (i + 1)) * 64 = omega arith in
    let n : i * 64 + 64 ≡ (i + 1) * 64 = omega arith in
    ap (select (has ws) (i * 64)) e ∙ select_split (has ws) (i * 64) 64 ((word_count - (i + 1)) * 64)
    ∙ ap (λ (b : ℕ). select (has ws) (i * 64) 64 ++ select (has ws) b ((word_count - (i + 1)) * 64)) n
    ∙ ap (λ (l : List ℕ). l ++ slots_from ws (i + 1)) (keep_ext (has ws) (λ s. bit (get_or ws i 0) (s % 64)) (i * 64) 64 own)
  where
    own : (s : ℕ) → i * 64 ≤ s → s < i * 64 + 64 → has ws s ≡ bit (get_or ws i 0) (s % 64)
    own s p q = let e : s / 64 ≡ i = omega arith in ap (λ (k : ℕ). bit (get_or ws k 0) (s % 64)) e

-- past the last word there is nothing
pub none_from : (ws : List ℕ) (i : ℕ) → word_count ≤ i → slots_from ws i ≡ []
unfolding keep up_to
none_from ws i h = let e : (word_count - i) * 64 ≡ 0 = omega arith in ap (select (has ws) (i * 64)) e

pub all_from : (ws : List ℕ) → slots_from ws 0 ≡ slots_of ws
unfolding slots_of
all_from ws = refl

-- ---- a walk: what is left of word i is w

module _ (ws : List ℕ) (w i : ℕ) where
  pub gives : 0 < w → w < 2 ^ 64
      → slots_in w i ++ slots_from ws (i + 1) ≡ (i * 64 + count_trailing_zeros 64 w) ∷ slots_in (bit_and w (w - 1)) i ++ slots_from ws (i + 1)
  gives p h = ap (λ (l : List ℕ). l ++ slots_from ws (i + 1)) (take_first w i p h)

  nothing : w ≡ 0 → slots_in w i ++ slots_from ws (i + 1) ≡ slots_from ws (i + 1)
  nothing e = ap (λ (x : ℕ). slots_in x i ++ slots_from ws (i + 1)) e ∙ ap (λ (l : List ℕ). l ++ slots_from ws (i + 1)) (none_in i)

  pub goes_on : w ≡ 0 → i + 1 < word_count → slots_in w i ++ slots_from ws (i + 1) ≡ slots_in (get_or ws (i + 1) 0) (i + 1) ++ slots_from ws (i + 1 + 1)
  goes_on e h = nothing e ∙ enter ws (i + 1) h

  pub is_over : w ≡ 0 → word_count ≤ i + 1 → slots_in w i ++ slots_from ws (i + 1) ≡ []
  is_over e h = nothing e ∙ none_from ws (i + 1) h
