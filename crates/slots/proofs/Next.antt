-- The lowest and the highest bit of a word, slots that are all passed over, and whether a set has a slot at all.
use Rattle.std.proofs.Common.{◌≡◌, refl, sym, ap, ◌∙◌, Bool, true, false, true≢false, List, [], ◌∷◌, ℕ, zero, suc, ◌+◌, ◌*◌, ◌/◌, ◌%◌, ◌^◌, ◌≤◌, ◌<◌, suc-le-suc, pow-suc, mod-lt, arith, eqb, lit<, length, get_or, shr-shr}
use native.Mathlib.Decide.{dec_lt}
use lib.ListN.{replicate, get_or-replicate}
use lib.Pointwise.{pointwise, bytes_decides}
use lib.Count.{count_trailing_zeros, under}
use Rattle.slots.specs.Set.{bit, has, TellsEmpty, word_count}
use Rattle.slots.proofs.Bits.{bit_suc, bit_low, bit_zero}
use Rattle.slots.proofs.Counting.{in_word}
use Rattle.slots.proofs.Words.{has_none}

-- the machine's count of trailing zeros of a word of k bits: the place of its lowest set bit, or k
pub trailing : (k n : ℕ) → ((i : ℕ) → i < count_trailing_zeros k n → bit n i ≡ false) × (count_trailing_zeros k n < k → bit n (count_trailing_zeros k n) ≡ true)
unfolding count_trailing_zeros
trailing zero n = (λ i l. absurd (omega arith), λ l. absurd (omega arith))
trailing (suc k) n = go (n % 2) refl (mod-lt n (lit< tt)) (trailing k (n / 2))
  where
    low : (d : ℕ) → n % 2 ≡ d → bit n 0 ≡ eqb d 1
    low d e = bit_low n ∙ ap (λ (x : ℕ). eqb x 1) e

    below : (t : ℕ) → n % 2 ≡ 0 → ((i : ℕ) → i < t → bit (n / 2) i ≡ false) → (i : ℕ) → i < suc t → bit n i ≡ false
    below t e h zero l = low 0 e
    below t e h (suc i) l = bit_suc n i ∙ h i (omega arith)

    go : (d : ℕ) → n % 2 ≡ d → d < 2
        → ((i : ℕ) → i < count_trailing_zeros k (n / 2) → bit (n / 2) i ≡ false) × (count_trailing_zeros k (n / 2) < k → bit (n / 2) (count_trailing_zeros k
        (n / 2)) ≡ true)
        → ((i : ℕ) → i < under d (count_trailing_zeros k (n / 2)) → bit n i ≡ false)
        × (under d (count_trailing_zeros k (n / 2)) < suc k → bit n (under d (count_trailing_zeros k (n / 2))) ≡ true)
    go zero e h ih = (below (count_trailing_zeros k (n / 2)) e ih.0, λ l. bit_suc n (count_trailing_zeros k (n / 2)) ∙ ih.1 (omega arith))
    go (suc zero) e h ih = (λ i l. absurd (omega arith), λ l. low 1 e)
    go (suc (suc d)) e h ih = absurd (omega arith)

-- a word that is not 0 has a set bit
pub trailing_lt : (k n : ℕ) → 0 < n → n < 2 ^ k → count_trailing_zeros k n < k
unfolding count_trailing_zeros
trailing_lt zero n p h = absurd (omega arith)
trailing_lt (suc k) n p h = go (n % 2) refl (trailing_lt k (n / 2))
  where
    go : (d : ℕ) → n % 2 ≡ d → (0 < n / 2 → n / 2 < 2 ^ k → count_trailing_zeros k (n / 2) < k) → under d (count_trailing_zeros k (n / 2)) < suc k
    go zero e ih = let h2 : n < 2 ^ k * 2 = rw pow-suc at h in suc-le-suc (ih (omega arith) (omega arith))
    go (suc d) e ih = omega arith

bit_shr : (w k d : ℕ) → bit w (k + d) ≡ bit (w / 2 ^ k) d
bit_shr w k d = ap (λ (n : ℕ). eqb (n % 2) 1) (sym (shr-shr w k d))

-- a word has no bit beyond its length
pub bit_high : (n w i : ℕ) → w < 2 ^ n → n ≤ i → bit w i ≡ false
bit_high zero w i h l = let e : w ≡ 0 = omega arith in rw e (bit_zero i)
bit_high (suc n) w zero h l = absurd (omega arith)
bit_high (suc n) w (suc i) h l = let k : w < 2 ^ n * 2 = rw pow-suc at h in bit_suc w i ∙ bit_high n (w / 2) i (omega arith) (omega arith)

-- the highest bit of a word of j + 1 bits
pub bit_top : (j w : ℕ) → 2 ^ j ≤ w → w < 2 ^ suc j → bit w j ≡ true
bit_top zero w l h = let e : w ≡ 1 = omega arith in rw e
bit_top (suc j) w l h =
    let l2 : 2 ^ j * 2 ≤ w = rw pow-suc at l in
    let h2 : w < 2 ^ suc j * 2 = rw (pow-suc 2 (suc j)) at h in
    bit_suc w j ∙ bit_top j (w / 2) (omega arith) (omega arith)

-- what holds of the slots up to i and from i up to j holds of those up to j
pub none_join : (f : ℕ → Bool) (from i j : ℕ) → ((s : ℕ) → from ≤ s → s < i → f s ≡ false) → ((s : ℕ) → i ≤ s → s < j → f s ≡ false) → (s : ℕ)
    → from ≤ s → s < j → f s ≡ false
none_join f from i j h k s p q = go (dec_lt s i)
  where
    go : Dec (s < i) → f s ≡ false
    go (yes r) = h s p r
    go (no r) = k s (omega arith) q

-- one slot
pub none_one : (f : ℕ → Bool) (i : ℕ) → f i ≡ false → (s : ℕ) → i ≤ s → s < i + 1 → f s ≡ false
none_one f i e s p q = let same : s ≡ i = omega arith in ap f same ∙ e

-- a list that is not all zeros
some_word : (ws : List ℕ) (n : ℕ) → length ws ≡ n → pointwise eqb ws (replicate n 0) ≡ false → (k : ℕ) × (0 < get_or ws k 0)
some_word [] zero l e = absurd (true≢false e)
some_word [] (suc n) l e = absurd (omega arith)
some_word (zero ∷ ws) zero l e = absurd (omega arith)
some_word (suc w ∷ ws) n l e = (0, omega arith)
some_word (zero ∷ ws) (suc n) l e = let x = some_word ws n (omega arith) e in (suc x.0, x.1)

-- a set has a slot where its words are not all zeros
pub tells_empty : (ws : List ℕ) → length ws ≡ word_count → ((k : ℕ) → get_or ws k 0 < 2 ^ 64) → (r : Bool) → r ≡ pointwise eqb ws (replicate word_count 0)
    → TellsEmpty ws r
tells_empty ws l fits r e = (λ h. has_none ws (zeros (sym e ∙ h)), λ h. some (some_word ws word_count l (sym e ∙ h)))
  where
    zeros : pointwise eqb ws (replicate word_count 0) ≡ true → (k : ℕ) → k < length ws → get_or ws k 0 ≡ 0
    zeros h k q =
        ap (λ (x : List ℕ). get_or x k 0) ((bytes_decides ws (replicate word_count 0)).0 h) ∙ get_or-replicate word_count k 0 0 (omega arith)

    some : (k : ℕ) × (0 < get_or ws k 0) → (s : ℕ) × (has ws s ≡ true)
    some x =
        let w = get_or ws x.0 0 in
        let t = count_trailing_zeros 64 w in
        let h = trailing_lt 64 w x.1 (fits x.0) in
        (x.0 * 64 + t, in_word ws x.0 t h ∙ (trailing 64 w).1 h)
