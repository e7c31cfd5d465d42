-- The number of slots of a set, word by word. The ones of a word are the positions whose bit is set (`ones_are`), so each word has as many slots as the
-- machine counts ones in it (`word_more`).
use Rattle.std.specs.Prelude.{if◌then◌else◌}
use Rattle.std.proofs.Common.{◌≡◌, refl, sym, ap, ◌∙◌, Bool, true, false, List, ◌∷◌, ◌++◌, ℕ, zero, suc, ◌+◌, ◌*◌, ◌/◌, ◌%◌, ◌^◌, ◌<◌, add-zero, mod-lt, pow-suc, zero-add, arith, eqb, lit<, length, get_or, length-append}
use lib.Count.{ones, ones_step}
use Rattle.rules.specs.Basics.{keep, up_to}
use Rattle.slots.specs.Set.{bit, has, select}
use Rattle.slots.proofs.Bits.{bit_low, bit_suc}
use Rattle.slots.proofs.Selecting.{select_split}

-- of n numbers from b on, f picks those at the positions of a word whose bit is set: as many as the word has ones
pub ones_are : (f : ℕ → Bool) (b n w : ℕ) → w < 2 ^ n → ((i : ℕ) → i < n → f (b + i) ≡ bit w i) → length (select f b n) ≡ ones w
unfolding keep up_to ones
ones_are f b zero w h e = let z : w ≡ 0 = omega arith in rw z
ones_are f b (suc n) w h e =
    let h2 : w < 2 ^ n * 2 = rw pow-suc at h in
    go (w % 2) (mod-lt w (lit< tt)) refl (ap f (sym (add-zero b)) ∙ e 0 (omega arith) ∙ bit_low w)
    (ones_are f (suc b) n (w / 2) (omega arith) (λ i l. let y : suc b + i ≡ b + suc i = omega arith in ap f y ∙ e (suc i) (omega arith) ∙ bit_suc w i))
  where
    go : (d : ℕ) → d < 2 → w % 2 ≡ d → f b ≡ eqb (w % 2) 1 → length (select f (suc b) n) ≡ ones (w / 2)
        → length (if f b then b ∷ select f (suc b) n else select f (suc b) n) ≡ ones w
    go zero h p q ih =
        let x : f b ≡ false = q ∙ ap (λ (y : ℕ). eqb y 1) p in
        rw x (omega (arith, ih, ones_step w, p))
    go (suc zero) h p q ih =
        let x : f b ≡ true = q ∙ ap (λ (y : ℕ). eqb y 1) p in
        rw x (omega (arith, ih, ones_step w, p))
    go (suc (suc d)) h p q ih = absurd (omega arith)

-- the bits of word i are its slots
pub in_word : (ws : List ℕ) (i j : ℕ) → j < 64 → has ws (i * 64 + j) ≡ bit (get_or ws i 0) j
in_word ws i j h =
    let a : (i * 64 + j) / 64 ≡ i = omega arith in
    let b : (i * 64 + j) % 64 ≡ j = omega arith in
    rw (a, b)

-- one word more
pub select_word : (f : ℕ → Bool) (i : ℕ) → select f 0 ((i + 1) * 64) ≡ select f 0 (i * 64) ++ select f (i * 64) 64
select_word f i =
    let e : (i + 1) * 64 ≡ i * 64 + 64 = omega arith in
    ap (select f 0) e ∙ select_split f 0 (i * 64) 64 ∙ ap (λ (b : ℕ). select f 0 (i * 64) ++ select f b 64) (zero-add (i * 64))

pub word_more : (ws : List ℕ) (i : ℕ) → get_or ws i 0 < 2 ^ 64
    → length (select (has ws) 0 ((i + 1) * 64)) ≡ length (select (has ws) 0 (i * 64)) + ones (get_or ws i 0)
word_more ws i h =
    ap length (select_word (has ws) i) ∙ length-append (select (has ws) 0 (i * 64)) (select (has ws) (i * 64) 64)
    ∙ ap (λ (n : ℕ). length (select (has ws) 0 (i * 64)) + n) (ones_are (has ws) (i * 64) 64 (get_or ws i 0) h (in_word ws i))
