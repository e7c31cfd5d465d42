-- Sets as words, slot by slot, by `has`. Storing a word with one bit marked or not marks that slot alone (`has_mark`); an operation on each word that is g
-- on bits is g on sets (`wordwise`), whence union and difference.
use Rattle.std.proofs.Common.{◌≡◌, sym, ap, ap₂, ◌∙◌, Bool, true, false, ◌&&◌, ◌||◌, true≢false, List, ℕ, ◌*◌, ◌/◌, ◌%◌, ◌^◌, ◌≤◌, ◌<◌, mod-lt, one-mul, arith, eqb, lit<, length, get_or, get_or-set_same, get_or-set_other, shl_exact, eq-eqb, ne_eqb}
use mathlib.Core.Bool.{and-true, and-false, or-false}
use native.Mathlib.Decide.{ℕ_discrete, dec_lt}
use lib.ListN.{set, get_or-eq_default}
use lib.Bits.{bit_or}
use Rattle.slots.specs.Set.{bit, has, word_count}
use Rattle.rules.specs.Constants.{slot_count}
use Rattle.slots.proofs.Bits.{bit_or_lem, bit_one, bit_zero}
use Rattle.slots.proofs.Each.{Each}

-- two slots of one word are told apart by their bits
same_word : (s t : ℕ) → s / 64 ≡ t / 64 → eqb (s % 64) (t % 64) ≡ eqb s t
same_word s t e = go (ℕ_discrete s t)
  where
    go : Dec (s ≡ t) → eqb (s % 64) (t % 64) ≡ eqb s t
    go (yes p) = eq-eqb (s % 64) (t % 64) (ap (λ (n : ℕ). n % 64) p) ∙ sym (eq-eqb s t p)
    go (no q) = ne_eqb (s % 64) (t % 64) (λ r. q (omega arith)) ∙ sym (ne_eqb s t q)

-- a word is stored with the bit of slot n put in where `on`
pub has_mark : (ws : List ℕ) (n v : ℕ) (on : Bool) → n / 64 < length ws
    → ((k : ℕ) → bit v k ≡ (bit (get_or ws (n / 64) 0) k || (eqb k (n % 64) && on)))
    → (s : ℕ) → has (set ws (n / 64) v) s ≡ (has ws s || (eqb s n && on))
has_mark ws n v on h q s = go (ℕ_discrete (s / 64) (n / 64))
  where
    go : Dec (s / 64 ≡ n / 64) → has (set ws (n / 64) v) s ≡ (has ws s || (eqb s n && on))
    go (yes e) = rw (e, get_or-set_same ws (n / 64) v 0 h) (q (s % 64) ∙ rw (same_word s n e))
    go (no d) =
        rw (get_or-set_other ws (n / 64) (s / 64) v 0 d, ne_eqb s n (λ (p : s ≡ n). d (ap (λ (k : ℕ). k / 64) p))) (sym (or-false (has ws s)))

-- `1 << b`
pub shl_one : (b : ℕ) → b < 64 → (1 * 2 ^ b) % 2 ^ 64 ≡ 2 ^ b
shl_one b h = shl_exact 1 b 64 (lit< tt) (omega arith) ∙ one-mul (2 ^ b)

-- a word with bit b put in
pub bit_put : (w b : ℕ) (on : Bool) → b < 64 → on ≡ true → (i : ℕ) → bit (bit_or w ((1 * 2 ^ b) % 2 ^ 64)) i ≡ (bit w i || (eqb i b && on))
bit_put w b on h e i = rw (shl_one b h, e, and-true (eqb i b)) (bit_or_lem w (2 ^ b) i ∙ ap (λ (x : Bool). bit w i || x) (bit_one b i))

-- nothing is put in
pub put_none : (x y on : Bool) → on ≡ false → x ≡ (x || (y && on))
put_none x y on e = rw (e, and-false y) (sym (or-false x))

-- past the last word there is nothing
pub has_past : (ws : List ℕ) (s : ℕ) → length ws ≤ s / 64 → has ws s ≡ false
has_past ws s h = rw (get_or-eq_default ws 0 h) (bit_zero (s % 64))

-- no bit is set
pub has_none : (ws : List ℕ) → ((k : ℕ) → k < length ws → get_or ws k 0 ≡ 0) → (s : ℕ) → has ws s ≡ false
has_none ws h s = go (dec_lt (s / 64) (length ws))
  where
    go : Dec (s / 64 < length ws) → has ws s ≡ false
    go (yes p) = rw (h (s / 64) p) (bit_zero (s % 64))
    go (no q) = has_past ws s (omega arith)

-- word by word: an operation that is g on the bits of a word and of a machine word is g on sets
module _ (op : ℕ → ℕ → ℕ) (g : Bool → Bool → Bool) (none : g false false ≡ false)
    (bits : (x y i : ℕ) → y < 2 ^ 64 → i < 64 → bit (op x y) i ≡ g (bit x i) (bit y i)) where
  pub wordwise : (a b r : List ℕ) → length a ≡ word_count → length b ≡ word_count → ((k : ℕ) → get_or b k 0 < 2 ^ 64) → (i : ℕ) → word_count ≤ i
      → Each (λ k x. op x (get_or b k 0)) a r i → (s : ℕ) → has r s ≡ g (has a s) (has b s)
  wordwise a b r la lb fits i h e s = go (dec_lt (s / 64) word_count)
    where
      go : Dec (s / 64 < word_count) → has r s ≡ g (has a s) (has b s)
      go (yes p) = rw (e.done (s / 64) (omega arith)) (bits _ _ (s % 64) (fits (s / 64)) (mod-lt s (lit< tt)))
      go (no q) =
          has_past r s (omega (arith, e.len)) ∙ sym (ap₂ g (has_past a s (omega arith)) (has_past b s (omega arith)) ∙ none)

-- the slots of sixteen words
pub in_range_lem : (ws : List ℕ) (s : ℕ) → length ws ≡ word_count → has ws s ≡ true → s < slot_count
in_range_lem ws s l e = go (dec_lt s slot_count)
  where
    go : Dec (s < slot_count) → s < slot_count
    go (yes h) = h
    go (no h) = absurd (true≢false (sym e ∙ has_past ws s (omega arith)))
