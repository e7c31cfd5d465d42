-- The bytes that the differences of a set take beyond one for each slot, word by word. Slots of one word are less than 64 apart, so that only the
-- difference of a word's first slot can take more than one byte.
use Rattle.std.specs.Prelude.{if◌then◌else◌}
use mathlib.Core.Path.{◌≡◌, refl, sym, ap, ◌∙◌}
use mathlib.Core.Bool.{Bool, true, false}
use mathlib.Core.List.{List, [], ◌∷◌, ◌++◌, append-nil}
use Prim.Native.Nat.{ℕ, zero, suc, ◌+◌, ◌-◌, ◌*◌, ◌^◌, ◌≤◌, ◌<◌}
use native.Mathlib.Omega.{arith}
use lib.Count.{count_trailing_zeros, count_leading_zeros, leading_top}
use lib.ListN.{length, get_or, length-append}
use Rattle.rules.specs.Basics.{keep, up_to}
use Rattle.rules.specs.Records.{number, differences}
use Rattle.rules.proofs.Number.{number_small}
use Rattle.slots.specs.Set.{bit, has, select}
use Rattle.slots.proofs.Bits.{bit_zero}
use Rattle.slots.proofs.Counting.{in_word, select_word}
use Rattle.slots.proofs.Next.{bit_high, bit_top, trailing, trailing_lt}
use Rattle.slots.proofs.Selecting.{select_in, select_none, select_skip, select_split}
use Rattle.records.proofs.Differences.{differences_length}

-- ---- the last number of a list, or p where there is none

abbrev pub last_of : ℕ → List ℕ → ℕ
last_of p [] = p
last_of p (x ∷ xs) = last_of x xs

last_append : (p : ℕ) (l m : List ℕ) → last_of p (l ++ m) ≡ last_of (last_of p l) m
last_append p [] m = refl
last_append p (x ∷ l) m = last_append x l m

differences_append : (p : ℕ) (l m : List ℕ) → length (differences p (l ++ m)) ≡ length (differences p l) + length (differences (last_of p l) m)
unfolding differences
differences_append p [] m = omega arith
differences_append p (x ∷ l) m =
    omega (arith, length-append (number (x - p)) (differences x (l ++ m)), length-append (number (x - p)) (differences x l), differences_append x l m)

-- ---- numbers that lie near take a byte each

near : (f : ℕ → Bool) (p s n : ℕ) → p ≤ s → s + n ≤ p + 128 → length (differences p (select f s n)) ≡ length (select f s n)
unfolding differences keep up_to
near f p s zero h k = refl
near f p s (suc n) h k = go (f s) (select f (suc s) n) (near f s (suc s) n (omega arith) (omega arith)) (near f p (suc s) n (omega arith) (omega arith))
  where
    go : (b : Bool) (l : List ℕ) → length (differences s l) ≡ length l → length (differences p l) ≡ length l
        → length (differences p (if b then s ∷ l else l)) ≡ length (if b then s ∷ l else l)
    go true l here there =
        length-append (number (s - p)) (differences s l) ∙ ap (λ (k : ℕ). k + length (differences s l)) (ap length (number_small (s - p) (omega arith))) ∙ omega (arith, here)
    go false l here there = there

-- ---- the 64 numbers from b on, of which f picks those at the positions of a word whose bit is set

module _ (f : ℕ → Bool) (b w : ℕ) (fits : w < 2 ^ 64) (some : 0 < w) (at : (j : ℕ) → j < 64 → f (b + j) ≡ bit w j) where
  abbrev t : ℕ
  t = count_trailing_zeros 64 w

  t_lt : t < 64
  t_lt = trailing_lt 64 w some fits

  all_64 : b + 64 - b ≡ 64
  all_64 = omega arith

  -- the first
  first_on : f (b + t) ≡ true
  first_on = at t t_lt ∙ (trailing 64 w).1 t_lt

  before_off : (s : ℕ) → b ≤ s → s < b + t → f s ≡ false
  before_off s h l =
      let e : b + (s - b) ≡ s = omega arith in
      ap f (sym e) ∙ at (s - b) (omega (arith, t_lt)) ∙ (trailing 64 w).0 (s - b) (omega arith)

  from_first : select f b 64 ≡ select f (b + t) (b + 64 - (b + t))
  from_first = ap (select f b) (sym all_64) ∙ select_skip f (b + 64) b (b + t) (omega arith) (omega (arith, t_lt)) before_off

  -- it may take more than a byte, and the others do not
  word_bytes : (p : ℕ) → length (differences p (select f b 64)) + 1 ≡ length (select f b 64) + length (number (b + t - p))
  word_bytes p =
      let here : b + t < b + 64 = omega (arith, t_lt) in
      let rest = select f (b + t + 1) (b + 64 - (b + t + 1)) in
      let d : length (differences p (select f b 64)) ≡ length (number (b + t - p)) + length (differences (b + t) rest) =
      ap (λ (l : List ℕ). length (differences p l)) from_first ∙ differences_length f p (b + t) (b + 64) here first_on in
      let c : length (select f b 64) ≡ suc (length rest) = ap length (from_first ∙ select_in f (b + t) (b + 64) here first_on) in
      omega (arith, d, c, near f (b + t) (b + t + 1) (b + 64 - (b + t + 1)) (omega arith) (omega (arith, t_lt)))

  -- the last
  above : (j : ℕ) → w < 2 ^ suc j → b + j < b + 64 → (s : ℕ) → b + j + 1 ≤ s → s < b + 64 → f s ≡ false
  above j high here s h l =
      let e : b + (s - b) ≡ s = omega arith in
      ap f (sym e) ∙ at (s - b) (omega arith) ∙ bit_high (suc j) w (s - b) high (omega arith)

  pub word_last : (p : ℕ) → last_of p (select f b 64) ≡ b + (63 - count_leading_zeros 64 w)
  word_last p = go (leading_top 64 w some fits)
    where
      go : (j : ℕ) × (count_leading_zeros 64 w + suc j ≡ 64) × (2 ^ j ≤ w) × (w < 2 ^ suc j) → last_of p (select f b 64) ≡ b + (63 - count_leading_zeros 64 w)
      go (j, e, low, high) =
          let whole : 64 ≡ j + (64 - j) = omega (arith, e) in
          let left : 64 - j ≡ b + 64 - (b + j) = omega (arith, e) in
          let on : f (b + j) ≡ true = at j (omega (arith, e)) ∙ bit_top j w low high in
          let here : b + j < b + 64 = omega (arith, e) in
          let none : select f (b + j + 1) (b + 64 - (b + j + 1)) ≡ [] = select_none f (b + j + 1) (b + 64) (omega arith) (above j high here) in
          ap (λ (n : ℕ). last_of p (select f b n)) whole ∙ ap (last_of p) (select_split f b j (64 - j))
          ∙ last_append p (select f b j) (select f (b + j) (64 - j))
          ∙ ap (last_of (last_of p (select f b j))) (ap (select f (b + j)) left ∙ select_in f (b + j) (b + 64) here on ∙ ap (λ (l : List ℕ). (b + j) ∷ l) none)
          ∙ omega (arith, e)

-- ---- the words passed

-- of the numbers below n that f picks: the last, and the bytes beyond one for each
pub record Passed (f : ℕ → Bool) (n extra last : ℕ) : Type 0 where
  pub ends : last_of 0 (select f 0 n) ≡ last
  pub below : last ≤ n
  pub bytes : length (differences 0 (select f 0 n)) ≡ length (select f 0 n) + extra

pub none_passed : (f : ℕ → Bool) → Passed f 0 0 0
unfolding differences keep up_to
none_passed f = record { ends = refl; below = omega arith; bytes = refl }

module _ (ws : List ℕ) (i extra last : ℕ) (done : Passed (has ws) (i * 64) extra last) where
  -- a word without slots
  none_here : get_or ws i 0 ≡ 0 → select (has ws) (i * 64) 64 ≡ []
  none_here z =
      let b = i * 64 in
      let all : b + 64 - b ≡ 64 = omega arith in
      ap (select (has ws) b) (sym all) ∙ select_none (has ws) b (b + 64) (omega arith) (λ s h l.
      let e : b + (s - b) ≡ s = omega arith in
      ap (has ws) (sym e) ∙ in_word ws i (s - b) (omega arith) ∙ ap (λ (w : ℕ). bit w (s - b)) z ∙ bit_zero (s - b))

  pub pass_empty : get_or ws i 0 ≡ 0 → Passed (has ws) ((i + 1) * 64) extra last
  pass_empty z =
      let same : select (has ws) 0 ((i + 1) * 64) ≡ select (has ws) 0 (i * 64) =
      select_word (has ws) i ∙ ap (λ (l : List ℕ). select (has ws) 0 (i * 64) ++ l) (none_here z) ∙ append-nil (select (has ws) 0 (i * 64)) in
      record {
        ends = ap (last_of 0) same ∙ done.ends;
        below = omega (arith, done.below);
        bytes = ap (λ (l : List ℕ). length (differences 0 l)) same ∙ done.bytes ∙ ap (λ (l : List ℕ). length l + extra) (sym same);
      }

  -- a word with slots
  pub pass_word : get_or ws i 0 < 2 ^ 64 → 0 < get_or ws i 0 → (more : ℕ) → length (number (i * 64 + count_trailing_zeros 64 (get_or ws i 0) - last)) ≡ 1 + more
      → Passed (has ws) ((i + 1) * 64) (extra + more) (i * 64 + (63 - count_leading_zeros 64 (get_or ws i 0)))
  pass_word fits some more long =
      let w = get_or ws i 0 in
      let b = i * 64 in
      let old = select (has ws) 0 b in
      let new = select (has ws) b 64 in
      let all = select_word (has ws) i in
      let bytes : length (differences last new) + 1 ≡ length new + length (number (b + count_trailing_zeros 64 w - last)) = word_bytes (has ws) b w fits some (in_word ws i) last in
      let split : length (differences 0 (old ++ new)) ≡ length (differences 0 old) + length (differences last new) =
      differences_append 0 old new ∙ ap (λ (p : ℕ). length (differences 0 old) + length (differences p new)) done.ends in
      record {
        ends = ap (last_of 0) all ∙ last_append 0 old new ∙ word_last (has ws) b w fits some (in_word ws i) (last_of 0 old);
        below = omega arith;
        bytes =
            ap (λ (l : List ℕ). length (differences 0 l)) all
            ∙ omega (arith, split, bytes, long, done.bytes, length-append old new)
            ∙ ap (λ (l : List ℕ). length l + (extra + more)) (sym all);
      }
