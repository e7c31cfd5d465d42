-- Bits of a word, as `bit` reads them: what `&`, `|`, `^`, `!`, a shifted one and a halving do to each.
use Rattle.std.proofs.Common.{◌≡◌, refl, sym, ap, ◌∙◌, Bool, false, not, ◌&&◌, ◌||◌, ℕ, zero, suc, ◌+◌, ◌-◌, ◌*◌, ◌/◌, ◌%◌, ◌^◌, ◌<◌, min, pow-suc, mod-lt, div-one, one-add, arith, eqb, lit<, shr-shr}
use Prim.Native.Nat.{max}
use native.Mathlib.Nat.{zero-div, mul-mod_left}
use lib.Dec.{eqb-zero-suc, eqb-suc-zero, eqb-suc-suc}
use lib.Arith.{digits_mod}
use lib.Bits.{bit_and, bit_or, and_step, or_step, and_shr, or_shr}
use Rattle.slots.specs.Set.{bit}

-- two digits: what holds at 0 and 1 holds of each
digits2 : (P : ℕ → ℕ → Type 0) → P 0 0 → P 0 1 → P 1 0 → P 1 1 → (x y : ℕ) → x < 2 → y < 2 → P x y
digits2 P a b c d zero zero hx hy = a
digits2 P a b c d zero (suc zero) hx hy = b
digits2 P a b c d (suc zero) zero hx hy = c
digits2 P a b c d (suc zero) (suc zero) hx hy = d
digits2 P a b c d (suc (suc x)) y hx hy = absurd (omega arith)
digits2 P a b c d zero (suc (suc y)) hx hy = absurd (omega arith)
digits2 P a b c d (suc zero) (suc (suc y)) hx hy = absurd (omega arith)

-- an operation that makes each digit of its result by f, which on digits is g
module _ (op f : ℕ → ℕ → ℕ) (g : Bool → Bool → Bool)
    (shr : (a b k : ℕ) → op a b / 2 ^ k ≡ op (a / 2 ^ k) (b / 2 ^ k))
    (step : (a b : ℕ) → op a b ≡ op (a / 2) (b / 2) * 2 + f (a % 2) (b % 2))
    (is : (x y : ℕ) → x < 2 → y < 2 → (f x y < 2) × (eqb (f x y) 1 ≡ g (eqb x 1) (eqb y 1))) where
  bit_op : (a b i : ℕ) → bit (op a b) i ≡ g (bit a i) (bit b i)
  bit_op a b i =
      let x = a / 2 ^ i in
      let y = b / 2 ^ i in
      let h = is (x % 2) (y % 2) (mod-lt x (lit< tt)) (mod-lt y (lit< tt)) in
      ap (λ (n : ℕ). eqb (n % 2) 1) (shr a b i ∙ step x y) ∙ ap (λ (n : ℕ). eqb n 1) (digits_mod (op (x / 2) (y / 2)) h.0) ∙ h.1

pub bit_and_lem : (a b i : ℕ) → bit (bit_and a b) i ≡ (bit a i && bit b i)
bit_and_lem =
    bit_op bit_and min ◌&&◌ and_shr and_step
    (digits2 (λ x y. (min x y < 2) × (eqb (min x y) 1 ≡ (eqb x 1 && eqb y 1))) (lit< tt, refl) (lit< tt, refl) (lit< tt, refl) (lit< tt, refl))

pub bit_or_lem : (a b i : ℕ) → bit (bit_or a b) i ≡ (bit a i || bit b i)
bit_or_lem =
    bit_op bit_or max ◌||◌ or_shr or_step
    (digits2 (λ x y. (max x y < 2) × (eqb (max x y) 1 ≡ (eqb x 1 || eqb y 1))) (lit< tt, refl) (lit< tt, refl) (lit< tt, refl) (lit< tt, refl))

-- halving takes the lowest bit off
pub bit_suc : (w i : ℕ) → bit w (suc i) ≡ bit (w / 2) i
bit_suc w i = ap (λ (n : ℕ). eqb (n % 2) 1) (ap (λ (k : ℕ). w / 2 ^ k) (sym (one-add i)) ∙ sym (shr-shr w 1 i))

pub bit_zero : (i : ℕ) → bit 0 i ≡ false
bit_zero i = rw (zero-div (2 ^ i))

pub bit_low : (w : ℕ) → bit w 0 ≡ eqb (w % 2) 1
bit_low w = rw (div-one w)

-- a shifted one
pub bit_one : (k i : ℕ) → bit (2 ^ k) i ≡ eqb i k
bit_one zero zero = refl
bit_one zero (suc i) = bit_suc 1 i ∙ bit_zero i ∙ sym (eqb-suc-zero i)
bit_one (suc k) zero = rw (div-one, pow-suc, mul-mod_left, eqb-zero-suc k)
bit_one (suc k) (suc i) =
    let e : 2 ^ suc k / 2 ≡ 2 ^ k = rw pow-suc (omega arith) in
    bit_suc (2 ^ suc k) i ∙ ap (λ (n : ℕ). bit n i) e ∙ bit_one k i ∙ sym (eqb-suc-suc i k)

-- the complement of a word of k bits
pub bit_not : (k w i : ℕ) → w < 2 ^ k → i < k → bit ((2 ^ k - 1) - w) i ≡ not (bit w i)
bit_not zero w i h l = absurd (omega arith)
bit_not (suc k) w zero h l =
    let h2 : w < 2 ^ k * 2 = rw pow-suc at h in
    let e : ((2 ^ suc k - 1) - w) % 2 ≡ 1 - w % 2 = rw pow-suc (omega arith) in
    rw (bit_low ((2 ^ suc k - 1) - w), bit_low w, e) (go (w % 2) (mod-lt w (lit< tt)))
  where
    go : (d : ℕ) → d < 2 → eqb (1 - d) 1 ≡ not (eqb d 1)
    go zero h = refl
    go (suc zero) h = refl
    go (suc (suc d)) h = absurd (omega arith)
bit_not (suc k) w (suc i) h l =
    let h2 : w < 2 ^ k * 2 = rw pow-suc at h in
    let e : ((2 ^ suc k - 1) - w) / 2 ≡ (2 ^ k - 1) - w / 2 = rw pow-suc (omega arith) in
    bit_suc ((2 ^ suc k - 1) - w) i ∙ ap (λ (n : ℕ). bit n i) e ∙ bit_not k (w / 2) i (omega arith) (omega arith) ∙ ap not (sym (bit_suc w i))

-- a word without the bits of a machine word
pub bit_without : (a b i : ℕ) → b < 2 ^ 64 → i < 64 → bit (bit_and a ((2 ^ 64 - 1) - b)) i ≡ (bit a i && not (bit b i))
bit_without a b i h l = bit_and_lem a ((2 ^ 64 - 1) - b) i ∙ ap (λ (y : Bool). bit a i && y) (bit_not 64 b i h l)
