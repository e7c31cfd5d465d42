-- The four words of an ID, the first of them summed up, have its sixteen bytes.
use Rattle.std.proofs.Common.{◌≡◌, ℕ, zero, suc, ◌+◌, ◌-◌, ◌*◌, ◌/◌, ◌%◌, ◌<◌, ◌≤◌, List, [], ◌∷◌, ◌++◌, length, get_or, drop, sym, refl, ap, ◌∙◌, arith, w32, drop_of_length-le, drop-cons}
use Rattle.std.specs.Int.{to_le_bytes}
use Rattle.search.specs.Places.{word_bytes, first_word, id_of}
use Rattle.group.specs.Words.{word_at}

-- a list, element by element
abbrev from : ℕ → ℕ → List ℕ → List ℕ
from i zero l = []
from i (suc n) l = get_or l i 0 ∷ from (suc i) n l

spelled : (n i : ℕ) (l : List ℕ) → length l ≡ i + n → drop i l ≡ from i n l
spelled zero i l h = (let q : length l ≤ i = omega (arith, h) in drop_of_length-le l q)
spelled (suc n) i l h = drop-cons l i 0 (omega (arith, h)) ∙ ap (λ (r : List ℕ). get_or l i 0 ∷ r) (spelled n (suc i) l (omega (arith, h)))

low : (v x y : ℕ) → x < 256 → v ≡ x + 256 * y → v % 256 ≡ x
low v x y f e = omega (arith, e)

high : (v x y : ℕ) → x < 256 → v ≡ x + 256 * y → v / 256 ≡ y
high v x y f e = omega (arith, e)

module _ (w x₀ x₁ x₂ x₃ : ℕ) (f₀ : x₀ < 256) (f₁ : x₁ < 256) (f₂ : x₂ < 256) (e : w ≡ x₀ + 256 * x₁ + 65536 * x₂ + 16777216 * x₃) where
  digits : (l : List ℕ) → word_bytes w l ≡ x₀ ∷ x₁ ∷ x₂ ∷ x₃ ∷ l
  digits l =
      let n₀ : w ≡ x₀ + 256 * (x₁ + 256 * (x₂ + 256 * x₃)) = omega (arith, e) in
      let n₁ : w / 256 ≡ x₁ + 256 * (x₂ + 256 * x₃) = high w x₀ _ f₀ n₀ in
      let n₂ : w / 256 / 256 ≡ x₂ + 256 * x₃ = high (w / 256) x₁ _ f₁ n₁ in
      let e₀ = low w x₀ _ f₀ n₀ in
      let e₁ = low (w / 256) x₁ _ f₁ n₁ in
      let e₂ = low (w / 256 / 256) x₂ _ f₂ n₂ in
      let e₃ = high (w / 256 / 256) x₂ _ f₂ n₂ in
      λ i. e₀ i ∷ e₁ i ∷ e₂ i ∷ e₃ i ∷ l

-- sums that wrap, taken back
wraps : (s x y : ℕ) → s ≡ (x + y) % 4294967296 → s + 4294967296 * ((x + y) / 4294967296) ≡ x + y
wraps s x y e = omega (arith, e)

once : (x y : ℕ) → x < 4294967296 → y < 4294967296 → (x + y) / 4294967296 ≤ 1
once x y f g = omega arith

total : (w b c d s t a q₁ q₂ q₃ : ℕ) → s + 4294967296 * q₁ ≡ w + b → t + 4294967296 * q₂ ≡ s + c → a + 4294967296 * q₃ ≡ t + d → q₁ ≤ 1 → q₂ ≤ 1 → q₃ ≤ 1
    → a + 12884901888 - (b + c + d) ≡ w + 4294967296 * (3 - (q₁ + q₂ + q₃))
total w b c d s t a q₁ q₂ q₃ e₁ e₂ e₃ h₁ h₂ h₃ = omega (arith, e₁, e₂, e₃, h₁, h₂, h₃)

modulo : (w k : ℕ) → w < 4294967296 → (w + 4294967296 * k) % 4294967296 ≡ w
modulo w k f = omega arith

below : (x y s : ℕ) → s ≡ (x + y) % 4294967296 → s < 4294967296
below x y s e = omega (arith, e)

pub taken_back : (w b c d s t a : ℕ) → w < 4294967296 → b < 4294967296 → c < 4294967296 → d < 4294967296
    → s ≡ (w + b) % 4294967296 → t ≡ (s + c) % 4294967296 → a ≡ (t + d) % 4294967296 → (a + 12884901888 - (b + c + d)) % 4294967296 ≡ w
taken_back w b c d s t a fw fb fc fd es et ea =
    let q₁ = (w + b) / 4294967296 in
    let q₂ = (s + c) / 4294967296 in
    let q₃ = (t + d) / 4294967296 in
    ap (λ (x : ℕ). x % 4294967296)
    (total w b c d s t a q₁ q₂ q₃ (wraps s w b es) (wraps t s c et) (wraps a t d ea) (once w b fw fb) (once s c (below w b s es) fc) (once t d (below s c t et) fd))
    ∙ modulo w (3 - (q₁ + q₂ + q₃)) fw

module _ (l : List ℕ) (n : length l ≡ 16) (fits : (k : ℕ) → k < 16 → get_or l k 0 < 256) where
  at_word : (k : ℕ) → k + 4 ≤ 16 → (r : List ℕ) → word_bytes (word_at k l) r ≡ get_or l k 0 ∷ get_or l (k + 1) 0 ∷ get_or l (k + 2) 0 ∷ get_or l (k + 3) 0 ∷ r
  unfolding word_at
  at_word k h r = digits (word_at k l) (get_or l k 0) (get_or l (k + 1) 0) (get_or l (k + 2) 0) (get_or l (k + 3) 0) (fits k (omega arith)) (fits (k + 1) (omega arith)) (fits (k + 2) (omega arith)) refl r

  all_words : word_bytes (word_at 0 l) (word_bytes (word_at 4 l) (word_bytes (word_at 8 l) (word_bytes (word_at 12 l) []))) ≡ l
  all_words =
      let e₃ = at_word 12 (omega arith) [] in
      let e₂ = ap (word_bytes (word_at 8 l)) e₃ ∙ at_word 8 (omega arith) _ in
      let e₁ = ap (word_bytes (word_at 4 l)) e₂ ∙ at_word 4 (omega arith) _ in
      let e₀ = ap (word_bytes (word_at 0 l)) e₁ ∙ at_word 0 (omega arith) _ in
      e₀ ∙ sym (spelled 16 0 l n)

  word_fits : (k : ℕ) → k + 4 ≤ 16 → word_at k l < 4294967296
  unfolding word_at
  word_fits k h = let a = fits k (omega arith) in let b = fits (k + 1) (omega arith) in let c = fits (k + 2) (omega arith) in let d = fits (k + 3) (omega arith) in omega (arith, a, b, c, d)

  -- a is the sum of the words
  pub summed : {a b c d s t : ℕ} → b ≡ word_at 4 l → c ≡ word_at 8 l → d ≡ word_at 12 l
      → s ≡ (word_at 0 l + b) % 4294967296 → t ≡ (s + c) % 4294967296 → a ≡ (t + d) % 4294967296 → id_of a b c d ≡ l
  unfolding id_of first_word
  summed {a} {b} {c} {d} {s} {t} eb ec ed es et ea =
      let w₀ = word_fits 0 (omega arith) in
      let w₁ = word_fits 4 (omega arith) in
      let w₂ = word_fits 8 (omega arith) in
      let w₃ = word_fits 12 (omega arith) in
      let f : first_word a b c d ≡ word_at 0 l = taken_back (word_at 0 l) b c d s t a w₀ (omega (arith, eb, w₁)) (omega (arith, ec, w₂)) (omega (arith, ed, w₃)) es et ea in
      (λ i. word_bytes (f i) (word_bytes (eb i) (word_bytes (ec i) (word_bytes (ed i) [])))) ∙ all_words

-- the first word, by three differences
pub first_is : (a b c d : ℕ) → b < 4294967296 → c < 4294967296 → d < 4294967296
    → (((a + (4294967296 - b)) % 4294967296 + (4294967296 - c)) % 4294967296 + (4294967296 - d)) % 4294967296 ≡ first_word a b c d
unfolding first_word
first_is a b c d fb fc fd = omega (arith, fb, fc, fd)

-- four bytes of a word, the lowest first
le_bytes : (w : ℕ) (r : List ℕ) → w < 4294967296 → to_le_bytes w32 w ++ r ≡ word_bytes w r
le_bytes w r f =
    let e₂ : w / 65536 % 256 ≡ w / 256 / 256 % 256 = omega arith in
    let e₃ : w / 16777216 % 256 ≡ w / 256 / 256 / 256 = omega (arith, f) in
    λ i. w % 256 ∷ w / 256 % 256 ∷ e₂ i ∷ e₃ i ∷ r

pub id_bytes : (m b c d : ℕ) → b < 4294967296 → c < 4294967296 → d < 4294967296
    → to_le_bytes w32 (first_word m b c d) ++ (to_le_bytes w32 b ++ (to_le_bytes w32 c ++ (to_le_bytes w32 d ++ []))) ≡ id_of m b c d
unfolding id_of first_word
id_bytes m b c d fb fc fd =
    let w = first_word m b c d in
    let fw : w < 4294967296 = omega arith in
    le_bytes w _ fw ∙ ap (word_bytes w) (le_bytes b _ fb ∙ ap (word_bytes b) (le_bytes c _ fc ∙ ap (word_bytes c) (le_bytes d [] fd)))
