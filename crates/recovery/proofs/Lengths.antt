-- A length that was written is read back, a batch that is not all there is torn, and fuel is enough for any file.
use Rattle.std.specs.Prelude.{if◌then◌else◌}
use Prim.Native.Nat.{ℕ, zero, suc, ◌+◌, ◌-◌, ◌*◌, ◌/◌, ◌%◌, ◌≤◌, ◌<◌}
use native.Mathlib.Decide.{dec_lt, le_ind}
use native.Mathlib.Omega.{arith}
use mathlib.Core.Path.{◌≡◌, refl, sym, ap, ◌∙◌}
use mathlib.Core.Bool.{Bool, true, false, ◌||◌}
use mathlib.Core.List.{List, [], ◌∷◌, ◌++◌}
use mathlib.Core.Option.{Option, none, some}
use lib.ListN.{length, take, drop, length-append, length-drop, length-take}
use lib.Seq.{drop-append_seam, take-append_seam}
use lib.Dec.{eqb, leb, ltb}
use borrow.Author.Tests.{le-ltb, lt-leb, lt-ltb, ne_eqb}
use Rattle.rules.specs.Constants.{batch_limit}
use Rattle.rules.specs.Group.{Group}
use Rattle.rules.specs.Records.{number}
use Rattle.rules.specs.Batches.{read_batch}
use Rattle.rules.specs.Journal.{FuelEnough, LengthRead, Reading, after_batch, after_length, bad_length, batch_of, cut_length, no_length, read_batches, read_length, second_group, torn_from}
use Rattle.rules.proofs.Number.{number_more, number_small}

-- ---- lengths

one_byte : (n : ℕ) (rest : List ℕ) → 0 < n → n < 128 → read_length (n ∷ rest) ≡ batch_of n rest
unfolding read_length
one_byte n rest a b = rw (lt-ltb n 128 b, ne_eqb n 0 (λ e. omega arith)) refl

two_bytes : (n : ℕ) (rest : List ℕ) → 128 ≤ n → n ≤ batch_limit → read_length ((n % 128 + 128) ∷ n / 128 ∷ rest) ≡ batch_of n rest
unfolding read_length second_group
two_bytes n rest a b =
    let e : n / 128 * 128 + (n % 128 + 128 - 128) ≡ n = omega arith in
    rw (le-ltb (n % 128 + 128) 128 (omega arith), lt-leb 128 (n / 128) (omega arith), ne_eqb (n / 128) 0 (λ e. omega arith), e, le-ltb batch_limit n b) refl

pub number_two : (n : ℕ) → 128 ≤ n → n ≤ batch_limit → number n ≡ (n % 128 + 128) ∷ n / 128 ∷ []
number_two n a b = number_more n a ∙ ap (λ (l : List ℕ). (n % 128 + 128) ∷ l) (number_small (n / 128) (omega arith))

length_read : (n : ℕ) (rest : List ℕ) → 0 < n → n ≤ batch_limit → read_length (number n ++ rest) ≡ batch_of n rest
length_read n rest a b = pick (dec_lt n 128)
  where
    pick : Dec (n < 128) → read_length (number n ++ rest) ≡ batch_of n rest
    pick (yes q) = rw (number_small n q) (one_byte n rest a q)
    pick (no q) = rw (number_two n (omega arith) b) (two_bytes n rest (omega arith) b)

abbrev pub cut : Group → ℕ → Reading
cut g at = record { group = g; verdict = torn_from at }

module _ (t at : ℕ) (g : Group) (more : Group → List ℕ → Reading) where
  too_short : (n : ℕ) (rest : List ℕ) → length rest < n → after_length (batch_of n rest) t at g more ≡ cut g at
  unfolding after_length
  too_short n rest h = rw (lt-ltb (length rest) n h) refl

  take_short : (n k : ℕ) (x : List ℕ) → k < n → length (take k x) < n
  take_short n k x h = omega (arith, length-take k x)

  two_cut : (n : ℕ) (x : List ℕ) → n ≤ batch_limit → length x ≡ n → 128 ≤ n → (k : ℕ) → suc k < suc (suc (length x))
      → after_length (read_length (take (suc k) ((n % 128 + 128) ∷ n / 128 ∷ x))) t at g more ≡ cut g at
  unfolding read_length second_group after_length
  two_cut n x b l c zero h = rw (le-ltb (n % 128 + 128) 128 (omega arith)) refl
  two_cut n x b l c (suc k) h =
      ap (λ (r : LengthRead). after_length r t at g more) (two_bytes n (take k x) c b) ∙ too_short n (take k x) (take_short n k x (omega arith))

  -- a batch that is not all there
  pub length_cut : (n : ℕ) (x : List ℕ) → 0 < n → n ≤ batch_limit → length x ≡ n → (k : ℕ) → suc k < length (number n ++ x)
      → after_length (read_length (take (suc k) (number n ++ x))) t at g more ≡ cut g at
  length_cut n x a b l k h = pick (dec_lt n 128)
    where
      pick : Dec (n < 128) → after_length (read_length (take (suc k) (number n ++ x))) t at g more ≡ cut g at
      pick (yes q) =
          let h' : suc k < suc (length x) = rw (number_small n q) at h in
          rw (number_small n q, one_byte n (take k x) a q) (too_short n (take k x) (take_short n k x (omega arith)))
      pick (no q) =
          let e = number_two n (omega arith) b in
          let h' : suc k < suc (suc (length x)) = rw e at h in
          rw e (two_cut n x b l (omega arith) k h')

  -- a batch that is all there
  pub length_whole : (n : ℕ) (x rest : List ℕ) → 0 < n → n ≤ batch_limit → length x ≡ n
      → after_length (read_length (number n ++ (x ++ rest))) t at g more ≡ after_batch (read_batch t g x) at g (λ h. more h rest)
  unfolding after_length
  length_whole n x rest a b l =
      let e : take n (x ++ rest) ≡ x = ap (λ (k : ℕ). take k (x ++ rest)) (sym l) ∙ take-append_seam x rest in
      let d : drop n (x ++ rest) ≡ rest = ap (λ (k : ℕ). drop k (x ++ rest)) (sym l) ∙ drop-append_seam x rest in
      rw (length_read n (x ++ rest) a b, le-ltb (length (x ++ rest)) n (omega (arith, length-append x rest)), e, d) refl

-- ---- fuel

abbrev Shorter : ℕ → LengthRead → Type 0
Shorter k no_length = Unit {0}
Shorter k cut_length = Unit {0}
Shorter k bad_length = Unit {0}
Shorter k (batch_of n rest) = length rest < k

shorter_if : (k : ℕ) (c : Bool) (x y : LengthRead) → Shorter k x → Shorter k y → Shorter k (if c then x else y)
shorter_if k true x y h l = h
shorter_if k false x y h l = l

shorter : (bytes : List ℕ) → Shorter (length bytes) (read_length bytes)
unfolding read_length second_group
shorter [] = tt
shorter (b ∷ []) = shorter_if 1 (ltb b 128) _ cut_length (shorter_if 1 (eqb b 0) bad_length (batch_of b []) tt (omega arith)) tt
shorter (b ∷ c ∷ bs) =
    shorter_if (suc (suc (length bs))) (ltb b 128) _ _
    (shorter_if (suc (suc (length bs))) (eqb b 0) bad_length (batch_of b (c ∷ bs)) tt (omega arith))
    (shorter_if (suc (suc (length bs))) (leb 128 c || (eqb c 0 || ltb batch_limit (c * 128 + (b - 128))))
    bad_length (batch_of (c * 128 + (b - 128)) bs) tt (omega arith))

module _ (t at : ℕ) (g : Group) (k : ℕ) (m m' : Group → List ℕ → Reading) (same : (h : Group) (rest : List ℕ) → length rest < k → m h rest ≡ m' h rest) where
  batch_same : (o : Option Group) (rest : List ℕ) → length rest < k → after_batch o at g (λ h. m h rest) ≡ after_batch o at g (λ h. m' h rest)
  unfolding after_batch
  batch_same none rest h = refl
  batch_same (some x) rest h = same x rest h

  length_same : (r : LengthRead) → Shorter k r → after_length r t at g m ≡ after_length r t at g m'
  unfolding after_length
  length_same no_length h = refl
  length_same cut_length h = refl
  length_same bad_length h = refl
  length_same (batch_of n rest) h =
      let e = batch_same (read_batch t g (take n rest)) (drop n rest) (omega (arith, length-drop n rest)) in
      ap (λ (r : Reading). if ltb (length rest) n then record { group = g; verdict = torn_from at } else r) e

pub fuel_enough : FuelEnough
unfolding read_batches
fuel_enough zero t at g bytes h = absurd (omega arith)
fuel_enough (suc fuel) t at g bytes h =
    length_same t at g (length bytes) _ _ (λ x rest l. fuel_enough fuel t (at + (length bytes - length rest)) x rest (omega arith))
    (read_length bytes) (shorter bytes)

pub fuel_any : (fuel t at : ℕ) (g : Group) (bytes : List ℕ) → length bytes < fuel
    → read_batches fuel t at g bytes ≡ read_batches (suc (length bytes)) t at g bytes
fuel_any fuel t at g bytes h =
    le_ind (λ (m : ℕ). read_batches m t at g bytes ≡ read_batches (suc (length bytes)) t at g bytes) refl (λ m k e. fuel_enough m t at g bytes k ∙ e) fuel h
