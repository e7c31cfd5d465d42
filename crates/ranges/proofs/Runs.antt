-- Partitions shared out in runs: how long a share is, and that all partitions are given where there are subscribers (`runs_all`).
use Prim.Native.Nat.{ℕ, suc, ◌+◌, ◌-◌, ◌*◌, ◌/◌, ◌%◌, ◌≤◌, ◌<◌}
use native.Mathlib.Omega.{arith}
use native.Mathlib.Decide.{dec_lt}
use native.Mathlib.Nat.{div-add-mod, mod-lt, suc-mul, zero-add, zero-mul}
use mathlib.Core.Path.{◌≡◌, refl, ap, ◌∙◌}
use mathlib.Core.List.{List, [], ◌∷◌}
use lib.ListN.{length, replicate, length-append, length-replicate}
use borrow.Author.Tests.{lt-ltb, le-ltb}
use Rattle.rules.specs.Constants.{max_partitions}
use Rattle.rules.specs.Assignor.{padded, runs, share}

module _ (n k : ℕ) where
  -- the first get one more than the rest
  pub share_first : (i : ℕ) → i < n % k → share n k i ≡ suc (n / k)
  unfolding share
  share_first i h = rw (lt-ltb i (n % k) h)

  pub share_rest : (i : ℕ) → n % k ≤ i → share n k i ≡ n / k
  unfolding share
  share_rest i h = rw (le-ltb i (n % k) h)

  -- who comes first has no smaller share
  pub share_falls : (i j : ℕ) → i ≤ j → share n k j ≤ share n k i
  share_falls i j h = go (dec_lt i (n % k)) (dec_lt j (n % k))
    where
      go : Dec (i < n % k) → Dec (j < n % k) → share n k j ≤ share n k i
      go (yes a) (yes b) = omega (arith, share_first i a, share_first j b)
      go (yes a) (no b) = omega (arith, share_first i a, share_rest j (omega arith))
      go (no a) (yes b) = absurd (omega arith)
      go (no a) (no b) = omega (arith, share_rest i (omega arith), share_rest j (omega arith))

  pub share_low : (i : ℕ) → n / k ≤ share n k i
  share_low i = go (dec_lt i (n % k))
    where
      go : Dec (i < n % k) → n / k ≤ share n k i
      go (yes h) = omega (arith, share_first i h)
      go (no h) = omega (arith, share_rest i (omega arith))

  pub share_high : (i : ℕ) → share n k i ≤ n / k + 1
  share_high i = go (dec_lt i (n % k))
    where
      go : Dec (i < n % k) → share n k i ≤ n / k + 1
      go (yes h) = omega (arith, share_first i h)
      go (no h) = omega (arith, share_rest i (omega arith))

  pub runs_long : (i : ℕ) (ps : List ℕ) → 0 < k → i + length ps ≡ k → length (runs n k i ps) ≡ length ps * (n / k) + (n % k - i)
  unfolding runs
  runs_long i [] h e = let m = mod-lt n h in rw zero-mul (omega (arith, m))
  runs_long i (p ∷ ps) h e =
      length-append (replicate (share n k i) p) (runs n k (suc i) ps) ∙ rw (length-replicate (share n k i) p, suc-mul (length ps) (n / k))
      (go (dec_lt i (n % k)) (runs_long (suc i) ps h (omega arith)))
    where
      go : Dec (i < n % k) → length (runs n k (suc i) ps) ≡ length ps * (n / k) + (n % k - suc i)
          → share n k i + length (runs n k (suc i) ps) ≡ length ps * (n / k) + n / k + (n % k - i)
      go (yes l) ih = rw (share_first i l, ih) (omega arith)
      go (no l) ih = rw (share_rest i (omega arith), ih) (omega arith)

-- all of n partitions are given where there are subscribers, and none where there are none
pub runs_all : (n : ℕ) (ps : List ℕ) → 0 < length ps → length (runs n (length ps) 0 ps) ≡ n
runs_all n ps h =
    let k = length ps in
    let z : n % k - 0 ≡ n % k = omega arith in
    runs_long n k 0 ps h (zero-add k) ∙ ap (λ (r : ℕ). k * (n / k) + r) z ∙ div-add-mod n k

pub runs_none : (n : ℕ) (ps : List ℕ) → length ps ≡ 0 → length (runs n (length ps) 0 ps) ≡ 0
unfolding runs
runs_none n [] e = refl
runs_none n (p ∷ ps) e = absurd (omega (arith, e))

pub runs_most : (n : ℕ) (ps : List ℕ) → length (runs n (length ps) 0 ps) ≤ n
runs_most n ps = go (dec_lt 0 (length ps))
  where
    go : Dec (0 < length ps) → length (runs n (length ps) 0 ps) ≤ n
    go (yes h) = omega (arith, runs_all n ps h)
    go (no h) = omega (arith, runs_none n ps (omega arith))

pub padded_long : (owners : List ℕ) → length owners ≤ max_partitions → length (padded owners) ≡ max_partitions
unfolding padded
padded_long owners h = simp (length-append, length-replicate) (omega arith)
