-- How many numbers pass a test: one number more, at the end.
use Rattle.std.specs.Prelude.{if◌then◌else◌}
use Rattle.std.proofs.Common.{◌≡◌, ℕ, zero, suc, ◌+◌, ◌≤◌, Bool, true, false, List, ◌∷◌, length, refl, ap, ◌∙◌, arith}
use Rattle.std.specs.Int.{from_bool}
use Rattle.std.proofs.lemmas.Grind.{common_steps}
use Rattle.rules.specs.Basics.{keep, up_to}
use Rattle.slots.specs.Set.{select}
use Rattle.tables.specs.View.{slot_at}
use Rattle.tables.specs.Places.{near}
use Rattle.tables.specs.declared.Tables.{Tables}
use Rattle.quiet.specs.Settling.{near_count}

front_length : (b : Bool) (n : ℕ) (r : List ℕ) → length (if b then n ∷ r else r) ≡ from_bool b + length r
front_length b n r = grind (arith, common_steps)

pub at_most_one : (b : Bool) → from_bool b ≤ 1
at_most_one true = omega arith
at_most_one false = omega arith

last_counts : (f : ℕ → Bool) (n b : ℕ) → length (select f b (suc n)) ≡ length (select f b n) + from_bool (f (b + n))
unfolding keep up_to
last_counts f zero b =
    let z : b ≡ b + 0 = omega arith in
    let e : from_bool (f b) ≡ from_bool (f (b + 0)) = ap (λ (m : ℕ). from_bool (f m)) z in
    omega (arith, front_length (f b) b (select f (suc b) 0), e)
last_counts f (suc n) b =
    let z : suc b + n ≡ b + suc n = omega arith in
    let e : from_bool (f (suc b + n)) ≡ from_bool (f (b + suc n)) = ap (λ (m : ℕ). from_bool (f m)) z in
    omega (arith, last_counts f n (suc b), front_length (f b) b (select f (suc b) (suc n)), front_length (f b) b (select f (suc b) n), e)

-- ---- a loop that counts the slots near a place

module _ (t : Tables) (p : ℕ) where
  one_more : (n : ℕ) → near_count t p (suc n) ≡ near_count t p n + from_bool (near p (slot_at t n))
  unfolding near_count
  one_more n =
      let z : 0 + n ≡ n = omega arith in
      last_counts (λ s. near p (slot_at t s)) n 0 ∙ ap (λ (m : ℕ). length (select (λ s. near p (slot_at t s)) 0 n) + from_bool (near p (slot_at t m))) z

  pub nothing : near_count t p 0 ≡ 0
  unfolding near_count keep up_to
  nothing = refl

  pub begin : (from : ℕ) → near_count t p (from + 0) ≡ near_count t p from + 0
  begin from = let z : from + 0 ≡ from = omega arith in ap (near_count t p) z ∙ omega arith

  -- one slot more
  pub next : (from i k : ℕ) → near_count t p (from + i) ≡ near_count t p from + k
      → near_count t p (from + (i + 1)) ≡ near_count t p from + (k + from_bool (near p (slot_at t (from + i))))
  next from i k h =
      let e : from + (i + 1) ≡ suc (from + i) = omega arith in
      let n = one_more (from + i) in
      ap (near_count t p) e ∙ omega (arith, h, n)
