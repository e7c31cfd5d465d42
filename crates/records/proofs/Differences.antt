-- Laws of `differences` over the slots that a test picks. At a slot that is picked its difference comes next, and then the differences from there
-- (`differences_next`, `run_next`); slots that are not picked are stepped over by `select_skip`.
use Rattle.std.specs.Prelude.{if◌then◌else◌}
use mathlib.Core.Path.{◌≡◌, refl, ap, ◌∙◌}
use mathlib.Core.Bool.{Bool, true, false}
use mathlib.Core.List.{List, [], ◌∷◌, ◌++◌, append-nil}
use Prim.Native.Nat.{ℕ, zero, suc, ◌+◌, ◌-◌, ◌≤◌, ◌<◌}
use native.Mathlib.Omega.{arith}
use lib.ListN.{length, length-append}
use Rattle.rules.specs.Basics.{keep, up_to}
use Rattle.rules.specs.Constants.{slot_count}
use Rattle.rules.specs.Records.{number, differences, set_bytes}
use Rattle.numbers.proofs.Writing.{Writing, cut}
use Rattle.slots.specs.Set.{select, has, slots_of}
use Rattle.slots.proofs.Selecting.{select_in, select_none}

module _ (f : ℕ → Bool) (p s n : ℕ) (h : s < n) (e : f s ≡ true) where
  pub differences_next : differences p (select f s (n - s)) ≡ number (s - p) ++ differences s (select f (s + 1) (n - (s + 1)))
  unfolding differences
  differences_next = rw (select_in f s n h e)

  pub differences_length : length (differences p (select f s (n - s))) ≡ length (number (s - p)) + length (differences s (select f (s + 1) (n - (s + 1))))
  differences_length = ap length differences_next ∙ length-append (number (s - p)) (differences s (select f (s + 1) (n - (s + 1))))

  pub run_next : {w b buf : List ℕ} {us : List (List ℕ)} {at : ℕ} → Writing w b buf at (differences p (select f s (n - s)) ∷ us)
      → Writing w b buf at (number (s - p) ∷ differences s (select f (s + 1) (n - (s + 1))) ∷ us)
  run_next = cut differences_next

-- ---- lists that rise, so that each difference is one

-- none is below p, and none below the one before
abbrev pub Rises : ℕ → List ℕ → Type 0
Rises p [] = Unit {0}
Rises p (x ∷ xs) = (p ≤ x) × Rises x xs

pub select_rises : (f : ℕ → Bool) (p b n : ℕ) → p ≤ b → Rises p (select f b n)
unfolding keep up_to
select_rises f p b zero h = tt
select_rises f p b (suc n) h = go (f b) (select_rises f b (suc b) n (omega arith)) (select_rises f p (suc b) n (omega arith))
  where
    go : (on : Bool) → Rises b (select f (suc b) n) → Rises p (select f (suc b) n) → Rises p (if on then b ∷ select f (suc b) n else select f (suc b) n)
    go true here there = (h, here)
    go false here there = there

pub slots_rise : (ws : List ℕ) → Rises 0 (slots_of ws)
unfolding slots_of
slots_rise ws = select_rises (has ws) 0 0 slot_count (omega arith)

-- of the list l, the number x comes first
module _ (p : ℕ) {x : ℕ} {l xs : List ℕ} (e : l ≡ x ∷ xs) where
  pub rises_first : Rises p l → (p ≤ x) × Rises x xs
  rises_first r = rw e at r

  pub difference_first : {w b buf : List ℕ} {us : List (List ℕ)} {at : ℕ} → Writing w b buf at (differences p l ∷ us)
      → Writing w b buf at (number (x - p) ∷ differences x xs ∷ us)
  unfolding differences
  difference_first = cut (ap (differences p) e)

pub set_length : (l : List ℕ) → length (set_bytes l) ≡ length (number (length l)) + length (differences 0 l)
unfolding set_bytes
set_length l = length-append (number (length l)) (differences 0 l)

-- of a list that was counted
pub counted_bytes : {n : ℕ} (l : List ℕ) → n ≡ length l → set_bytes l ≡ number n ++ differences 0 l
unfolding set_bytes
counted_bytes l e = rw (← e) refl

pub counted_length : (n : ℕ) (l : List ℕ) → n ≡ length l → length (number n) + length (differences 0 l) ≡ length (set_bytes l)
counted_length n l e = rw (e, set_length) refl

-- a set that has no slot
pub slots_none : (ws : List ℕ) → ((s : ℕ) → has ws s ≡ false) → slots_of ws ≡ []
unfolding slots_of
slots_none ws h = select_none (has ws) 0 slot_count (omega arith) (λ s _ _. h s)

pub none_bytes : (ws : List ℕ) → ((s : ℕ) → has ws s ≡ false) → set_bytes (slots_of ws) ≡ number 0
unfolding set_bytes differences
none_bytes ws h = ap set_bytes (slots_none ws h) ∙ append-nil (number 0)
