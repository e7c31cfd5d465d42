-- What a turn of a loop over the slots of a set knows: the slots that are still to come are those from some number n on, and so the next of them is the lowest
-- from n on (`turn`), and where none comes there is none (`over`). The loop begins at 0 (`all_to_come`).
use Rattle.std.proofs.Common.{◌≡◌, refl, sym, ap, ◌∙◌, Bool, true, false, List, [], ◌∷◌, ℕ, zero, suc, ◌+◌, ◌-◌, ◌≤◌, ◌<◌, arith}
use Rattle.std.specs.Prelude.{if◌then◌else◌}
use Rattle.rules.specs.Basics.{keep, up_to}
use Rattle.rules.specs.Constants.{slot_count}
use Rattle.slots.specs.Set.{has, select, slots_of}
use Rattle.slots.proofs.Next.{none_join, none_one}

pub all_to_come : (ws : List ℕ) → slots_of ws ≡ select (has ws) 0 (slot_count - 0)
unfolding slots_of
all_to_come ws = refl

-- of the numbers from n on and below end, the first that f picks is x, and xs are the others that it picks
pub record Turn (f : ℕ → Bool) (n end x : ℕ) (xs : List ℕ) : Type 0 where
  pub from : n ≤ x
  pub below : x < end
  pub on : f x ≡ true
  pub off : (s : ℕ) → n ≤ s → s < x → f s ≡ false
  pub rest : xs ≡ select f (x + 1) (end - (x + 1))

turn_of : (f : ℕ → Bool) (k n end x : ℕ) (xs : List ℕ) → n + k ≡ end → select f n k ≡ x ∷ xs → Turn f n end x xs
unfolding keep up_to
turn_of f zero n end x xs h e = cc
turn_of f (suc k) n end x xs h e = go (f n) refl e (λ q. turn_of f k (suc n) end x xs (omega arith) q)
  where
    go : (b : Bool) → f n ≡ b → (if b then n ∷ select f (suc n) k else select f (suc n) k) ≡ x ∷ xs → (select f (suc n) k ≡ x ∷ xs → Turn f (suc n) end x xs) → Turn f n end x xs
    go true p q ih =
        let same : n ≡ x = cc in
        let left : select f (suc n) k ≡ xs = cc in
        let i : suc n ≡ x + 1 = omega arith in
        let m : k ≡ end - (x + 1) = omega arith in
        record {
          from = omega arith;
          below = omega arith;
          on = ap f (sym same) ∙ p;
          off = λ s u v. absurd (omega arith);
          rest = sym left ∙ ap (λ (j : ℕ). select f j k) i ∙ ap (select f (x + 1)) m;
        }
    go false p q ih =
        let t = ih q in
        record {
          from = omega (arith, t.from);
          below = t.below;
          on = t.on;
          off = none_join f n (n + 1) x (none_one f n p) (λ s u v. t.off s (omega arith) v);
          rest = t.rest;
        }

pub turn : {f : ℕ → Bool} {n end x : ℕ} {xs : List ℕ} → n ≤ end → select f n (end - n) ≡ x ∷ xs → Turn f n end x xs
turn {f} {n} {end} {x} {xs} h e = turn_of f (end - n) n end x xs (omega arith) e

none_of : (f : ℕ → Bool) (k n end : ℕ) → n + k ≡ end → select f n k ≡ [] → (s : ℕ) → n ≤ s → s < end → f s ≡ false
unfolding keep up_to
none_of f zero n end h e = λ s u v. absurd (omega arith)
none_of f (suc k) n end h e = go (f n) refl e (λ q. none_of f k (suc n) end (omega arith) q)
  where
    go : (b : Bool) → f n ≡ b → (if b then n ∷ select f (suc n) k else select f (suc n) k) ≡ []
        → (select f (suc n) k ≡ [] → (s : ℕ) → suc n ≤ s → s < end → f s ≡ false) → (s : ℕ) → n ≤ s → s < end → f s ≡ false
    go true p q ih = cc
    go false p q ih = none_join f n (n + 1) end (none_one f n p) (λ s u v. ih q s (omega arith) v)

pub over : (f : ℕ → Bool) (n end : ℕ) → n ≤ end → select f n (end - n) ≡ [] → (s : ℕ) → n ≤ s → s < end → f s ≡ false
over f n end h e = none_of f (end - n) n end (omega arith) e
