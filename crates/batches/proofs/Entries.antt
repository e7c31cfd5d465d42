-- A record 7 laid over a target, in two passes: no entry is its place, then the entries of its slots are.
use Rattle.std.proofs.Common.{if◌then◌else◌, ◌≡◌, refl, sym, ap, ◌∙◌, Bool, true, false, ◌||◌, List, [], ◌∷◌, ◌++◌, append-nil, append_assoc, ℕ, zero, suc, ◌+◌, ◌<◌, zero-add, add-zero, add-suc, suc-add, arith, eqb, length, get_or, set, length-set, ext_get_or, get_or-set_same, get_or-set_other, eq-eqb, ne_eqb}
use mathlib.Core.Bool.{or-true, or-false}
use native.Mathlib.Decide.{ℕ_discrete}
use Rattle.rules.specs.Basics.{any, keep, up_to}
use Rattle.rules.specs.Constants.{no_place, slot_count}
use Rattle.rules.specs.Batches.{laid}
use Rattle.slots.specs.Set.{has, slots_of}
use Rattle.batches.specs.Laying.{Replaces}
use Rattle.batches.proofs.Lists.{any_append}

-- ---- the second pass

-- what is kept of n numbers from b on is one of them
kept_below : (f : ℕ → Bool) (b n x : ℕ) → any (eqb x) (keep f (up_to b n)) ≡ true → x < b + n
unfolding keep up_to
kept_below f b zero x e = cc
kept_below f b (suc n) x e = go (f b) (ℕ_discrete x b) (kept_below f (suc b) n x) e
  where
    go : (c : Bool) → Dec (x ≡ b) → (any (eqb x) (keep f (up_to (suc b) n)) ≡ true → x < suc b + n)
        → any (eqb x) (if c then b ∷ keep f (up_to (suc b) n) else keep f (up_to (suc b) n)) ≡ true → x < b + suc n
    go c (yes q) ih h = omega arith
    go false (no q) ih h = omega (arith, ih h)
    go true (no q) ih h = omega (arith, ih (sym (ap (λ (y : Bool). y || any (eqb x) (keep f (up_to (suc b) n))) (ne_eqb x b q)) ∙ h))

-- the entries of the slots done are p, and the others stand; those to come are the rest of the set
pub record Gives (ws : List ℕ) (p : ℕ) (l₀ l done rest : List ℕ) : Type 0 where
  pub parts : done ++ rest ≡ slots_of ws
  pub replaces : Replaces (λ k x. if any (eqb k) done then p else x) l₀ l

pub gives_start : (ws : List ℕ) (p : ℕ) (l rest : List ℕ) → rest ≡ slots_of ws → Gives ws p l l [] rest
gives_start ws p l rest e = record { parts = e; replaces = record { size = refl; is = λ k h. refl } }

module _ {ws l₀ l done rest : List ℕ} {p : ℕ} (g : Gives ws p l₀ l done rest) where
  pub gives_ends : rest ≡ [] → Replaces (λ k x. if any (eqb k) (slots_of ws) then p else x) l₀ l
  gives_ends e =
      let all : done ≡ slots_of ws = sym (append-nil done) ∙ ap (λ (r : List ℕ). done ++ r) (sym e) ∙ g.parts in
      record { size = g.replaces.size; is = λ k h. rw (← all) (g.replaces.is k h) }

  module _ {x : ℕ} {more : List ℕ} (e : rest ≡ x ∷ more) where
    pub gives_slot : x < slot_count
    unfolding slots_of
    gives_slot =
        let all : done ++ x ∷ more ≡ slots_of ws = ap (λ (r : List ℕ). done ++ r) (sym e) ∙ g.parts in
        let here : any (eqb x) (done ++ x ∷ more) ≡ true =
        any_append (eqb x) done (x ∷ more) ∙ ap (λ (b : Bool). any (eqb x) done || (b || any (eqb x) more)) (eq-eqb x x refl) ∙ or-true (any (eqb x) done) in
        omega (arith, kept_below (has ws) 0 slot_count x (sym (ap (any (eqb x)) all) ∙ here))

    pub gives_more : x < length l → Gives ws p l₀ (set l x p) (done ++ x ∷ []) more
    gives_more h = record {
      parts = append_assoc done (x ∷ []) more ∙ ap (λ (r : List ℕ). done ++ r) (sym e) ∙ g.parts;
      replaces = record {
        size = length-set l x p ∙ g.replaces.size;
        is = λ k q. go k q (ℕ_discrete k x);
      };
    }
      where
        known : (k : ℕ) → any (eqb k) (done ++ x ∷ []) ≡ (any (eqb k) done || (eqb k x || false))
        known k = any_append (eqb k) done (x ∷ [])

        go : (k : ℕ) → k < length l₀ → Dec (k ≡ x) → get_or (set l x p) k 0 ≡ (if any (eqb k) (done ++ x ∷ []) then p else get_or l₀ k 0)
        go k q (yes r) = rw (known k, eq-eqb k x r, or-true (any (eqb k) done)) (ap (λ (n : ℕ). get_or (set l x p) n 0) r ∙ get_or-set_same l x p 0 h)
        go k q (no r) = rw (known k, ne_eqb k x r, or-false (any (eqb k) done)) (get_or-set_other l x k p 0 r ∙ g.replaces.is k q)

-- ---- both

abbrev entry : ℕ → List ℕ → ℕ → ℕ → ℕ
entry p slots n e = if any (eqb n) slots then p else (if eqb e p then no_place else e)

laid_length : (p : ℕ) (slots : List ℕ) (n : ℕ) (es : List ℕ) → length (laid p slots n es) ≡ length es
unfolding laid
laid_length p slots n [] = refl
laid_length p slots n (e ∷ es) = ap suc (laid_length p slots (suc n) es)

laid_from : (p : ℕ) (slots : List ℕ) (n : ℕ) (es : List ℕ) (k : ℕ) → k < length es → get_or (laid p slots n es) k 0 ≡ entry p slots (n + k) (get_or es k 0)
unfolding laid
laid_from p slots n [] k h = absurd (omega arith)
laid_from p slots n (e ∷ es) zero h = ap (λ (m : ℕ). entry p slots m e) (sym (add-zero n))
laid_from p slots n (e ∷ es) (suc k) h =
    laid_from p slots (suc n) es k (omega arith) ∙ ap (λ (m : ℕ). entry p slots m (get_or es k 0)) (suc-add n k ∙ sym (add-suc n k))

laid_at : (p : ℕ) (slots es : List ℕ) (k : ℕ) → k < length es → get_or (laid p slots 0 es) k 0 ≡ entry p slots k (get_or es k 0)
laid_at p slots es k h = laid_from p slots 0 es k h ∙ ap (λ (m : ℕ). entry p slots m (get_or es k 0)) (zero-add k)

pub laid_is : (p : ℕ) (slots : List ℕ) {l m r : List ℕ} → Replaces (λ k x. if eqb x p then no_place else x) l m
    → Replaces (λ k x. if any (eqb k) slots then p else x) m r → r ≡ laid p slots 0 l
laid_is p slots {l} {m} {r} c g =
    ext_get_or 0 r (laid p slots 0 l) (g.size ∙ c.size ∙ sym (laid_length p slots 0 l)) (λ k h.
    let q : k < length l = omega (arith, g.size, c.size) in
    g.is k (omega (arith, c.size)) ∙ ap (λ (x : ℕ). if any (eqb k) slots then p else x) (c.is k q) ∙ sym (laid_at p slots l k q))

-- what the steps of a walk over the slots come to
pub ruleset by_slots = (gives_start, gives_slot, gives_more, gives_ends)
