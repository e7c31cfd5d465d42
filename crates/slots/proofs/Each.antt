-- Elements of a list, and a loop that replaces each in turn.
use Rattle.std.proofs.Common.{◌≡◌, refl, ap, ◌∙◌, List, [], ◌∷◌, ℕ, zero, suc, ◌+◌, ◌≤◌, ◌<◌, le_of_suc-le-suc, not-suc-le-zero, arith, length, get_or, length-set, get_or-set_same, get_or-set_other, below_more}
use lib.ListN.{set}

-- an element that is there is the same for every default
pub get_d_any : (l : List ℕ) (i d e : ℕ) → i < length l → get_or l i d ≡ get_or l i e
get_d_any [] i d e h = absurd (not-suc-le-zero h)
get_d_any (x ∷ l) zero d e h = refl
get_d_any (x ∷ l) (suc i) d e h = get_d_any l i d e (le_of_suc-le-suc h)

-- below i the elements are what f says, and the next is stored
pub store_next : {A : Type 0} (f : ℕ → A) (d : A) (l : List A) (i : ℕ) (v : A) → i < length l → ((k : ℕ) → k < i → get_or l k d ≡ f k) → v ≡ f i
    → (k : ℕ) → k < i + 1 → get_or (set l i v) k d ≡ f k
store_next f d l i v h e p =
    below_more (λ k. get_or (set l i v) k d ≡ f k) i (λ k q. get_or-set_other l i k v d (λ (r : k ≡ i). omega arith) ∙ e k q) (get_or-set_same l i v d h ∙ p)

-- the elements below i are f of what they were, the others are as they were
pub record Each (f : ℕ → ℕ → ℕ) (l₀ l : List ℕ) (i : ℕ) : Type 0 where
  pub len : length l ≡ length l₀
  pub done : (k : ℕ) → k < i → get_or l k 0 ≡ f k (get_or l₀ k 0)
  pub left : (k : ℕ) → i ≤ k → get_or l k 0 ≡ get_or l₀ k 0

pub each_none : (f : ℕ → ℕ → ℕ) (l : List ℕ) → Each f l l 0
each_none f l = record { len = refl; done = λ k h. absurd (omega arith); left = λ k h. refl }

pub each_more : {f : ℕ → ℕ → ℕ} {l₀ l : List ℕ} {i : ℕ} (v : ℕ) → Each f l₀ l i → i < length l → v ≡ f i (get_or l i 0) → Each f l₀ (set l i v) (i + 1)
each_more {f} {l₀} {l} {i} v e h p = record {
  len = length-set l i v ∙ e.len;
  done = store_next (λ k. f k (get_or l₀ k 0)) 0 l i v h e.done (p ∙ ap (f i) (e.left i (omega arith)));
  left = λ k q. get_or-set_other l i k v 0 (λ (r : k ≡ i). omega arith) ∙ e.left k (omega arith);
}
