-- Columns of a place are set: the other places stay, and the place has what was set.
use Rattle.std.proofs.Common.{◌≡◌, ℕ, zero, suc, ◌+◌, ◌*◌, ◌<◌, ◌≤◌, List, [], ◌∷◌, map, length, get_or, set, refl, ap, ◌∙◌, arith, length-set, get_or-set_other, get_or-set_same}
use Rattle.rules.specs.Basics.{up_to}
use Rattle.rules.specs.Constants.{max_members}
use Rattle.group.specs.Columns.{column_count, cell_count, cell_of, cell, put_all}

cell_of_is : (c k : ℕ) → cell_of c k ≡ k + c * max_members
cell_of_is zero k = omega arith
cell_of_is (suc c) k = refl

cell_of_inj : (c k j p : ℕ) → k < max_members → p < max_members → cell_of c k ≡ cell_of j p → (k ≡ p) × (c ≡ j)
cell_of_inj c k j p h hp e = let u = cell_of_is c k in let v = cell_of_is j p in (omega (arith, e, u, v), omega (arith, e, u, v))

module _ (p : ℕ) (hp : p < max_members) where
  pub all_far : (vs ms : List ℕ) (j c k : ℕ) → k < max_members → (k ≡ p → ⊥) → cell (put_all ms p j vs) c k ≡ cell ms c k
  all_far [] ms j c k h n = refl
  all_far (v ∷ vs) ms j c k h n = all_far vs (set ms (cell_of j p) v) (suc j) c k h n ∙ get_or-set_other ms (cell_of j p) (cell_of c k) v 0 (λ e. n (cell_of_inj c k j p h hp e).0)

  pub all_before : (vs ms : List ℕ) (j c : ℕ) → c < j → cell (put_all ms p j vs) c p ≡ cell ms c p
  all_before [] ms j c h = refl
  all_before (v ∷ vs) ms j c h = all_before vs (set ms (cell_of j p) v) (suc j) c (omega arith) ∙ get_or-set_other ms (cell_of j p) (cell_of c p) v 0 (λ e. let i = (cell_of_inj c p j p hp hp e).1 in omega (arith, i))

  pub all_same : (vs ms : List ℕ) (j i : ℕ) → length ms ≡ cell_count → i < length vs → j + length vs ≤ column_count → cell (put_all ms p j vs) (j + i) p ≡ get_or vs i 0
  all_same [] ms j i n h q = absurd (omega (arith, h))
  all_same (v ∷ vs) ms j zero n h q =
      let e : j + 0 ≡ j = omega arith in
      let f = cell_of_is j p in
      ap (λ (m : ℕ). cell (put_all ms p j (v ∷ vs)) m p) e ∙ all_before vs (set ms (cell_of j p) v) (suc j) j (omega arith) ∙ get_or-set_same ms (cell_of j p) v 0 (omega (arith, n, q, f))
  all_same (v ∷ vs) ms j (suc i) n h q =
      let e : j + suc i ≡ suc j + i = omega arith in
      ap (λ (m : ℕ). cell (put_all ms p j (v ∷ vs)) m p) e ∙ all_same vs (set ms (cell_of j p) v) (suc j) i (length-set ms (cell_of j p) v ∙ n) (omega (arith, h)) (omega (arith, q))

-- ---- a list that is made place by place

module _ {A : Type 0} where
  pub made_at : (f : ℕ → A) (d : A) (n len i : ℕ) → i < len → get_or (map f (up_to n len)) i d ≡ f (n + i)
  unfolding up_to
  made_at f d n zero i h = absurd (omega arith)
  made_at f d n (suc len) zero h = let e : n ≡ n + 0 = omega arith in ap f e
  made_at f d n (suc len) (suc i) h = made_at f d (suc n) len i (omega arith) ∙ (let e : suc n + i ≡ n + suc i = omega arith in ap f e)

  pub made_same : (f g : ℕ → A) (n len : ℕ) → ((k : ℕ) → n ≤ k → k < n + len → g k ≡ f k) → map g (up_to n len) ≡ map f (up_to n len)
  unfolding up_to
  made_same f g n zero e = refl
  made_same f g n (suc len) e =
      let t = made_same f g (suc n) len (λ k q r. e k (omega arith) (omega arith)) in
      let h = e n (omega arith) (omega arith) in
      λ i. h i ∷ t i

  pub made_set : (f g : ℕ → A) (x : A) (n len i : ℕ) → i < len → ((k : ℕ) → k < n + len → (k ≡ n + i → ⊥) → g k ≡ f k) → g (n + i) ≡ x → map g (up_to n len) ≡ set (map f (up_to n len)) i x
  unfolding up_to
  made_set f g x n zero i h e z = absurd (omega arith)
  made_set f g x n (suc len) zero h e z =
      let t = made_same f g (suc n) len (λ k q r. e k (omega arith) (λ s. omega (arith, s))) in
      let e : n ≡ n + 0 = omega arith in
      let y = ap g e ∙ z in
      λ i. y i ∷ t i
  made_set f g x n (suc len) (suc i) h e z =
      let s : suc n + i ≡ n + suc i = omega arith in
      let t = made_set f g x (suc n) len i (omega arith) (λ k q r. e k (omega arith) (λ y. r (omega (arith, y)))) (ap g s ∙ z) in
      let y = e n (omega arith) (λ y. omega (arith, y)) in
      λ j. y j ∷ t j

  pub made_long : (f : ℕ → A) (n len : ℕ) → length (map f (up_to n len)) ≡ len
  unfolding up_to
  made_long f n zero = refl
  made_long f n (suc len) = ap suc (made_long f (suc n) len)
