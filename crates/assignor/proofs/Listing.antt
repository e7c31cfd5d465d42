-- The places that subscribe, listed one after another from the places in order: each is stored, and counts if it subscribes (`listed_next`). Then the runs of
-- those listed, one after another. Assumes nothing.
use Rattle.std.proofs.Common.{ℕ, suc, ◌+◌, ◌/◌, ◌%◌, ◌^◌, ◌≤◌, ◌<◌, add-one, arith, ◌≡◌, sym, ap, ap₂, ◌∙◌, List, [], ◌∷◌, ◌++◌, append_assoc, length, get_or, take, drop, drop_of_length-le, drop-cons, take-suc-set, eq-eqb, ne_eqb}
use native.Mathlib.Decide.{ℕ_discrete}
use lib.ListN.{set, replicate}
use lib.Seq.{take-set-le}
use Rattle.rules.specs.Basics.{keep}
use Rattle.rules.specs.Group.{includes_topic}
use Rattle.rules.specs.Assignor.{runs, share}
use Rattle.assignor.specs.Shares.{among}

module _ (order subscriptions : List ℕ) (t i : ℕ) where
  -- the bit of the topic at the next place
  abbrev pub Bit : ℕ
  Bit = get_or subscriptions (get_or order i 0) 0 / 2 ^ t % 2

  among_in : i < length order → Bit ≡ 1 → among (drop i order) subscriptions t ≡ get_or order i 0 ∷ among (drop (i + 1) order) subscriptions t
  unfolding among keep includes_topic
  among_in h e = rw (add-one i, drop-cons order i 0 h, eq-eqb Bit 1 e)

  among_out : i < length order → (Bit ≡ 1 → ⊥) → among (drop i order) subscriptions t ≡ among (drop (i + 1) order) subscriptions t
  unfolding among keep includes_topic
  among_out h e = rw (add-one i, drop-cons order i 0 h, ne_eqb Bit 1 e)

  pub among_end : length order ≤ i → among (drop i order) subscriptions t ≡ []
  unfolding among keep
  among_end h = rw (drop_of_length-le order h)

  module _ (list : List ℕ) (n : ℕ) (l : n < length list) (h : i < length order) where
    pub listed_next : take (n + Bit) (set list n (get_or order i 0)) ++ among (drop (i + 1) order) subscriptions t ≡ take n list ++ among (drop i order) subscriptions t
    listed_next = go (ℕ_discrete Bit 1)
      where
        go : Dec (Bit ≡ 1) → take (n + Bit) (set list n (get_or order i 0)) ++ among (drop (i + 1) order) subscriptions t ≡ take n list ++ among (drop i order) subscriptions t
        go (yes e) =
            let z : n + Bit ≡ suc n = omega (arith, e) in
            ap (λ (k : ℕ). take k (set list n (get_or order i 0)) ++ among (drop (i + 1) order) subscriptions t) z
            ∙ ap (λ (x : List ℕ). x ++ among (drop (i + 1) order) subscriptions t) (take-suc-set list n (get_or order i 0) l)
            ∙ append_assoc (take n list) (get_or order i 0 ∷ []) (among (drop (i + 1) order) subscriptions t)
            ∙ ap (λ (x : List ℕ). take n list ++ x) (sym (among_in h e))
        go (no e) =
            let z : n + Bit ≡ n = omega (arith, e) in
            ap (λ (k : ℕ). take k (set list n (get_or order i 0)) ++ among (drop (i + 1) order) subscriptions t) z
            ∙ ap₂ (λ (x y : List ℕ). x ++ y) (take-set-le n list n (get_or order i 0) (omega arith)) (sym (among_out h e))

module _ (n k : ℕ) (ps : List ℕ) (i : ℕ) where
  pub runs_next : i < length ps → runs n k i (drop i ps) ≡ replicate (share n k i) (get_or ps i 0) ++ runs n k (i + 1) (drop (i + 1) ps)
  unfolding runs
  runs_next h = rw (add-one i, drop-cons ps i 0 h)

  pub runs_end : length ps ≤ i → runs n k i (drop i ps) ≡ []
  unfolding runs
  runs_end h = rw (drop_of_length-le ps h)
