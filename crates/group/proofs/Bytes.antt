-- The bytes of an ID where they stand among all topics' IDs: compared and copied; and an ID of zeros. Assumes nothing.
use Rattle.std.proofs.Common.{◌≡◌, ℕ, ◌+◌, ◌-◌, ◌*◌, ◌<◌, ◌≤◌, Bool, false, ◌&&◌, eqb, List, [], ◌∷◌, ◌++◌, length, take, drop, sym, refl, ap, ◌∙◌, arith, drop_of_length-le, length-take-le, take_at, drop_at}
use Rattle.std.proofs.lemmas.List.{drop-drop, drop-take, take-take}
use native.Mathlib.Decide.{dec_lt}
use lib.Pointwise.{pointwise}
use Rattle.std.specs.List.{list_all}
use Rattle.std.proofs.lemmas.List.Recursion.{same_from_clauses}
use Rattle.rules.specs.Basics.{all, same}
use Rattle.rules.specs.Constants.{topic_count, id_length}
use Rattle.group.specs.Topics.{id_at, Copied}

-- ---- compared

pub same_is : (a b : List ℕ) → pointwise eqb a b ≡ same a b
same_is [] [] = refl
same_is [] (y ∷ ys) = refl
same_is (x ∷ xs) [] = refl
same_is (x ∷ xs) (y ∷ ys) = ap (λ (v : Bool). eqb x y && v) (same_is xs ys)

pub all_is : (f : ℕ → Bool) (l : List ℕ) → list_all f l ≡ all f l
all_is f = same_from_clauses (list_all f) (all f) (λ x b. f x && b) refl (λ _ _. refl) (λ _ _. refl)

-- past the last topic there are no bytes
pub past_id : (ids : List ℕ) (t : ℕ) (id : List ℕ) → length ids ≡ topic_count * id_length → topic_count ≤ t → length id ≡ id_length → same (id_at ids t) id ≡ false
past_id ids t id n h q = rw (drop_of_length-le ids {i = t * id_length} (omega (arith, n))) (go id q)
  where
    go : (l : List ℕ) → length l ≡ id_length → same [] l ≡ false
    go [] e = absurd (omega (arith, e))
    go (x ∷ l) e = refl

-- ---- copied: the IDs before and after are those of a list that is the same before and after

module _ (ids ids' : List ℕ) (k n : ℕ) where
  front_same : k * id_length + id_length ≤ n → take n ids' ≡ take n ids → id_at ids' k ≡ id_at ids k
  front_same h e = part ids' ∙ ap (λ (l : List ℕ). drop (k * id_length) (take (k * id_length + id_length) l)) e ∙ sym (part ids)
    where
      part : (l : List ℕ) → id_at l k ≡ drop (k * id_length) (take (k * id_length + id_length) (take n l))
      part l = sym (drop-take (k * id_length) id_length l) ∙ ap (drop (k * id_length)) (sym (take-take (k * id_length + id_length) n l h))

  back_same : n ≤ k * id_length → drop n ids' ≡ drop n ids → id_at ids' k ≡ id_at ids k
  back_same h e = part ids' ∙ ap (λ (l : List ℕ). take id_length (drop (k * id_length - n) l)) e ∙ sym (part ids)
    where
      sum : n + (k * id_length - n) ≡ k * id_length
      sum = omega arith

      part : (l : List ℕ) → id_at l k ≡ take id_length (drop (k * id_length - n) (drop n l))
      part l = ap (take id_length) (sym (drop-drop (k * id_length - n) n l ∙ ap (λ (m : ℕ). drop m l) sum))

-- the ID stands in the place of k bytes
pub copied : (id ids : List ℕ) (t k : ℕ) → k ≡ id_length → length ids ≡ topic_count * id_length → t < topic_count → length id ≡ id_length
    → Copied id t ids (take (t * id_length) ids ++ (id ++ drop k (drop (t * id_length) ids)))
copied id ids t k e long h n = record {
  there = λ _. ap (take id_length) past ∙ take_at id _ id_length n;
  others = λ j far. go j far (dec_lt j t);
}
  where
    at : ℕ
    at = t * id_length

    ids' : List ℕ
    ids' = take (t * id_length) ids ++ (id ++ drop k (drop (t * id_length) ids))

    front : length (take (t * id_length) ids) ≡ t * id_length
    front = length-take-le (t * id_length) ids (omega (arith, long))

    past : drop (t * id_length) (take (t * id_length) ids ++ (id ++ drop k (drop (t * id_length) ids))) ≡ id ++ drop k (drop (t * id_length) ids)
    past = drop_at (take (t * id_length) ids) _ (t * id_length) front

    before : take (t * id_length) (take (t * id_length) ids ++ (id ++ drop k (drop (t * id_length) ids))) ≡ take (t * id_length) ids
    before = take_at (take (t * id_length) ids) _ (t * id_length) front

    after : drop (t * id_length + id_length) (take (t * id_length) ids ++ (id ++ drop k (drop (t * id_length) ids))) ≡ drop (t * id_length + id_length) ids
    after =
        sym (drop-drop id_length (t * id_length) _) ∙ ap (drop id_length) past ∙ drop_at id _ id_length n
        ∙ drop-drop k (t * id_length) ids ∙ ap (λ (m : ℕ). drop (t * id_length + m) ids) e

    go : (j : ℕ) → (j ≡ t → ⊥) → Dec (j < t) → id_at (take (t * id_length) ids ++ (id ++ drop k (drop (t * id_length) ids))) j ≡ id_at ids j
    go j far (yes q) = front_same ids _ j (t * id_length) (omega arith) before
    go j far (no q) = back_same ids _ j (t * id_length + id_length) (omega (arith, far, q)) after
