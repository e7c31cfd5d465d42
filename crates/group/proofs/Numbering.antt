-- The topics that the two arrays stand for: at a number, and with a number changed. Assumes nothing.
use Rattle.std.proofs.Common.{◌≡◌, ℕ, zero, suc, ◌+◌, ◌<◌, ◌≤◌, Bool, true, false, not, ◌&&◌, ◌||◌, eqb, ltb, leb, List, [], ◌∷◌, length, get_or, set, sym, refl, ap, ◌∙◌, ap₂, zero-add, arith, length-set, get_or-set_other, get_or-set_same, le-ltb, eq-eqb, ne_eqb}
use Rattle.std.specs.List.{list_any, range_with_len}
use native.Mathlib.Decide.{dec_lt, ℕ_discrete}
use mathlib.Core.Option.{Option, none}
use lib.ListN.{get_or-eq_default}
use lib.Seq.{set_out}
use Rattle.rules.specs.Basics.{any, same}
use Rattle.rules.specs.Constants.{topic_count}
use Rattle.rules.specs.Group as G
use Rattle.rules.specs.Group.{below_count}
use Rattle.rules.specs.Refusals.{has_id, allows}
use Rattle.group.specs.View.{view_topic, view_topics}
use Rattle.group.specs.Topics.{id_at, topic_of, Copied}
use Rattle.group.proofs.Putting.{made_at, made_set, made_long}

pub topics_long : (ids cs : List ℕ) → length (view_topics ids cs) ≡ topic_count
unfolding view_topics
topics_long ids cs = made_long (view_topic ids cs) 0 topic_count

-- past the last number there is no count, and no topic
pub topic_at : (ids cs : List ℕ) (t : ℕ) → length cs ≡ topic_count → get_or (view_topics ids cs) t none ≡ topic_of (id_at ids t) (get_or cs t 0)
unfolding view_topics view_topic topic_of
topic_at ids cs t n = go (dec_lt t topic_count)
  where
    go : Dec (t < topic_count) → get_or (view_topics ids cs) t none ≡ topic_of (id_at ids t) (get_or cs t 0)
    go (yes h) = made_at (view_topic ids cs) none 0 topic_count t h ∙ ap (view_topic ids cs) (zero-add t)
    go (no h) =
        let z : get_or cs t 0 ≡ 0 = get_or-eq_default cs 0 (omega (arith, n)) in
        get_or-eq_default (view_topics ids cs) none (omega (arith, topics_long ids cs)) ∙ rw z

-- ---- tests of a topic, by its count

pub own_number : (id own : List ℕ) (n count : ℕ) → (n ≡ 0 → ⊥) → same own id ≡ true → allows id count (topic_of own n) ≡ leb n count
unfolding allows topic_of
own_number id own n count e h = rw (ne_eqb n 0 e, h)

pub below_is : (p : ℕ) (own : List ℕ) (n : ℕ) → below_count p (topic_of own n) ≡ ltb p n
unfolding below_count topic_of
below_is p own zero = sym (le-ltb p 0 (omega arith))
below_is p own (suc k) = let z : eqb (suc k) 0 ≡ false = ne_eqb (suc k) 0 (λ q. omega arith) in rw z

-- ---- a number changed

pub topics_set : (ids ids' cs : List ℕ) (t : ℕ) (id : List ℕ) (n : ℕ) → t < topic_count → length cs ≡ topic_count → Copied id t ids ids'
    → view_topics ids' (set cs t n) ≡ set (view_topics ids cs) t (topic_of id n)
unfolding view_topics view_topic topic_of
topics_set ids ids' cs t id n h long e =
    made_set (view_topic ids cs) (view_topic ids' (set cs t n)) (topic_of id n) 0 topic_count t h
    (λ k q r.
    let far : k ≡ t → ⊥ = λ y. r (y ∙ sym (zero-add t)) in
    ap₂ topic_of (e.others k far) (get_or-set_other cs t k n 0 far))
    (ap (view_topic ids' (set cs t n)) (zero-add t) ∙ ap₂ topic_of (e.there h) (get_or-set_same cs t n 0 (omega (arith, long))))

pub topics_past : (ids cs : List ℕ) (t : ℕ) (x : Option G.Topic) → topic_count ≤ t → view_topics ids cs ≡ set (view_topics ids cs) t x
topics_past ids cs t x h = sym (set_out (view_topics ids cs) t x (omega (arith, topics_long ids cs)))

-- ---- the topics but that of a number

-- whether an element of a list passes, place by place
pub any_places : {A : Type 0} (f : A → Bool) (d : A) (p : ℕ → Bool) (i n : ℕ) (l : List A) → length l ≡ n → ((k : ℕ) → k < n → p (i + k) ≡ f (get_or l k d)) → list_any p (range_with_len i n) ≡ any f l
any_places f d p i zero [] e h = refl
any_places f d p i zero (x ∷ l) e h = absurd (omega (arith, e))
any_places f d p i (suc n) [] e h = absurd (omega (arith, e))
any_places f d p i (suc n) (x ∷ l) e h =
    let z : i + 0 ≡ i = omega arith in
    ap₂ (λ (a b : Bool). a || b) (ap p (sym z) ∙ h 0 (omega arith))
    (any_places f d p (i + 1) n l (omega (arith, e)) (λ k q. let s : i + 1 + k ≡ i + suc k = omega arith in ap p s ∙ h (suc k) (omega arith)))

module _ (id ids cs : List ℕ) (t : ℕ) where
  pub others_long : length (set (view_topics ids cs) t none) ≡ topic_count
  others_long = length-set (view_topics ids cs) t none ∙ topics_long ids cs

  pub others_at : (k : ℕ) → k < topic_count → has_id id (get_or (set (view_topics ids cs) t none) k none) ≡ (not (eqb k t) && has_id id (get_or (view_topics ids cs) k none))
  unfolding has_id
  others_at k h = go (ℕ_discrete k t)
    where
      go : Dec (k ≡ t) → has_id id (get_or (set (view_topics ids cs) t none) k none) ≡ (not (eqb k t) && has_id id (get_or (view_topics ids cs) k none))
      go (yes e) = rw (eq-eqb k t e, e, get_or-set_same (view_topics ids cs) t none none (omega (arith, e, h, topics_long ids cs)))
      go (no far) = rw (ne_eqb k t far) (ap (has_id id) (get_or-set_other (view_topics ids cs) t k none none far))

  pub any_other : list_any (λ k. not (eqb k t) && has_id id (get_or (view_topics ids cs) k none)) (range_with_len 0 topic_count) ≡ any (has_id id) (set (view_topics ids cs) t none)
  any_other = any_places (has_id id) none (λ k. not (eqb k t) && has_id id (get_or (view_topics ids cs) k none)) 0 topic_count (set (view_topics ids cs) t none) others_long
      (λ k h. ap (λ (j : ℕ). not (eqb j t) && has_id id (get_or (view_topics ids cs) j none)) (zero-add k) ∙ sym (others_at k h))
