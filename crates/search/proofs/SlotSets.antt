-- A list that rises up to a slot is a set of slots; one that falls somewhere, or has an entry that is no slot, is none.
use Rattle.std.proofs.Common.{ℕ, zero, suc, ◌+◌, ◌-◌, ◌≤◌, ◌<◌, arith, ◌≡◌, refl, sym, ap, ◌∙◌, subst, Bool, true, false, ◌&&◌, true≢false, List, [], ◌∷◌, ltb, leb, length, get_or, ltb-true, ltb-false, le-ltb, lt-ltb, le-leb}
use native.Mathlib.Decide.{dec_lt}
use mathlib.Core.Bool.{and-false}
use borrow.Author.Tests.{lt-leb}
use Rattle.rules.specs.Basics.{all, rising}
use Rattle.rules.specs.Constants.{slot_count}
use Rattle.rules.specs.Refusals.{is_slot_set}
use Rattle.search.specs.Rising.{Rises, TellsRising}

abbrev AreSlots : List ℕ → Bool
AreSlots l = all (λ s. ltb s slot_count) l

-- ---- lists that are none

not_rising : (n : ℕ) (l : List ℕ) (k : ℕ) → suc k < length l → get_or l (suc k) 0 ≤ get_or l k 0 → rising n l ≡ false
not_rising n [] k h q = absurd (omega (arith, h))
not_rising n (x ∷ []) k h q = absurd (omega (arith, h))
not_rising n (x ∷ y ∷ l) zero h q =
    let e : leb (suc x) y ≡ false = lt-leb (suc x) y (omega (arith, q)) in
    ap (λ (b : Bool). leb n x && (b && rising (suc y) l)) e ∙ and-false (leb n x)
not_rising n (x ∷ y ∷ l) (suc k) h q =
    ap (λ (b : Bool). leb n x && b) (not_rising (suc x) (y ∷ l) k (omega (arith, h)) q) ∙ and-false (leb n x)

not_slots : (l : List ℕ) (k : ℕ) → k < length l → slot_count ≤ get_or l k 0 → AreSlots l ≡ false
not_slots [] k h q = absurd (omega (arith, h))
not_slots (x ∷ l) zero h q = ap (λ (b : Bool). b && AreSlots l) (le-ltb x slot_count q)
not_slots (x ∷ l) (suc k) h q = ap (λ (b : Bool). ltb x slot_count && b) (not_slots l k (omega (arith, h)) q) ∙ and-false (ltb x slot_count)

falls : (l : List ℕ) (k : ℕ) → suc k < length l → get_or l (suc k) 0 ≤ get_or l k 0 → is_slot_set l ≡ false
unfolding is_slot_set
falls l k h q = ap (λ (b : Bool). b && AreSlots l) (not_rising 0 l k h q)

beyond : (l : List ℕ) (k : ℕ) → k < length l → slot_count ≤ get_or l k 0 → is_slot_set l ≡ false
unfolding is_slot_set
beyond l k h q = ap (λ (b : Bool). rising 0 l && b) (not_slots l k h q) ∙ and-false (rising 0 l)

-- each entry of a set of slots is one
pub slot_below : (l : List ℕ) → is_slot_set l ≡ true → (k : ℕ) → k < length l → get_or l k 0 < slot_count
slot_below l e k h = go (dec_lt (get_or l k 0) slot_count)
  where
    go : Dec (get_or l k 0 < slot_count) → get_or l k 0 < slot_count
    go (yes q) = q
    go (no q) = absurd (true≢false (sym e ∙ beyond l k h (omega (arith, q))))

-- ---- lists that are one

climbs : (n x : ℕ) (l : List ℕ) → n ≤ x → Rises (x ∷ l) 0 (length l) → get_or (x ∷ l) (length l) 0 < slot_count
    → (x < slot_count) × (rising n (x ∷ l) ≡ true) × (AreSlots (x ∷ l) ≡ true)
climbs n x [] h r b = (b, rw (le-leb n x h), rw (lt-ltb x slot_count b))
climbs n x (y ∷ l) h r b =
    let up : x < y = r 0 (omega arith) (omega arith) in
    let w = climbs (suc x) y l up (λ k p q. r (suc k) (omega arith) (omega (arith, q))) b in
    let e : x < slot_count = omega (arith, up, w.0) in
    (e, rw (le-leb n x h) w.1, rw (lt-ltb x slot_count e) w.2)

set_of : (l : List ℕ) → 0 < length l → Rises l 0 (length l - 1) → get_or l (length l - 1) 0 < slot_count → is_slot_set l ≡ true
unfolding is_slot_set
set_of [] h r b = absurd (omega (arith, h))
set_of (x ∷ l) h r b =
    let n : length (x ∷ l) - 1 ≡ length l = omega arith in
    let w = climbs 0 x l (omega arith) (subst (Rises (x ∷ l) 0) n r) (subst (λ (k : ℕ). get_or (x ∷ l) k 0 < slot_count) n b) in
    rw (w.1, w.2)

pub empty_set : (l : List ℕ) → length l ≡ 0 → true ≡ is_slot_set l
unfolding is_slot_set
empty_set [] h = refl
empty_set (x ∷ l) h = absurd (omega (arith, h))

-- where a list rises, its last entry decides
pub last_tells : (l : List ℕ) → 0 < length l → Rises l 0 (length l - 1) → ltb (get_or l (length l - 1) 0) slot_count ≡ is_slot_set l
last_tells l h r = go (ltb (get_or l (length l - 1) 0) slot_count) refl
  where
    go : (b : Bool) → ltb (get_or l (length l - 1) 0) slot_count ≡ b → b ≡ is_slot_set l
    go true e = sym (set_of l h r (ltb-true _ _ e))
    go false e = sym (beyond l (length l - 1) (omega (arith, h)) (ltb-false _ _ e))

-- ---- parts of a list

pub no_more : (l : List ℕ) (a b : ℕ) → is_slot_set l ≡ false → TellsRising l a b false
no_more l a b h = (λ e. absurd (true≢false (sym e)), λ e. h)

-- one entry more
one_more : (l : List ℕ) (a b : ℕ) → Rises l a b → get_or l b 0 < get_or l (suc b) 0 → Rises l a (suc b)
one_more l a b r h k p q = go (dec_lt k b)
  where
    go : Dec (k < b) → get_or l k 0 < get_or l (suc k) 0
    go (yes s) = r k p s
    go (no s) = let e : b ≡ k = omega (arith, q, s) in subst (λ (j : ℕ). get_or l j 0 < get_or l (suc j) 0) e h

-- an entry and the one before it
pub falls_at : (l : List ℕ) (i : ℕ) → 1 ≤ i → i < length l → get_or l i 0 ≤ get_or l (i - 1) 0 → is_slot_set l ≡ false
falls_at l zero p b h = absurd (omega (arith, p))
falls_at l (suc i) p b h = let e : suc i - 1 ≡ i = omega arith in falls l i b (subst (λ (n : ℕ). get_or l (suc i) 0 ≤ get_or l n 0) e h)

-- two parts that meet or overlap
pub joined : (l : List ℕ) (a b c d : ℕ) → c ≤ b → Rises l a b → Rises l c d → Rises l a d
joined l a b c d h r s k p q = go (dec_lt k b)
  where
    go : Dec (k < b) → get_or l k 0 < get_or l (suc k) 0
    go (yes t) = r k p t
    go (no t) = s k (omega (arith, h, t)) q

-- a test of one entry more
module _ (l : List ℕ) (a b : ℕ) where
  abbrev Test : Bool
  Test = ltb (get_or l b 0) (get_or l (suc b) 0)

  more : (r : Bool) → suc b < length l → TellsRising l a b r → TellsRising l a (suc b) (r && Test)
  more false h t = no_more l a (suc b) (t.1 refl)
  more true h t = go Test refl
    where
      go : (x : Bool) → Test ≡ x → TellsRising l a (suc b) x
      go true e = (λ q. one_more l a b (t.0 refl) (ltb-true _ _ e), λ q. absurd (true≢false q))
      go false e = no_more l a (suc b) (falls l b h (ltb-false _ _ e))

pub tells_more : (l : List ℕ) (a i : ℕ) (r : Bool) → a + i + 1 < length l → TellsRising l a (a + i) r
    → TellsRising l a (a + (i + 1)) (r && ltb (get_or l (a + i) 0) (get_or l (a + i + 1) 0))
tells_more l a i r h t =
    let e : suc (a + i) ≡ a + (i + 1) = omega arith in
    let f : suc (a + i) ≡ a + i + 1 = omega arith in
    let m = more l a (a + i) r (omega (arith, h)) t in
    subst (λ (n : ℕ). TellsRising l a n (r && ltb (get_or l (a + i) 0) (get_or l (a + i + 1) 0))) e
    (subst (λ (n : ℕ). TellsRising l a (suc (a + i)) (r && ltb (get_or l (a + i) 0) (get_or l n 0))) f m)
