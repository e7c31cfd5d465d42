-- A set of slots gathered from its rising list: what is in the set so far is the front of the list.
use Rattle.std.proofs.Common.{if◌then◌else◌, ◌≡◌, refl, sym, ap, ap₂, subst, ◌∙◌, Bool, true, false, ◌||◌, List, [], ◌∷◌, ◌++◌, append_assoc, append-nil, ℕ, zero, suc, ◌+◌, ◌-◌, ◌*◌, ◌/◌, ◌%◌, ◌^◌, ◌≤◌, ◌<◌, zero-add, add-one, arith, eqb, ltb, leb, length, get_or, set, length-set, eq-eqb, ne_eqb, ltb-true, leb-true}
use mathlib.Core.Bool.{or-true, or-false, and-true}
use mathlib.Core.Option.{Option, none, some}
use lib.Bits.{bit_or}
use Rattle.std.specs.Prelude as P
use Rattle.rules.specs.Basics.{keep, up_to}
use Rattle.rules.specs.Constants.{slot_count}
use Rattle.rules.specs.Reader.{and_then, pure, refuse, ◌>>=◌}
use Rattle.rules.proofs.Lists as rules-lists
use Rattle.slots.specs.Set.{has, select, slots_of, word_count}
use Rattle.slots.proofs.Selecting.{select_skip, select_split}
use Rattle.slots.proofs.Words.{has_mark, bit_put}
use Rattle.reading.specs.Narrow.{number32, slot_from, rising_slots, set32}
use Rattle.reading.proofs.Places.{goes_on, stops}

-- ---- picks

split_at : (f : ℕ → Bool) (m n : ℕ) → m ≤ n → select f 0 n ≡ select f 0 m ++ select f m (n - m)
split_at f m n h =
    let e : n ≡ m + (n - m) = omega arith in
    ap (select f 0) e ∙ select_split f 0 m (n - m) ∙ ap (λ (k : ℕ). select f 0 m ++ select f k (n - m)) (zero-add m)

-- one more, above all others
select_more : (f h : ℕ → Bool) (low x : ℕ) → low ≤ x → ((s : ℕ) → low ≤ s → f s ≡ false) → ((s : ℕ) → h s ≡ (f s || eqb s x))
    → select h 0 (x + 1) ≡ select f 0 low ++ x ∷ []
unfolding keep up_to
select_more f h low x l z e =
    let other : (s : ℕ) → (s ≡ x → ⊥) → h s ≡ f s = λ s q. e s ∙ ap (λ (b : Bool). f s || b) (ne_eqb s x q) ∙ or-false (f s) in
    let front : select h 0 low ≡ select f 0 low = rules-lists.keep_ext h f 0 low (λ s p q. other s (λ (r : s ≡ x). omega arith)) in
    let on : h x ≡ true = e x ∙ ap (λ (b : Bool). f x || b) (eq-eqb x x refl) ∙ or-true (f x) in
    let one : x + 1 - x ≡ suc zero = omega arith in
    let back : select h low (x + 1 - low) ≡ x ∷ [] =
    select_skip h (x + 1) low x l (omega arith) (λ s p q. other s (λ (r : s ≡ x). omega arith) ∙ z s p) ∙ rw (one, on) in
    split_at h low (x + 1) (omega arith) ∙ ap₂ ◌++◌ front back

-- nothing more
select_all : (ws : List ℕ) (low : ℕ) → low ≤ slot_count → ((s : ℕ) → low ≤ s → has ws s ≡ false) → select (has ws) 0 low ≡ slots_of ws
unfolding keep up_to slots_of
select_all ws low l z =
    let none_left : select (has ws) low (slot_count - low) ≡ [] = select_skip (has ws) slot_count low slot_count l (omega arith) (λ s p q. z s p) in
    sym (split_at (has ws) low slot_count l ∙ rw (none_left, append-nil))

-- the set with a slot put in
abbrev pub marked : List ℕ → ℕ → List ℕ
marked ws x = set ws (x / 64) (bit_or (get_or ws (x / 64) 0) ((1 * 2 ^ (x % 64)) % 2 ^ 64))

has_marked : (ws : List ℕ) (x : ℕ) → x / 64 < length ws → (y : ℕ) → has (marked ws x) y ≡ (has ws y || eqb y x)
has_marked ws x h y =
    has_mark ws x _ true h (bit_put _ (x % 64) true (omega arith) refl) y ∙ ap (λ (b : Bool). has ws y || b) (and-true (eqb y x))

-- ---- the differences

abbrev Result : Type 0
Result = Option (List ℕ × List ℕ)

unfoldable pub prefixed : List ℕ → Result → Result
prefixed done none = none
prefixed done (some r) = some (done ++ r.0, r.1)

prefixed_nil : (o : Result) → o ≡ prefixed [] o
unfolding prefixed
prefixed_nil none = refl
prefixed_nil (some r) = refl

-- a slot that is read goes to the front
moved : (done : List ℕ) (x : ℕ) (o : Result) → prefixed done (and_then o (λ l. pure (x ∷ l))) ≡ prefixed (done ++ x ∷ []) o
unfolding prefixed and_then pure
moved done x none = refl
moved done x (some r) = rw append_assoc

-- ---- the test of a slot

pub slot_wrong : (b : Bool) (x : ℕ) → P.None ≡ (if b then P.Some x else P.None) → b ≡ false
slot_wrong true x e = cc
slot_wrong false x e = refl

pub record Right (low x slot : ℕ) : Type 0 where
  pub passes : slot_from low x ≡ true
  pub is : slot ≡ x
  pub above : low ≤ x
  pub below : x < slot_count

pub slot_good : (low x slot : ℕ) → P.Some slot ≡ (if slot_from low x then P.Some x else P.None) → Right low x slot
slot_good low x slot e = pick (slot_from low x) refl e
  where
    pick : (b : Bool) → slot_from low x ≡ b → P.Some slot ≡ (if b then P.Some x else P.None) → Right low x slot
    pick true p e =
        let h = rules-lists.and_true (leb low x) (ltb x slot_count) p in
        record { passes = p; is = cc; above = leb-true low x h.0; below = ltb-true x slot_count h.1 }
    pick false p e = cc

-- ---- the loop

-- of the slots of the set that the bytes b begin with those read so far are the front, all below `low`; the bytes b' say the `left` others
pub record Rising (b : List ℕ) (ws : List ℕ) (low from : ℕ) (b' : List ℕ) (left : ℕ) : Type 0 where
  pub reads : set32 b ≡ prefixed (select (has ws) 0 low) (rising_slots left low from b')
  pub long : length ws ≡ word_count
  pub above : (x : ℕ) → low ≤ x → has ws x ≡ false
  pub low_slot : low ≤ slot_count

pub rising_start : {b b' : List ℕ} {n : ℕ} (ws : List ℕ) → number32 b ≡ some (n, b') → length ws ≡ word_count → ((x : ℕ) → has ws x ≡ false)
    → Rising b ws 0 0 b' n
unfolding set32 keep up_to
rising_start {b} {b'} {n} ws r e z = record {
  reads = goes_on _ _ r ∙ prefixed_nil (rising_slots n 0 0 b');
  long = e;
  above = λ x p. z x;
  low_slot = omega arith;
}

-- the number of the slots is missing
pub rising_none : (b : List ℕ) → number32 b ≡ none → set32 b ≡ none
unfolding set32
rising_none b e = stops _ _ e

module _ {b : List ℕ} {ws : List ℕ} {low from : ℕ} {b' : List ℕ} {left : ℕ} (r : Rising b ws low from b' left) where
  -- what the bytes b' say
  by : {o : Result} → rising_slots left low from b' ≡ o → set32 b ≡ prefixed (select (has ws) 0 low) o
  by e = r.reads ∙ ap (prefixed (select (has ws) 0 low)) e

  -- a difference is missing
  pub rising_cut : 0 < left → number32 b' ≡ none → set32 b ≡ none
  unfolding prefixed rising_slots
  rising_cut h e =
      let k : left ≡ suc (left - 1) = omega arith in
      by (ap (λ (n : ℕ). rising_slots n low from b') k ∙ stops _ _ e)

  module _ (d less : ℕ) (b'' : List ℕ) (k : left ≡ suc less) (e : number32 b' ≡ some (d, b'')) where
    goes : rising_slots left low from b'
        ≡ (if slot_from low (from + d) then (rising_slots less (suc (from + d)) (from + d) >>= λ l. pure ((from + d) ∷ l)) else refuse) b''
    unfolding rising_slots
    goes = ap (λ (n : ℕ). rising_slots n low from b') k ∙ goes_on _ _ e

    pub rising_more : (slot : ℕ) → P.Some slot ≡ (if slot_from low (from + d) then P.Some (from + d) else P.None)
        → Rising b (marked ws slot) (slot + 1) slot b'' less
    unfolding ◌>>=◌
    rising_more slot f =
        let x = from + d in
        let good = slot_good low x slot f in
        let marks = has_marked ws x (omega (arith, r.long, good.below)) in
        subst (λ (y : ℕ). Rising b (marked ws y) (y + 1) y b'' less) (sym good.is) (record {
          reads =
              by (goes ∙ rw good.passes) ∙ moved (select (has ws) 0 low) x (rising_slots less (suc x) x b'')
              ∙ ap₂ (λ (l : List ℕ) (n : ℕ). prefixed l (rising_slots less n x b''))
              (sym (select_more (has ws) (has (marked ws x)) low x good.above r.above marks)) (sym (add-one x));
          long = simp length-set r.long;
          above = λ y p. marks y ∙ ap₂ ◌||◌ (r.above y (omega (arith, good.above))) (ne_eqb y x (λ (q : y ≡ x). omega arith));
          low_slot = omega (arith, good.below);
        })

  -- a slot is none, or below the one before
  pub rising_bad : (d : ℕ) (b'' : List ℕ) → 0 < left → number32 b' ≡ some (d, b'')
      → P.None ≡ (if slot_from low (from + d) then P.Some (from + d) else P.None) → set32 b ≡ none
  unfolding prefixed refuse
  rising_bad d b'' h e f = by {o = none} (goes d (left - 1) b'' (omega arith) e ∙ rw (slot_wrong _ _ f))

  pub rising_ends : left ≡ 0 → set32 b ≡ some (slots_of ws, b')
  unfolding rising_slots prefixed pure
  rising_ends e =
      by (ap (λ (n : ℕ). rising_slots n low from b') e)
      ∙ ap (λ (l : List ℕ). some (l, b')) (append-nil (select (has ws) 0 low) ∙ select_all ws low r.low_slot r.above)

-- what the steps of the loop come to
pub ruleset by_slots = (rising_start, rising_none, rising_cut, rising_bad, rising_more, rising_ends)
