-- The readers for numbers of 32 bits are those of the rules, where what is read fits. A set of slots has no number that does not.
use Rattle.std.proofs.Common.{if◌then◌else◌, ◌≡◌, refl, sym, ap, ◌∙◌, Bool, true, false, ◌&&◌, List, [], ◌∷◌, ℕ, zero, suc, ◌+◌, ◌≤◌, ◌<◌, arith, eqb, ltb, leb, le-ltb, ltb-true, ltb-false, leb-true, ne_eqb}
use mathlib.Core.Bool.{and-false}
use mathlib.Core.Option.{Option, none, some}
use Rattle.rules.specs.Basics.{rising, all}
use Rattle.rules.specs.Constants.{id_length, slot_count, number_range}
use Rattle.rules.specs.Refusals.{is_slot_set}
use Rattle.rules.specs.Records.{Record, group_epoch, topic_is, member_is, member_gone, target_epoch, target_is, current_is, current_gone, fits, numbers_of}
use Rattle.rules.specs.Reader.{Reader, and_then, pure, refuse, byte, ◌>>=◌, read_number, read_bytes, read_differences, read_set, read_topic, read_present, read_member, read_target, read_current, read_kind, read_record}
use Rattle.rules.proofs.Lists.{and_true}
use Rattle.reading.specs.Fitting.{passing, read_fitting}
use Rattle.reading.specs.Narrow.{in_range, number32, slot_from, rising_slots, set32, epoch32, topic32, present32, member32, target_epoch32, target32, sets32, current32, kind32, record32}

-- what was read, if it passes
abbrev only : {A : Type 0} → (A → Bool) → Option (A × List ℕ) → Option (A × List ℕ)
only h o = and_then o (passing h)

-- ---- what is read, and then something else

module _ {A B : Type 0} (h : B → Bool) (f g : A → Reader B) where
  then_narrow : (o : Option (A × List ℕ)) → ((a : A) (b : List ℕ) → only h (f a b) ≡ g a b) → only h (and_then o f) ≡ and_then o g
  unfolding and_then
  then_narrow none e = refl
  then_narrow (some r) e = e r.0 r.1

then_never : {A B : Type 0} (h : B → Bool) (f : A → Reader B) (o : Option (A × List ℕ)) → ((a : A) (b : List ℕ) → only h (f a b) ≡ none)
    → only h (and_then o f) ≡ none
unfolding and_then
then_never h f none e = refl
then_never h f (some r) e = e r.0 r.1

-- a number is read, and then something else: it is in range, or else nothing is read that passes
module _ {B : Type 0} (h : B → Bool) (f g : ℕ → Reader B) (fit : (n : ℕ) → in_range n ≡ true → (b : List ℕ) → only h (f n b) ≡ g n b)
    (large : (n : ℕ) → in_range n ≡ false → (b : List ℕ) → only h (f n b) ≡ none) where
  by_size : (n : ℕ) (b : List ℕ) (x : Bool) → in_range n ≡ x → only h (f n b) ≡ and_then ((if x then pure n else refuse) b) g
  unfolding and_then pure refuse
  by_size n b true e = fit n e b
  by_size n b false e = large n e b

  number_narrow : (b : List ℕ) → only h (and_then (read_number b) f) ≡ and_then (number32 b) g
  unfolding number32 ◌>>=◌ and_then passing
  number_narrow b = go (read_number b)
    where
      go : (o : Option (ℕ × List ℕ)) → only h (and_then o f) ≡ and_then (only in_range o) g
      go none = refl
      go (some r) = by_size r.0 r.1 (in_range r.0) refl

-- ---- sets

slots_from : ℕ → List ℕ → Bool
slots_from low s = rising low s && all (λ x. ltb x slot_count) s

from_cons : (low x : ℕ) (a b : Bool) → leb low x ≡ a → ltb x slot_count ≡ b → (s : List ℕ) → slots_from low (x ∷ s) ≡ ((a && b) && slots_from (suc x) s)
unfolding slots_from
from_cons low x true true e f s = rw (e, f)
from_cons low x true false e f s = rw (e, f, and-false)
from_cons low x false b e f s = rw e

cons_narrow : (low x : ℕ) (c : Bool) → slot_from low x ≡ c → (o : Option (List ℕ × List ℕ))
    → only (slots_from low) (and_then o (λ s. pure (x ∷ s))) ≡ (if c then and_then (only (slots_from (suc x)) o) (λ s. pure (x ∷ s)) else none)
unfolding passing and_then pure refuse
cons_narrow low x true e none = refl
cons_narrow low x false e none = refl
cons_narrow low x c e (some r) =
    rw (from_cons low x (leb low x) (ltb x slot_count) refl refl r.0, e) (go c (slots_from (suc x) r.0))
  where
    go : (c d : Bool)
        → (if c && d then pure (x ∷ r.0) else refuse) r.1 ≡ (if c then and_then ((if d then pure r.0 else refuse) r.1) (λ s. pure (x ∷ s)) else none)
    go true true = refl
    go true false = refl
    go false d = refl

chosen : (c : Bool) (o : Option (List ℕ × List ℕ)) (f : Reader (List ℕ)) (b : List ℕ) → f b ≡ o → (if c then o else none) ≡ (if c then f else refuse) b
unfolding refuse
chosen true o f b e = sym e
chosen false o f b e = refl

rising_none : (low : ℕ) (b : List ℕ) → only (slots_from low) (pure [] b) ≡ pure [] b
unfolding passing and_then pure slots_from
rising_none low b = refl

rising_narrow : (n low from : ℕ) (b : List ℕ) → only (slots_from low) (read_differences n from b) ≡ rising_slots n low from b
unfolding read_differences rising_slots ◌>>=◌
rising_narrow zero low from b = rising_none low b
rising_narrow (suc n) low from b =
    number_narrow (slots_from low) (λ d. λ b. and_then (read_differences n (from + d) b) (λ s. pure ((from + d) ∷ s)))
    (λ d. if slot_from low (from + d) then (λ b. and_then (rising_slots n (suc (from + d)) (from + d) b) (λ s. pure ((from + d) ∷ s))) else refuse)
    (λ d f b. cons_narrow low (from + d) (slot_from low (from + d)) refl (read_differences n (from + d) b)
    ∙ chosen (slot_from low (from + d)) _ (λ b. and_then (rising_slots n (suc (from + d)) (from + d) b) (λ s. pure ((from + d) ∷ s))) b
    (ap (λ (o : Option (List ℕ × List ℕ)). and_then o (λ s. pure ((from + d) ∷ s))) (sym (rising_narrow n (suc (from + d)) (from + d) b))))
    (λ d f b. cons_narrow low (from + d) false (large d f) (read_differences n (from + d) b))
    b
  where
    large : (d : ℕ) → in_range d ≡ false → slot_from low (from + d) ≡ false
    large d f = rw (le-ltb (from + d) slot_count (omega (arith, ltb-false d number_range f))) (and-false (leb low (from + d)))

stopped : {A B : Type 0} (f : A → Reader B) → and_then none f ≡ none
unfolding and_then
stopped f = refl

goes : {A B : Type 0} (a : A) (b : List ℕ) (f : A → Reader B) → and_then (some (a, b)) f ≡ f a b
unfolding and_then
goes a b f = refl

refused : {A : Type 0} (b : List ℕ) → refuse {A = A} b ≡ none
unfolding refuse
refused b = refl

stop : {A B : Type 0} (f : A → Reader B) (o : Option (A × List ℕ)) → o ≡ none → and_then o f ≡ none
unfolding and_then
stop f o e = rw e

-- there are no more slots than slots
rising_long : (n low from : ℕ) (b : List ℕ) → low ≤ slot_count → slot_count < low + n → rising_slots n low from b ≡ none
unfolding rising_slots ◌>>=◌
rising_long zero low from b l h = absurd (omega arith)
rising_long (suc n) low from b l h = go (number32 b) (λ x b p q. rising_long n (suc x) x b p q)
  where
    step : (x : ℕ) (b : List ℕ) (c : Bool) → slot_from low x ≡ c
        → ((x : ℕ) (b : List ℕ) → suc x ≤ slot_count → slot_count < suc x + n → rising_slots n (suc x) x b ≡ none)
        → (if c then (λ b. and_then (rising_slots n (suc x) x b) (λ s. pure (x ∷ s))) else refuse) b ≡ none
    step x b true e ih =
        let t = and_true (leb low x) (ltb x slot_count) e in
        let below : suc x ≤ slot_count = ltb-true x slot_count t.1 in
        let above : low ≤ x = leb-true low x t.0 in
        stop (λ s. pure (x ∷ s)) (rising_slots n (suc x) x b) (ih x b below (omega arith))
    step x b false e ih = refused b

    go : (o : Option (ℕ × List ℕ)) → ((x : ℕ) (b : List ℕ) → suc x ≤ slot_count → slot_count < suc x + n → rising_slots n (suc x) x b ≡ none)
        → and_then o (λ d. if slot_from low (from + d) then (λ b. and_then (rising_slots n (suc (from + d)) (from + d) b) (λ s. pure ((from + d) ∷ s))) else refuse)
        ≡ none
    go none ih = stopped _
    go (some r) ih = goes r.0 r.1 _ ∙ step (from + r.0) r.1 (slot_from low (from + r.0)) refl ih

only_slots : (o : Option (List ℕ × List ℕ)) → and_then o (λ s. if is_slot_set s then pure s else refuse) ≡ only (slots_from 0) o
unfolding and_then passing slots_from is_slot_set
only_slots none = refl
only_slots (some r) = refl

set_narrow : (b : List ℕ) → read_set b ≡ set32 b
unfolding read_set set32 number32 ◌>>=◌ and_then passing pure refuse
set_narrow b = go (read_number b)
  where
    size : (n : ℕ) (b : List ℕ) (c : Bool) → in_range n ≡ c
        → and_then (read_differences n 0 b) (λ s. if is_slot_set s then pure s else refuse) ≡ and_then ((if c then pure n else refuse) b) (λ n. rising_slots n 0 0)
    size n b true e = only_slots (read_differences n 0 b) ∙ rising_narrow n 0 0 b
    size n b false e =
        only_slots (read_differences n 0 b) ∙ rising_narrow n 0 0 b ∙ rising_long n 0 0 b (omega arith) (omega (arith, ltb-false n number_range e))

    go : (o : Option (ℕ × List ℕ)) → and_then o (λ n. λ b. and_then (read_differences n 0 b) (λ s. if is_slot_set s then pure s else refuse))
        ≡ and_then (only in_range o) (λ n. rising_slots n 0 0)
    go none = refl
    go (some r) = size r.0 r.1 (in_range r.0) refl

-- ---- records

lost : (r : Record) (b : List ℕ) → fits r ≡ false → only fits (pure r b) ≡ none
unfolding passing and_then pure refuse
lost r b e = rw e

kept : (r : Record) (b : List ℕ) → fits r ≡ true → only fits (pure r b) ≡ pure r b
unfolding passing and_then pure
kept r b e = rw e

refuses : {A : Type 0} (h : A → Bool) (b : List ℕ) → only h (refuse b) ≡ none
unfolding and_then refuse
refuses h b = refl

-- records of one number
module _ (make : ℕ → Record) (same : (n : ℕ) → fits (make n) ≡ (in_range n && true)) where
  one_fits : (n : ℕ) (x : Bool) → in_range n ≡ x → fits (make n) ≡ x
  one_fits n true e = same n ∙ ap (λ (b : Bool). b && true) e
  one_fits n false e = same n ∙ ap (λ (b : Bool). b && true) e

  one_narrow : (b : List ℕ) → only fits (and_then (read_number b) (λ n. pure (make n))) ≡ and_then (number32 b) (λ n. pure (make n))
  one_narrow b =
      number_narrow fits (λ n. pure (make n)) (λ n. pure (make n)) (λ n e b. kept (make n) b (one_fits n true e))
      (λ n e b. lost (make n) b (one_fits n false e)) b

epoch_narrow : (b : List ℕ) → only fits (and_then (read_number b) (λ n. pure (group_epoch n))) ≡ epoch32 b
unfolding ◌>>=◌ fits numbers_of
epoch_narrow b = one_narrow group_epoch (λ n. refl) b

target_epoch_narrow : (b : List ℕ) → only fits (and_then (read_number b) (λ n. pure (target_epoch n))) ≡ target_epoch32 b
unfolding ◌>>=◌ fits numbers_of
target_epoch_narrow b = one_narrow target_epoch (λ n. refl) b

abbrev topic_of : ℕ → List ℕ → ℕ → Record
topic_of t id n = topic_is (record { number = t; id = id; count = n })

topic_fits : (t : ℕ) (id : List ℕ) (n : ℕ) (x y : Bool) → in_range t ≡ x → in_range n ≡ y → fits (topic_of t id n) ≡ (x && (y && true))
unfolding fits numbers_of
topic_fits t id n x y e f = rw (e, f)

topic_narrow : (b : List ℕ) → only fits (read_topic b) ≡ topic32 b
unfolding read_topic ◌>>=◌
topic_narrow b =
    number_narrow fits (λ t. λ b. and_then (read_bytes id_length b) (λ id. λ b. and_then (read_number b) (λ n. pure (topic_of t id n))))
    (λ t. λ b. and_then (read_bytes id_length b) (λ id. λ b. and_then (number32 b) (λ n. pure (topic_of t id n))))
    (λ t e b. then_narrow fits _ _ (read_bytes id_length b) (λ id b. number_narrow fits (λ n. pure (topic_of t id n)) (λ n. pure (topic_of t id n))
    (λ n f b. kept (topic_of t id n) b (topic_fits t id n true true e f)) (λ n f b. lost (topic_of t id n) b (topic_fits t id n true false e f)) b))
    (λ t e b. then_never fits _ (read_bytes id_length b) (λ id b. then_never fits _ (read_number b)
    (λ n b. lost (topic_of t id n) b (topic_fits t id n false (in_range n) e refl))))
    b

abbrev member_of : ℕ → List ℕ → ℕ → ℕ → Record
member_of p id m n = member_is (record { place = p; id = id; timeout = m; subscription = n })

member_fits : (p : ℕ) (id : List ℕ) (m n : ℕ) (x y z : Bool) → in_range p ≡ x → in_range m ≡ y → in_range n ≡ z
    → fits (member_of p id m n) ≡ (x && (y && (z && true)))
unfolding fits numbers_of
member_fits p id m n x y z e f g = rw (e, f, g)

present_narrow : (p : ℕ) → in_range p ≡ true → (b : List ℕ) → only fits (read_present p b) ≡ present32 p b
unfolding read_present ◌>>=◌
present_narrow p e b =
    then_narrow fits _ _ (read_bytes id_length b) (λ id b. number_narrow fits (λ m. λ b. and_then (read_number b) (λ n. pure (member_of p id m n)))
    (λ m. λ b. and_then (number32 b) (λ n. pure (member_of p id m n)))
    (λ m f b. number_narrow fits (λ n. pure (member_of p id m n)) (λ n. pure (member_of p id m n))
    (λ n g b. kept (member_of p id m n) b (member_fits p id m n true true true e f g))
    (λ n g b. lost (member_of p id m n) b (member_fits p id m n true true false e f g)) b)
    (λ m f b. then_never fits _ (read_number b) (λ n b. lost (member_of p id m n) b (member_fits p id m n true false (in_range n) e f refl)))
    b)

present_lost : (p : ℕ) → in_range p ≡ false → (b : List ℕ) → only fits (read_present p b) ≡ none
unfolding read_present ◌>>=◌
present_lost p e b =
    then_never fits _ (read_bytes id_length b) (λ id b. then_never fits _ (read_number b) (λ m b. then_never fits _ (read_number b) (λ n b.
    lost (member_of p id m n) b (member_fits p id m n false (in_range m) (in_range n) e refl refl))))

gone_fits : (p : ℕ) (x : Bool) → in_range p ≡ x → fits (member_gone p) ≡ x
unfolding fits numbers_of
gone_fits p x e = one_fits member_gone (λ n. refl) p x e

member_kind : (p : ℕ) (x y : Bool) → in_range p ≡ true → (b : List ℕ)
    → only fits ((if x then pure (member_gone p) else (if y then read_present p else refuse)) b)
    ≡ (if x then pure (member_gone p) else (if y then present32 p else refuse)) b
member_kind p true y f b = kept (member_gone p) b (gone_fits p true f)
member_kind p false true f b = present_narrow p f b
member_kind p false false f b = refuses fits b ∙ sym (refused b)

member_lost : (p : ℕ) (x y : Bool) → in_range p ≡ false → (b : List ℕ)
    → only fits ((if x then pure (member_gone p) else (if y then read_present p else refuse)) b) ≡ none
member_lost p true y f b = lost (member_gone p) b (gone_fits p false f)
member_lost p false true f b = present_lost p f b
member_lost p false false f b = refuses fits b

member_narrow : (b : List ℕ) → only fits (read_member b) ≡ member32 b
unfolding read_member ◌>>=◌
member_narrow b =
    number_narrow fits (λ p. λ b. and_then (byte b) (λ k. if eqb k 0 then pure (member_gone p) else (if eqb k 1 then read_present p else refuse)))
    (λ p. λ b. and_then (byte b) (λ k. if eqb k 0 then pure (member_gone p) else (if eqb k 1 then present32 p else refuse)))
    (λ p e b. then_narrow fits _ _ (byte b) (λ k b. member_kind p (eqb k 0) (eqb k 1) e b))
    (λ p e b. then_never fits _ (byte b) (λ k b. member_lost p (eqb k 0) (eqb k 1) e b))
    b

abbrev target_of : ℕ → List ℕ → Record
target_of p s = target_is (record { place = p; slots = s })

target_fits : (p : ℕ) (s : List ℕ) (x : Bool) → in_range p ≡ x → fits (target_of p s) ≡ x
unfolding fits numbers_of
target_fits p s x e = one_fits (λ n. target_of n s) (λ n. refl) p x e

target_narrow : (b : List ℕ) → only fits (read_target b) ≡ target32 b
unfolding read_target ◌>>=◌
target_narrow b =
    number_narrow fits (λ p. λ b. and_then (read_set b) (λ s. pure (target_of p s))) (λ p. λ b. and_then (set32 b) (λ s. pure (target_of p s)))
    (λ p e b. then_narrow fits _ _ (read_set b) (λ s b. kept (target_of p s) b (target_fits p s true e))
    ∙ ap (λ (o : Option (List ℕ × List ℕ)). and_then o (λ s. pure (target_of p s))) (set_narrow b))
    (λ p e b. then_never fits _ (read_set b) (λ s b. lost (target_of p s) b (target_fits p s false e)))
    b

abbrev current_of : ℕ → ℕ → List ℕ → List ℕ → Record
current_of p e a q = current_is (record { place = p; epoch = e; assigned = a; revoking = q })

current_fits : (p n : ℕ) (a q : List ℕ) (x y : Bool) → in_range p ≡ x → in_range n ≡ y → fits (current_of p n a q) ≡ (x && (y && true))
unfolding fits numbers_of
current_fits p n a q x y e f = rw (e, f)

both_sets : ℕ → ℕ → Reader Record
both_sets p n b = and_then (read_set b) (λ a. λ b. and_then (read_set b) (λ q. pure (current_of p n a q)))

sets_narrow : (p n : ℕ) → in_range p ≡ true → in_range n ≡ true → (b : List ℕ) → only fits (both_sets p n b) ≡ sets32 p n b
unfolding both_sets ◌>>=◌
sets_narrow p n e f b =
    then_narrow fits _ (λ a. λ b. and_then (set32 b) (λ q. pure (current_of p n a q))) (read_set b)
    (λ a b. then_narrow fits _ _ (read_set b) (λ q b. kept (current_of p n a q) b (current_fits p n a q true true e f))
    ∙ ap (λ (o : Option (List ℕ × List ℕ)). and_then o (λ q. pure (current_of p n a q))) (set_narrow b))
    ∙ ap (λ (o : Option (List ℕ × List ℕ)). and_then o (λ a. λ b. and_then (set32 b) (λ q. pure (current_of p n a q)))) (set_narrow b)

sets_lost : (p n : ℕ) (x y : Bool) → in_range p ≡ x → in_range n ≡ y → x && (y && true) ≡ false → (b : List ℕ) → only fits (both_sets p n b) ≡ none
unfolding both_sets
sets_lost p n x y e f z b =
    then_never fits _ (read_set b) (λ a b. then_never fits _ (read_set b) (λ q b. lost (current_of p n a q) b (current_fits p n a q x y e f ∙ z)))

current_gone_fits : (p : ℕ) (x : Bool) → in_range p ≡ x → fits (current_gone p) ≡ x
unfolding fits numbers_of
current_gone_fits p x e = one_fits current_gone (λ n. refl) p x e

current_kind : (p n : ℕ) (x : Bool) → in_range p ≡ true → in_range n ≡ true → (b : List ℕ)
    → only fits ((if x then pure (current_gone p) else both_sets p n) b) ≡ (if x then pure (current_gone p) else sets32 p n) b
current_kind p n true e f b = kept (current_gone p) b (current_gone_fits p true e)
current_kind p n false e f b = sets_narrow p n e f b

-- an epoch that is out of range is not 0
current_large : (p n : ℕ) → in_range p ≡ true → in_range n ≡ false → (b : List ℕ)
    → only fits ((if eqb n 0 then pure (current_gone p) else both_sets p n) b) ≡ none
current_large p n e f b =
    let l : number_range ≤ n = ltb-false n number_range f in
    rw (ne_eqb n 0 (λ z. omega arith)) (sets_lost p n true false e f refl b)

current_lost : (p n : ℕ) (x : Bool) → in_range p ≡ false → (b : List ℕ) → only fits ((if x then pure (current_gone p) else both_sets p n) b) ≡ none
current_lost p n true e b = lost (current_gone p) b (current_gone_fits p false e)
current_lost p n false e b = sets_lost p n false (in_range n) e refl refl b

current_narrow : (b : List ℕ) → only fits (read_current b) ≡ current32 b
unfolding read_current ◌>>=◌ both_sets
current_narrow b =
    number_narrow fits (λ p. λ b. and_then (read_number b) (λ n. if eqb n 0 then pure (current_gone p) else both_sets p n))
    (λ p. λ b. and_then (number32 b) (λ n. if eqb n 0 then pure (current_gone p) else sets32 p n))
    (λ p e b. number_narrow fits (λ n. if eqb n 0 then pure (current_gone p) else both_sets p n) (λ n. if eqb n 0 then pure (current_gone p) else sets32 p n)
    (λ n f b. current_kind p n (eqb n 0) e f b) (λ n f b. current_large p n e f b) b)
    (λ p e b. then_never fits _ (read_number b) (λ n b. current_lost p n (eqb n 0) e b))
    b

kind_narrow : (k : ℕ) (b : List ℕ) → only fits (read_kind k b) ≡ kind32 k b
unfolding read_kind ◌>>=◌
kind_narrow k b = pick (eqb k 3) (eqb k 4) (eqb k 5) (eqb k 6) (eqb k 7) (eqb k 8)
  where
    pick : (c₃ c₄ c₅ c₆ c₇ c₈ : Bool)
        → only fits ((if c₃ then (λ b. and_then (read_number b) (λ n. pure (group_epoch n)))
        else (if c₄ then read_topic else (if c₅ then read_member else (if c₆ then (λ b. and_then (read_number b) (λ n. pure (target_epoch n)))
        else (if c₇ then read_target else (if c₈ then read_current else refuse)))))) b)
        ≡ (if c₃ then epoch32 else (if c₄ then topic32 else (if c₅ then member32 else (if c₆ then target_epoch32
        else (if c₇ then target32 else (if c₈ then current32 else refuse)))))) b
    pick true c₄ c₅ c₆ c₇ c₈ = epoch_narrow b
    pick false true c₅ c₆ c₇ c₈ = topic_narrow b
    pick false false true c₆ c₇ c₈ = member_narrow b
    pick false false false true c₇ c₈ = target_epoch_narrow b
    pick false false false false true c₈ = target_narrow b
    pick false false false false false true = current_narrow b
    pick false false false false false false = refuses fits b ∙ sym (refused b)

-- a record whose numbers fit, read field by field
pub record_narrow : (b : List ℕ) → read_fitting b ≡ record32 b
unfolding read_fitting read_record ◌>>=◌
record_narrow b = then_narrow fits read_kind kind32 (byte b) kind_narrow
