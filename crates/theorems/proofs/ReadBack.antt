-- What was written is read back: the reader inverts the encoder on every record that is `Proper`; and so are the records of joins, leaves and sweeps.
use Rattle.std.specs.Prelude.{if◌then◌else◌}
use Prim.Native.Nat.{ℕ, zero, suc, ◌+◌, ◌-◌, ◌/◌, ◌%◌, ◌≤◌, ◌<◌}
use native.Mathlib.Nat.{suc-ne-zero, suc_inj}
use native.Mathlib.Omega.{arith}
use mathlib.Core.Path.{◌≡◌, refl, sym, ap}
use mathlib.Core.Bool.{Bool, true, false}
use mathlib.Core.List.{List, [], ◌∷◌, ◌++◌, append_assoc}
use mathlib.Core.Option.{Option, some}
use lib.ListN.{length, take, drop, length-append}
use lib.Seq.{take-append_seam}
use lib.Dec.{ltb, leb}
use borrow.Author.Tests.{lt-ltb, le-ltb, ltb-false, ne_eqb, leb-true, le-leb}
use Rattle.rules.specs.Basics.{all, any, concat_map, empty, indices, rising}
use Rattle.rules.specs.Constants.{id_length, slot_count}
use Rattle.rules.specs.Group.{Group, targeted}
use Rattle.rules.specs.Records.{MemberMetadata, Record, all_bytes, bytes_of, current_gone, current_is, differences, group_epoch, groups, member_gone, member_is, number, set_bytes, target_epoch, target_is, topic_is}
use Rattle.rules.specs.Refusals.{is_slot_set}
use Rattle.rules.specs.Effects.{gone_records, join_records, joined_at, no_target, only_if, removal_records}
use Rattle.rules.specs.Step.{overlay}
use Rattle.rules.specs.Reader.{and_more, and_then, byte, joined, more_groups, pure, read_all, read_bytes, read_current, read_differences, read_kind, read_member, read_number, read_present, read_record, read_records, read_set, read_target, read_topic, refuse, ◌>>=◌}
use Rattle.rules.specs.Ledger.{records_in}
use Rattle.rules.proofs.Lists.{and_true}
use Rattle.theorems.proofs.Cases.{if_cases}

got : {A : Type 0} {a b : A} (rest : List ℕ) → a ≡ b → ◌≡◌ {A = Option (A × List ℕ)} (some (a, rest)) (some (b, rest))
got rest e = λ i. some (e i, rest)

pub overlaid : (x y : List ℕ) → take (length x) (overlay x y) ≡ x
unfolding overlay
overlaid x y = take-append_seam x (drop (length x) y)

groups_step : (f n : ℕ) (rest : List ℕ) (b : Bool) → ltb n 128 ≡ b
    → read_number (groups f (n / 128) ++ rest) ≡ some (n / 128, rest)
    → read_number ((if b then n ∷ [] else (n % 128 + 128) ∷ groups f (n / 128)) ++ rest) ≡ some (n, rest)
unfolding read_number and_then more_groups pure refuse
groups_step f n rest true e ih = rw e refl
groups_step f n rest false e ih =
    let big : 128 ≤ n = ltb-false n 128 e in
    rw (le-ltb (n % 128 + 128) 128 (omega arith), ih, ne_eqb (n / 128) 0 (λ z. omega arith)) (got rest (omega arith))

groups_read : (f n : ℕ) → n ≤ f → (rest : List ℕ) → read_number (groups f n ++ rest) ≡ some (n, rest)
unfolding read_number groups
groups_read zero n h rest = rw (lt-ltb n 128 (omega arith)) refl
groups_read (suc f) n h rest = groups_step f n rest (ltb n 128) refl (groups_read f (n / 128) (omega arith) rest)

number_read : (n : ℕ) (rest : List ℕ) → read_number (number n ++ rest) ≡ some (n, rest)
unfolding number
number_read n rest = groups_read n n (omega arith) rest

-- ---- sets

-- each element is at least n and above the one before
abbrev Rising : ℕ → List ℕ → Type 0
Rising n [] = Unit {0}
Rising n (x ∷ xs) = (n ≤ x) × Rising (suc x) xs

weaken : (s : List ℕ) (n m : ℕ) → m ≤ n → Rising n s → Rising m s
weaken [] n m l h = tt
weaken (x ∷ xs) n m l h = (omega arith, h.1)

risen : (s : List ℕ) (n : ℕ) → rising n s ≡ true → Rising n s
risen [] n e = tt
risen (x ∷ xs) n e = let h = and_true (leb n x) (rising (suc x) xs) e in (leb-true n x h.0, risen xs (suc x) h.1)

rises : (s : List ℕ) (n : ℕ) → Rising n s → rising n s ≡ true
rises [] n h = refl
rises (x ∷ xs) n h = rw (le-leb n x h.0) (rises xs (suc x) h.1)

indices_rising : {A : Type 0} (f : A → Bool) (n : ℕ) (l : List A) → Rising n (indices f n l)
indices_rising f n [] = tt
indices_rising f n (x ∷ xs) =
    let h = indices_rising f (suc n) xs in
    if_cases (Rising n) (f x) (λ _. (omega arith, h)) (λ _. weaken (indices f (suc n) xs) (suc n) n (omega arith) h)

indices_below : {A : Type 0} (f : A → Bool) (n k : ℕ) (l : List A) → n + length l ≤ k → all (λ s. ltb s k) (indices f n l) ≡ true
indices_below f n k [] h = refl
indices_below f n k (x ∷ xs) h =
    let e = indices_below f (suc n) k xs (omega arith) in
    if_cases (λ (l : List ℕ). all (λ s. ltb s k) l ≡ true) (f x) (λ _. rw (lt-ltb n k (omega arith)) e) (λ _. e)

-- a pick over the slots is a set of slots
pub slot_set : {A : Type 0} (f : A → Bool) (l : List A) → length l ≤ slot_count → is_slot_set (indices f 0 l) ≡ true
unfolding is_slot_set
slot_set f l h = rw (rises (indices f 0 l) 0 (indices_rising f 0 l)) (indices_below f 0 slot_count l (omega arith))

differences_read : (s : List ℕ) (from : ℕ) → Rising from s → (rest : List ℕ) → read_differences (length s) from (differences from s ++ rest) ≡ some (s, rest)
unfolding read_differences differences pure ◌>>=◌ and_then
differences_read [] from h rest = refl
differences_read (x ∷ xs) from h rest =
    let e : from + (x - from) ≡ x = omega arith in
    rw (append_assoc (number (x - from)) (differences x xs) rest, number_read (x - from) (differences x xs ++ rest), e, differences_read xs x (weaken xs (suc x) x (omega arith) h.1) rest) refl

set_read : (s : List ℕ) → is_slot_set s ≡ true → (rest : List ℕ) → read_set (set_bytes s ++ rest) ≡ some (s, rest)
unfolding read_set set_bytes is_slot_set ◌>>=◌ and_then pure
set_read s h rest =
    let up : Rising 0 s = risen s 0 (and_true (rising 0 s) (all (λ x. ltb x slot_count) s) h).0 in
    rw (append_assoc (number (length s)) (differences 0 s) rest, number_read (length s) (differences 0 s ++ rest), differences_read s 0 up rest, h) refl

bytes_read : (n : ℕ) (s : List ℕ) → length s ≡ n → (rest : List ℕ) → read_bytes n (s ++ rest) ≡ some (s, rest)
unfolding read_bytes byte pure ◌>>=◌ and_then
bytes_read zero [] e rest = refl
bytes_read zero (x ∷ xs) e rest = absurd (suc-ne-zero (length xs) e)
bytes_read (suc n) [] e rest = absurd (suc-ne-zero n (sym e))
bytes_read (suc n) (x ∷ xs) e rest = rw (bytes_read n xs (suc_inj e) rest) refl

-- ---- records: an ID has sixteen bytes, a member's epoch is not 0, a set is one of slots
abbrev pub Proper : Record → Type 0
Proper (group_epoch n) = Unit {0}
Proper (topic_is t) = length t.id ≡ id_length
Proper (member_is m) = length m.id ≡ id_length
Proper (member_gone p) = Unit {0}
Proper (target_epoch n) = Unit {0}
Proper (target_is t) = is_slot_set t.slots ≡ true
Proper (current_is c) = (0 < c.epoch) × ((is_slot_set c.assigned ≡ true) × (is_slot_set c.revoking ≡ true))
Proper (current_gone p) = Unit {0}

zero_read : (rest : List ℕ) → read_number (0 ∷ rest) ≡ some (0, rest)
unfolding read_number
zero_read rest = refl

record_read : (r : Record) → Proper r → (rest : List ℕ) → read_record (bytes_of r ++ rest) ≡ some (r, rest)
unfolding read_record bytes_of byte read_kind read_topic read_member read_present read_target read_current pure ◌>>=◌ and_then
record_read (group_epoch n) h rest = rw (number_read n rest) refl
record_read (topic_is t) h rest = simp (append_assoc, number_read, bytes_read id_length t.id h) refl
record_read (member_is m) h rest = simp (append_assoc, number_read, bytes_read id_length m.id h) refl
record_read (member_gone p) h rest = simp (append_assoc, number_read) refl
record_read (target_epoch n) h rest = simp (number_read) refl
record_read (target_is t) h rest = simp (append_assoc, number_read, set_read t.slots h) refl
record_read (current_is c) h rest =
    simp (append_assoc, number_read, ne_eqb c.epoch 0 (omega arith), set_read c.assigned h.1.0, set_read c.revoking h.1.1) refl
record_read (current_gone p) h rest = simp (append_assoc, number_read, zero_read) refl

abbrev pub AllProper : List Record → Type 0
AllProper [] = Unit {0}
AllProper (r ∷ rs) = Proper r × AllProper rs

-- a record has a first byte: its kind
starts : (r : Record) → (k : ℕ) × (bytes : List ℕ) × (bytes_of r ≡ k ∷ bytes)
unfolding bytes_of
starts (group_epoch n) = (3, _, refl)
starts (topic_is t) = (4, _, refl)
starts (member_is m) = (5, _, refl)
starts (member_gone p) = (5, _, refl)
starts (target_epoch n) = (6, _, refl)
starts (target_is t) = (7, _, refl)
starts (current_is c) = (8, _, refl)
starts (current_gone p) = (8, _, refl)

not_empty : (r : Record) (bytes : List ℕ) → empty (bytes_of r ++ bytes) ≡ false
not_empty r bytes = ap (λ (l : List ℕ). empty (l ++ bytes)) (starts r).2

records_read : (rs : List Record) (fuel : ℕ) → length rs ≤ fuel → AllProper rs → read_records fuel (all_bytes rs) ≡ some rs
unfolding read_records and_more joined all_bytes
records_read [] zero h p = refl
records_read [] (suc fuel) h p = refl
records_read (r ∷ rs) zero h p = absurd (omega arith)
records_read (r ∷ rs) (suc fuel) h p =
    rw (not_empty r (concat_map bytes_of rs), record_read r p.0 (concat_map bytes_of rs), records_read rs fuel (omega arith) p.1) refl

some_byte : (r : Record) → 0 < length (bytes_of r)
some_byte r = let e : length (bytes_of r) ≡ length ((starts r).0 ∷ (starts r).1) = ap length (starts r).2 in omega arith

enough : (rs : List Record) → length rs ≤ length (all_bytes rs)
unfolding all_bytes
enough [] = omega arith
enough (r ∷ rs) = simp length-append (omega (arith, some_byte r, enough rs))

-- the records that `Proper` allows are read back from their bytes
pub read_written : (rs : List Record) → AllProper rs → read_all (all_bytes rs) ≡ some rs
unfolding read_all
read_written rs p = records_read rs (length (all_bytes rs)) (enough rs) p

-- and so from a buffer that they were written to
pub read_stored : (rs : List Record) → AllProper rs → (buffer : List ℕ) → read_all (take (length (all_bytes rs)) (overlay (all_bytes rs) buffer)) ≡ some rs
read_stored rs p buffer = rw (overlaid (all_bytes rs) buffer) (read_written rs p)

pub records_stored : (rs : List Record) → AllProper rs → (buffer : List ℕ) → records_in (take (length (all_bytes rs)) (overlay (all_bytes rs) buffer)) ≡ rs
unfolding records_in
records_stored rs p buffer = rw (read_stored rs p buffer) refl

-- ---- what events store is proper

pub empty_set : is_slot_set [] ≡ true
unfolding is_slot_set
empty_set = refl

pub proper_only : (b : Bool) (r : Record) (rs : List Record) → Proper r → AllProper rs → AllProper (only_if b r ++ rs)
unfolding only_if
proper_only true r rs h k = (h, k)
proper_only false r rs h k = k

pub proper_append : (a b : List Record) → AllProper a → AllProper b → AllProper (a ++ b)
proper_append [] b h k = k
proper_append (r ∷ rs) b h k = (h.0, proper_append rs b h.1 k)

pub proper_removal : (g : Group) (p : ℕ) → AllProper (removal_records g.slots p)
unfolding removal_records gone_records
proper_removal g p = (tt, proper_only (any (targeted p) g.slots) (no_target p) (member_gone p ∷ []) empty_set (tt, tt))

pub proper_removals : (g : Group) (ps : List ℕ) → AllProper (concat_map (removal_records g.slots) ps)
proper_removals g [] = tt
proper_removals g (p ∷ ps) = proper_append (removal_records g.slots p) (concat_map (removal_records g.slots) ps) (proper_removal g p) (proper_removals g ps)

pub proper_epoch : (c : Bool) (e : ℕ) → AllProper (only_if c (group_epoch e))
unfolding only_if
proper_epoch true e = (tt, tt)
proper_epoch false e = tt

pub join_proper : (retargets : Bool) (m : MemberMetadata) (e : ℕ) → length m.id ≡ id_length → AllProper (join_records retargets m (suc e))
unfolding join_records joined_at
join_proper retargets m e long = proper_only retargets (no_target m.place) _ empty_set (long, (tt, ((omega arith, (empty_set, empty_set)), tt)))
