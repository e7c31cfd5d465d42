-- A batch read record by record: each record takes at least a byte, so that there is fuel for all, and what is left after the first is read as a batch.
use Rattle.std.proofs.Common.{if◌then◌else◌, ◌≡◌, refl, ap, ◌∙◌, Bool, true, false, List, [], ◌∷◌, ℕ, zero, suc, ◌+◌, ◌-◌, ◌≤◌, ◌<◌, arith, eqb, ltb, length, drop, drop_of_length-le, drop-cons}
use mathlib.Core.Option.{Option, none, some}
use Rattle.rules.specs.Basics.{all, case_of}
use Rattle.rules.specs.Constants.{id_length}
use Rattle.rules.specs.Records.{Record, fits}
use Rattle.rules.specs.Refusals.{is_slot_set}
use Rattle.rules.specs.Reader.{Reader, and_then, pure, refuse, byte, ◌>>=◌, more_groups, read_number, read_bytes, read_differences, read_set, read_topic, read_present, read_member, read_target, read_current, read_kind, read_record, joined, and_more, read_records, read_all}
use Rattle.reading.specs.Fitting.{passing, read_fitting, read_fitting_all}

-- ---- what a reader leaves

-- no more than n bytes are left
abbrev Leaves : {A : Type 0} → ℕ → Option (A × List ℕ) → Type 0
Leaves n none = Unit {0}
Leaves n (some r) = length r.1 ≤ n

-- however many there are, a reader adds none
abbrev Shortens : {A : Type 0} → Reader A → Type 0
Shortens m = (n : ℕ) (b : List ℕ) → length b ≤ n → Leaves n (m b)

then_leaves : {A B : Type 0} (n : ℕ) (o : Option (A × List ℕ)) (f : A → Reader B) → Leaves n o → ((a : A) → Shortens (f a)) → Leaves n (and_then o f)
unfolding and_then
then_leaves n none f h k = tt
then_leaves n (some r) f h k = k r.0 n r.1 h

bind_shortens : {A B : Type 0} (m : Reader A) (f : A → Reader B) → Shortens m → ((a : A) → Shortens (f a)) → Shortens (m >>= f)
unfolding ◌>>=◌
bind_shortens m f h k n b l = then_leaves n (m b) f (h n b l) k

pure_shortens : {A : Type 0} (a : A) → Shortens (pure a)
unfolding pure
pure_shortens a n b l = l

refuse_shortens : (A : Type 0) → Shortens {A = A} refuse
unfolding refuse
refuse_shortens A n b l = tt

if_shortens : {A : Type 0} (c : Bool) (f g : Reader A) → Shortens f → Shortens g → Shortens (if c then f else g)
if_shortens true f g h k = h
if_shortens false f g h k = k

byte_shortens : Shortens byte
unfolding byte
byte_shortens n [] l = tt
byte_shortens n (x ∷ b) l = omega arith

number_shortens : Shortens read_number
unfolding read_number more_groups
number_shortens n [] l = tt
number_shortens n (x ∷ b) l = go (ltb x 128) (number_shortens n b (omega arith))
  where
    more : (a : ℕ) → Shortens (more_groups (x - 128) a)
    more a = if_shortens (eqb a 0) refuse (pure _) (refuse_shortens _) (pure_shortens _)

    go : (c : Bool) → Leaves n (read_number b) → Leaves n (if c then some (x, b) else and_then (read_number b) (more_groups (x - 128)))
    go true h = omega arith
    go false h = then_leaves n (read_number b) (more_groups (x - 128)) h more

bytes_shortens : (k : ℕ) → Shortens (read_bytes k)
unfolding read_bytes
bytes_shortens zero = pure_shortens []
bytes_shortens (suc k) = bind_shortens byte _ byte_shortens (λ b. bind_shortens (read_bytes k) _ (bytes_shortens k) (λ bs. pure_shortens (b ∷ bs)))

differences_shortens : (k from : ℕ) → Shortens (read_differences k from)
unfolding read_differences
differences_shortens zero from = pure_shortens []
differences_shortens (suc k) from =
    bind_shortens read_number _ number_shortens (λ d. bind_shortens (read_differences k (from + d)) _ (differences_shortens k (from + d)) (λ s. pure_shortens _))

set_shortens : Shortens read_set
unfolding read_set
set_shortens =
    bind_shortens read_number _ number_shortens (λ k. bind_shortens (read_differences k 0) _ (differences_shortens k 0)
    (λ s. if_shortens (is_slot_set s) (pure s) refuse (pure_shortens s) (refuse_shortens _)))

kind_shortens : (k : ℕ) → Shortens (read_kind k)
unfolding read_kind read_topic read_member read_present read_target read_current
kind_shortens k =
    if_shortens (eqb k 3) _ _ (bind_shortens read_number _ number_shortens (λ n. pure_shortens _))
    (if_shortens (eqb k 4) _ _
    (bind_shortens read_number _ number_shortens (λ t. bind_shortens (read_bytes id_length) _ (bytes_shortens id_length)
    (λ id. bind_shortens read_number _ number_shortens (λ n. pure_shortens _))))
    (if_shortens (eqb k 5) _ _
    (bind_shortens read_number _ number_shortens (λ p. bind_shortens byte _ byte_shortens (λ j. if_shortens (eqb j 0) _ _ (pure_shortens _)
    (if_shortens (eqb j 1) _ _ (bind_shortens (read_bytes id_length) _ (bytes_shortens id_length) (λ id. bind_shortens read_number _ number_shortens
    (λ m. bind_shortens read_number _ number_shortens (λ n. pure_shortens _)))) (refuse_shortens _)))))
    (if_shortens (eqb k 6) _ _ (bind_shortens read_number _ number_shortens (λ n. pure_shortens _))
    (if_shortens (eqb k 7) _ _ (bind_shortens read_number _ number_shortens (λ p. bind_shortens read_set _ set_shortens (λ s. pure_shortens _)))
    (if_shortens (eqb k 8) _ _
    (bind_shortens read_number _ number_shortens (λ p. bind_shortens read_number _ number_shortens (λ e. if_shortens (eqb e 0) _ _ (pure_shortens _)
    (bind_shortens read_set _ set_shortens (λ a. bind_shortens read_set _ set_shortens (λ q. pure_shortens _)))))) (refuse_shortens _))))))

-- a record takes at least the byte of its kind
record_leaves : (n : ℕ) (b : List ℕ) → length b ≤ suc n → Leaves n (read_record b)
unfolding read_record byte ◌>>=◌ and_then
record_leaves n [] l = tt
record_leaves n (k ∷ b) l = kind_shortens k n b (omega arith)

-- ---- all the records of a batch

more_same : (n : ℕ) (o : Option (Record × List ℕ)) (f g : List ℕ → Option (List Record)) → Leaves n o → ((b : List ℕ) → length b ≤ n → f b ≡ g b)
    → and_more o f ≡ and_more o g
unfolding and_more
more_same n none f g l h = refl
more_same n (some r) f g l h = ap (joined r.0) (h r.1 l)

-- more fuel changes nothing
fuel_same : (f : ℕ) (b : List ℕ) → length b ≤ f → (g : ℕ) → length b ≤ g → read_records f b ≡ read_records g b
unfolding read_records
fuel_same zero [] l zero k = refl
fuel_same zero [] l (suc g) k = refl
fuel_same (suc f) [] l zero k = refl
fuel_same (suc f) [] l (suc g) k = refl
fuel_same zero (x ∷ b) l g k = absurd (omega arith)
fuel_same (suc f) (x ∷ b) l zero k = absurd (omega arith)
fuel_same (suc f) (x ∷ b) l (suc g) k =
    more_same (length b) (read_record (x ∷ b)) (read_records f) (read_records g) (record_leaves (length b) (x ∷ b) (omega arith))
    (λ c h. fuel_same f c (omega arith) g (omega arith))

pub read_all_lem : (fuel : ℕ) (b : List ℕ) → length b ≤ fuel → read_records fuel b ≡ read_all b
unfolding read_all
read_all_lem fuel b l = fuel_same fuel b l (length b) (omega arith)

all_more : (x : ℕ) (b : List ℕ) → read_all (x ∷ b) ≡ and_more (read_record (x ∷ b)) read_all
unfolding read_all read_records
all_more x b =
    more_same (length b) (read_record (x ∷ b)) (read_records (length b)) read_all (record_leaves (length b) (x ∷ b) (omega arith)) (λ c h. read_all_lem (length b) c h)

-- ---- whose numbers fit

abbrev whole : Option (List Record) → Option (List Record)
whole o = case_of o none (λ rs. if all fits rs then some rs else none)

joined_fits : (r : Record) → fits r ≡ true → (o : Option (List Record)) → whole (joined r o) ≡ joined r (whole o)
unfolding joined
joined_fits r e none = refl
joined_fits r e (some rs) = rw e (go (all fits rs))
  where
    go : (c : Bool) → (if c then some (r ∷ rs) else none) ≡ joined r (if c then some rs else none)
    go true = refl
    go false = refl

joined_lost : (r : Record) → fits r ≡ false → (o : Option (List Record)) → whole (joined r o) ≡ none
unfolding joined
joined_lost r e none = refl
joined_lost r e (some rs) = rw e

whole_more : (o : Option (Record × List ℕ)) → whole (and_more o read_all) ≡ and_more (and_then o (passing fits)) read_fitting_all
unfolding and_more and_then passing pure refuse read_fitting_all
whole_more none = refl
whole_more (some r) = go (fits r.0) refl
  where
    go : (c : Bool) → fits r.0 ≡ c → whole (joined r.0 (read_all r.1)) ≡ and_more ((if c then pure r.0 else refuse) r.1) (λ b. whole (read_all b))
    go true e = joined_fits r.0 e (read_all r.1)
    go false e = joined_lost r.0 e (read_all r.1)

pub fitting_none : read_fitting_all [] ≡ some []
unfolding read_fitting_all read_all read_records
fitting_none = refl

pub fitting_more : (x : ℕ) (b : List ℕ) → read_fitting_all (x ∷ b) ≡ and_more (read_fitting (x ∷ b)) read_fitting_all
unfolding read_fitting_all read_fitting ◌>>=◌
fitting_more x b = ap whole (all_more x b) ∙ whole_more (read_record (x ∷ b))

-- ---- at a place

pub walk_ends : (s : List ℕ) (at : ℕ) → length s ≤ at → read_fitting_all (drop at s) ≡ some []
walk_ends s at h = ap read_fitting_all (drop_of_length-le s h) ∙ fitting_none

walk_more : (s : List ℕ) (at : ℕ) → at < length s → read_fitting_all (drop at s) ≡ and_more (read_fitting (drop at s)) read_fitting_all
walk_more s at h = rw (drop-cons s at 0 h) (fitting_more _ _)

-- the record at a place is the first of those from there on, and what is read of the bytes after it are the others
module _ (s : List ℕ) (at : ℕ) where
  pub walk_goes : (x : Record) (b : List ℕ) → at < length s → read_fitting (drop at s) ≡ some (x, b) → read_fitting_all (drop at s) ≡ joined x (read_fitting_all b)
  unfolding and_more
  walk_goes x b l e = walk_more s at l ∙ ap (λ (o : Option (Record × List ℕ)). and_more o read_fitting_all) e

  pub walk_stops : at < length s → read_fitting (drop at s) ≡ none → read_fitting_all (drop at s) ≡ none
  unfolding and_more
  walk_stops l e = walk_more s at l ∙ ap (λ (o : Option (Record × List ℕ)). and_more o read_fitting_all) e
