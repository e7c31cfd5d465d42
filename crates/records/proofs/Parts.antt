-- The bytes of records, as the parts that a writer puts one after another, and the lengths of records. The kind of a record is below 128, hence one byte.
use mathlib.Core.Path.{◌≡◌, ap}
use mathlib.Core.List.{List, [], ◌∷◌, ◌++◌, append-nil, append_assoc}
use Prim.Native.Nat.{ℕ, ◌+◌}
use native.Mathlib.Omega.{arith}
use lib.Dec.{lit<}
use lib.ListN.{length}
use Rattle.rules.specs.Records.{TargetAssignment, target_epoch, target_is, number, differences, set_bytes, bytes_of}
use Rattle.numbers.specs.Buffer.{flat}
use Rattle.rules.proofs.Number.{number_small}
use Rattle.records.specs.Fields.{numbers, target_front}

pub front_fields : (p n : ℕ) → 7 ∷ (number p ++ number n) ≡ target_front p n
unfolding numbers target_front
front_fields p n = rw (number_small 7 (lit< tt), append-nil)

-- the size n as it was counted
pub target_fields : (t : TargetAssignment) {n : ℕ} → n ≡ length t.slots → flat (target_front t.place n ∷ differences 0 t.slots ∷ []) ≡ bytes_of (target_is t)
unfolding bytes_of numbers target_front set_bytes
target_fields t e = rw (number_small 7 (lit< tt), e) (simp append-nil (ap (λ (l : List ℕ). 7 ∷ l) (append_assoc (number t.place) (number (length t.slots)) (differences 0 t.slots))))

pub target_epoch_length : (e : ℕ) → length (bytes_of (target_epoch e)) ≡ 1 + length (number e)
unfolding bytes_of
target_epoch_length e = omega arith
