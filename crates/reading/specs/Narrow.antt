-- The readers of the rules field by field, for numbers of 32 bits: `record32` reads what `read_fitting` does (proofs/Narrowing).
use Rattle.std.specs.Prelude.{ℕ, zero, suc, ◌+◌, Bool, ◌&&◌, List, [], ◌∷◌, eqb, ltb, leb, if◌then◌else◌}
use Rattle.rules.specs.Constants.{id_length, slot_count, number_range}
use Rattle.rules.specs.Records.{Record, group_epoch, topic_is, member_is, member_gone, target_epoch, target_is, current_is, current_gone}
use Rattle.rules.specs.Reader.{Reader, pure, refuse, ◌>>=◌, byte, read_number, read_bytes}
use Rattle.reading.specs.Fitting.{passing}

abbrev pub in_range : ℕ → Bool
in_range n = ltb n number_range

unfoldable pub number32 : Reader ℕ
number32 = read_number >>= passing in_range

-- x is a slot, and not below `low`
abbrev pub slot_from : ℕ → ℕ → Bool
slot_from low x = leb low x && ltb x slot_count

-- n slots, each by its difference from the one before, none below `low` and each above the one before
unfoldable pub rising_slots : ℕ → ℕ → ℕ → Reader (List ℕ)
rising_slots zero low from = pure []
rising_slots (suc n) low from =
    number32 >>= λ d.
    if slot_from low (from + d) then (rising_slots n (suc (from + d)) (from + d) >>= λ s. pure ((from + d) ∷ s)) else refuse

unfoldable pub set32 : Reader (List ℕ)
set32 = number32 >>= λ n. rising_slots n 0 0

abbrev pub epoch32 : Reader Record
epoch32 = number32 >>= λ n. pure (group_epoch n)

abbrev pub topic32 : Reader Record
topic32 = number32 >>= λ t. read_bytes id_length >>= λ id. number32 >>= λ n. pure (topic_is (record { number = t; id = id; count = n }))

abbrev pub present32 : ℕ → Reader Record
present32 p =
    read_bytes id_length >>= λ id. number32 >>= λ timeout. number32 >>= λ subscription.
    pure (member_is (record { place = p; id = id; timeout = timeout; subscription = subscription }))

abbrev pub member32 : Reader Record
member32 =
    number32 >>= λ p. byte >>= λ k.
    if eqb k 0 then pure (member_gone p) else (if eqb k 1 then present32 p else refuse)

abbrev pub target_epoch32 : Reader Record
target_epoch32 = number32 >>= λ n. pure (target_epoch n)

abbrev pub target32 : Reader Record
target32 = number32 >>= λ p. set32 >>= λ s. pure (target_is (record { place = p; slots = s }))

abbrev pub sets32 : ℕ → ℕ → Reader Record
sets32 p e = set32 >>= λ a. set32 >>= λ q. pure (current_is (record { place = p; epoch = e; assigned = a; revoking = q }))

abbrev pub current32 : Reader Record
current32 = number32 >>= λ p. number32 >>= λ e. if eqb e 0 then pure (current_gone p) else sets32 p e

abbrev pub kind32 : ℕ → Reader Record
kind32 k =
    if eqb k 3 then epoch32
    else (if eqb k 4 then topic32
    else (if eqb k 5 then member32
    else (if eqb k 6 then target_epoch32
    else (if eqb k 7 then target32
    else (if eqb k 8 then current32 else refuse)))))

abbrev pub record32 : Reader Record
record32 = byte >>= kind32
