-- What the code's values say, as numbers and records of the rules.
use Rattle.std.specs.Prelude.{ℕ, ◌≤◌, ◌<◌, ◌≡◌, List, length, drop, Option, None, Some}
use Rattle.std.proofs.Math.Option.{none, some}
use Rattle.rules.specs.Records as R
use Rattle.slots.specs.Set.{slots_of}
use Rattle.reading.specs.Fitting.{read_fitting}
use Rattle.reading.specs.declared.Record.{Record}
use Rattle.reading.specs.declared.Record.TheVariants as K

-- the record of the rules that a record is
abbrev pub view_record : Record → R.Record
view_record (K.GroupEpoch n) = R.group_epoch n
view_record (K.Topic t) = R.topic_is (record { number = t.number; id = t.id; count = t.count })
view_record (K.Member m) = R.member_is (record { place = m.place; id = m.id; timeout = m.timeout; subscription = m.subscription })
view_record (K.MemberGone p) = R.member_gone p
view_record (K.TargetEpoch n) = R.target_epoch n
view_record (K.Target t) = R.target_is (record { place = t.place; slots = slots_of t.slots.words })
view_record (K.Current c) = R.current_is (record { place = c.place; epoch = c.epoch; assigned = slots_of c.assigned.words; revoking = slots_of c.revoking.words })
view_record (K.CurrentGone p) = R.current_gone p

-- r is the record at the place `at` whose numbers fit, with the place after it, which is of the bytes or their end and further on
abbrev pub ReadsRecord : List ℕ → ℕ → Option (Record × ℕ) → Type 0
ReadsRecord s at None = read_fitting (drop at s) ≡ none
ReadsRecord s at (Some r) = (read_fitting (drop at s) ≡ some (view_record r.0, drop r.1 s)) × (at < r.1) × (r.1 ≤ length s)
