-- The bytes of lists of records: of any lists (`all_cons`, `all_append`), of a record that may be there (`optional_flat`), and of what each event stores, as its
-- fields stand one after another.
use Rattle.std.specs.Prelude.{Option, None, Some}
use Rattle.std.specs.Bool.{then_some}
use mathlib.Core.Path.{◌≡◌, refl, sym, ap, ◌∙◌}
use mathlib.Core.Bool.{Bool, true, false}
use mathlib.Core.List.{List, [], ◌∷◌, ◌++◌, append-nil, append_assoc}
use Prim.Native.Nat.{ℕ}
use Rattle.rules.specs.Basics.{concat_map}
use Rattle.rules.specs.Records.{Record, group_epoch, topic_is, member_is, member_gone, target_is, current_is, current_gone, bytes_of, all_bytes}
use Rattle.rules.specs.Effects.{only_if, no_target, joined_at, gone_records, join_records}
use Rattle.records.specs.Storing.{optional, optional_bytes, topic_batch, gone_batch, leave_batch, join_batch, ordinary_batch}
use Rattle.records.specs.Views.{view_topic_metadata, view_member_metadata, view_target, view_current}
use Rattle.records.specs.declared.kinds.GroupEpoch.{GroupEpoch}
use Rattle.records.specs.declared.kinds.TopicMetadata.{TopicMetadata}
use Rattle.records.specs.declared.kinds.MemberMetadata.{MemberMetadata}
use Rattle.records.specs.declared.kinds.TargetAssignment.{TargetAssignment}
use Rattle.records.specs.declared.kinds.CurrentAssignment.{CurrentAssignment}
use Rattle.records.specs.declared.batches.TopicBatch.{TopicBatch}
use Rattle.records.specs.declared.batches.GoneBatch.{GoneBatch}
use Rattle.records.specs.declared.batches.LeaveBatch.{LeaveBatch}
use Rattle.records.specs.declared.batches.JoinBatch.{JoinBatch}
use Rattle.records.specs.declared.batches.OrdinaryBatch.{OrdinaryBatch}

-- ---- any lists

pub all_none : all_bytes [] ≡ []
unfolding all_bytes
all_none = refl

pub all_cons : (r : Record) (rs : List Record) → all_bytes (r ∷ rs) ≡ bytes_of r ++ all_bytes rs
unfolding all_bytes
all_cons r rs = refl

pub all_append : (rs ss : List Record) → all_bytes (rs ++ ss) ≡ all_bytes rs ++ all_bytes ss
unfolding all_bytes
all_append [] ss = refl
all_append (r ∷ rs) ss = ap (λ (l : List ℕ). bytes_of r ++ l) (all_append rs ss) ∙ sym (append_assoc (bytes_of r) (concat_map bytes_of rs) (concat_map bytes_of ss))

-- ---- a record that may be there

abbrev pub bytes_if : {A : Type 0} → (A → Record) → Option A → List ℕ
bytes_if kind = optional_bytes (λ a. bytes_of (kind a))

pub optional_flat : {A : Type 0} (kind : A → Record) (o : Option A) → all_bytes (optional kind o) ≡ bytes_if kind o
unfolding all_bytes
optional_flat kind None = refl
optional_flat kind (Some a) = append-nil (bytes_of (kind a))

pub only_flat : {A : Type 0} (kind : A → Record) (b : Bool) (a : A) → all_bytes (only_if b (kind a)) ≡ bytes_if kind (then_some b a)
unfolding all_bytes only_if
only_flat kind true a = append-nil (bytes_of (kind a))
only_flat kind false a = refl

-- ---- what each event stores

abbrev three : GroupEpoch → Record
three e = group_epoch e.0

abbrev four : TopicMetadata → Record
four t = topic_is (view_topic_metadata t)

abbrev five : MemberMetadata → Record
five m = member_is (view_member_metadata m)

abbrev seven : TargetAssignment → Record
seven t = target_is (view_target t)

abbrev eight : CurrentAssignment → Record
eight c = current_is (view_current c)

pub topic_flat : (b : TopicBatch) → bytes_if four b.topic ++ bytes_if three b.epoch ≡ all_bytes (topic_batch b)
unfolding topic_batch
topic_flat b = simp (all_append, optional_flat)

-- t is a target that has become empty
pub gone_flat : (b : GoneBatch) (t : TargetAssignment) → seven t ≡ no_target b.place.0
    → bytes_of (current_gone b.place.0) ++ (bytes_if seven (then_some b.retargets t) ++ bytes_of (member_gone b.place.0)) ≡ all_bytes (gone_batch b)
unfolding gone_batch gone_records
gone_flat b t e = rw (← e, all_cons, all_append, only_flat seven b.retargets t, all_cons, all_none, append-nil)

pub leave_flat : (b : LeaveBatch) → all_bytes (gone_batch b.gone) ++ bytes_if three b.epoch ≡ all_bytes (leave_batch b)
unfolding leave_batch
leave_flat b = rw (all_append, optional_flat)

pub join_flat : (b : JoinBatch) (t : TargetAssignment) (c : CurrentAssignment) → seven t ≡ no_target b.member.place.0 → view_current c ≡ joined_at b.member.place.0 b.epoch
    → bytes_if seven (then_some b.retargets t) ++ (bytes_of (five b.member) ++ (bytes_of (group_epoch b.epoch) ++ bytes_of (eight c))) ≡ all_bytes (join_batch b)
unfolding join_batch join_records view_member_metadata
join_flat b t c e f = rw (← e, ← f, all_append, only_flat seven b.retargets t, all_cons, all_cons, all_cons, all_none, append-nil)

pub ordinary_flat : (b : OrdinaryBatch) → bytes_if five b.member ++ (bytes_if three b.epoch ++ bytes_if eight b.current) ≡ all_bytes (ordinary_batch b)
unfolding ordinary_batch
ordinary_flat b = simp (all_append, optional_flat)
