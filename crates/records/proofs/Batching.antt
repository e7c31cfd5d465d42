-- What an event stores, built with what is there only if something changed: the lists of records of the rules. `then_some b t`, as `bool::then_some` ensures it,
-- is `Some t` where b is true and `None` where it is false.
use Rattle.std.specs.Prelude.{if◌then◌else◌, Option, None, Some}
use Rattle.std.specs.Bool.{then_some}
use mathlib.Core.Path.{◌≡◌, refl, ap, ap₂, ◌∙◌}
use mathlib.Core.Bool.{Bool, true, false}
use mathlib.Core.List.{List, ◌++◌}
use Rattle.rules.specs.Records.{Record, group_epoch, topic_is, member_is, current_is}
use Rattle.rules.specs.Effects.{only_if, topic_records, gone_records, leave_records, join_records, ordinary_records}
use Rattle.records.specs.Storing.{optional, topic_batch, gone_batch, leave_batch, join_batch, ordinary_batch}
use Rattle.records.specs.Views.{view_topic_metadata, view_member_metadata, view_current}
use Rattle.records.specs.declared.kinds.GroupEpoch.{GroupEpoch}
use Rattle.records.specs.declared.kinds.TopicMetadata.{TopicMetadata}
use Rattle.records.specs.declared.kinds.MemberMetadata.{MemberMetadata}
use Rattle.records.specs.declared.kinds.CurrentAssignment.{CurrentAssignment}
use Rattle.records.specs.declared.batches.TopicBatch.{TopicBatch}
use Rattle.records.specs.declared.batches.GoneBatch.{GoneBatch}
use Rattle.records.specs.declared.batches.LeaveBatch.{LeaveBatch}
use Rattle.records.specs.declared.batches.JoinBatch.{JoinBatch}
use Rattle.records.specs.declared.batches.OrdinaryBatch.{OrdinaryBatch}

-- ---- one record

pub optional_then : {A : Type 0} (kind : A → Record) (b : Bool) (t : A) → optional kind (then_some b t) ≡ only_if b (kind t)
unfolding only_if
optional_then kind true t = refl
optional_then kind false t = refl

pub optional_if : {A : Type 0} (kind : A → Record) (b : Bool) (t : A) → optional kind (if b then Some t else None) ≡ only_if b (kind t)
unfolding only_if
optional_if kind true t = refl
optional_if kind false t = refl

-- the two forms are one
pub then_if : {A : Type 0} (b : Bool) (t : A) → then_some b t ≡ (if b then Some t else None)
then_if true t = refl
then_if false t = refl

-- an option of which it is known that it is built so
pub optional_is : {A : Type 0} (kind : A → Record) {o : Option A} (b : Bool) (t : A) → o ≡ then_some b t → optional kind o ≡ only_if b (kind t)
optional_is kind b t e = ap (optional kind) e ∙ optional_then kind b t

-- ---- what each event stores, of the options in it

pub topic_is_records : (x : TopicBatch) (changes : Bool) (t : TopicMetadata) (raises : Bool) (e : GroupEpoch)
    → x.topic ≡ then_some changes t → x.epoch ≡ then_some raises e → topic_batch x ≡ topic_records changes (view_topic_metadata t) raises e.0
unfolding topic_batch topic_records
topic_is_records x changes t raises e p q =
    ap₂ (λ (l m : List Record). l ++ m) (optional_is (λ y. topic_is (view_topic_metadata y)) changes t p) (optional_is (λ y. group_epoch y.0) raises e q)

pub gone_is_records : (x : GoneBatch) → gone_batch x ≡ gone_records x.place.0 x.retargets
unfolding gone_batch
gone_is_records x = refl

pub leave_is_records : (x : LeaveBatch) (raises : Bool) (e : GroupEpoch)
    → x.epoch ≡ then_some raises e → leave_batch x ≡ leave_records x.gone.place.0 x.gone.retargets raises e.0
unfolding leave_batch gone_batch leave_records
leave_is_records x raises e q = ap (λ (l : List Record). gone_batch x.gone ++ l) (optional_is (λ y. group_epoch y.0) raises e q)

pub join_is_records : (x : JoinBatch) → join_batch x ≡ join_records x.retargets (view_member_metadata x.member) x.epoch
unfolding join_batch
join_is_records x = refl

pub ordinary_is_records : (x : OrdinaryBatch) (updates : Bool) (m : MemberMetadata) (raises : Bool) (e : GroupEpoch) (moves : Bool) (c : CurrentAssignment)
    → x.member ≡ then_some updates m → x.epoch ≡ then_some raises e → x.current ≡ then_some moves c
    → ordinary_batch x ≡ ordinary_records updates (view_member_metadata m) raises e.0 moves (view_current c)
unfolding ordinary_batch ordinary_records
ordinary_is_records x updates m raises e moves c p q r =
    ap₂ (λ (l m : List Record). l ++ m) (optional_is (λ y. member_is (view_member_metadata y)) updates m p)
    (ap₂ (λ (l m : List Record). l ++ m) (optional_is (λ y. group_epoch y.0) raises e q) (optional_is (λ y. current_is (view_current y)) moves c r))
