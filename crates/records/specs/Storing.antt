-- What is stored: the records of each kind of event, and what storing bytes comes to.
use Rattle.std.specs.Prelude.{◌≡◌, ◌≤◌, ◌<◌, List, [], ◌∷◌, ◌++◌, ℕ, length, Option, None, Some, Result, Ok, Err}
use Rattle.rules.specs.Records.{Record, group_epoch, topic_is, member_is, current_is}
use Rattle.rules.specs.Effects.{gone_records, join_records}
use Rattle.rules.specs.declared.Refusal.{Refusal}
use Rattle.rules.specs.declared.Refusal.TheVariants.{Room}
use Rattle.numbers.specs.Buffer.{Wrote}
use Rattle.records.specs.Views.{view_topic_metadata, view_member_metadata, view_current}
use Rattle.records.specs.declared.batches.TopicBatch.{TopicBatch}
use Rattle.records.specs.declared.batches.GoneBatch.{GoneBatch}
use Rattle.records.specs.declared.batches.LeaveBatch.{LeaveBatch}
use Rattle.records.specs.declared.batches.JoinBatch.{JoinBatch}
use Rattle.records.specs.declared.batches.OrdinaryBatch.{OrdinaryBatch}

-- the bytes of what may be there
abbrev pub optional_bytes : {A : Type 0} → (A → List ℕ) → Option A → List ℕ
optional_bytes bytes None = []
optional_bytes bytes (Some a) = bytes a

-- a record of what may be there
abbrev pub optional : {A : Type 0} → (A → Record) → Option A → List Record
optional kind None = []
optional kind (Some a) = kind a ∷ []

-- the bytes w were to be stored in the buffer b, which is then b': they went to its front, or they don't fit and it stays as it was
abbrev pub Stores : List ℕ → List ℕ → List ℕ → Result ℕ Refusal → Type 0
Stores w b b' (Ok n) = (length w ≤ length b) × Wrote w b b' n
Stores w b b' (Err why) = (length b < length w) × (b' ≡ b) × (why ≡ Room)

-- ---- what an event stores

unfoldable pub topic_batch : TopicBatch → List Record
topic_batch b = optional (λ t. topic_is (view_topic_metadata t)) b.topic ++ optional (λ e. group_epoch e.0) b.epoch

unfoldable pub gone_batch : GoneBatch → List Record
gone_batch b = gone_records b.place.0 b.retargets

unfoldable pub leave_batch : LeaveBatch → List Record
leave_batch b = gone_batch b.gone ++ optional (λ e. group_epoch e.0) b.epoch

unfoldable pub join_batch : JoinBatch → List Record
join_batch b = join_records b.retargets (view_member_metadata b.member) b.epoch

unfoldable pub ordinary_batch : OrdinaryBatch → List Record
ordinary_batch b =
    optional (λ m. member_is (view_member_metadata m)) b.member
    ++ (optional (λ e. group_epoch e.0) b.epoch ++ optional (λ c. current_is (view_current c)) b.current)
