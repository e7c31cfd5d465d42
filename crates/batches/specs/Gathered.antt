-- What the records of a batch say, gathered in one pass.
use Rattle.std.specs.Prelude.{ℕ, ◌<◌, ◌≡◌, Bool, false, not, ◌&&◌, get_or, eqb, if◌then◌else◌}
use mathlib.Core.List.{List, foldl}
use Rattle.std.specs.Prelude as P
use Rattle.std.proofs.Math.Option.{Option, none, some}
use Rattle.rules.specs.Basics.{all, any, case_of, empty}
use Rattle.rules.specs.Constants.{max_members}
use Rattle.rules.specs.Records.{CurrentAssignment, MemberMetadata, Record, TopicMetadata, fits, placed}
use Rattle.rules.specs.Reader.{read_all}
use Rattle.rules.specs.Ledger.{gone}
use Rattle.rules.specs.Batches.{epoch_in, topic_in, member_in, target_epoch_in, current_in, targets_in, laid_over}
use Rattle.batches.specs.declared.Gathered.{Gathered}

-- the records of a batch, if every byte belongs to one and no number or place in them is too large
unfoldable pub kept : List Record → Option (List Record)
kept rs = if all (λ r. fits r && placed r) rs then some rs else none

unfoldable pub fitting : List ℕ → Option (List Record)
fitting bytes = case_of (read_all bytes) none kept

-- ---- the first record of a kind

-- what may be there, as the rules have it
abbrev pub maybe : {A B : Type 0} → (A → B) → P.Option A → Option B
maybe f P.None = none
maybe f (P.Some a) = some (f a)

abbrev pub epoch_as : Gathered → Option ℕ
epoch_as r = maybe (λ n. n) r.epoch

abbrev pub topic_as : Gathered → Option TopicMetadata
topic_as r = maybe (λ t. record { number = t.number; id = t.id; count = t.count }) r.topic

abbrev pub member_as : Gathered → Option MemberMetadata
member_as r = maybe (λ m. record { place = m.place; id = m.id; timeout = m.timeout; subscription = m.subscription }) r.member

abbrev pub target_epoch_as : Gathered → Option ℕ
target_epoch_as r = maybe (λ n. n) r.target_epoch

-- of a record 8 its place and its epoch: its sets are compared as bytes
unfoldable pub standing : Option CurrentAssignment → Option (ℕ × ℕ)
standing c = case_of c none (λ a. some (a.place, a.epoch))

abbrev pub current_as : Gathered → Option (ℕ × ℕ)
current_as r = maybe (λ c. c) r.current

-- ---- a whole batch

-- a table of places marks those of a list
abbrev pub Marks : List Bool → List ℕ → Type 0
Marks table ps = (p : ℕ) → p < max_members → get_or table p false ≡ any (eqb p) ps

-- the bytes are these records; what they say; the table marks the places gone; the entries are laid over
pub record Says (bytes : List ℕ) (r : Gathered) (table : List Bool) (entries entries' : List ℕ) : Type 0 where
  pub records : List Record
  pub read : fitting bytes ≡ some records
  pub epoch : epoch_as r ≡ epoch_in records
  pub topic : topic_as r ≡ topic_in records
  pub member : member_as r ≡ member_in records
  pub any_gone : r.any_gone ≡ not (empty (gone records))
  pub marks : Marks table (gone records)
  pub target_epoch : target_epoch_as r ≡ target_epoch_in records
  pub current : current_as r ≡ standing (current_in records)
  pub targets : entries' ≡ foldl laid_over entries (targets_in records)

-- a batch gathered: the table as it is left, and the entries before and after
abbrev pub Gathers : List ℕ → P.Option Gathered → List Bool → List ℕ → List ℕ → Type 0
Gathers bytes P.None table entries entries' = fitting bytes ≡ none
Gathers bytes (P.Some r) table entries entries' = Says bytes r table entries entries'
