-- One record more of a batch: what its records up to here say, and what the next one adds.
use Rattle.std.specs.Prelude.{ℕ, ◌≡◌, Bool, true, false, not, ◌||◌}
use mathlib.Core.List.{List, [], ◌∷◌, ◌++◌, foldl}
use Rattle.std.specs.Prelude as P
use Rattle.rules.specs.Basics.{empty, given, or_else}
use Rattle.rules.specs.Records.{Record, parts_of, placed}
use Rattle.rules.specs.Ledger.{gone}
use Rattle.rules.specs.Batches.{epoch_in, topic_in, member_in, target_epoch_in, current_in, targets_in, laid_over}
use Rattle.batches.specs.declared.Gathered.{Gathered}
use Rattle.batches.specs.Gathered.{epoch_as, topic_as, member_as, target_epoch_as, current_as, standing, Marks}

-- the first records: those there were, or else this one
pub record Adds (a : Record) (r r' : Gathered) : Type 0 where
  pub epoch : epoch_as r' ≡ or_else (epoch_as r) (parts_of a).epoch
  pub topic : topic_as r' ≡ or_else (topic_as r) (parts_of a).topic
  pub member : member_as r' ≡ or_else (member_as r) (parts_of a).member
  pub any_gone : r'.any_gone ≡ (r.any_gone || given (parts_of a).member_gone)
  pub target_epoch : target_epoch_as r' ≡ or_else (target_epoch_as r) (parts_of a).target_epoch
  pub current : current_as r' ≡ or_else (current_as r) (standing (parts_of a).current)

-- the records so far, and what they say
pub record Holds (rs : List Record) (r : Gathered) (table : List Bool) (entries entries' : List ℕ) : Type 0 where
  pub epoch : epoch_as r ≡ epoch_in rs
  pub topic : topic_as r ≡ topic_in rs
  pub member : member_as r ≡ member_in rs
  pub any_gone : r.any_gone ≡ not (empty (gone rs))
  pub marks : Marks table (gone rs)
  pub target_epoch : target_epoch_as r ≡ target_epoch_in rs
  pub current : current_as r ≡ standing (current_in rs)
  pub targets : entries' ≡ foldl laid_over entries (targets_in rs)

-- a record whose place there is says what it says after the others; any other is refused
abbrev pub Takes : Record → Gathered → P.Option Gathered → List Bool → List Bool → List ℕ → List ℕ → Type 0
Takes a r P.None t t' e e' = placed a ≡ false
Takes a r (P.Some r') t t' e e' =
    (placed a ≡ true) × ((rs : List Record) (e₀ : List ℕ) → Holds rs r t e₀ e → Holds (rs ++ a ∷ []) r' t' e₀ e')
