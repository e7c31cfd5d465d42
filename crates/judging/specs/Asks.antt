-- The heartbeat that the records of a batch can only be of, as the code makes it.
use Rattle.std.specs.Prelude.{ℕ, ◌≡◌, Bool, true, false, List, [], eqb, ℤ, pos, negsuc, if◌then◌else◌}
use Rattle.std.specs.Prelude as P
use Rattle.std.proofs.Math.Option.{Option, none, some}
use Rattle.rules.specs.Basics.{case_of}
use Rattle.rules.specs.Group as G
use Rattle.rules.specs.Records.{MemberMetadata, Record}
use Rattle.rules.specs.Event.{Request, heartbeat}
use Rattle.rules.specs.Batches.{current_in, entering, is_signed, is_typed, member_in, moving}
use Rattle.group.specs.Columns.{view_members}
use Rattle.events.specs.Outcomes.{request_of}
use Rattle.events.specs.declared.Request as Code
use Rattle.reading.specs.declared.Member.{Member}
use Rattle.batches.specs.declared.Gathered.{Gathered}
use Rattle.batches.specs.Gathered.{Says}

-- what a record 5 says
abbrev pub metadata_as : Member → MemberMetadata
metadata_as m = record { place = m.place; id = m.id; timeout = m.timeout; subscription = m.subscription }

-- what of a timeout is new
unfoldable pub timeout_given : ℕ → ℕ → ℤ
timeout_given timeout had = if eqb timeout had then negsuc 0 else pos timeout

-- a number that is signed is given, and no other
abbrev pub Gives : ℤ → P.Option ℤ → Type 0
Gives z P.None = is_signed z ≡ false
Gives z (P.Some n) = (is_signed z ≡ true) × (n ≡ z)

-- `beating` of the rules, for the member at its place
unfoldable pub beating_as : ℕ → G.Member → ℕ → ℕ → Bool → Request
beating_as t m timeout subscription moves = record {
  id = m.id;
  epoch = pos m.epoch;
  tick = t;
  timeout = timeout_given timeout m.timeout;
  subscription = if eqb subscription m.subscription then none else some subscription;
  owned = if moves then some [] else none;
}

-- the heartbeat of records with a record 5, or with a record 8 alone, as the rules make it
unfoldable pub beat_in : ℕ → G.Group → List Record → Option Request
beat_in t g rs = case_of (member_in rs) (case_of (current_in rs) none (λ c. some (moving t g c))) (λ m. some (entering t g rs m))

-- the code's heartbeat is this one, if its numbers fit; where there is none the code has none
abbrev pub Asks : P.Option Code.Request → Option Request → Type 0
Asks P.None none = Unit {0}
Asks (P.Some r) none = ⊥
Asks P.None (some b) = is_typed (heartbeat b) ≡ false
Asks (P.Some r) (some b) = (is_typed (heartbeat b) ≡ true) × (request_of r [] ≡ b)

-- it is that of the records that were gathered, for every group that has these members
abbrev pub AsksFor : P.Option Code.Request → List ℕ → Gathered → ℕ → Type 0
AsksFor a members said t =
    (bytes : List ℕ) (table : List Bool) (entries entries' : List ℕ) (s : Says bytes said table entries entries') (g : G.Group)
    → g.members ≡ view_members members → Asks a (beat_in t g s.records)
