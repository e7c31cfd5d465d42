-- Where a member joins: `join_place` of the rules, if there is a place for it. And what stands when no row before the last applies.
use Rattle.std.specs.Prelude.{◌≡◌, Bool, false, ◌||◌, List, ℕ, nat_le, if◌then◌else◌, Option, None, Some}
use Rattle.std.proofs.Math.Option as M
use Rattle.rules.specs.Basics.{any, find, default}
use Rattle.rules.specs.Constants.{last_epoch}
use Rattle.rules.specs.Group.{Member, is_member, vacant}
use Rattle.rules.specs.Refusals.{zero_id, timeout_or}
use Rattle.rules.specs.declared.Place.{Place}
use Rattle.records.specs.declared.kinds.MemberMetadata.{MemberMetadata}
use Rattle.group.specs.Columns.{seat_at}
use Rattle.group.specs.declared.Group.{Group}
use Rattle.group.specs.declared.Seat.{Seat}
use Rattle.events.specs.Outcomes.{given_subscription}
use Rattle.events.specs.declared.Request.{Request}

-- among some members there is a place for an ID; and it is its own, or else the first without a member
abbrev pub has_place : List (M.Option Member) → List ℕ → Bool
has_place ms id = any (is_member id) ms || any vacant ms

abbrev pub place_for : List (M.Option Member) → List ℕ → ℕ
place_for ms id = if any (is_member id) ms then find (is_member id) ms else find vacant ms

-- a seat that is there has the ID
abbrev pub IsOf : List ℕ → Option Seat → Type 0
IsOf id None = Unit {0}
IsOf id (Some s) = s.id ≡ id

-- G can rise; the ID is not zero; and the place is that of its member, or of nobody
pub record Ready (g : Group) (p : ℕ) (id : List ℕ) : Type 0 where
  pub rises : nat_le last_epoch g.head.epoch ≡ false
  pub named : zero_id id ≡ false
  pub own : IsOf id (seat_at g.members.cells p)

-- record 5 of a join, with what the request gives
abbrev pub metadata_in : Request → Place → MemberMetadata
metadata_in b p = record { place = p; id = b.id; timeout = timeout_or b.timeout 0; subscription = default 0 (given_subscription b.has_subscription b.subscription) }
