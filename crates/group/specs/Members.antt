-- A member that has joined, and one that is heard.
use Rattle.std.specs.Prelude.{ℕ, List}
use Rattle.std.proofs.Math.Option.{Option, none, some}
use Rattle.rules.specs.Group.{Member}
use Rattle.group.specs.declared.Seat.{Seat}

-- a member that has joined at a tick
abbrev pub joined_as : List ℕ → ℕ → ℕ → ℕ → ℕ → Seat
joined_as id epoch subscription timeout tick = record { id = id; epoch = epoch; subscription = subscription; timeout = timeout; heard = tick; revoked_at = tick }

-- the member at a place, heard at a tick
abbrev pub heard_at : ℕ → Option Member → Option Member
heard_at tick none = none
heard_at tick (some m) = some (record { id = m.id; epoch = m.epoch; subscription = m.subscription; timeout = m.timeout; heard = tick; revoked_at = m.revoked_at })
