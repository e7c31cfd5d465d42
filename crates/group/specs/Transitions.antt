-- The member record: the member of the rules that it stands for, and what each method makes of it, field by field.
use Rattle.std.specs.Prelude.{ℕ, max, replicate}
use Rattle.rules.specs.Group as G
use Rattle.slots.specs.declared.SlotSet.{SlotSet}
use Rattle.group.specs.Members.{joined_as}
use Rattle.group.specs.View.{seated}
use Rattle.group.specs.declared.Seat.{Seat}
use Rattle.group.specs.declared.member.Member.{Member}

-- the set of no slot
abbrev pub no_slots : SlotSet
no_slots = record { words = replicate 16 0 }

-- the member of the rules: its slots stand in the tables
abbrev pub view_member : Member → G.Member
view_member m = seated m.seat

abbrev pub member_of : Seat → SlotSet → SlotSet → Member
member_of s a q = record { seat = s; assigned = a; revoking = q }

abbrev pub seat_of : Member → Seat
seat_of m = m.seat

-- 'at first, and again at a rejoin, the tick of the join'
abbrev pub member_rejoined : Member → ℕ → ℕ → ℕ → ℕ → Member
member_rejoined m epoch subscription timeout tick = record { seat = joined_as m.seat.id epoch subscription timeout tick; assigned = no_slots; revoking = no_slots }

-- 'all of P is freed'; 'freeing leaves' the tick P was last set
abbrev pub member_freed : Member → Member
member_freed m = record m { revoking = no_slots }

-- 'those move to P, and A keeps the rest; E stays'
abbrev pub member_revoked : Member → SlotSet → SlotSet → ℕ → Member
member_revoked m kept strays tick = record { seat = record m.seat { revoked_at = tick }; assigned = kept; revoking = strays }

-- 'E becomes the larger of E and T, and every slot of M that nobody holds enters A'
abbrev pub member_advanced : Member → ℕ → SlotSet → Member
member_advanced m target assigned = record m { seat = record m.seat { epoch = max m.seat.epoch target }; assigned = assigned }

-- 'timeout and subscription are stored'
abbrev pub member_stored : Member → ℕ → ℕ → Member
member_stored m subscription timeout = record m { seat = record m.seat { subscription = subscription; timeout = timeout } }

-- 'Accepted heartbeats set the last-heard tick'
abbrev pub member_heard : Member → ℕ → Member
member_heard m tick = record m { seat = record m.seat { heard = tick } }
