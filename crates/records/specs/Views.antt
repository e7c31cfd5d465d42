-- What the code's values say, as records of the rules.
use Rattle.rules.specs.Records as R
use Rattle.slots.specs.Set.{slots_of}
use Rattle.records.specs.declared.kinds.TopicMetadata.{TopicMetadata}
use Rattle.records.specs.declared.kinds.MemberMetadata.{MemberMetadata}
use Rattle.records.specs.declared.kinds.TargetAssignment.{TargetAssignment}
use Rattle.records.specs.declared.kinds.CurrentAssignment.{CurrentAssignment}

unfoldable pub view_topic_metadata : TopicMetadata → R.TopicMetadata
view_topic_metadata t = record { number = t.number; id = t.id; count = t.count }

unfoldable pub view_member_metadata : MemberMetadata → R.MemberMetadata
view_member_metadata m = record { place = m.place.0; id = m.id; timeout = m.timeout; subscription = m.subscription }

unfoldable pub view_target : TargetAssignment → R.TargetAssignment
view_target t = record { place = t.place.0; slots = slots_of t.slots.words }

unfoldable pub view_current : CurrentAssignment → R.CurrentAssignment
view_current c = record { place = c.place.0; epoch = c.epoch; assigned = slots_of c.assigned.words; revoking = slots_of c.revoking.words }
