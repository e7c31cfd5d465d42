-- The theorems of the rules (crates/rules/specs/Theorems) together.
use Rattle.rules.specs.Theorems.{Theorems}
use Rattle.theorems.proofs.Refusing.{refusal_changes_nothing, room_always_then, room_only_then}
use Rattle.theorems.proofs.Holding.{assigned_or_revoking, held_once, targeted_once}
use Rattle.theorems.proofs.Readable.{readable}
use Rattle.theorems.proofs.Legible.{epochs_never_fall, epochs_ordered}
use Rattle.theorems.proofs.Emptying.{accepted_join, accepted_leave, accepted_sweep}
use Rattle.theorems.proofs.Removing.{leave_at_end, sweep_at_end, swept_is_difference}
use Rattle.theorems.proofs.Revoking.{accepted_ordinary}
use Rattle.theorems.proofs.Untouched.{accepted_install, accepted_topic, same_count}
use Rattle.theorems.proofs.LeftOver.{first_reported, none_left_over, read_without_rule}
use Rattle.theorems.proofs.Sizes.{batch_fits, never_room}
use Rattle.theorems.proofs.Ids.{member_ids, same_count_accepted, sized, topic_ids}
use Rattle.theorems.proofs.Inheriting.{nobody_inherits}
use Rattle.theorems.proofs.Ranging.{range_installed, range_theorems}

pub theorems : Theorems
theorems = record {
  refusal_changes_nothing = refusal_changes_nothing;
  room_only_then = room_only_then;
  room_always_then = room_always_then;
  swept_is_difference = swept_is_difference;
  held_once = held_once;
  assigned_or_revoking = assigned_or_revoking;
  targeted_once = targeted_once;
  leave_at_end = leave_at_end;
  sweep_at_end = sweep_at_end;
  same_count = same_count;
  accepted_join = accepted_join;
  accepted_leave = accepted_leave;
  accepted_ordinary = accepted_ordinary;
  accepted_sweep = accepted_sweep;
  accepted_topic = accepted_topic;
  accepted_install = accepted_install;
  none_left_over = none_left_over;
  first_reported = first_reported;
  read_without_rule = read_without_rule;
  range = range_theorems;
  epochs_ordered = epochs_ordered;
  sized = sized;
  nobody_inherits = nobody_inherits;
  member_ids = member_ids;
  topic_ids = topic_ids;
  same_count_accepted = same_count_accepted;
  epochs_never_fall = epochs_never_fall;
  readable = readable;
  batch_fits = batch_fits;
  never_room = never_room;
  range_installed = range_installed;
}
