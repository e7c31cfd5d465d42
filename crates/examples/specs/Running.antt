-- The rules run on a list of events: all that each step hands back. Here every definition is open, so that a run is proved by computation.
use Rattle.std.specs.Prelude.{List, [], ◌∷◌}
use Rattle.rules.specs.Basics.{first_with, keep, up_to}
use Rattle.rules.specs.Group.{Group, assigned, below_count, elapsed, exists, free_slot, fresh, includes_topic, is_member, known, lowest_free, member_at, member_count, nobody, place_of, raised, revoking, set_a, set_m, set_p, subscribes, targeted, vacant}
use Rattle.rules.specs.Records.{all_bytes, bytes_of, differences, groups, number, set_bytes}
use Rattle.rules.specs.Refusals.{allows, at_end, bad_entry, bad_list, bad_timeout, count_changes, first_bad, first_of, goes_back, has_id, heartbeat_table, is_epoch, is_slot_set, kind_of, lacking, left_over, malformed, misplaced, new_subscription, new_timeout, no_timeout, not_held_by, resubscribes, table, topic_bad, topic_changes, topic_raises, zero_id}
use Rattle.rules.specs.Effects.{advanced, after_free, changed, claimed, due, effect, epoch_after, freed, frees, gone_records, group_epoch_after, heartbeat_effect, install_effect, install_records, join_at, join_effect, join_place, join_records, joiner, leave_at, leave_effect, leave_records, member_after, only_if, ordinary_records, overdue, overdue_places, removal_records, remove, retargeted, revoked, revokes, slots_after, stray, strays, sweep_effect, sweep_epoch, sweep_of, sweep_records, target_record, topic_effect, topic_epoch, topic_records, vacated, waits, with_target, with_topic, ordinary_at, updates, moves, current_before, current_after, metadata_of, current_of, joined_at}
use Rattle.rules.specs.Step.{Stepped, carry_out, overlay, step, too_little_room, verdict}
use Rattle.rules.specs.Course.{Call, stepped}

-- each event is given the group that the one before left
unfoldable pub run : Group → List Call → List Stepped
unfolding stepped up_to keep first_with free_slot fresh assigned revoking targeted set_a set_p set_m is_member known place_of vacant member_count lowest_free nobody member_at includes_topic subscribes below_count exists elapsed raised groups number differences set_bytes bytes_of all_bytes kind_of first_of goes_back zero_id bad_timeout no_timeout is_slot_set bad_list malformed lacking not_held_by new_subscription new_timeout resubscribes at_end heartbeat_table has_id allows topic_bad count_changes topic_changes topic_raises is_epoch misplaced left_over bad_entry first_bad table vacated freed stray revoked claimed changed only_if join_place joiner join_records join_at join_effect remove gone_records leave_records leave_at leave_effect frees waits after_free strays advanced slots_after revokes epoch_after group_epoch_after member_after updates moves current_before current_after metadata_of current_of joined_at ordinary_records ordinary_at heartbeat_effect due overdue overdue_places sweep_epoch removal_records sweep_records sweep_of sweep_effect topic_epoch with_topic topic_records topic_effect retargeted target_record install_records with_target install_effect effect overlay too_little_room verdict carry_out step
run g [] = []
run g (c ∷ cs) =
    let r = stepped g c in
    r ∷ run r.group cs
