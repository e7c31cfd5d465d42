-- The rules of request 1 run on bytes: a journal read back, a batch judged; and the bytes that the cases are written with. As in Running every definition is
-- open here.
use Rattle.std.specs.Prelude.{ℕ, Bool, true, List, [], ◌∷◌, ◌++◌, map}
use Rattle.std.proofs.Math.Option.{Option}
use Rattle.rules.specs.Basics.{first_with, given, keep, up_to}
use Rattle.rules.specs.Group.{Group, assigned, below_count, elapsed, exists, free_slot, fresh, includes_topic, is_member, known, lowest_free, member_at, member_count, nobody, place_of, raised, revoking, set_a, set_m, set_p, subscribes, targeted, vacant}
use Rattle.rules.specs.Records.{all_bytes, bytes_of, differences, fits, groups, number, numbers_of, parts_of, placed, places_of, set_bytes}
use Rattle.rules.specs.Refusals.{allows, at_end, bad_entry, bad_list, bad_timeout, count_changes, first_bad, first_of, goes_back, has_id, heartbeat_table, is_epoch, is_slot_set, kind_of, lacking, left_over, malformed, misplaced, new_subscription, new_timeout, no_timeout, not_held_by, resubscribes, table, topic_bad, topic_changes, topic_raises, zero_id}
use Rattle.rules.specs.Effects.{advanced, after_free, changed, claimed, due, effect, epoch_after, freed, frees, gone_records, group_epoch_after, heartbeat_effect, install_effect, install_records, join_at, join_effect, join_place, join_records, joiner, leave_at, leave_effect, leave_records, member_after, only_if, ordinary_records, overdue, overdue_places, removal_records, remove, retargeted, revoked, revokes, slots_after, stray, strays, sweep_effect, sweep_epoch, sweep_of, sweep_records, target_record, topic_effect, topic_epoch, topic_records, vacated, waits, with_target, with_topic, ordinary_at, updates, moves, current_before, current_after, metadata_of, current_of, joined_at}
use Rattle.rules.specs.Reader.{◌>>=◌, and_more, and_then, byte, joined, more_groups, pure, read_all, read_bytes, read_current, read_differences, read_kind, read_member, read_number, read_present, read_record, read_records, read_set, read_target, read_topic, refuse}
use Rattle.rules.specs.Ledger.{gone}
use Rattle.rules.specs.Batches.{beating, candidate, entering, entries_of, heard_at, installing, is_join, is_signed, is_typed, joining, judged, judged_by, laid, laid_over, making, moving, read_batch, removing, retimed, retimed_member, session_before, silent, targets_in, tried}
use Rattle.rules.specs.Journal.{Reading, after_batch, after_length, batches, entry, heading, journal, read_batches, read_heading, read_journal, read_length, second_group, stored_by}
use Rattle.rules.specs.Readings.{happens, next_group}
use Rattle.examples.specs.Running.{run}
use Rattle.examples.specs.Rows.{Row, aa, bb, call, id}

-- every reading is at this tick
abbrev pub tick : ℕ
tick = 7000

unfoldable pub reads : List ℕ → Reading
unfolding ◌>>=◌ advanced after_batch after_free after_length all_bytes allows and_more and_then assigned at_end bad_entry bad_list bad_timeout beating below_count byte bytes_of candidate changed claimed count_changes current_after current_before current_of differences due effect elapsed entering entries_of epoch_after exists first_bad first_of first_with fits free_slot freed frees fresh goes_back gone gone_records group_epoch_after groups has_id heading heard_at heartbeat_effect heartbeat_table includes_topic install_effect install_records installing is_epoch is_join is_member is_signed is_slot_set is_typed join_at join_effect join_place join_records joined joined_at joiner joining judged judged_by keep kind_of known lacking laid laid_over leave_at leave_effect leave_records left_over lowest_free making malformed member_after member_at member_count metadata_of misplaced more_groups moves moving new_subscription new_timeout no_timeout nobody not_held_by number numbers_of only_if ordinary_at ordinary_records overdue overdue_places parts_of place_of placed places_of pure raised read_all read_batch read_batches read_bytes read_current read_differences read_heading read_journal read_kind read_length read_member read_number read_present read_record read_records read_set read_target read_topic refuse removal_records remove removing resubscribes retargeted retimed retimed_member revoked revokes revoking second_group session_before set_a set_bytes set_m set_p silent slots_after stray strays subscribes sweep_effect sweep_epoch sweep_of sweep_records table target_record targeted targets_in topic_bad topic_changes topic_effect topic_epoch topic_raises topic_records tried updates up_to vacant vacated waits with_target with_topic zero_id
reads bytes = read_journal tick bytes

-- a batch read for a group
unfoldable pub read : Group → List ℕ → Option Group
unfolding reads
read g bytes = read_batch tick g bytes

unfoldable pub good : Group → List ℕ → Bool
unfolding read
good g bytes = given (read g bytes)

-- the journal of the events of these rows, from a group made at tick 1000 on
unfoldable pub journal_of : List Row → List ℕ
unfolding run heading stored_by entry next_group batches journal number groups
journal_of rows = journal (fresh 1000) (map (λ r. happens (call r) true) rows)

-- ---- what P1 to P11 write; P7 and P9 write nothing

-- `GRJ1`
abbrev pub head : List ℕ
head = 0x47 ∷ 0x52 ∷ 0x4A ∷ 0x31 ∷ []

-- place 0, timeout 300, topic 0: record 5 and what follows it
abbrev pub stores : ℕ → List ℕ → List ℕ → List ℕ
stores place id rest = 0x05 ∷ place ∷ 0x01 ∷ (id ++ 0xAC ∷ 0x02 ∷ 0x01 ∷ rest)

abbrev pub p1 : List ℕ
p1 = 0x04 ∷ 0x00 ∷ (id 0x11 ++ 0x03 ∷ [])

abbrev pub p2 : List ℕ
p2 = stores 0 aa (0x03 ∷ 0x01 ∷ 0x08 ∷ 0x00 ∷ 0x01 ∷ 0x00 ∷ 0x00 ∷ [])

abbrev pub p3 : List ℕ
p3 = 0x07 ∷ 0x00 ∷ 0x03 ∷ 0x00 ∷ 0x01 ∷ 0x01 ∷ 0x06 ∷ 0x01 ∷ []

abbrev pub p4 : List ℕ
p4 = 0x08 ∷ 0x00 ∷ 0x01 ∷ 0x03 ∷ 0x00 ∷ 0x01 ∷ 0x01 ∷ 0x00 ∷ []

abbrev pub p5 : List ℕ
p5 = stores 1 bb (0x03 ∷ 0x02 ∷ 0x08 ∷ 0x01 ∷ 0x02 ∷ 0x00 ∷ 0x00 ∷ [])

abbrev pub p6 : List ℕ
p6 = 0x07 ∷ 0x00 ∷ 0x02 ∷ 0x00 ∷ 0x01 ∷ 0x07 ∷ 0x01 ∷ 0x01 ∷ 0x02 ∷ 0x06 ∷ 0x02 ∷ []

abbrev pub p8 : List ℕ
p8 = 0x08 ∷ 0x00 ∷ 0x01 ∷ 0x02 ∷ 0x00 ∷ 0x01 ∷ 0x01 ∷ 0x02 ∷ []

abbrev pub p10 : List ℕ
p10 = 0x08 ∷ 0x00 ∷ 0x02 ∷ 0x02 ∷ 0x00 ∷ 0x01 ∷ 0x00 ∷ []

abbrev pub p11 : List ℕ
p11 = 0x08 ∷ 0x01 ∷ 0x02 ∷ 0x01 ∷ 0x02 ∷ 0x00 ∷ []

-- 'their total length .. and the records'
abbrev pub put : ℕ → List ℕ → List ℕ → List ℕ
put n records rest = n ∷ (records ++ rest)

abbrev pub file : List ℕ
file = head ++ put 19 p1 (put 29 p2 (put 8 p3 (put 8 p4 (put 29 p5 (put 11 p6 (put 8 p8 (put 7 p10 (put 6 p11 []))))))))
