-- What an accepted event stores is read back: its records are proper where the group has an entry for each slot.
use Prim.Native.Nat.{ℕ, zero, suc, ◌<◌}
use native.Mathlib.Omega.{arith}
use mathlib.Core.Path.{◌≡◌, ◌∙◌}
use mathlib.Core.Bool.{not, true≢false}
use mathlib.Core.List.{List, [], ◌∷◌}
use mathlib.Core.Option.{none, some}
use lib.IntN.{ℤ, pos, negsuc}
use lib.ListN.{length}
use lib.Dec.{eqb}
use borrow.Author.Tests.{eqb-true}
use Rattle.rules.specs.Basics.{concat_map, indices, up_to}
use Rattle.rules.specs.Constants.{id_length, max_members, slot_count}
use Rattle.rules.specs.Group.{Group, SlotState, place_of, raised, set_m, targeted}
use Rattle.rules.specs.Records.{all_bytes, target_is, topic_is}
use Rattle.rules.specs.Event.{Event, Request, heartbeat, install, sweep, topic}
use Rattle.rules.specs.Refusals.{Kind, at_end, first_of, heartbeat_table, invalid, joins, kind_of, leaves, ordinary, sender_of, table, topic_changes}
use Rattle.rules.specs.Effects.{effect, heartbeat_effect, install_effect, install_records, join_at, join_effect, join_place, joiner, leave_at, leave_effect, leave_records, metadata_of, overdue_places, removal_records, retargeted, sweep_effect, sweep_of, sweep_records, target_record, topic_effect, topic_records}
use Rattle.rules.specs.Reader.{read_all}
use Rattle.rules.specs.Course.{Typed}
use Rattle.rules.specs.Theorems.{Readable}
use Rattle.rules.proofs.Lists.{not_is_false}
use Rattle.theorems.proofs.Accepting.{AllFalse, rows_false}
use Rattle.theorems.proofs.ReadBack.{AllProper, join_proper, proper_append, proper_epoch, proper_only, proper_removal, proper_removals, read_stored, read_written, slot_set}
use Rattle.theorems.proofs.Moves.{length_retargeted}
use Rattle.theorems.proofs.Epochs.{sender_rises}
use Rattle.theorems.proofs.Reachable.{ordinary_proper}
use Rattle.theorems.proofs.Legible.{legible_reached}

target_proper : (before after : List SlotState) → length after ≡ slot_count → (ps : List ℕ) → AllProper (concat_map (target_record before after) ps)
unfolding target_record set_m
target_proper before after w [] = tt
target_proper before after w (p ∷ ps) =
    proper_only _ (target_is (record { place = p; slots = indices (targeted p) 0 after })) (concat_map (target_record before after) ps) (slot_set (targeted p) after (omega arith)) (target_proper before after w ps)

-- 'above 0 is ordinary'
abbrev Above : Kind → Type 0
Above joins = Unit {0}
Above leaves = Unit {0}
Above invalid = Unit {0}
Above (ordinary n) = 0 < n

above : (z : ℤ) → Above (kind_of z)
unfolding kind_of
above (pos zero) = tt
above (pos (suc n)) = omega arith
above (negsuc zero) = tt
above (negsuc (suc n)) = tt

module _ (g : Group) (wide : length g.slots ≡ slot_count) where
  -- an ordinary heartbeat has its sender's E, which is not 0 then
  heartbeat_proper : (b : Request) → length b.id ≡ id_length → (k : Kind) → Above k → AllFalse (heartbeat_table g b k) → AllProper (heartbeat_effect g b k).records
  unfolding heartbeat_effect join_effect join_at leave_effect leave_at leave_records removal_records heartbeat_table metadata_of joiner
  heartbeat_proper b long joins up rows = join_proper _ (metadata_of (join_place g b) (joiner g b)) g.epoch long
  heartbeat_proper b long leaves up rows = proper_append (removal_records g.slots (place_of g b.id)) _ (proper_removal g (place_of g b.id)) (proper_epoch (not (at_end g)) (raised g.epoch))
  heartbeat_proper b long invalid up rows = absurd (true≢false rows.0)
  heartbeat_proper b long (ordinary n) up rows =
      let s = sender_of g b in
      let same' = eqb-true n s.member.epoch (not_is_false (eqb n s.member.epoch) rows.1.1.0) in
      ordinary_proper g s b long wide (omega (arith, same', sender_rises g s b))

  pub effect_proper : (e : Event) → Typed e → AllFalse (table g e) → AllProper (effect g e).records
  unfolding effect table sweep_effect sweep_of sweep_records topic_effect topic_records install_effect install_records
  effect_proper (heartbeat b) typed rows = heartbeat_proper b typed.0 (kind_of b.epoch) (above b.epoch) rows.1
  effect_proper (sweep tick) typed rows = proper_append (concat_map (removal_records g.slots) (overdue_places g tick)) _ (proper_removals g (overdue_places g tick)) (proper_epoch _ _)
  effect_proper (topic t id n) typed rows = proper_only (topic_changes g t n) (topic_is (record { number = t; id = id; count = n })) _ typed (proper_epoch _ _)
  effect_proper (install rule e entries) typed rows =
      proper_append (concat_map (target_record g.slots (retargeted g.slots entries)) (up_to 0 max_members)) _
      (target_proper g.slots (retargeted g.slots entries) (length_retargeted g.slots entries ∙ wide) (up_to 0 max_members))
      (tt, tt)

-- the bytes of an accepted event's records are read as these records
pub accepted_read : (g : Group) (e : Event) → first_of (table g e) ≡ none → Typed e → length g.slots ≡ slot_count → read_all (all_bytes (effect g e).records) ≡ some (effect g e).records
accepted_read g e rows typed wide = read_written (effect g e).records (effect_proper g wide e typed (rows_false g e rows))

pub readable : Readable
readable g r e typed rows buffer = read_stored (effect g e).records (effect_proper g (legible_reached g r).wide e typed (rows_false g e rows)) buffer
