-- What the reader of a journal relies on (`Legible` of Batches): a fresh group has it, each accepted event and each reading keeps it, so every reached group
-- has it. From it come the order of the epochs and the sizes of a reached group.
use Prim.Native.Nat.{ℕ, ◌≤◌, ◌<◌}
use native.Mathlib.Omega.{arith}
use mathlib.Core.Path.{◌≡◌, refl, sym, ap, ◌∙◌, subst}
use mathlib.Core.Logic.{◌≢◌}
use mathlib.Core.Bool.{Bool, true}
use mathlib.Core.List.{List, map}
use mathlib.Core.Option.{Option, none}
use lib.ListN.{length, get_or, set, replicate, length-map, length-replicate, length-set}
use lib.Dec.{eqb}
use Rattle.rules.specs.Constants.{last_epoch, max_members, no_place, slot_count}
use Rattle.rules.specs.Group.{Group, Member, SlotState, free_slot, fresh, known, member_at, place_of}
use Rattle.rules.specs.Event.{Event, Request, heartbeat, install, sweep, topic}
use Rattle.rules.specs.Refusals.{Kind, first_of, heartbeat_table, invalid, joins, kind_of, leaves, ordinary, sender_of, table}
use Rattle.rules.specs.Effects.{advanced, changed, effect, heartbeat_effect, install_effect, join_at, join_effect, joiner, leave_at, leave_effect, member_after, ordinary_at, overdue_places, remove, retargeted, slots_after, sweep_effect, sweep_of, topic_effect, vacated, with_target, with_topic}
use Rattle.rules.specs.Step.{carry_out}
use Rattle.rules.specs.Course.{Typed}
use Rattle.rules.specs.Batches.{Alike, Legible, retimed, retimed_member}
use Rattle.rules.specs.Theorems.{EpochsNeverFall, EpochsOrdered, EpochsRise, Reached}
use Rattle.rules.proofs.Lists.{not_is_false}
use Rattle.theorems.proofs.Cases.{if_cases}
use Rattle.theorems.proofs.Picks.{Each, blank_at, each_absent}
use Rattle.theorems.proofs.Retimed.{each_before, each_retimed}
use Rattle.theorems.proofs.Accepting.{AllFalse, rows_false, step_cases}
use Rattle.theorems.proofs.Reaching.{effect_each, members_have, reached_has, removed_keep}
use Rattle.theorems.proofs.Moves.{at_vacated, length_retargeted, moves_advanced, target_advanced, target_retargeted, target_in}
use Rattle.theorems.proofs.SingleHolder.{known_id}
use Rattle.theorems.proofs.Epochs.{effect_rises, sender_rises}
use Rattle.theorems.proofs.Reachable.{member_known}
use Rattle.theorems.proofs.Bounds.{InRange, accepted_last, in_range_later, joiner_in_range, member_after_in_range}
use Rattle.theorems.proofs.Untouched.{GoodTarget, entry_placed, good_target}

-- ---- the tables: an entry for each place and slot, and the target of a slot a place or none

abbrev Aimed : ℕ → Type 0
Aimed target = target ≢ no_place → target < max_members

record Tables (ms : List (Option Member)) (ss : List SlotState) : Type 0 where
  places : length ms ≡ max_members
  wide : length ss ≡ slot_count
  targets : (s : ℕ) → Aimed (get_or ss s free_slot).target

module _ {ms : List (Option Member)} {ss : List SlotState} (v : Tables ms ss) (p : ℕ) (x : Option Member) where
  -- a member comes or goes, and its place is emptied
  tables_vacated : Tables (set ms p x) (map (vacated p) ss)
  unfolding vacated
  tables_vacated = record {
    places = length-set ms p x ∙ v.places;
    wide = length-map ss (vacated p) ∙ v.wide;
    targets = λ s. rw (at_vacated p ss s) (if_cases Aimed (eqb (get_or ss s free_slot).target p) (λ _ h. absurd (h refl)) (λ _. v.targets s));
  }

  -- an ordinary heartbeat leaves the target
  tables_advanced : (owned : Option (List ℕ)) → Tables (set ms p x) (advanced p ss owned)
  unfolding target_in
  tables_advanced owned = record {
    places = length-set ms p x ∙ v.places;
    wide = (moves_advanced p ss owned).long ∙ v.wide;
    targets = λ s. subst Aimed (sym (target_advanced p ss owned s)) (v.targets s);
  }

-- an install names places with a member
tables_retargeted : {rule : Bool} (g : Group) → Tables g.members g.slots → (entries : List ℕ) → GoodTarget rule g entries
    → Tables g.members (retargeted g.slots entries)
unfolding target_in
tables_retargeted g v entries good = record {
  places = v.places;
  wide = length_retargeted g.slots entries ∙ v.wide;
  targets = λ s. subst Aimed (sym (target_retargeted g.slots entries s (v.wide ∙ sym good.long))) (λ h. omega (arith, entry_placed good s h, v.places));
}

module _ (g : Group) (v : Tables g.members g.slots) where
  heartbeat_tables : (b : Request) (k : Kind) → Tables (heartbeat_effect g b k).group.members (heartbeat_effect g b k).group.slots
  unfolding heartbeat_effect join_effect join_at leave_effect leave_at ordinary_at slots_after remove changed
  heartbeat_tables b joins = tables_vacated v _ _
  heartbeat_tables b leaves = tables_vacated v _ _
  heartbeat_tables b invalid = tables_vacated v _ _
  heartbeat_tables b (ordinary e) = tables_advanced v _ _ b.owned

  effect_tables : (e : Event) → AllFalse (table g e) → Tables (effect g e).group.members (effect g e).group.slots
  unfolding table effect sweep_effect sweep_of remove changed topic_effect with_topic install_effect with_target
  effect_tables (heartbeat b) rows = heartbeat_tables b (kind_of b.epoch)
  effect_tables (sweep tick) rows = removed_keep (λ h. Tables h.members h.slots) (λ h p u. tables_vacated u p none) (overdue_places g tick) g v
  effect_tables (topic t id n) rows = v
  effect_tables (install rule e entries) rows = tables_retargeted g v entries (good_target rule g e entries rows)

-- ---- T is at most G

heartbeat_target : (g : Group) (b : Request) (k : Kind) → (heartbeat_effect g b k).group.target_epoch ≡ g.target_epoch
unfolding heartbeat_effect join_effect join_at leave_effect leave_at ordinary_at changed
heartbeat_target g b joins = refl
heartbeat_target g b leaves = refl
heartbeat_target g b invalid = refl
heartbeat_target g b (ordinary e) = refl

effect_order : (g : Group) → g.target_epoch ≤ g.epoch → (e : Event) → (effect g e).group.target_epoch ≤ (effect g e).group.epoch
unfolding effect sweep_effect sweep_of changed topic_effect with_topic install_effect with_target
effect_order g h (heartbeat b) = omega (arith, h, (effect_rises g h (heartbeat b)).epoch, heartbeat_target g b (kind_of b.epoch))
effect_order g h (sweep tick) = omega (arith, h, (effect_rises g h (sweep tick)).epoch)
effect_order g h (topic t id n) = omega (arith, h, (effect_rises g h (topic t id n)).epoch)
effect_order g h (install rule e entries) = omega arith

-- ---- the invariant

legible : (g : Group) → Tables g.members g.slots → g.target_epoch ≤ g.epoch → g.epoch ≤ last_epoch → Each (InRange g.epoch) g.members → Legible g
legible g v order last each = record {
  places = v.places;
  wide = v.wide;
  order = order;
  last = last;
  epochs = λ p m e. (each p m e).epoch;
  timeouts = λ p m e. ((each p m e).positive, (each p m e).timeout);
  subscriptions = λ p m e. (each p m e).subscription;
  targets = v.targets;
}

pub legible_fresh : (tick : ℕ) → Legible (fresh tick)
unfolding fresh free_slot
legible_fresh tick = legible (fresh tick) tables (omega arith) (omega arith) (each_absent (InRange 0) max_members)
  where
    tables : Tables (replicate max_members none) (replicate slot_count free_slot)
    tables = record {
      places = refl;
      wide = length-replicate slot_count free_slot;
      targets = λ s h. absurd (h (ap (λ (x : SlotState). x.target) (blank_at free_slot slot_count s)));
    }

module _ (g : Group) (v : Legible g) where
  tables_of : Tables g.members g.slots
  tables_of = record { places = v.places; wide = v.wide; targets = v.targets }

  members_of : Each (InRange g.epoch) g.members
  members_of p m e = record { epoch = v.epochs p m e; positive = (v.timeouts p m e).0; timeout = (v.timeouts p m e).1; subscription = v.subscriptions p m e }

  -- the member of a known ID is in range, and stays so
  pub sender_in_range : (b : Request) → known g b.id ≡ true → InRange g.epoch (member_at g (place_of g b.id))
  sender_in_range b e = members_of (place_of g b.id) _ (member_known g (place_of g b.id) b.id (known_id g b.id e)).0

  pub sender_stays_in_range : (b : Request) (e : ℕ) → Typed (heartbeat b) → AllFalse (heartbeat_table g b (ordinary e)) → InRange g.epoch (member_after g (sender_of g b) b)
  unfolding heartbeat_table
  sender_stays_in_range b e typed rows = member_after_in_range g b rows.0 typed.1 v.order (sender_in_range b (not_is_false (known g b.id) rows.1.0))

  pub effect_legible : (e : Event) → Typed e → AllFalse (table g e) → Legible (effect g e).group
  unfolding heartbeat_table
  effect_legible e typed rows =
      legible (effect g e).group (effect_tables g tables_of e rows) (effect_order g v.order e) (accepted_last g e v.last rows)
      (effect_each InRange g (in_range_later g.epoch) (λ b ok r. joiner_in_range g b r.0 ok.1) sender_stays_in_range members_of e typed rows)

-- an accepted event keeps it
pub legible_accepted : (g : Group) (e : Event) → first_of (table g e) ≡ none → Typed e → Legible g → Legible (effect g e).group
legible_accepted g e rows typed v = effect_legible g v e typed (rows_false g e rows)

-- no tick matters to it
pub legible_retimed : (t : ℕ) (g : Group) → Legible g → Legible (retimed t g)
unfolding retimed
legible_retimed t g v =
    legible (retimed t g) (record { places = length-map g.members (retimed_member t) ∙ v.places; wide = v.wide; targets = v.targets }) v.order v.last
    (each_retimed (InRange g.epoch) t g.members (λ m r. record { epoch = r.epoch; positive = r.positive; timeout = r.timeout; subscription = r.subscription }) (members_of g v))

legible_before : (t : ℕ) (g : Group) → Legible (retimed t g) → Legible g
unfolding retimed
legible_before t g v =
    legible g (record { places = sym (length-map g.members (retimed_member t)) ∙ v.places; wide = v.wide; targets = v.targets }) v.order v.last
    (each_before (InRange g.epoch) t g.members (λ m r. record { epoch = r.epoch; positive = r.positive; timeout = r.timeout; subscription = r.subscription }) (members_of (retimed t g) v))

pub legible_alike : (g h : Group) → Alike h g → Legible g → Legible h
legible_alike g h a v = legible_before 0 h (subst Legible (sym a) (legible_retimed 0 g v))

pub legible_reached : (g : Group) → Reached g → Legible g
legible_reached = reached_has Legible legible_fresh (λ g e typed v rows. effect_legible g v e typed rows) legible_retimed

-- ---- epochs of a reached group

epochs_positive : (g : Group) → Reached g → Each (λ m. 0 < m.epoch) g.members
unfolding heartbeat_table joiner member_after
epochs_positive =
    members_have (λ m. 0 < m.epoch) (λ g b ok rows. omega arith)
    (λ g b e ok rows each.
    let m = (member_known g (place_of g b.id) b.id (known_id g b.id (not_is_false (known g b.id) rows.1.0))).0 in
    omega (arith, each (place_of g b.id) _ m, sender_rises g (sender_of g b) b))
    (λ t m h. h)

pub epochs_ordered : (g : Group) → Reached g → EpochsOrdered g
epochs_ordered g r =
    let v = legible_reached g r in
    record { target = v.order; last = v.last; member = λ p m e. (epochs_positive g r p m e, v.epochs p m e) }

pub epochs_never_fall : EpochsNeverFall
unfolding carry_out
epochs_never_fall g r e buffer list =
    step_cases g e buffer list (λ s. EpochsRise g s.group)
    (λ _. record { epoch = omega arith; by_one = omega arith; target = omega arith }) (λ _ _. effect_rises g (legible_reached g r).order e)
