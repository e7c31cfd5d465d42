-- An accepted event that writes nothing leaves the group as it was, ticks aside: a journal misses nothing by having no batch for it.
use Prim.Native.Nat.{ℕ, suc}
use mathlib.Core.Path.{◌≡◌, refl, sym, ap, ◌∙◌}
use mathlib.Core.Bool.{Bool, true, false, not, ◌&&◌, ◌||◌, true≢false, false≢true}
use mathlib.Core.List.{List, [], ◌∷◌, ◌++◌}
use mathlib.Core.Option.{none, some}
use lib.ListN.{get_or}
use lib.Seq.{map-set_same}
use lib.Dec.{eqb}
use borrow.Author.Tests.{eqb-true}
use Rattle.rules.specs.Basics.{any, concat_map, empty, up_to}
use Rattle.rules.specs.Constants.{max_members}
use Rattle.rules.specs.Group.{Group, Member, Sender, SlotState, known, member_at, place_of, subscribes}
use Rattle.rules.specs.Records.{CurrentAssignment, MemberMetadata, Record, TopicMetadata, target_epoch}
use Rattle.rules.specs.Event.{Event, Request, heartbeat, install, sweep, topic}
use Rattle.rules.specs.Refusals.{Kind, heartbeat_table, invalid, joins, kind_of, leaves, new_subscription, new_timeout, ordinary, resubscribes, sender_of, table, topic_changes, topic_raises}
use Rattle.rules.specs.Effects.{changed, current_after, current_before, effect, epoch_after, gone_records, heartbeat_effect, install_effect, install_records, join_at, join_effect, join_records, leave_at, leave_effect, leave_records, member_after, moves, only_if, ordinary_at, ordinary_effect, ordinary_records, overdue_places, removal_records, slots_after, sweep_effect, sweep_epoch, sweep_of, sweep_records, target_record, topic_effect, topic_epoch, topic_records, updates, with_topic}
use Rattle.rules.specs.Batches.{Legible, retimed, retimed_member}
use Rattle.rules.proofs.Lists.{not_is_false}
use Rattle.theorems.proofs.Accepting.{AllFalse}
use Rattle.theorems.proofs.SingleHolder.{id_in, known_id, member_placed}
use Rattle.theorems.proofs.Untouched.{good_topic, not_changed, same_topic}
use Rattle.theorems.proofs.Reachable.{group_epoch_same, member_known}
use Rattle.recovery.proofs.Ticks.{alike_members}
use Rattle.recovery.proofs.Freeing.{kept, unmoved_stays}

-- ---- a topic event

unchanged : (x y : Bool) (k : TopicMetadata) (e : ℕ) → empty (topic_records x k (x && y) e) ≡ true → x ≡ false
unfolding topic_records only_if
unchanged true y k e z = absurd (false≢true z)
unchanged false y k e z = refl

topic_quiet : (g : Group) (t : ℕ) (id : List ℕ) (n : ℕ) → AllFalse (table g (topic t id n)) → empty (effect g (topic t id n)).records ≡ true
    → (u : ℕ) → retimed u (effect g (topic t id n)).group ≡ retimed u g
unfolding table effect topic_effect with_topic topic_epoch topic_raises
topic_quiet g t id n rows z u =
    let c = unchanged (topic_changes g t n) (any (subscribes t) g.members) _ (topic_epoch g t n) z in
    let k = not_changed g t n id c in
    alike_members u (effect g (topic t id n)).group g (rw c refl) refl
    (same_topic g t n id (good_topic g t n id rows.0).allowed k.0 k.1 k.2) refl refl

-- ---- an ordinary heartbeat

-- no record: nothing was given that differs, and E, A and P stay
unsaid : (x y c : Bool) (m : MemberMetadata) (e : ℕ) (k : CurrentAssignment) → empty (ordinary_records (x || y) m x e c k) ≡ true
    → (x ≡ false) × (y ≡ false) × (c ≡ false)
unfolding ordinary_records only_if
unsaid true y c m e k z = absurd (false≢true z)
unsaid false true c m e k z = absurd (false≢true z)
unsaid false false true m e k z = absurd (false≢true z)
unsaid false false false m e k z = (refl, refl, refl)

module _ (g : Group) (v : Legible g) (b : Request) (e : ℕ) (rows : AllFalse (heartbeat_table g b (ordinary e)))
    (z : empty (ordinary_effect g b).records ≡ true) where
  abbrev p : ℕ
  p = place_of g b.id

  abbrev m : Member
  m = member_at g p

  abbrev sender : Sender
  sender = sender_of g b

  here : id_in g.members p ≡ some b.id
  unfolding heartbeat_table
  here = known_id g b.id (not_is_false (known g b.id) rows.1.0)

  calm : (resubscribes m b ≡ false) × (not (eqb (new_timeout b m) m.timeout) ≡ false) × (moves (current_before g sender) (current_after g sender b) ≡ false)
  unfolding ordinary_at updates
  calm = unsaid (resubscribes m b) (not (eqb (new_timeout b m) m.timeout)) (moves (current_before g sender) (current_after g sender b)) _ _ _ z

  same_slots : slots_after g sender b ≡ g.slots
  unfolding current_before current_after slots_after
  same_slots = unmoved_stays p (member_placed g.members p b.id v.places here) g.slots b.owned m.epoch (epoch_after g sender b) calm.2

  same_epoch : epoch_after g sender b ≡ m.epoch
  unfolding current_before current_after
  same_epoch = (kept p m.epoch (epoch_after g sender b) g.slots (slots_after g sender b) calm.2).epoch

  same_member : (t : ℕ) → retimed_member t (some (member_after g sender b)) ≡ retimed_member t (get_or g.members p none)
  unfolding member_after retimed_member resubscribes
  same_member t =
      let k = member_known g p b.id here in
      let s = eqb-true (new_subscription b m) m.subscription (not_is_false (eqb (new_subscription b m) m.subscription) calm.0) in
      let o = eqb-true (new_timeout b m) m.timeout (not_is_false (eqb (new_timeout b m) m.timeout) calm.1) in
      rw k.0 (λ i. some (record { id = sym k.1 i; epoch = same_epoch i; subscription = s i; timeout = o i; heard = t; revoked_at = t }))

  ordinary_quiet : (t : ℕ) → retimed t (ordinary_effect g b).group ≡ retimed t g
  unfolding ordinary_at changed
  ordinary_quiet t =
      alike_members t (ordinary_effect g b).group g (group_epoch_same g sender b calm.0) refl refl
      (map-set_same (retimed_member t) g.members p (some (member_after g sender b)) none (same_member t)) same_slots

-- ---- the others write, if they do anything

joins_write : (again : Bool) (m : MemberMetadata) (e : ℕ) → empty (join_records again m e) ≡ false
unfolding join_records only_if
joins_write true m e = refl
joins_write false m e = refl

leaves_write : (p : ℕ) (retargets raises : Bool) (e : ℕ) → empty (leave_records p retargets raises e) ≡ false
unfolding leave_records gone_records
leaves_write p retargets raises e = refl

ends_filled : (rs : List Record) (r : Record) → empty (rs ++ (r ∷ [])) ≡ false
ends_filled [] r = refl
ends_filled (x ∷ xs) r = refl

installs_write : (before after : List SlotState) (e : ℕ) → empty (install_records before after e) ≡ false
unfolding install_records
installs_write before after e = ends_filled (concat_map (target_record before after) (up_to 0 max_members)) (target_epoch e)

none_went : (g : Group) (ps : List ℕ) (tick : ℕ) → empty (sweep_of g ps tick).records ≡ true → ps ≡ []
unfolding sweep_of sweep_records removal_records gone_records
none_went g [] tick z = refl
none_went g (p ∷ ps) tick z = absurd (false≢true z)

no_sweep : (g : Group) (tick t : ℕ) → retimed t (sweep_of g [] tick).group ≡ retimed t g
unfolding sweep_of changed sweep_epoch
no_sweep g tick t = alike_members t (sweep_of g [] tick).group g refl refl refl refl refl

module _ (g : Group) (v : Legible g) where
  heartbeat_quiet : (b : Request) (k : Kind) → AllFalse (heartbeat_table g b k) → empty (heartbeat_effect g b k).records ≡ true
      → (t : ℕ) → retimed t (heartbeat_effect g b k).group ≡ retimed t g
  unfolding heartbeat_effect join_effect join_at leave_effect leave_at heartbeat_table
  heartbeat_quiet b joins rows z t = absurd (false≢true (sym (joins_write _ _ (suc g.epoch)) ∙ z))
  heartbeat_quiet b leaves rows z t = absurd (false≢true (sym (leaves_write _ _ _ _) ∙ z))
  heartbeat_quiet b invalid rows z t = absurd (true≢false rows.0)
  heartbeat_quiet b (ordinary e) rows z t = ordinary_quiet g v b e rows z t

  pub quiet : (e : Event) → AllFalse (table g e) → empty (effect g e).records ≡ true → (t : ℕ) → retimed t (effect g e).group ≡ retimed t g
  unfolding effect table sweep_effect install_effect
  quiet (heartbeat b) rows z t = heartbeat_quiet b (kind_of b.epoch) rows.1 z t
  quiet (sweep tick) rows z t = ap (λ (ps : List ℕ). retimed t (sweep_of g ps tick).group) (none_went g (overdue_places g tick) tick z) ∙ no_sweep g tick t
  quiet (topic n id c) rows z t = topic_quiet g n id c rows z t
  quiet (install rule e entries) rows z t = absurd (false≢true (sym (installs_write g.slots _ g.epoch) ∙ z))
