-- What holds between the history and the group after every list of events and readings (`RInv`): the ledger's invariant, `Base` of Members, and the target in
-- force. Each kind of event keeps it, and a reading does.
use Rattle.std.specs.Prelude.{if◌then◌else◌}
use Prim.Native.Nat.{ℕ, suc, ◌≤◌, ◌<◌}
use native.Mathlib.Omega.{arith}
use mathlib.Core.Path.{◌≡◌, refl, sym, ap, ◌∙◌, subst}
use mathlib.Core.Logic.{inl}
use mathlib.Core.Bool.{Bool, true, false, not, ◌&&◌, ◌||◌, true≢false, false≢true}
use mathlib.Core.List.{List, [], ◌++◌, foldl}
use mathlib.Core.Option.{Option, none, some}
use lib.IntN.{ℤ, pos, negsuc}
use lib.ListN.{length, get_or, set, take, length-replicate}
use lib.Dec.{eqb}
use borrow.Author.Tests.{eqb-true, leb-true, le-ltb}
use Rattle.rules.specs.Basics.{any, concat_map, default, empty, given, same}
use Rattle.rules.specs.Constants.{id_length, last_epoch, max_members, slot_count}
use Rattle.rules.specs.Group.{Group, Sender, SlotState, assigned, free_slot, fresh, known, member_at, place_of, raised, revoking, set_a, set_p}
use Rattle.rules.specs.Records.{MemberMetadata, all_bytes, current_is, group_epoch, member_is, parts_of, topic_is}
use Rattle.rules.specs.Event.{Event, Request, heartbeat, install, sweep, topic}
use Rattle.rules.specs.Refusals.{Kind, at_end, heartbeat_table, invalid, is_epoch, joins, kind_of, lacking, leaves, malformed, new_subscription, ordinary, resubscribes, table, topic_changes, topic_raises, sender_of}
use Rattle.rules.specs.Effects.{changed, current_after, current_of, effect, epoch_after, group_epoch_after, heartbeat_effect, install_effect, install_records, join_at, join_effect, join_place, join_records, joiner, leave_at, leave_effect, leave_records, member_after, metadata_of, no_target, only_if, ordinary_at, ordinary_records, overdue_places, removal_records, remove, retargeted, slots_after, sweep_effect, sweep_epoch, sweep_of, sweep_records, topic_effect, topic_epoch, topic_records, updates, with_target, with_topic}
use Rattle.rules.specs.Step.{carry_out, overlay}
use Rattle.rules.specs.Reader.{read_all, read_records}
use Rattle.rules.specs.Ledger.{Observation, reckon, records_in}
use Rattle.rules.specs.Course.{Call, History, Installed, Told, Typed, in_force_after, installed_as, is_epoch_record, last_after, no_history, observe, seen_of, stepped, subscription_after, unless_epoch}
use Rattle.rules.specs.Batches.{retimed}
use Rattle.rules.specs.Readings.{observe_told, observe_unsent}
use Rattle.rules.specs.declared.Refusal.{Refusal}
use Rattle.rules.specs.declared.Answer.TheVariants.{Refused}
use Rattle.rules.proofs.Lists.{not_is_false, or_false}
use Rattle.theorems.proofs.Cases.{if_cases, no_some, none_not, some_inj}
use Rattle.theorems.proofs.Picks.{blank_at}
use Rattle.theorems.proofs.Accepting.{AllFalse, step_cases}
use Rattle.theorems.proofs.Reaching.{removed_keep}
use Rattle.theorems.proofs.ReadBack.{AllProper, join_proper, overlaid, proper_append, proper_epoch, proper_only, proper_removal, proper_removals, slot_set}
use Rattle.theorems.proofs.Moves.{holder_in, moves_advanced, target_advanced}
use Rattle.theorems.proofs.SingleHolder.{InvG, fresh_inv, id_lt, id_in, ids_retimed, ids_same, joins_at, known_id, member_of, retimed_inv, seen_if, told_inv, turn_inv}
use Rattle.theorems.proofs.Members.{Base, base_install, base_join, base_put, base_raise, base_remove, base_retimed}
use Rattle.theorems.proofs.InForce.{InForce, in_force_install, in_force_remove, in_force_same, any_append, any_first, lost_or_kept}
use Rattle.theorems.proofs.Epochs.{effect_rises, heartbeat_rises, sender_rises, sender_within}

-- `last` has the last answers as worked out, whether they went out or not
pub record RInv (last : List ℕ → Told) (h : History) (g : Group) : Type 0 where
  pub inv : InvG h.ledger g
  pub base : Base last h.subscription g.epoch g.target_epoch g.members g.slots
  pub in_force : (i : Installed) → h.in_force ≡ some i → InForce g.epoch g.target_epoch g.members g.slots i

-- what is left to prove of an event beside the ledger's invariant
record Rest (last : List ℕ → Told) (topics : List ℕ → ℕ) (current : Option Installed) (g : Group) : Type 0 where
  base : Base last topics g.epoch g.target_epoch g.members g.slots
  in_force : (i : Installed) → current ≡ some i → InForce g.epoch g.target_epoch g.members g.slots i

raised_end : (g : Group) → at_end g ≡ true → raised g.epoch ≡ g.epoch
unfolding raised at_end
raised_end g e = rw (le-ltb g.epoch last_epoch (leb-true last_epoch g.epoch e)) refl

only_found : (c : Bool) (n : ℕ) → c ≡ true → any is_epoch_record (only_if c (group_epoch n)) ≡ true
unfolding is_epoch_record only_if parts_of
only_found true n e = refl
only_found false n e = absurd (false≢true e)

has_topics : (b : Request) → malformed b || lacking b ≡ false → given b.subscription ≡ true
unfolding lacking
has_topics b e = not_is_false (given b.subscription) (or_false (not (given b.subscription)) _ (or_false (malformed b) (lacking b) e).1).0

default_given : (o : Option ℕ) (x y : ℕ) → given o ≡ true → default x o ≡ default y o
default_given none x y e = absurd (false≢true e)
default_given (some a) x y e = refl

join_found : (on : Bool) (m : MemberMetadata) (e : ℕ) → any is_epoch_record (join_records on m e) ≡ true
unfolding join_records is_epoch_record parts_of
join_found on m e = any_append is_epoch_record (only_if on (no_target m.place)) _ refl

-- the member that a known ID names
pub member_known : (g : Group) (p : ℕ) (i : List ℕ) → id_in g.members p ≡ some i → (get_or g.members p none ≡ some (member_at g p)) × ((member_at g p).id ≡ i)
unfolding member_at
member_known g p i e =
    let r = member_of g.members p i e in
    rw r.1 (refl, r.2)

-- E after an ordinary heartbeat of a member
sender_epoch : (last : List ℕ → Told) (h : History) (g : Group) → RInv last h g → (b : Request) → known g b.id ≡ true → (0 < epoch_after g (sender_of g b) b) × (epoch_after g (sender_of g b) b ≤ g.epoch)
sender_epoch last h g v b e =
    let s = sender_of g b in
    let k = v.base.ok s.place s.member (member_known g s.place b.id (known_id g b.id e)).0 in
    (omega (arith, k.pos, sender_rises g s b), sender_within g s b k.low v.base.order)

pub group_epoch_same : (g : Group) (s : Sender) (b : Request) → resubscribes s.member b ≡ false → group_epoch_after g s b ≡ g.epoch
unfolding group_epoch_after
group_epoch_same g s b e = rw e refl

current_proper : (c : Bool) (p e : ℕ) (ss : List SlotState) → length ss ≡ slot_count → 0 < e → AllProper (only_if c (current_is (current_of p e ss)))
unfolding only_if current_of set_a set_p
current_proper true p e ss w h = ((h, (slot_set (assigned p) ss (omega arith), slot_set (revoking p) ss (omega arith))), tt)
current_proper false p e ss w h = tt

pub ordinary_proper : (g : Group) (s : Sender) (b : Request) → length b.id ≡ id_length → length g.slots ≡ slot_count → 0 < epoch_after g s b → AllProper (ordinary_at g s b).records
unfolding ordinary_at ordinary_records metadata_of member_after current_after slots_after
ordinary_proper g s b long wide above =
    proper_only (updates s.member b) (member_is (metadata_of s.place (member_after g s b))) _ long
    (proper_append (only_if (resubscribes s.member b) (group_epoch (group_epoch_after g s b))) _ (proper_epoch (resubscribes s.member b) (group_epoch_after g s b))
    (current_proper _ s.place (epoch_after g s b) (slots_after g s b) ((moves_advanced s.place g.slots b.owned).long ∙ wide) above))

ordinary_found : (g : Group) (s : Sender) (b : Request) → resubscribes s.member b ≡ true → any is_epoch_record (ordinary_at g s b).records ≡ true
unfolding ordinary_at ordinary_records
ordinary_found g s b e =
    any_append is_epoch_record (only_if _ _) _
    (any_first is_epoch_record (only_if (resubscribes s.member b) (group_epoch (group_epoch_after g s b))) _ (only_found (resubscribes s.member b) (group_epoch_after g s b) e))

module _ (last : List ℕ → Told) (h : History) (g : Group) (v : RInv last h g) (b : Request) (long : length b.id ≡ id_length) (buffer list : List ℕ) where
  abbrev RestAfter : Kind → Type 0
  RestAfter k =
      let o = seen_if (heartbeat b) (heartbeat_effect g b k) buffer list in
      Rest (last_after last o) (subscription_after h.subscription o) (unless_epoch h.in_force o.stored) (heartbeat_effect g b k).group

  rest_after : (k : Kind) → AllFalse (heartbeat_table g b k) → RestAfter k
  unfolding heartbeat_effect join_effect join_at joiner leave_effect ordinary_at heartbeat_table changed remove last_after subscription_after member_after slots_after epoch_after new_subscription leave_at leave_records removal_records metadata_of
  rest_after joins rows =
      let at = joins_at h.ledger g v.inv b rows.1.0 in
      record {
        base = base_join v.base (join_place g b) (joiner g b) (default (h.subscription b.id) b.subscription)
            at.inside refl (default_given b.subscription 0 (h.subscription b.id) (has_topics b rows.0)) at.only;
        in_force = λ i. lost_or_kept h.in_force _ buffer i true (join_proper _ (metadata_of (join_place g b) (joiner g b)) g.epoch long)
            (λ _. join_found _ (metadata_of (join_place g b) (joiner g b)) (suc g.epoch)) (λ e. absurd (true≢false e));
      }
  rest_after leaves rows =
      let p = place_of g b.id in
      let removal = removal_records g.slots p in
      record {
        base = base_raise (heartbeat_rises g b leaves).epoch
            (base_remove v.base p);
        in_force = λ i. lost_or_kept h.in_force (removal ++ only_if (not (at_end g)) (group_epoch (raised g.epoch))) buffer i (not (at_end g))
            (proper_append removal _ (proper_removal g p) (proper_epoch (not (at_end g)) (raised g.epoch)))
            (λ e. any_append is_epoch_record removal _ (only_found (not (at_end g)) (raised g.epoch) e))
            (λ q f. rw (raised_end g (not_is_false (at_end g) q)) (in_force_remove p (v.in_force i f)));
      }
  rest_after invalid rows = absurd (true≢false rows.0)
  rest_after (ordinary e) rows =
      let p = place_of g b.id in
      let s = sender_of g b in
      let n = member_after g s b in
      let is_known = not_is_false (known g b.id) rows.1.0 in
      let here : id_in g.members p ≡ some b.id = known_id g b.id is_known in
      let m = member_known g p b.id here in
      let k = v.base.ok p (member_at g p) m.0 in
      let bounds = sender_epoch last h g v b is_known in
      let up : g.epoch ≤ group_epoch_after g s b = (heartbeat_rises g b (ordinary e)).epoch in
      record {
        base = subst
            (λ (x : List ℕ). Base (λ i. if same b.id i then record { epoch = epoch_after g s b; slots = x } else last i) (λ i. if same b.id i then default (h.subscription b.id) b.subscription else h.subscription i)
            (group_epoch_after g s b) g.target_epoch (set g.members p (some n)) (slots_after g s b))
            (sym (overlaid (set_a p (slots_after g s b)) list))
            (base_put v.base p n (default (h.subscription b.id) b.subscription) (group_epoch_after g s b) (slots_after g s b)
            (moves_advanced p g.slots b.owned) (id_lt g.members p b.id here)
            (ap (λ (t : ℕ). default t b.subscription) (sym k.subs ∙ ap h.subscription m.1))
            up bounds.0 (omega (arith, bounds.1, up)) (λ q f. v.inv.distinct q p b.id f here));
        in_force = λ i. lost_or_kept h.in_force (ordinary_at g s b).records buffer i (resubscribes s.member b)
            (ordinary_proper g s b long v.base.wide bounds.0) (ordinary_found g s b)
            (λ q f. rw (group_epoch_same g s b q)
            (in_force_same (ids_same v.inv p n here) (target_advanced p g.slots b.owned) (v.in_force i f)));
      }

-- ---- a sweep

base_all : {last : List ℕ → Told} {topics : List ℕ → ℕ} {G T : ℕ} (ps : List ℕ) (g : Group) → Base last topics G T g.members g.slots
    → Base last topics G T (foldl remove g ps).members (foldl remove g ps).slots
unfolding remove changed
base_all {last} {topics} {G} {T} = removed_keep (λ h. Base last topics G T h.members h.slots) (λ h p b. base_remove b p)

in_force_all : {G T : ℕ} {i : Installed} (ps : List ℕ) (g : Group) → InForce G T g.members g.slots i → InForce G T (foldl remove g ps).members (foldl remove g ps).slots i
unfolding remove changed
in_force_all {G} {T} {i} = removed_keep (λ h. InForce G T h.members h.slots i) (λ h p a. in_force_remove p a)

sweep_same : (g : Group) (ps : List ℕ) → not (empty ps) && not (at_end g) ≡ false → sweep_epoch g ps ≡ g.epoch
unfolding sweep_epoch
sweep_same g ps q = if_cases (λ n. n ≡ g.epoch) (empty ps) (λ _. refl) (λ e. raised_end g (not_is_false (at_end g) (rw e at q)))

sweep_rest : (last : List ℕ → Told) (h : History) (g : Group) → RInv last h g → (tick : ℕ) (buffer : List ℕ)
    → Rest last h.subscription (unless_epoch h.in_force (take (length (all_bytes (sweep_effect g tick).records)) (overlay (all_bytes (sweep_effect g tick).records) buffer))) (sweep_effect g tick).group
unfolding effect sweep_effect sweep_of sweep_records changed
sweep_rest last h g v tick buffer =
    let ps = overdue_places g tick in
    let gone = concat_map (removal_records g.slots) ps in
    let raises = not (empty ps) && not (at_end g) in
    record {
      base = base_raise (effect_rises g v.base.order (sweep tick)).epoch
          (base_all ps g v.base);
      in_force = λ i. lost_or_kept h.in_force (gone ++ only_if raises (group_epoch (sweep_epoch g ps))) buffer i raises
          (proper_append gone _ (proper_removals g ps) (proper_epoch raises (sweep_epoch g ps)))
          (λ e. any_append is_epoch_record gone _ (only_found raises (sweep_epoch g ps) e))
          (λ q f. rw (sweep_same g ps q) (in_force_all ps g (v.in_force i f)));
    }

-- ---- a topic

topic_rest : (last : List ℕ → Told) (h : History) (g : Group) → RInv last h g → (t : ℕ) (id : List ℕ) (n : ℕ) → length id ≡ id_length → (buffer : List ℕ)
    → Rest last h.subscription (unless_epoch h.in_force (take (length (all_bytes (topic_effect g t id n).records)) (overlay (all_bytes (topic_effect g t id n).records) buffer))) (topic_effect g t id n).group
unfolding effect topic_effect topic_records topic_epoch with_topic
topic_rest last h g v t id n long buffer =
    let made = topic_is (record { number = t; id = id; count = n }) in
    let raises = topic_raises g t n in
    record {
      base = base_raise (effect_rises g v.base.order (topic t id n)).epoch v.base;
      in_force = λ i. lost_or_kept h.in_force (only_if (topic_changes g t n) made ++ only_if raises (group_epoch (topic_epoch g t n))) buffer i raises
          (proper_only (topic_changes g t n) made _ long (proper_epoch raises (topic_epoch g t n)))
          (λ e. any_append is_epoch_record (only_if (topic_changes g t n) made) _ (only_found raises (topic_epoch g t n) e))
          (λ q f. rw q (v.in_force i f));
    }

-- ---- an install

install_in_force : (last : List ℕ → Told) (h : History) (g : Group) → RInv last h g → (e : ℤ) (entries : List ℕ) → length entries ≡ slot_count → is_epoch e g.epoch ≡ true
    → (i : Installed) → installed_as e entries ≡ some i → InForce g.epoch g.epoch g.members (retargeted g.slots entries) i
unfolding is_epoch installed_as
install_in_force last h g v (pos n) entries long e i q =
    subst (InForce g.epoch g.epoch g.members (retargeted g.slots entries)) same' (in_force_install g.epoch g.members g.slots entries v.base.wide long)
  where
    same' : record { epoch = g.epoch; entries = entries } ≡ i
    same' = (λ j. record { epoch = sym (eqb-true n g.epoch e) j; entries = entries }) ∙ some_inj q
install_in_force last h g v (negsuc n) entries long e i q = absurd (false≢true e)

-- ---- every event

abbrev RestOf : (List ℕ → Told) → History → Observation → Group → Type 0
RestOf last h o g = Rest (last_after last o) (subscription_after h.subscription o) (in_force_after h.in_force o) g

rest_accepted : (last : List ℕ → Told) (h : History) (g : Group) (e : Event) (buffer list : List ℕ) → Typed e → RInv last h g → AllFalse (table g e)
    → RestOf last h (seen_if e (effect g e) buffer list) (effect g e).group
unfolding in_force_after last_after subscription_after effect table install_effect install_records with_target topic_effect sweep_effect sweep_of sweep_epoch sweep_records
rest_accepted last h g (heartbeat b) buffer list typed v rows = rest_after last h g v b typed.0 buffer list (kind_of b.epoch) rows.1
rest_accepted last h g (sweep tick) buffer list long v rows = sweep_rest last h g v tick buffer
rest_accepted last h g (topic t id n) buffer list long v rows = topic_rest last h g v t id n long buffer
rest_accepted last h g (install rule e entries) buffer list long v rows = record {
  base = base_install v.base entries;
  in_force = install_in_force last h g v e entries (eqb-true (length entries) slot_count (not_is_false (eqb (length entries) slot_count) rows.0)) (not_is_false (is_epoch e g.epoch) rows.1.0);
}

rest_refused : (last : List ℕ → Told) (h : History) (g : Group) (e : Event) (r : Refusal) (list : List ℕ) → RInv last h g → RestOf last h (record { event = e; answer = Refused r; list = list; stored = [] }) g
unfolding in_force_after last_after subscription_after unless_epoch records_in read_all read_records
rest_refused last h g (heartbeat b) r list v = record { base = v.base; in_force = v.in_force }
rest_refused last h g (sweep tick) r list v = record { base = v.base; in_force = v.in_force }
rest_refused last h g (topic t id n) r list v = record { base = v.base; in_force = v.in_force }
rest_refused last h g (install rule e entries) r list v = record { base = v.base; in_force = v.in_force }

rest_turn : (last : List ℕ → Told) (h : History) (g : Group) (t : Call) → Typed t.event → RInv last h g → RestOf last h (seen_of t.event (stepped g t)) (stepped g t).group
unfolding stepped carry_out seen_of
rest_turn last h g t ok v =
    step_cases g t.event t.buffer t.list (λ s. RestOf last h (seen_of t.event s) s.group)
    (λ r. rest_refused last h g t.event r t.list v) (λ _ rows. rest_accepted last h g t.event t.buffer t.list ok v rows)

told_rinv : (told : Bool) (last : List ℕ → Told) (h : History) (o : Observation) (g : Group) → InvG (reckon h.ledger o) g → RestOf last h o g
    → RInv (last_after last o) (observe_told told h o) g
unfolding observe_told observe observe_unsent
told_rinv true last h o g v r = record { inv = v; base = r.base; in_force = r.in_force }
told_rinv false last h o g v r = record { inv = told_inv false h o g v; base = r.base; in_force = r.in_force }

pub turn_rinv : (told : Bool) (last : List ℕ → Told) (h : History) (g : Group) (t : Call) → Typed t.event → RInv last h g
    → RInv (last_after last (seen_of t.event (stepped g t))) (observe_told told h (seen_of t.event (stepped g t))) (stepped g t).group
turn_rinv told last h g t ok v = told_rinv told last h _ (stepped g t).group (turn_inv h.ledger g t ok v.inv) (rest_turn last h g t ok v)

pub retimed_rinv : (t : ℕ) (last : List ℕ → Told) (h : History) (g : Group) → RInv last h g → RInv last h (retimed t g)
unfolding retimed
retimed_rinv t last h g v = record {
  inv = retimed_inv t h.ledger g v.inv;
  base = base_retimed v.base t;
  in_force = λ i e. in_force_same (ids_retimed t g.members) (λ s. refl) (v.in_force i e);
}

pub fresh_rinv : (tick : ℕ) → RInv no_history.last no_history (fresh tick)
unfolding no_history fresh holder_in free_slot
fresh_rinv tick = record {
  inv = fresh_inv tick;
  base = record {
    sized = refl;
    wide = length-replicate slot_count free_slot;
    ok = λ p m e. absurd (none_not (blank_at none max_members p) e);
    held = λ s. inl (ap (λ (x : SlotState). x.holder) (blank_at free_slot slot_count s));
    order = omega arith;
  };
  in_force = λ i e. absurd (no_some i e);
}
