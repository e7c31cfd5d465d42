-- A regular heartbeat is accepted, and what it does: to the slots of its sender and to those of the others, and to the sender's epoch.
use Prim.Native.Nat.{ℕ}
use native.Mathlib.Omega.{arith}
use mathlib.Core.Path.{◌≡◌, refl, sym, ap, ◌∙◌, subst}
use mathlib.Core.Logic.{◌≢◌, ⊎_elim}
use mathlib.Core.Bool.{true, false, not}
use mathlib.Core.List.{List, [], Memᴰ}
use mathlib.Core.Option.{Option, none, some}
use lib.ListN.{get_or}
use lib.Seq.{get_or-set_same, get_or-set_other}
use borrow.Author.Tests.{eq-eqb}
use Rattle.rules.specs.Basics.{any, default}
use Rattle.rules.specs.Constants.{no_place}
use Rattle.rules.specs.Group.{Group, Member, assigned, free_slot, known, member_at, place_of, set_a}
use Rattle.rules.specs.Event.{Event, Request, heartbeat, install, on_heartbeat, sweep, topic}
use Rattle.rules.specs.Refusals.{first_of, heartbeat_table, new_subscription, not_held_by, ordinary, resubscribes, sender_of, table}
use Rattle.rules.specs.Effects.{advanced, changed, effect, epoch_after, heartbeat_effect, member_after, ordinary_at, ordinary_effect, revokes, slots_after, strays, waits}
use Rattle.rules.specs.Step.{carry_out, step, verdict}
use Rattle.rules.specs.Course.{Call, Course, History, Installed, Told, next, stepped}
use Rattle.rules.specs.Rounds.{Regular, RegularCall}
use Rattle.theorems.proofs.Cases.{by_cases, eq_cases}
use Rattle.theorems.proofs.Picks.{any_none_mem, passes}
use Rattle.theorems.proofs.Accepting.{AllFalse, none_of}
use Rattle.theorems.proofs.Slots.{of_assigned}
use Rattle.theorems.proofs.Moves.{Moves, moves_advanced, target_advanced, target_in}
use Rattle.theorems.proofs.SingleHolder.{id_lt, id_in, ids_same, known_id, member_placed, unknown_id}
use Rattle.theorems.proofs.Members.{MemberOk, Occupied}
use Rattle.theorems.proofs.InForce.{InForce, in_force_same}
use Rattle.theorems.proofs.Reachable.{RInv, group_epoch_same, member_known}
use Rattle.theorems.proofs.LastAnswers.{RInvC}
use Rattle.theorems.proofs.Stages.{Clean, Filled, Within, clean_other, full_other, no_strays, no_wait, own_clean, own_full, own_within, within_other}

-- the group after an ordinary heartbeat that is accepted
abbrev pub beaten : Course → Request → Group
beaten c b = (ordinary_effect c.group b).group

-- ---- a regular heartbeat is accepted

known_of : (g : Group) (p : ℕ) (id : List ℕ) → id_in g.members p ≡ some id → known g id ≡ true
known_of g p id e = by_cases (known g id) (λ q. q) (λ q. absurd (unknown_id g id q p e))

-- a regular heartbeat of b in the course c, with what is lent to it
pub record Beat (c : Course) (b : Request) : Type 0 where
  pub buffer : List ℕ
  pub list : List ℕ
  pub rinv : RInvC c
  pub regular : Regular c.history c.group b buffer list

module _ (c : Course) (b : Request) (beat : Beat c b) where
  abbrev h : History
  h = c.history

  abbrev g : Group
  g = c.group

  v : RInv h.last h g
  v = beat.rinv

  r : Regular h g b beat.buffer beat.list
  r = beat.regular

  abbrev p : ℕ
  p = place_of g b.id

  is_known : known g b.id ≡ true
  is_known = known_of g r.place b.id (sym (v.inv.names r.place) ∙ r.member)

  pub here : id_in g.members p ≡ some b.id
  here = known_id g b.id is_known

  p_away : p ≢ no_place
  p_away = member_placed g.members p b.id v.inv.sized here

  abbrev mem : Member
  mem = member_at g p

  mem_is : (get_or g.members p none ≡ some mem) × (mem.id ≡ b.id)
  mem_is = member_known g p b.id here

  mem_ok : MemberOk h.last h.subscription g.epoch g.slots p mem
  mem_ok = v.base.ok p mem mem_is.0

  last_is : h.last b.id ≡ record { epoch = mem.epoch; slots = set_a p g.slots }
  last_is = ap h.last (sym mem_is.1) ∙ mem_ok.told

  mine : (s : ℕ) → Memᴰ s r.listed → Memᴰ s (set_a p g.slots)
  mine s m = subst (λ (t : Told). Memᴰ s t.slots) last_is (r.within s m)

  no_stranger : any (not_held_by g p) (default [] b.owned) ≡ false
  unfolding not_held_by set_a
  no_stranger = subst (λ (o : Option (List ℕ)). any (not_held_by g p) (default [] o) ≡ false) (sym r.gives) (any_none_mem (not_held_by g p) r.listed (λ s m.
      let x = get_or g.slots s free_slot in ap not (eq-eqb x.holder p (of_assigned p x (passes (assigned p) g.slots free_slot s (mine s m))).0)))

  no_change : resubscribes (sender_of g b).member b ≡ false
  unfolding resubscribes new_subscription
  no_change = ap not (eq-eqb (default mem.subscription b.subscription) mem.subscription
      (⊎_elim (λ e. rw e refl) (λ e. rw e (ap h.subscription (sym mem_is.1) ∙ mem_ok.subs)) r.resubscribed))

  rows : AllFalse (heartbeat_table g b (ordinary (h.last b.id).epoch))
  unfolding heartbeat_table
  rows = (
    r.well_formed,
    (ap not is_known, (ap not (eq-eqb (h.last b.id).epoch mem.epoch (ap (λ (t : Told). t.epoch) last_is)), (no_stranger, (rw no_change refl, tt)))),
  )

  accepted : verdict g (heartbeat b) beat.buffer beat.list ≡ none
  unfolding verdict table first_of
  accepted = none_of (table g (heartbeat b)) _ all (rw r.roomy refl)
    where
      all : AllFalse (table g (heartbeat b))
      all = (r.timely, rw r.kind rows)

  pub stepped_is : (step g (heartbeat b) beat.buffer beat.list).group ≡ beaten c b
  unfolding step carry_out effect heartbeat_effect
  stepped_is = rw (accepted, r.kind) refl

  -- ---- what it leaves of IDs and targets

  pub beat_ids : (q : ℕ) → id_in (beaten c b).members q ≡ id_in g.members q
  unfolding ordinary_at changed member_after
  beat_ids = ids_same v.inv p (member_after g (sender_of g b) b) here

  aim : (s : ℕ) → target_in (beaten c b).slots s ≡ target_in g.slots s
  unfolding ordinary_at changed slots_after
  aim = target_advanced p g.slots b.owned

  pub beat_in_force : (i : Installed) → InForce g.epoch g.target_epoch g.members g.slots i
      → InForce (beaten c b).epoch (beaten c b).target_epoch (beaten c b).members (beaten c b).slots i
  unfolding ordinary_at changed
  beat_in_force i a = rw (group_epoch_same g (sender_of g b) b no_change) (in_force_same beat_ids aim a)

  -- ---- what it does to the slots

  slots_are : (beaten c b).slots ≡ advanced p g.slots (some r.listed)
  unfolding ordinary_at changed slots_after
  slots_are = ap (advanced p g.slots) r.gives

  moved : Moves p g.slots (beaten c b).slots
  unfolding ordinary_at changed slots_after
  moved = moves_advanced p g.slots b.owned

  pub get_within : Within p (beaten c b).slots
  get_within = subst (Within p) (sym slots_are) (own_within p g.slots r.listed p_away mine)

  pub get_clean : Within p g.slots → Clean p (beaten c b).slots
  get_clean w = subst (Clean p) (sym slots_are) (own_clean p g.slots r.listed p_away mine w)

  pub get_full : ((q : ℕ) → Occupied g.members q → Clean q g.slots) → Filled p (beaten c b).slots
  get_full all = subst (Filled p) (sym slots_are)
      (own_full p g.slots r.listed p_away mine g.members v.base.held all (λ s e w. (all p (b.id, here) s e).1))

  pub keep_within : (q : ℕ) → q ≢ no_place → Within q g.slots → Within q (beaten c b).slots
  keep_within q a w = eq_cases q p
      (λ e. subst (λ (x : ℕ). Within x (beaten c b).slots) (sym e) get_within)
      (λ e. within_other p q g.slots (beaten c b).slots moved aim e a w)

  pub keep_clean : (q : ℕ) → q ≢ no_place → Clean q g.slots → Clean q (beaten c b).slots
  keep_clean q a w = eq_cases q p
      (λ e. subst (λ (x : ℕ). Clean x (beaten c b).slots) (sym e) (get_clean (λ s k _. subst (λ (x : ℕ). target_in g.slots s ≡ x) e (w s (k ∙ sym e)).1)))
      (λ e. clean_other p q g.slots (beaten c b).slots moved aim e a w)

  pub keep_full : ((q : ℕ) → Occupied g.members q → Clean q g.slots) → (q : ℕ) → q ≢ no_place → Filled q g.slots → Filled q (beaten c b).slots
  keep_full all q a w = eq_cases q p
      (λ e. subst (λ (x : ℕ). Filled x (beaten c b).slots) (sym e) (get_full all))
      (λ e. full_other p q g.slots (beaten c b).slots moved aim e a w)

  -- ---- the members' epochs

  sender_epoch : Within p g.slots → g.target_epoch ≡ g.epoch → epoch_after g (sender_of g b) b ≡ g.target_epoch
  unfolding epoch_after revokes
  sender_epoch w e =
      rw (
        ap (waits p g.slots) r.gives ∙ no_wait p g.slots r.listed p_away mine,
        ap (strays p g.slots) r.gives ∙ no_strays p g.slots r.listed p_away mine w,
      )
      (omega (arith, mem_ok.low))

  pub get_epoch : Within p g.slots → g.target_epoch ≡ g.epoch → (member_at (beaten c b) p).epoch ≡ (beaten c b).target_epoch
  unfolding ordinary_at changed member_at member_after
  get_epoch w e = rw (get_or-set_same g.members p (some (member_after g (sender_of g b) b)) none (id_lt g.members p b.id here)) (sender_epoch w e)

  pub keep_epoch : (q : ℕ) → q ≢ p → (member_at g q).epoch ≡ g.target_epoch → (member_at (beaten c b) q).epoch ≡ (beaten c b).target_epoch
  unfolding ordinary_at changed member_at
  keep_epoch q e h = rw (get_or-set_other g.members p q (some (member_after g (sender_of g b) b)) none e) h

-- ---- a regular call

-- what holds of heartbeats alone
heartbeats_only : (X : Request → Type 0) (P : Event → Type 0) → ((b : Request) → X b → P (heartbeat b)) → (e : Event) → on_heartbeat ⊥ X e → P e
heartbeats_only X P f (heartbeat b) x = f b x
heartbeats_only X P f (sweep tick) x = absurd x
heartbeats_only X P f (topic t id n) x = absurd x
heartbeats_only X P f (install rule e entries) x = absurd x

-- what a regular heartbeat's effect has, the group after a regular call has
pub on_beat : (c : Course) (t : Call) → RInvC c → RegularCall c t → (S : Event → Group → Type 0)
    → ((b : Request) → Beat c b → S (heartbeat b) (beaten c b)) → S t.event (next c t).group
unfolding next stepped
on_beat c t v r S f =
    heartbeats_only (λ b. Regular c.history c.group b t.buffer t.list) (λ e. S e (step c.group e t.buffer t.list).group)
    (λ b x.
    let k : Beat c b = record { buffer = t.buffer; list = t.list; rinv = v; regular = x } in
    subst (S (heartbeat b)) (sym (stepped_is c b k)) (f b k)) t.event r
