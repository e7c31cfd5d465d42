-- Groups reached from a fresh one: what a fresh group has, every accepted event keeps and every reading keeps, every one of them has.
use Prim.Native.Nat.{ℕ, suc, ◌≤◌}
use mathlib.Core.Path.{refl, sym, ap, ◌∙◌, subst}
use mathlib.Core.Bool.{true≢false}
use mathlib.Core.List.{List, [], ◌∷◌, ◌++◌, foldl, foldl-append}
use Rattle.rules.specs.Constants.{max_members}
use Rattle.rules.specs.Group.{Group, Member, fresh, place_of, raised}
use Rattle.rules.specs.Event.{Event, Request, heartbeat, install, sweep, topic}
use Rattle.rules.specs.Refusals.{Kind, heartbeat_table, invalid, joins, kind_of, leaves, ordinary, sender_of, table, topic_raises}
use Rattle.rules.specs.Effects.{changed, effect, group_epoch_after, heartbeat_effect, install_effect, join_at, join_effect, join_place, joiner, leave_at, leave_effect, member_after, ordinary_at, overdue_places, remove, sweep_effect, sweep_epoch, sweep_of, topic_effect, topic_epoch, with_target, with_topic}
use Rattle.rules.specs.Step.{carry_out}
use Rattle.rules.specs.Course.{Call, Typed, stepped}
use Rattle.rules.specs.Batches.{retimed}
use Rattle.rules.specs.Readings.{Item, ItemTyped, ItemsTyped, group_after, happens, next_group, reads}
use Rattle.rules.specs.Accepted.{Accepted}
use Rattle.rules.specs.Theorems.{Reached}
use Rattle.theorems.proofs.Picks.{Each, each_absent, each_none, each_put}
use Rattle.theorems.proofs.Retimed.{each_retimed, timed}
use Rattle.theorems.proofs.Epochs.{heartbeat_rises, next_if, sweep_next}
use Rattle.theorems.proofs.Accepting.{AllFalse, carried, no_row, step_cases}

pub reached_fresh : (tick : ℕ) → Reached (fresh tick)
unfolding group_after
reached_fresh tick = record { tick = tick; items = []; typed = tt; is = refl }

pub typed_after : (is : List Item) (i : Item) → ItemsTyped is → ItemTyped i → ItemsTyped (is ++ i ∷ [])
typed_after [] i h k = (k, tt)
typed_after (j ∷ is) i h k = (h.0, typed_after is i h.1 k)

-- what an event or a reading leaves of a reached group is reached
pub reached_next : (g : Group) → Reached g → (i : Item) → ItemTyped i → Reached (next_group g i)
unfolding group_after
reached_next g r i ok = record {
  tick = r.tick;
  items = r.items ++ i ∷ [];
  typed = typed_after r.items i r.typed ok;
  is = ap (λ (h : Group). next_group h i) r.is ∙ sym (foldl-append next_group (fresh r.tick) r.items (i ∷ []));
}

-- what every typed item keeps, of whatever goes on with it, every list of them keeps
pub items_keep : {S : Type 0} (next : S → Item → S) (P : S → Type 0) → ((s : S) (i : Item) → ItemTyped i → P s → P (next s i))
    → (is : List Item) (s : S) → ItemsTyped is → P s → P (foldl next s is)
items_keep next P kept [] s ok h = h
items_keep next P kept (i ∷ is) s ok h = items_keep next P kept is (next s i) ok.1 (kept s i ok.0 h)

pub reached_keeps : (P : Group → Type 0) → ((tick : ℕ) → P (fresh tick))
    → ((g : Group) → Reached g → (t : Call) → Typed t.event → P g → Accepted g t.event t.buffer t.list → P (stepped g t).group)
    → ((t : ℕ) (g : Group) → P g → P (retimed t g))
    → (g : Group) → Reached g → P g
unfolding group_after next_group stepped carry_out
reached_keeps P first kept read g r =
    subst P (sym r.is)
    (items_keep next_group (λ g. Reached g × P g) (λ g i ok h. (reached_next g h.0 i ok, item g i ok h)) r.items (fresh r.tick) r.typed (reached_fresh r.tick, first r.tick)).1
  where
    item : (g : Group) (i : Item) → ItemTyped i → Reached g × P g → P (next_group g i)
    item g (happens t told) ok h =
        step_cases g t.event t.buffer t.list (λ s. P s.group) (λ _. h.1)
        (λ accepted _. rw (carried g t.event t.buffer t.list accepted) at (kept g h.0 t ok h.1 accepted))
    item g (reads t) ok h = read t g h.1

-- the same, said of the effects
pub reached_has : (P : Group → Type 0) → ((tick : ℕ) → P (fresh tick))
    → ((g : Group) (e : Event) → Typed e → P g → AllFalse (table g e) → P (effect g e).group)
    → ((t : ℕ) (g : Group) → P g → P (retimed t g))
    → (g : Group) → Reached g → P g
unfolding stepped carry_out
reached_has P first kept = reached_keeps P first (λ g r t ok h accepted.
    rw (carried g t.event t.buffer t.list accepted) (kept g t.event ok h (no_row g t.event t.buffer t.list accepted)))

-- ---- members

pub removed_keep : (P : Group → Type 0) → ((g : Group) (p : ℕ) → P g → P (remove g p)) → (ps : List ℕ) (g : Group) → P g → P (foldl remove g ps)
removed_keep P kept [] g h = h
removed_keep P kept (p ∷ ps) g h = removed_keep P kept ps (remove g p) (kept g p h)

-- what each member has of a group with this G: every joiner has it, every ordinary heartbeat keeps it, and it stays as G rises
module _ (Q : ℕ → Member → Type 0) (g : Group) (stays : (e : ℕ) (m : Member) → g.epoch ≤ e → Q g.epoch m → Q e m)
    (joined : (b : Request) → Typed (heartbeat b) → AllFalse (heartbeat_table g b joins) → Q (suc g.epoch) (joiner g b))
    (kept : (b : Request) (e : ℕ) → Typed (heartbeat b) → AllFalse (heartbeat_table g b (ordinary e)) → Q g.epoch (member_after g (sender_of g b) b))
    (each : Each (Q g.epoch) g.members) where
  later : (e : ℕ) → g.epoch ≤ e → Each (Q e) g.members
  later e up p m h = stays e m up (each p m h)

  heartbeat_each : (b : Request) → Typed (heartbeat b) → (k : Kind) → AllFalse (heartbeat_table g b k) → Each (Q (heartbeat_effect g b k).group.epoch) (heartbeat_effect g b k).group.members
  unfolding heartbeat_table heartbeat_effect join_effect join_at leave_effect leave_at ordinary_at remove changed
  heartbeat_each b ok joins rows = each_put (Q (suc g.epoch)) g.members (join_place g b) (joiner g b) (joined b ok rows) (later _ (heartbeat_rises g b joins).epoch)
  heartbeat_each b ok leaves rows = each_none (Q (raised g.epoch)) g.members (place_of g b.id) (later _ (heartbeat_rises g b leaves).epoch)
  heartbeat_each b ok invalid rows = absurd (true≢false rows.0)
  heartbeat_each b ok (ordinary e) rows =
      let up = (heartbeat_rises g b (ordinary e)).epoch in
      each_put (Q (group_epoch_after g (sender_of g b) b)) g.members (place_of g b.id) (member_after g (sender_of g b) b) (stays _ _ up (kept b e ok rows)) (later _ up)

  pub effect_each : (e : Event) → Typed e → AllFalse (table g e) → Each (Q (effect g e).group.epoch) (effect g e).group.members
  unfolding table effect sweep_effect sweep_of changed remove topic_effect topic_epoch with_topic install_effect with_target
  effect_each (heartbeat b) ok rows = heartbeat_each b ok (kind_of b.epoch) rows.1
  effect_each (sweep tick) ok rows =
      let gone = overdue_places g tick in
      removed_keep (λ h. Each (Q (sweep_epoch g gone)) h.members) (λ h p. each_none (Q (sweep_epoch g gone)) h.members p) gone g (later _ (sweep_next g gone).0)
  effect_each (topic t id n) ok rows = later _ (next_if (topic_raises g t n) g.epoch).0
  effect_each (install rule e entries) ok rows = each

-- what every joiner has, every ordinary heartbeat keeps and no tick matters to, each member of a reached group has
pub members_have : (Q : Member → Type 0) → ((g : Group) (b : Request) → Typed (heartbeat b) → AllFalse (heartbeat_table g b joins) → Q (joiner g b))
    → ((g : Group) (b : Request) (e : ℕ) → Typed (heartbeat b) → AllFalse (heartbeat_table g b (ordinary e)) → Each Q g.members → Q (member_after g (sender_of g b) b))
    → ((t : ℕ) (m : Member) → Q m → Q (timed t m))
    → (g : Group) → Reached g → Each Q g.members
unfolding fresh retimed
members_have Q joined kept any =
    reached_has (λ g. Each Q g.members) (λ tick. each_absent Q max_members)
    (λ g e ok each rows. effect_each (λ _. Q) g (λ _ _ _ h. h) (joined g) (λ b e typed rows. kept g b e typed rows each) each e ok rows)
    (λ t g each. each_retimed Q t g.members (any t) each)
