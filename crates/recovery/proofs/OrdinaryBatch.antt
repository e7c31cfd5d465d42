-- The batch of an ordinary heartbeat: a 5, a 3 and an 8, each perhaps. Its candidate gives the timeout and the subscription where they differ, and an empty
-- list where a record 8 is stored. It is accepted, writes the same records and leaves the same group, ticks aside.
use Rattle.std.specs.Prelude.{if◌then◌else◌}
use Prim.Native.Nat.{ℕ, zero, suc, ◌≤◌}
use native.Mathlib.Omega.{arith}
use mathlib.Core.Path.{◌≡◌, refl, sym, ap, ◌∙◌}
use mathlib.Core.Bool.{Bool, true, false, not, ◌&&◌, ◌||◌, true≢false}
use mathlib.Core.List.{List, [], map}
use mathlib.Core.Option.{Option, none, some}
use lib.IntN.{ℤ, pos, negsuc}
use lib.ListN.{set}
use lib.Dec.{eqb}
use borrow.Author.Tests.{eq-eqb, eqb-true, ne_eqb}
use Rattle.rules.specs.Basics.{default, empty}
use Rattle.rules.specs.Group.{Group, Member, Sender, known, member_at, place_of}
use Rattle.rules.specs.Records.{CurrentAssignment, MemberMetadata, parts_of}
use Rattle.rules.specs.Event.{Request, heartbeat}
use Rattle.rules.specs.Refusals.{at_end, bad_list, bad_timeout, heartbeat_table, is_slot_set, kind_of, malformed, new_subscription, new_timeout, ordinary, resubscribes, sender_of, table, timeout_or, zero_id}
use Rattle.rules.specs.Effects.{changed, current_after, current_before, current_of, effect, epoch_after, frees, group_epoch_after, heartbeat_effect, member_after, metadata_of, moves, only_if, ordinary_at, ordinary_effect, ordinary_records, revokes, slots_after, updates}
use Rattle.rules.specs.Ledger.{gone}
use Rattle.rules.specs.Course.{Subscribing, Typed}
use Rattle.rules.specs.Batches.{Legible, beating, candidate, entering, is_join, moving, retimed, retimed_member, tried}
use Rattle.rules.proofs.Lists.{not_is_false, or_false}
use Rattle.theorems.proofs.Cases.{if_cases}
use Rattle.theorems.proofs.Accepting.{AllFalse}
use Rattle.theorems.proofs.SingleHolder.{id_in, known_id, member_placed}
use Rattle.theorems.proofs.Epochs.{sender_within}
use Rattle.theorems.proofs.Reachable.{member_known}
use Rattle.theorems.proofs.Legible.{sender_in_range}
use Rattle.recovery.proofs.Ticks.{SameMember, alike_members, end_retimed, known_retimed, member_retimed, members_twice, on_time, place_retimed, set_retimed}
use Rattle.recovery.proofs.Judging.{Found}
use Rattle.recovery.proofs.Freeing.{frees_again, same_advanced, same_strays, same_waits}

-- ---- the candidate of such records

module _ (t : ℕ) (g : Group) (p : ℕ) (id : List ℕ) (timeout subscription n e : ℕ) (a q : List ℕ) where
  abbrev five : MemberMetadata
  five = record { place = p; id = id; timeout = timeout; subscription = subscription }

  abbrev eight : CurrentAssignment
  eight = record { place = p; epoch = e; assigned = a; revoking = q }

  -- a record 5 is stored where the subscription (not x) or the timeout (not y) differs, a record 3 where the subscription does
  beats : (x y moved : Bool) → eqb subscription (member_at g p).subscription ≡ x → eqb timeout (member_at g p).timeout ≡ y
      → (x ≡ false → eqb n e ≡ false) → empty (ordinary_records (not x || not y) five (not x) n moved eight) ≡ false
      → candidate t g (ordinary_records (not x || not y) five (not x) n moved eight) ≡ some (tried g (heartbeat (beating t g p timeout subscription moved)))
  unfolding candidate ordinary_records only_if parts_of entering moving is_join gone
  beats true true true s d above filled = rw (eqb-true subscription (member_at g p).subscription s, eqb-true timeout (member_at g p).timeout d) refl
  beats true true false s d above filled = absurd (true≢false filled)
  beats true false true s d above filled = refl
  beats true false false s d above filled = refl
  beats false true true s d above filled = rw (above refl) refl
  beats false true false s d above filled = refl
  beats false false true s d above filled = rw (above refl) refl
  beats false false false s d above filled = refl

-- ---- what differs is given, and is stored again

kind_epoch : (z : ℤ) (e : ℕ) → kind_of z ≡ ordinary e → z ≡ pos e
unfolding kind_of
kind_epoch (pos zero) e q = absurd (let w : ◌≡◌ {A = ℕ} 0 1 = cc in omega arith)
kind_epoch (pos (suc n)) e q = let w : suc n ≡ e = cc in ap pos w
kind_epoch (negsuc zero) e q = absurd (let w : ◌≡◌ {A = ℕ} 0 1 = cc in omega arith)
kind_epoch (negsuc (suc n)) e q = absurd (let w : ◌≡◌ {A = ℕ} 0 1 = cc in omega arith)

abbrev other_timeout : ℕ → ℕ → ℤ
other_timeout n d = if eqb n d then negsuc 0 else pos n

abbrev other_subscription : ℕ → ℕ → Option ℕ
other_subscription n d = if eqb n d then none else some n

timeout_again : (n d : ℕ) → timeout_or (other_timeout n d) d ≡ n
timeout_again n d = if_cases (λ (z : ℤ). timeout_or z d ≡ n) (eqb n d) (λ e. sym (eqb-true n d e)) (λ _. refl)

subscription_again : (n d : ℕ) → default d (other_subscription n d) ≡ n
subscription_again n d = if_cases (λ (o : Option ℕ). default d o ≡ n) (eqb n d) (λ e. sym (eqb-true n d e)) (λ _. refl)

timeout_good : (z : ℤ) (d : ℕ) → bad_timeout z ≡ false → bad_timeout (other_timeout (timeout_or z d) d) ≡ false
unfolding bad_timeout
timeout_good (pos n) d h = if_cases (λ (z : ℤ). bad_timeout z ≡ false) (eqb n d) (λ _. refl) (λ _. h)
timeout_good (negsuc n) d h = rw (eq-eqb d d refl) refl

subscription_typed : (o : Option ℕ) (d : ℕ) → Subscribing o → Subscribing (other_subscription (default d o) d)
subscription_typed none d h = rw (eq-eqb d d refl) tt
subscription_typed (some n) d h = if_cases (λ (o : Option ℕ). Subscribing o) (eqb n d) (λ _. tt) (λ _. h)

-- no slot is listed
nothing_listed : (c : Bool) → default {A = List ℕ} [] (if c then some [] else none) ≡ []
nothing_listed true = refl
nothing_listed false = refl

-- ---- an accepted ordinary heartbeat

module _ (t : ℕ) (g : Group) (legible : Legible g) (b : Request) (e : ℕ) (kind : kind_of b.epoch ≡ ordinary e) (typed : Typed (heartbeat b))
    (rows : AllFalse (heartbeat_table g b (ordinary e))) where
  abbrev p : ℕ
  p = place_of g b.id

  abbrev m : Member
  m = member_at g p

  abbrev sender : Sender
  sender = sender_of g b

  abbrev moved : Bool
  moved = moves (current_before g sender) (current_after g sender b)

  abbrev g' : Group
  g' = retimed t g

  -- the candidate
  abbrev again : Request
  again = record {
    id = b.id;
    epoch = b.epoch;
    tick = t;
    timeout = other_timeout (new_timeout b m) m.timeout;
    subscription = other_subscription (new_subscription b m) m.subscription;
    owned = if moved then some [] else none;
  }

  abbrev sender' : Sender
  sender' = sender_of g' again

  here : id_in g.members p ≡ some b.id
  unfolding heartbeat_table
  here = known_id g b.id (not_is_false (known g b.id) rows.1.0)

  its_epoch : b.epoch ≡ pos m.epoch
  unfolding heartbeat_table
  its_epoch = kind_epoch b.epoch e kind ∙ ap pos (eqb-true e m.epoch (not_is_false (eqb e m.epoch) rows.1.1.0))

  again_is : beating t g' p (new_timeout b m) (new_subscription b m) moved ≡ again
  unfolding beating
  again_is =
      let s = member_retimed t g p in
      λ i. record {
        id = (s.id ∙ (member_known g p b.id here).1) i;
        epoch = (ap pos s.epoch ∙ sym its_epoch) i;
        tick = t;
        timeout = other_timeout (new_timeout b m) (s.timeout i);
        subscription = other_subscription (new_subscription b m) (s.subscription i);
        owned = if moved then some [] else none;
      }

  -- ---- what both heartbeats depend on

  place : sender'.place ≡ p
  place = place_retimed t g b.id

  member : SameMember sender'.member m
  member = rw place (member_retimed t g p)

  subscribed : new_subscription again sender'.member ≡ new_subscription b m
  unfolding new_subscription
  subscribed = ap (λ (x : ℕ). default x again.subscription) member.subscription ∙ subscription_again (new_subscription b m) m.subscription

  timed : new_timeout again sender'.member ≡ new_timeout b m
  unfolding new_timeout
  timed = ap (timeout_or again.timeout) member.timeout ∙ timeout_again (new_timeout b m) m.timeout

  resubscribing : resubscribes sender'.member again ≡ resubscribes m b
  unfolding resubscribes
  resubscribing = λ i. not (eqb (subscribed i) (member.subscription i))

  freeing : frees p g.slots again.owned ≡ frees p g.slots b.owned
  unfolding current_before current_after slots_after epoch_after revokes
  freeing =
      frees_again p (member_placed g.members p b.id legible.places here) g.slots b.owned m.epoch (epoch_after g sender b) (λ w. rw w refl)

  -- ---- so they do the same

  same_slots : slots_after g' sender' again ≡ slots_after g sender b
  unfolding slots_after retimed
  same_slots = rw place (same_advanced p g.slots again.owned b.owned freeing)

  same_epoch : epoch_after g' sender' again ≡ epoch_after g sender b
  unfolding epoch_after revokes retimed
  same_epoch =
      let w = same_waits p g.slots again.owned b.owned freeing in
      let c = same_strays p g.slots again.owned b.owned freeing in
      rw (member.epoch, place, w, c) refl

  same_group_epoch : group_epoch_after g' sender' again ≡ group_epoch_after g sender b
  unfolding group_epoch_after retimed
  same_group_epoch = ap (λ (c : Bool). if c then suc g.epoch else g.epoch) resubscribing

  same_records : (ordinary_effect g' again).records ≡ (ordinary_effect g b).records
  unfolding ordinary_at updates metadata_of member_after current_before current_after retimed
  same_records = λ i. ordinary_records (resubscribing i || not (eqb (timed i) (member.timeout i)))
      (record { place = place i; id = b.id; timeout = timed i; subscription = subscribed i }) (resubscribing i) (same_group_epoch i)
      (moves (current_of (place i) (member.epoch i) g.slots) (current_of (place i) (same_epoch i) (same_slots i)))
      (current_of (place i) (same_epoch i) (same_slots i))

  same_member : (u : ℕ) → retimed_member u (some (member_after g' sender' again)) ≡ retimed_member u (some (member_after g sender b))
  unfolding member_after retimed_member
  same_member u = λ i. some (record { id = b.id; epoch = same_epoch i; subscription = subscribed i; timeout = timed i; heard = u; revoked_at = u })

  same_members : (u : ℕ) → map (retimed_member u) (set g'.members sender'.place (some (member_after g' sender' again)))
      ≡ map (retimed_member u) (set g.members p (some (member_after g sender b)))
  unfolding retimed
  same_members u =
      set_retimed u (map (retimed_member t) g.members) sender'.place (some (member_after g' sender' again))
      ∙ (λ i. set (members_twice t u g.members i) (place i) (same_member u i))
      ∙ sym (set_retimed u g.members p (some (member_after g sender b)))

  same_group : (u : ℕ) → retimed u (ordinary_effect g' again).group ≡ retimed u (ordinary_effect g b).group
  unfolding ordinary_at changed retimed
  same_group u = alike_members u (ordinary_effect g' again).group (ordinary_effect g b).group same_group_epoch refl refl (same_members u) same_slots

  -- ---- the candidate is accepted

  again_rows : AllFalse (heartbeat_table g' again (ordinary e))
  unfolding heartbeat_table malformed new_timeout bad_list is_slot_set
  again_rows =
      let z = or_false (zero_id b.id) _ rows.0 in
      let good = timeout_good b.timeout m.timeout (or_false (bad_timeout b.timeout) _ z.1).0 in
      let known' = ap not (known_retimed t g b.id) ∙ rows.1.0 in
      let current = ap (λ (x : ℕ). not (eqb e x)) member.epoch ∙ rows.1.1.0 in
      let raising : resubscribes sender'.member again && at_end g' ≡ false = rw (resubscribing, end_retimed t g) rows.1.1.1.1.0 in
      (rw (z.0, good, nothing_listed moved) refl, (known', (current, (rw (nothing_listed moved) refl, (raising, tt)))))

  -- ---- and it is the one that is found

  -- the E of an ordinary heartbeat is at most the G before it
  low : epoch_after g sender b ≤ g.epoch
  unfolding heartbeat_table
  low = sender_within g sender b (sender_in_range g legible b (not_is_false (known g b.id) rows.1.0)).epoch legible.order

  raises : eqb (new_subscription b m) m.subscription ≡ false → group_epoch_after g sender b ≡ suc g.epoch
  unfolding group_epoch_after resubscribes
  raises f = rw f refl

  again_found : empty (ordinary_effect g b).records ≡ false → candidate t g' (ordinary_effect g b).records ≡ some (tried g' (heartbeat again))
  unfolding ordinary_at updates resubscribes metadata_of member_after current_after current_of
  again_found filled =
      let s = member_retimed t g p in
      let n = group_epoch_after g sender b in
      beats t g' p b.id (new_timeout b m) (new_subscription b m) n (epoch_after g sender b) _ _
      (eqb (new_subscription b m) m.subscription) (eqb (new_timeout b m) m.timeout) moved
      (ap (eqb (new_subscription b m)) s.subscription) (ap (eqb (new_timeout b m)) s.timeout)
      (λ f. ne_eqb n (epoch_after g sender b) (λ q. omega (arith, low, raises f))) filled
      ∙ ap (λ (r : Request). some (tried g' (heartbeat r))) again_is

  pub ordinary_found : empty (ordinary_effect g b).records ≡ false → Found t (retimed t g) (ordinary_effect g b).records (ordinary_effect g b).group
  unfolding effect heartbeat_effect table tried new_subscription
  ordinary_found filled = record {
    witness = tried g' (heartbeat again);
    found = again_found filled;
    typed = (typed.0, subscription_typed b.subscription m.subscription typed.1);
    rows = rw kind (on_time t g, again_rows);
    records = rw kind same_records;
    group = λ u. rw kind (same_group u);
  }
