-- The step of a heartbeat that changes nothing but the two ticks: the answer has the list, and nothing is stored. Assumes nothing.
use Rattle.std.proofs.Common.{◌≡◌, ℕ, ◌≤◌, false, List, [], length, set, refl, ap, ◌∙◌, arith, eq-eqb, le-ltb}
use Rattle.std.proofs.Math.Option.{Option, some}
use Rattle.rules.specs.Basics.{any, default}
use Rattle.rules.specs.Constants.{heartbeat_interval}
use Rattle.rules.specs.Group.{Member, Sender, Group, set_a, set_p}
use Rattle.rules.specs.Event.{Request}
use Rattle.rules.specs.Records.{all_bytes}
use Rattle.rules.specs.Refusals.{first_of, not_held_by, new_subscription, new_timeout, resubscribes}
use Rattle.rules.specs.Effects.{Effect, changed, waits, frees, after_free, strays, advanced, slots_after, revokes, epoch_after, group_epoch_after, member_after, only_if, updates, moves, current_of, current_before, current_after, ordinary_records, ordinary_at}
use Rattle.rules.specs.Step.{Stepped, overlay, too_little_room, carry_out}
use Rattle.rules.specs.declared.Answer.TheVariants.{Assigned}
use Rattle.rules.proofs.Lists.{same_refl}
use Rattle.quiet.specs.Settling.{Quiet}
use Rattle.ordinary.specs.Plans.{ordinary_step}

-- the member, heard at a tick
abbrev pub heard_last : Member → ℕ → Member
heard_last m tick = record { id = m.id; epoch = m.epoch; subscription = m.subscription; timeout = m.timeout; heard = tick; revoked_at = m.revoked_at }

abbrev pub staying : Group → Sender → ℕ → List ℕ → List ℕ → List ℕ → Stepped
staying g s tick l buffer list = record {
  answer = Assigned (record { epoch = s.member.epoch; interval = heartbeat_interval; count = length l });
  group = changed g g.epoch tick (set g.members s.place (some (heard_last s.member tick))) g.slots;
  written = 0;
  buffer = buffer;
  list = overlay l list;
}

module _ (g : Group) (s : Sender) (b : Request) (l : List ℕ) (named : s.member.id ≡ b.id) (given : b.owned ≡ some l)
    (subscription : new_subscription b s.member ≡ s.member.subscription) (timeout : new_timeout b s.member ≡ s.member.timeout)
    (reached : g.target_epoch ≤ s.member.epoch) (q : Quiet s.place g.slots l) where
  stays_subscribed : resubscribes s.member b ≡ false
  unfolding resubscribes
  stays_subscribed = rw (subscription, eq-eqb s.member.subscription s.member.subscription refl)

  not_waiting : waits s.place g.slots (some l) ≡ false
  unfolding waits
  not_waiting = rw q.none_revoking

  not_freeing : frees s.place g.slots (some l) ≡ false
  unfolding frees
  not_freeing = rw q.none_revoking

  slots_stay : slots_after g s b ≡ g.slots
  unfolding slots_after advanced strays after_free
  slots_stay = rw (given, not_waiting, not_freeing, q.none_stray, q.none_claimed)

  revokes_none : revokes g s b ≡ false
  unfolding revokes strays after_free
  revokes_none = rw (given, not_waiting, not_freeing, q.none_stray)

  epoch_stays : epoch_after g s b ≡ s.member.epoch
  unfolding epoch_after
  epoch_stays = rw (revokes_none, given, not_waiting) (omega (arith, reached))

  only_heard : member_after g s b ≡ heard_last s.member b.tick
  unfolding member_after
  only_heard = rw (epoch_stays, revokes_none, subscription, timeout, named)

  updates_none : updates s.member b ≡ false
  unfolding updates
  updates_none = rw (stays_subscribed, timeout, eq-eqb s.member.timeout s.member.timeout refl)

  moves_none : moves (current_before g s) (current_after g s b) ≡ false
  unfolding moves current_before current_after current_of
  moves_none = rw (epoch_stays, slots_stay, eq-eqb s.member.epoch s.member.epoch refl, same_refl (set_a s.place g.slots), same_refl (set_p s.place g.slots))

  group_epoch_stays : group_epoch_after g s b ≡ g.epoch
  unfolding group_epoch_after
  group_epoch_stays = rw stays_subscribed

  abbrev done : Effect
  done = record {
    answer = Assigned (record { epoch = s.member.epoch; interval = heartbeat_interval; count = length l });
    group = changed g g.epoch b.tick (set g.members s.place (some (heard_last s.member b.tick))) g.slots;
    records = [];
    told = l;
  }

  effect_is : ordinary_at g s b ≡ done
  unfolding ordinary_at ordinary_records only_if
  effect_is = rw (updates_none, moves_none, stays_subscribed, slots_stay, epoch_stays, group_epoch_stays, only_heard, q.assigned_are)

  held : any (not_held_by g s.place) (default [] b.owned) ≡ false
  unfolding not_held_by
  held = ap (λ (o : Option (List ℕ)). any (not_held_by g s.place) (default [] o)) given ∙ q.all_held

  fits : (buffer list : List ℕ) → length l ≤ length list → too_little_room done buffer list ≡ false
  unfolding too_little_room all_bytes
  fits buffer list room = rw (le-ltb (length buffer) 0 (omega arith), le-ltb (length list) (length l) room)

  pub stays_so : (buffer list : List ℕ) → length l ≤ length list → ordinary_step g s b buffer list ≡ staying g s b.tick l buffer list
  unfolding ordinary_step carry_out overlay all_bytes first_of
  stays_so buffer list room = rw (held, stays_subscribed, effect_is, fits buffer list room)
