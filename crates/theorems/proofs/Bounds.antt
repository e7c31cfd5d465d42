-- What the table of refusals keeps within limits: a member's epoch, timeout and subscription, and G.
use Rattle.std.specs.Prelude.{if◌then◌else◌}
use Prim.Native.Nat.{ℕ, suc, ◌≤◌, ◌<◌}
use native.Mathlib.Omega.{arith}
use mathlib.Core.Path.{◌≡◌, refl, sym, ◌∙◌}
use mathlib.Core.Bool.{Bool, true, false, not, ◌&&◌, ◌||◌, true≢false}
use mathlib.Core.Option.{Option, none, some}
use lib.IntN.{ℤ, pos, negsuc}
use lib.Dec.{eqb, ltb}
use borrow.Author.Tests.{eqb-false, ltb-true, ltb-false, leb-false}
use Rattle.rules.specs.Basics.{default, empty, given}
use Rattle.rules.specs.Constants.{last_epoch, max_timeout, subscription_count}
use Rattle.rules.specs.Group.{Group, Member, member_at, nobody, place_of, raised}
use Rattle.rules.specs.Event.{Event, Request, heartbeat, install, sweep, topic}
use Rattle.rules.specs.Refusals.{Kind, at_end, bad_timeout, heartbeat_table, invalid, joins, kind_of, lacking, leaves, malformed, new_subscription, new_timeout, no_timeout, ordinary, resubscribes, sender_of, table, timeout_or, topic_raises, zero_id}
use Rattle.rules.specs.Effects.{changed, effect, group_epoch_after, heartbeat_effect, install_effect, join_at, join_effect, joiner, leave_at, leave_effect, member_after, ordinary_at, overdue_places, sweep_effect, sweep_epoch, sweep_of, topic_effect, topic_epoch, with_target, with_topic}
use Rattle.rules.specs.Course.{Subscribing}
use Rattle.rules.proofs.Lists.{or_false}
use Rattle.theorems.proofs.Cases.{if_cases}
use Rattle.theorems.proofs.Accepting.{AllFalse}
use Rattle.theorems.proofs.Epochs.{sender_within}

-- ---- a member

-- of a group whose epoch is G
pub record InRange (G : ℕ) (m : Member) : Type 0 where
  pub epoch : m.epoch ≤ G
  pub positive : 0 < m.timeout
  pub timeout : m.timeout ≤ max_timeout
  pub subscription : m.subscription < subscription_count

pub in_range_later : (G H : ℕ) (m : Member) → G ≤ H → InRange G m → InRange H m
in_range_later G H m up r = record { epoch = omega (arith, r.epoch); positive = r.positive; timeout = r.timeout; subscription = r.subscription }

timeout_or_lem : (z : ℤ) (d : ℕ) → bad_timeout z ≡ false → (no_timeout z ≡ true → (0 < d) × (d ≤ max_timeout)) → (0 < timeout_or z d) × (timeout_or z d ≤ max_timeout)
unfolding bad_timeout no_timeout
timeout_or_lem (pos n) d e h = let r = or_false (eqb n 0) (ltb max_timeout n) e in (omega (arith, eqb-false n 0 r.0), ltb-false max_timeout n r.1)
timeout_or_lem (negsuc n) d e h = h refl

subscription_or : (o : Option ℕ) (d : ℕ) → Subscribing o → d < subscription_count → default d o < subscription_count
subscription_or none d s h = h
subscription_or (some n) d s h = s

-- what a request gives is in range
module _ (b : Request) where
  pub timeout_good : malformed b ≡ false → bad_timeout b.timeout ≡ false
  unfolding malformed
  timeout_good e = (or_false (bad_timeout b.timeout) _ (or_false (zero_id b.id) _ e).1).0

  timeout_given_lem : lacking b ≡ false → no_timeout b.timeout ≡ false
  unfolding lacking
  timeout_given_lem e = (or_false (no_timeout b.timeout) _ (or_false (not (given b.subscription)) _ e).1).0

pub joiner_in_range : (g : Group) (b : Request) → malformed b || lacking b ≡ false → Subscribing b.subscription → InRange (suc g.epoch) (joiner g b)
unfolding joiner new_timeout
joiner_in_range g b e s =
    let r = or_false (malformed b) (lacking b) e in
    let t = timeout_or_lem b.timeout nobody.timeout (timeout_good b r.0) (λ f. absurd (true≢false (sym f ∙ timeout_given_lem b r.1))) in
    record {
      epoch = omega arith;
      positive = t.0;
      timeout = t.1;
      subscription = subscription_or b.subscription 0 s (omega arith);
    }

pub member_after_in_range : (g : Group) (b : Request) → malformed b ≡ false → Subscribing b.subscription → g.target_epoch ≤ g.epoch
    → InRange g.epoch (member_at g (place_of g b.id)) → InRange g.epoch (member_after g (sender_of g b) b)
unfolding member_after new_timeout new_subscription
member_after_in_range g b e s order r =
    let m = member_at g (place_of g b.id) in
    let t = timeout_or_lem b.timeout m.timeout (timeout_good b e) (λ _. (r.positive, r.timeout)) in
    record {
      epoch = sender_within g (sender_of g b) b r.epoch order;
      positive = t.0;
      timeout = t.1;
      subscription = subscription_or b.subscription m.subscription s r.subscription;
    }

-- ---- G

raised_last : (e : ℕ) → e ≤ last_epoch → raised e ≤ last_epoch
unfolding raised
raised_last e h = if_cases (λ n. n ≤ last_epoch) (ltb e last_epoch) (ltb-true e last_epoch) (λ _. h)

below_end : (g : Group) → at_end g ≡ false → g.epoch < last_epoch
unfolding at_end
below_end g e = leb-false last_epoch g.epoch e

-- G after an event that raises it only where it is not at its end
raise_last : (g : Group) (c : Bool) → g.epoch ≤ last_epoch → c && at_end g ≡ false → (if c then suc g.epoch else g.epoch) ≤ last_epoch
raise_last g true h e = below_end g e
raise_last g false h e = h

pub heartbeat_last : (g : Group) → g.epoch ≤ last_epoch → (b : Request) (k : Kind) → AllFalse (heartbeat_table g b k) → (heartbeat_effect g b k).group.epoch ≤ last_epoch
unfolding heartbeat_effect join_effect join_at leave_effect leave_at ordinary_at group_epoch_after heartbeat_table changed
heartbeat_last g h b joins rows = below_end g rows.1.1.0
heartbeat_last g h b leaves rows = raised_last g.epoch h
heartbeat_last g h b invalid rows = absurd (true≢false rows.0)
heartbeat_last g h b (ordinary e) rows = raise_last g (resubscribes (sender_of g b).member b) h rows.1.1.1.1.0

pub accepted_last : (g : Group) (e : Event) → g.epoch ≤ last_epoch → AllFalse (table g e) → (effect g e).group.epoch ≤ last_epoch
unfolding effect table sweep_effect sweep_of sweep_epoch changed topic_effect topic_epoch with_topic install_effect with_target
accepted_last g (heartbeat b) h rows = heartbeat_last g h b (kind_of b.epoch) rows.1
accepted_last g (sweep tick) h rows = if_cases (λ n. n ≤ last_epoch) (empty (overdue_places g tick)) (λ _. h) (λ _. raised_last g.epoch h)
accepted_last g (topic t id n) h rows = raise_last g (topic_raises g t n) h rows.1.0
accepted_last g (install rule e entries) h rows = h
