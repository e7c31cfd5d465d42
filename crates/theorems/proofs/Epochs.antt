-- No effect lowers G or raises it by more than one, and none lowers T where T is not above G. No ordinary heartbeat lowers E, or raises it above G.
use Rattle.std.specs.Prelude.{if◌then◌else◌}
use Prim.Native.Nat.{ℕ, suc, ◌≤◌}
use native.Mathlib.Omega.{arith}
use mathlib.Core.Bool.{Bool, true, false, ◌||◌}
use mathlib.Core.List.{List}
use lib.Dec.{ltb}
use Rattle.rules.specs.Basics.{empty}
use Rattle.rules.specs.Constants.{last_epoch}
use Rattle.rules.specs.Group.{Group, Sender, raised}
use Rattle.rules.specs.Event.{Event, Request, heartbeat, install, sweep, topic}
use Rattle.rules.specs.Refusals.{Kind, invalid, joins, kind_of, leaves, ordinary, resubscribes, sender_of, topic_raises}
use Rattle.rules.specs.Effects.{changed, effect, epoch_after, group_epoch_after, heartbeat_effect, install_effect, join_at, join_effect, leave_at, leave_effect, ordinary_at, overdue_places, revokes, sweep_effect, sweep_epoch, sweep_of, topic_effect, topic_epoch, waits, with_target, with_topic}
use Rattle.rules.specs.Theorems.{EpochsRise}
use Rattle.theorems.proofs.Cases.{if_cases}

-- one more, or the same
abbrev pub Next : ℕ → ℕ → Type 0
Next e f = (e ≤ f) × (f ≤ suc e)

pub next_if : (c : Bool) (e : ℕ) → Next e (if c then suc e else e)
next_if true e = (omega arith, omega arith)
next_if false e = (omega arith, omega arith)

raised_next : (e : ℕ) → Next e (raised e)
unfolding raised
raised_next e = next_if (ltb e last_epoch) e

pub sweep_next : (g : Group) (gone : List ℕ) → Next g.epoch (sweep_epoch g gone)
unfolding sweep_epoch
sweep_next g gone = if_cases (Next g.epoch) (empty gone) (λ _. next_if false g.epoch) (λ _. raised_next g.epoch)

rises : (g h : Group) → Next g.epoch h.epoch → g.target_epoch ≤ h.target_epoch → EpochsRise g h
rises g h n t = record { epoch = n.0; by_one = n.1; target = t }

pub heartbeat_rises : (g : Group) (b : Request) (k : Kind) → EpochsRise g (heartbeat_effect g b k).group
unfolding heartbeat_effect join_effect join_at leave_effect leave_at ordinary_at changed group_epoch_after
heartbeat_rises g b joins = rises g _ (next_if true g.epoch) (omega arith)
heartbeat_rises g b leaves = rises g _ (raised_next g.epoch) (omega arith)
heartbeat_rises g b invalid = rises g _ (raised_next g.epoch) (omega arith)
heartbeat_rises g b (ordinary e) = rises g _ (next_if (resubscribes (sender_of g b).member b) g.epoch) (omega arith)

pub effect_rises : (g : Group) → g.target_epoch ≤ g.epoch → (e : Event) → EpochsRise g (effect g e).group
unfolding effect sweep_effect sweep_of changed topic_effect with_topic topic_epoch install_effect with_target
effect_rises g h (heartbeat b) = heartbeat_rises g b (kind_of b.epoch)
effect_rises g h (sweep tick) = rises g _ (sweep_next g (overdue_places g tick)) (omega arith)
effect_rises g h (topic t id n) = rises g _ (next_if (topic_raises g t n) g.epoch) (omega arith)
effect_rises g h (install rule e entries) = rises g _ (next_if false g.epoch) h

-- ---- the sender's E

module _ (g : Group) (s : Sender) (b : Request) where
  pub sender_rises : s.member.epoch ≤ epoch_after g s b
  unfolding epoch_after
  sender_rises = if_cases (λ n. s.member.epoch ≤ n) (waits s.place g.slots b.owned || revokes g s b) (λ _. omega arith) (λ _. omega arith)

  pub sender_within : s.member.epoch ≤ g.epoch → g.target_epoch ≤ g.epoch → epoch_after g s b ≤ g.epoch
  unfolding epoch_after
  sender_within e t = if_cases (λ n. n ≤ g.epoch) (waits s.place g.slots b.owned || revokes g s b) (λ _. e) (λ _. omega arith)
