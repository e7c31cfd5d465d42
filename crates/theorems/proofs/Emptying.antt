-- What accepted joins, leaves and sweeps leave: a place with nothing, and all other places as they were.
use Rattle.std.specs.Prelude.{if◌then◌else◌}
use Prim.Native.Nat.{ℕ, ◌<◌}
use native.Mathlib.Omega.{arith}
use mathlib.Core.Path.{◌≡◌, refl, sym, ap, ◌∙◌}
use mathlib.Core.Logic.{◌≢◌}
use mathlib.Core.Bool.{Bool, true, false, not, true≢false, false≢true}
use mathlib.Core.List.Memᴰ
use mathlib.Core.List.{List, [], ◌∷◌, Memᴰ}
use mathlib.Core.Option.{Option, none, some}
use lib.IntN.{ℤ, pos, negsuc}
use lib.ListN.{get_or}
use lib.Seq.{get_or-set_same, get_or-set_other}
use Rattle.rules.specs.Basics.{default, empty, given, up_to}
use Rattle.rules.specs.Constants.{max_members, no_place}
use Rattle.rules.specs.Group.{Group, Member, known, nobody, place_of, raised, vacant}
use Rattle.rules.specs.Event.{sweep}
use Rattle.rules.specs.Refusals.{heartbeat_table, joins, lacking, leaves, malformed, new_timeout, no_timeout, table, timeout_or}
use Rattle.rules.specs.Effects.{changed, remove, effect, heartbeat_effect, join_at, join_effect, join_place, joiner, leave_at, leave_effect, overdue, overdue_places, sweep_effect, sweep_epoch, sweep_of}
use Rattle.rules.specs.Accepted.{AcceptedJoin, AcceptedLeave, AcceptedSweep, AfterJoin, AfterLeave, AfterSweep, Sized}
use Rattle.rules.proofs.Lists.{not_is_false, or_false}
use Rattle.theorems.proofs.Cases.{no_some}
use Rattle.theorems.proofs.Picks.{keep_in, keep_passes, up_to_below, up_to_in}
use Rattle.theorems.proofs.Accepting.{AllFalse, accepted_heartbeat, after_accepted_lem}
use Rattle.theorems.proofs.SingleHolder.{id_lt, is_vacant, join_place_lem, known_id, member_of}
use Rattle.theorems.proofs.Vacating.{bare_vacated, emptied_all, emptied_here, stays_all, stays_vacated}

-- a number below `max_members` is a place
pub placed : (p : ℕ) → p < max_members → p ≢ no_place
placed p h e = omega arith

-- ---- join

not_vacant : (o : Option Member) → vacant o ≡ false → o ≢ none
unfolding vacant
not_vacant none e = absurd (true≢false e)
not_vacant (some m) e = λ q. no_some m (sym q)

given_some : (o : Option ℕ) (d : ℕ) → not (given o) ≡ false → o ≡ some (default d o)
given_some none d e = absurd (true≢false e)
given_some (some n) d e = refl

pub timeout_given_lem : (z : ℤ) (d : ℕ) → no_timeout z ≡ false → z ≡ pos (timeout_or z d)
unfolding no_timeout
timeout_given_lem (pos n) d e = refl
timeout_given_lem (negsuc n) d e = absurd (true≢false e)

pub accepted_join : AcceptedJoin
unfolding heartbeat_table heartbeat_effect join_effect join_at changed joiner new_timeout lacking
accepted_join b kind = accepted_heartbeat b joins (AfterJoin b) kind joined
  where
    joined : (g : Group) → Sized g → AllFalse (heartbeat_table g b joins) → AfterJoin b g (heartbeat_effect g b joins).group
    joined g sized rows =
        let p = join_place g b in
        let at = join_place_lem g b rows.1.0 in
        let inside : p < max_members = omega (arith, at.inside, sized.members) in
        let whole = (or_false (malformed b) (lacking b) rows.0).1 in
        let rest = or_false (not (given b.subscription)) _ whole in
        record {
          place = p;
          inside = inside;
          again = λ e. member_of g.members p b.id (at.again e);
          free = λ e. is_vacant (get_or g.members p none) (at.free e);
          lowest = λ e q l. not_vacant (get_or g.members q none) (at.lowest e q l);
          member = joiner g b;
          here = get_or-set_same g.members p (some (joiner g b)) none at.inside;
          named = refl;
          epoch = refl;
          subscription = given_some b.subscription 0 rest.0;
          timeout = timeout_given_lem b.timeout nobody.timeout (or_false (no_timeout b.timeout) _ rest.1).0;
          heard = refl;
          revoked_at = refl;
          bare = bare_vacated p g.slots (placed p inside);
          others = λ q l n. stays_vacated g _ p q refl (get_or-set_other g.members p q (some (joiner g b)) none n) n (placed q l);
          ticked = record { last = refl; target_epoch = refl; topics = refl };
          raises = refl;
        }

-- ---- leave

pub accepted_leave : AcceptedLeave
unfolding heartbeat_table heartbeat_effect leave_effect leave_at remove changed
accepted_leave b kind = accepted_heartbeat b leaves (AfterLeave b) kind left
  where
    left : (g : Group) → Sized g → AllFalse (heartbeat_table g b leaves) → AfterLeave b g (heartbeat_effect g b leaves).group
    left g sized rows =
        let p = place_of g b.id in
        let id = known_id g b.id (not_is_false (known g b.id) rows.1.0) in
        let m = member_of g.members p b.id id in
        let there : p ≢ no_place = placed p (omega (arith, id_lt g.members p b.id id, sized.members)) in
        let gone = emptied_here g p there in
        record {
          place = p;
          member = m.0;
          was = m.1;
          named = m.2;
          gone = gone.0;
          bare = gone.1;
          others = λ q l n. stays_vacated g _ p q refl (get_or-set_other g.members p q none none n) n (placed q l);
          ticked = record { last = refl; target_epoch = refl; topics = refl };
          raises = refl;
        }

-- ---- sweep

empty_none : (l : List ℕ) → ((x : ℕ) → Memᴰ x l → ⊥) → empty l ≡ true
empty_none [] h = refl
empty_none (x ∷ xs) h = absurd (h x (Memᴰ.head refl))

some_not_empty : (l : List ℕ) (x : ℕ) → Memᴰ x l → empty l ≡ false
some_not_empty [] x m = absurd (Memᴰ.not-nil m)
some_not_empty (y ∷ ys) x m = refl

-- the places that a sweep removes are the overdue ones
overdue_in : (g : Group) (tick p : ℕ) → p < max_members → overdue g tick p ≡ true → Memᴰ p (overdue_places g tick)
unfolding overdue_places
overdue_in g tick p l e = keep_in (overdue g tick) (up_to 0 max_members) p (up_to_in 0 max_members p (omega arith) (omega arith)) e

pub overdue_only : (g : Group) (tick p : ℕ) → Memᴰ p (overdue_places g tick) → (p < max_members) × (overdue g tick p ≡ true)
unfolding overdue_places
overdue_only g tick p m =
    let r = keep_passes (overdue g tick) (up_to 0 max_members) p m in
    (up_to_below 0 max_members p r.0, r.1)

pub accepted_sweep : AcceptedSweep
unfolding effect sweep_effect sweep_of changed sweep_epoch
accepted_sweep tick = after_accepted_lem (sweep tick) (AfterSweep tick) swept
  where
    epoch_if : Group → Bool → ℕ
    epoch_if g c = if c then g.epoch else raised g.epoch

    remains : (g : Group) (p : ℕ) → overdue g tick p ≡ false → Memᴰ p (overdue_places g tick) → ⊥
    remains g p e m = false≢true (sym e ∙ (overdue_only g tick p m).1)

    swept : (g : Group) → Sized g → AllFalse (table g (sweep tick)) → AfterSweep tick g (effect g (sweep tick)).group
    swept g sized rows = record {
      gone = λ p l e. emptied_all p (placed p l) (overdue_places g tick) g (overdue_in g tick p l e);
      others = λ p l e.
          let s = stays_all p (placed p l) (overdue_places g tick) g (remains g p e) in
          record { member = s.member; assigned = s.assigned; revoking = s.revoking; targeted = s.targeted };
      ticked = record { last = refl; target_epoch = refl; topics = refl };
      raises = λ p l e. ap (epoch_if g) (some_not_empty (overdue_places g tick) p (overdue_in g tick p l e));
      keeps = λ h. ap (epoch_if g) (empty_none (overdue_places g tick) (λ p m. remains g p (h p (overdue_only g tick p m).0) m));
    }
