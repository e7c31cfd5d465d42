-- A group with one tick throughout: an accepted event at that tick leaves it so, and so does the sweep of a removal, since all who were not heard then go.
use Prim.Native.Nat.{ℕ, zero, suc, ◌≤◌, ◌<◌}
use native.Mathlib.Nat.{zero-add}
use native.Mathlib.Omega.{arith}
use mathlib.Core.Path.{◌≡◌, refl, sym, ap, ◌∙◌}
use mathlib.Core.Logic.{◌≢◌, ⊎_elim}
use mathlib.Core.Bool.{Bool, true}
use mathlib.Core.List.Memᴰ
use mathlib.Core.List.{List, [], ◌∷◌, map, foldl, Memᴰ}
use mathlib.Core.Option.{Option, none, some}
use lib.ListN.{length, get_or, set}
use lib.Seq.{get_or-set_other}
use lib.Dec.{eqb}
use Rattle.rules.specs.Basics.{any}
use Rattle.rules.specs.Constants.{max_members}
use Rattle.rules.specs.Group.{Group, Member, known, member_at, place_of, revoking}
use Rattle.rules.specs.Event.{Event, Request, heartbeat, install, sweep, topic}
use Rattle.rules.specs.Refusals.{Kind, heartbeat_table, invalid, joins, kind_of, leaves, ordinary, sender_of, table}
use Rattle.rules.specs.Effects.{changed, due, effect, heartbeat_effect, install_effect, join_at, join_effect, join_place, joiner, leave_at, leave_effect, member_after, ordinary_at, overdue, overdue_places, remove, revokes, sweep_effect, sweep_of, topic_effect, with_target, with_topic}
use Rattle.rules.specs.Batches.{heard_at, removing, retimed, retimed_member, session_before}
use Rattle.rules.proofs.Lists.{not_is_false}
use Rattle.theorems.proofs.Cases.{eq_cases, if_cases, some_inj}
use Rattle.theorems.proofs.Picks.{keep_in, none_set, some_lt, up_to_in}
use Rattle.theorems.proofs.Retimed.{get_d_retimed}
use Rattle.theorems.proofs.Accepting.{AllFalse}
use Rattle.theorems.proofs.SingleHolder.{known_id}
use Rattle.theorems.proofs.Reachable.{member_known}
use Rattle.recovery.proofs.Elapsed.{session_elapsed}
use Rattle.recovery.proofs.Ticks.{set_retimed}
use Rattle.recovery.proofs.Judging.{at_silent}

-- the tick of an event that has one
abbrev pub AtTick : ℕ → Event → Type 0
AtTick t (heartbeat b) = b.tick ≡ t
AtTick t (sweep tick) = tick ≡ t
AtTick t (topic n id k) = Unit {0}
AtTick t (install rule e entries) = Unit {0}

-- ---- all members of one tick

abbrev Still : ℕ → List (Option Member) → Type 0
Still t ms = map (retimed_member t) ms ≡ ms

still_at : (t : ℕ) (ms : List (Option Member)) → Still t ms → (p : ℕ) → retimed_member t (get_or ms p none) ≡ get_or ms p none
still_at t ms h p = sym (get_d_retimed t ms p) ∙ ap (λ (l : List (Option Member)). get_or l p none) h

still_all : (t : ℕ) (ms : List (Option Member)) → ((p : ℕ) → retimed_member t (get_or ms p none) ≡ get_or ms p none) → Still t ms
still_all t [] h = refl
still_all t (m ∷ ms) h = λ i. h zero i ∷ still_all t ms (λ p. h (suc p)) i

still_set : (t : ℕ) (ms : List (Option Member)) (p : ℕ) (x : Option Member) → Still t ms → retimed_member t x ≡ x → Still t (set ms p x)
still_set t ms p x h k = set_retimed t ms p x ∙ (λ i. set (h i) p (k i))

still_none : (t : ℕ) → retimed_member t none ≡ none
unfolding retimed_member
still_none t = refl

still_some : (t : ℕ) (m : Member) → m.heard ≡ t → m.revoked_at ≡ t → retimed_member t (some m) ≡ some m
unfolding retimed_member
still_some t m a b =
    λ i. some (record { id = m.id; epoch = m.epoch; subscription = m.subscription; timeout = m.timeout; heard = sym a i; revoked_at = sym b i })

set_at : (t : ℕ) (m : Member) → retimed_member t (some m) ≡ some m → m.revoked_at ≡ t
unfolding retimed_member
set_at t m e = sym (ap (λ (n : Member). n.revoked_at) (some_inj e))

-- ---- the group

keeps : (t : ℕ) (g : Group) → g.tick ≡ t → Still t g.members → retimed t g ≡ g
unfolding retimed
keeps t g a b = λ i. record { epoch = g.epoch; target_epoch = g.target_epoch; tick = sym a i; topics = g.topics; members = b i; slots = g.slots }

its_tick : (t : ℕ) (g : Group) → retimed t g ≡ g → g.tick ≡ t
unfolding retimed
its_tick t g e = sym (ap (λ (h : Group). h.tick) e)

its_members : (t : ℕ) (g : Group) → retimed t g ≡ g → Still t g.members
unfolding retimed
its_members t g e = ap (λ (h : Group). h.members) e

-- members that are removed, one after another: who is left was there
removed : (t : ℕ) (ps : List ℕ) (g : Group) → ((q : ℕ) → (Memᴰ q ps → ⊥) → retimed_member t (get_or g.members q none) ≡ get_or g.members q none)
    → (q : ℕ) → retimed_member t (get_or (foldl remove g ps).members q none) ≡ get_or (foldl remove g ps).members q none
unfolding remove changed
removed t [] g h q = h q (λ m. Memᴰ.not-nil m)
removed t (p ∷ ps) g h q = removed t ps (remove g p) (λ r absent. eq_cases r p (λ e. here r e) (λ n. there r absent n)) q
  where
    here : (r : ℕ) → r ≡ p → retimed_member t (get_or (set g.members p none) r none) ≡ get_or (set g.members p none) r none
    here r e = rw (e, none_set g.members p) (still_none t)

    there : (r : ℕ) → (Memᴰ r ps → ⊥) → r ≢ p → retimed_member t (get_or (set g.members p none) r none) ≡ get_or (set g.members p none) r none
    there r absent n = rw (get_or-set_other g.members p r none none n) (h r (λ m. ⊎_elim n absent (Memᴰ.cases_cons m)))

module _ (t : ℕ) (g : Group) (still : retimed t g ≡ g) where
  heartbeat_keeps : (b : Request) → b.tick ≡ t → (k : Kind) → AllFalse (heartbeat_table g b k)
      → retimed t (heartbeat_effect g b k).group ≡ (heartbeat_effect g b k).group
  unfolding heartbeat_effect join_effect join_at joiner leave_effect leave_at remove ordinary_at member_after heartbeat_table changed
  heartbeat_keeps b now joins rows = keeps t _ now (still_set t g.members (join_place g b) _ (its_members t g still) (still_some t (joiner g b) now now))
  heartbeat_keeps b now leaves rows = keeps t _ now (still_set t g.members (place_of g b.id) none (its_members t g still) (still_none t))
  heartbeat_keeps b now invalid rows = keeps t _ now (still_set t g.members (place_of g b.id) none (its_members t g still) (still_none t))
  heartbeat_keeps b now (ordinary e) rows =
      let p = place_of g b.id in
      let s = sender_of g b in
      let there = (member_known g p b.id (known_id g b.id (not_is_false (known g b.id) rows.1.0))).0 in
      let before : s.member.revoked_at ≡ t = set_at t (member_at g p)
      (ap (retimed_member t) (sym there) ∙ still_at t g.members (its_members t g still) p ∙ there) in
      keeps t _ now (still_set t g.members p _ (its_members t g still) (still_some t (member_after g s b) now
      (if_cases (λ (n : ℕ). n ≡ t) (revokes g s b) (λ _. now) (λ _. before))))

  -- an accepted event at its tick leaves a group of one tick
  pub keeps_ticks : (e : Event) → AtTick t e → AllFalse (table g e) → retimed t (effect g e).group ≡ (effect g e).group
  unfolding effect table sweep_effect sweep_of changed topic_effect with_topic install_effect with_target
  keeps_ticks (heartbeat b) now rows = heartbeat_keeps b now (kind_of b.epoch) rows.1
  keeps_ticks (sweep tick) now rows =
      keeps t _ now (still_all t _ (removed t (overdue_places g tick) g (λ q _. still_at t g.members (its_members t g still) q)))
  keeps_ticks (topic n id k) now rows = keeps t _ (its_tick t g still) (its_members t g still)
  keeps_ticks (install rule e entries) now rows = keeps t _ (its_tick t g still) (its_members t g still)

  -- ---- the removal that is tried

  module _ (sized : length g.members ≤ max_members) (ps : List ℕ) where
    abbrev tried : Group
    tried = (removing t g ps).group

    -- who was not heard at t is due
    silent_due : (waits : Bool) (m : Member) → due t waits (heard_at (session_before t) (some m)) ≡ true
    unfolding due heard_at
    silent_due waits m = rw (session_elapsed t) refl

    silent_gone : (q : ℕ) (m : Member) → get_or g.members q none ≡ some m → any (eqb q) ps ≡ true → Memᴰ q (overdue_places tried t)
    unfolding overdue_places overdue removing
    silent_gone q m here named =
        let low : q < max_members = omega (arith, some_lt g.members q m here, sized) in
        keep_in (overdue tried t) _ q (up_to_in 0 max_members q (omega arith) (omega arith))
        (rw (at_silent (session_before t) ps 0 g.members q, zero-add q, named, here) (silent_due (any (revoking q) g.slots) m))

    left : (q : ℕ) → (Memᴰ q (overdue_places tried t) → ⊥) → retimed_member t (get_or tried.members q none) ≡ get_or tried.members q none
    unfolding removing heard_at
    left q absent =
        rw (at_silent (session_before t) ps 0 g.members q, zero-add q)
        (if_cases (λ (o : Option Member). retimed_member t o ≡ o) (any (eqb q) ps)
        (λ named. pick (get_or g.members q none) refl named) (λ _. still_at t g.members (its_members t g still) q))
      where
        pick : (o : Option Member) → get_or g.members q none ≡ o → any (eqb q) ps ≡ true
            → retimed_member t (heard_at (session_before t) o) ≡ heard_at (session_before t) o
        pick none e named = still_none t
        pick (some m) e named = absurd (absent (silent_gone q m e named))

    pub removing_keeps : retimed t (effect tried (sweep t)).group ≡ (effect tried (sweep t)).group
    unfolding effect sweep_effect sweep_of changed
    removing_keeps = keeps t _ refl (still_all t _ (removed t (overdue_places tried t) tried left))
