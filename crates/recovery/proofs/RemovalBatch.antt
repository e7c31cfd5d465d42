-- The batch of a sweep: its records 5 say which places are gone, and a sweep at the tick of reading removes just these if they alone were last heard a session
-- timeout before: all others have been heard at that tick, and no slot has been waiting since before it. A leave writes what a sweep of its place does.
use Rattle.std.specs.Prelude.{if◌then◌else◌}
use Prim.Native.Nat.{ℕ, zero, suc, ◌+◌, ◌≤◌, ◌<◌}
use native.Mathlib.Nat.{zero-add}
use native.Mathlib.Omega.{arith}
use mathlib.Core.Path.{◌≡◌, refl, sym, ap, ◌∙◌}
use mathlib.Core.Logic.{◌≢◌}
use mathlib.Core.Bool.{Bool, true, false, not, ◌&&◌, true≢false}
use mathlib.Core.List.{List, [], ◌∷◌, ◌++◌, foldl, map, append-nil}
use mathlib.Core.Option.{Option, none, some}
use lib.ListN.{get_or}
use lib.Dec.{eqb}
use borrow.Author.Tests.{eqb-true, eqb-false, lt-leb, ne_eqb}
use Rattle.rules.specs.Basics.{any, concat_map, empty, keep, up_to}
use Rattle.rules.specs.Constants.{max_members}
use Rattle.rules.specs.Group.{Group, Member, SlotState, known, place_of, revoking, targeted, vacant}
use Rattle.rules.specs.Records.{group_epoch, parts_of}
use Rattle.rules.specs.Event.{Request, sweep}
use Rattle.rules.specs.Refusals.{at_end, goes_back, heartbeat_table, leaves, table}
use Rattle.rules.specs.Effects.{Effect, changed, due, effect, gone_records, leave_at, leave_effect, leave_records, only_if, overdue, overdue_places, removal_records, remove, sweep_effect, sweep_epoch, sweep_of, sweep_records, vacated}
use Rattle.rules.specs.Batches.{Legible, candidate, heard_at, removing, retimed, retimed_member, session_before, target_epoch_in}
use Rattle.rules.proofs.Lists.{keep_ext, keep_has, not_is_false}
use Rattle.theorems.proofs.Cases.{if_cases}
use Rattle.theorems.proofs.Accepting.{AllFalse}
use Rattle.theorems.proofs.SingleHolder.{gone_removals, id_lt, known_id, member_of}
use Rattle.theorems.proofs.Removing.{is_there}
use Rattle.recovery.proofs.Elapsed.{none_elapsed, session_elapsed}
use Rattle.recovery.proofs.Ticks.{at_retimed, on_time, retimed_twice, set_retimed}
use Rattle.recovery.proofs.Judging.{Found, at_silent, found_as, removing_alike}

-- ---- who is due

-- of members who are all heard at t, one that was not heard for a session timeout, and one that was heard
due_silent : (t : ℕ) (o : Option Member) (waits c : Bool) → ((m : Member) → o ≡ some m → 0 < m.timeout) → (c ≡ true → vacant o ≡ false)
    → due t waits (if c then heard_at (session_before t) (retimed_member t o) else retimed_member t o) ≡ c
unfolding due heard_at retimed_member vacant
due_silent t none waits true pos there = absurd (true≢false (there refl))
due_silent t none waits false pos there = refl
due_silent t (some m) waits true pos there = rw (session_elapsed t) refl
due_silent t (some m) waits false pos there = rw (none_elapsed t, lt-leb m.timeout 0 (pos m refl)) (off waits)
  where
    off : (c : Bool) → c && false ≡ false
    off true = refl
    off false = refl

-- ---- the group after places were removed, ticks aside

remove_retimed : (t : ℕ) (g : Group) (p : ℕ) → retimed t (remove g p) ≡ remove (retimed t g) p
unfolding retimed remove changed retimed_member
remove_retimed t g p = λ i. record {
  epoch = g.epoch;
  target_epoch = g.target_epoch;
  tick = t;
  topics = g.topics;
  members = set_retimed t g.members p none i;
  slots = map (vacated p) g.slots;
}

removed_retimed : (t : ℕ) (ps : List ℕ) (g : Group) → retimed t (foldl remove g ps) ≡ foldl remove (retimed t g) ps
removed_retimed t [] g = refl
removed_retimed t (p ∷ ps) g = removed_retimed t ps (remove g p) ∙ ap (λ (x : Group). foldl remove x ps) (remove_retimed t g p)

removed_alike : (t : ℕ) (ps : List ℕ) (g h : Group) → retimed t g ≡ retimed t h → retimed t (foldl remove g ps) ≡ retimed t (foldl remove h ps)
removed_alike t ps g h a = removed_retimed t ps g ∙ ap (λ (x : Group). foldl remove x ps) a ∙ sym (removed_retimed t ps h)

-- ---- the records

-- no record 6
no_target_epoch : (slots : List SlotState) (ps : List ℕ) (c : Bool) (e : ℕ) → target_epoch_in (sweep_records slots ps c e) ≡ none
unfolding sweep_records removal_records gone_records only_if parts_of
no_target_epoch slots [] true e = refl
no_target_epoch slots [] false e = refl
no_target_epoch slots (p ∷ ps) c e = pick (any (targeted p) slots) (no_target_epoch slots ps c e)
  where
    pick : (b : Bool) → target_epoch_in (concat_map (removal_records slots) ps ++ only_if c (group_epoch e)) ≡ none
        → target_epoch_in ((gone_records p b ++ concat_map (removal_records slots) ps) ++ only_if c (group_epoch e)) ≡ none
    pick true h = h
    pick false h = h

some_gone : (g : Group) (ps : List ℕ) (tick : ℕ) → empty (sweep_of g ps tick).records ≡ false → empty ps ≡ false
unfolding sweep_of sweep_records only_if
some_gone g [] tick z = absurd (true≢false z)
some_gone g (p ∷ ps) tick z = refl

-- ---- a removal of the places that a test picks

module _ (t : ℕ) (g : Group) (positive : (p : ℕ) (m : Member) → get_or g.members p none ≡ some m → 0 < m.timeout) (f : ℕ → Bool)
    (there : (p : ℕ) → f p ≡ true → vacant (get_or g.members p none) ≡ false) where
  abbrev places : List ℕ
  places = keep f (up_to 0 max_members)

  abbrev stage : Group
  stage = (removing t (retimed t g) places).group

  overdue_is : (p : ℕ) → p < max_members → overdue stage t p ≡ f p
  unfolding overdue removing retimed
  overdue_is p l =
      rw (at_silent (session_before t) places 0 (retimed t g).members p, zero-add p, at_retimed t g p, keep_has f max_members 0 p (omega arith) (omega arith))
      (due_silent t (get_or g.members p none) (any (revoking p) g.slots) (f p) (positive p) (there p))

  overdue_places_lem : overdue_places stage t ≡ places
  unfolding overdue_places
  overdue_places_lem = keep_ext (overdue stage t) f 0 max_members (λ p _ l. overdue_is p (omega arith))

  candidate_is : (tick : ℕ) → empty places ≡ false → candidate t (retimed t g) (sweep_of g places tick).records ≡ some (removing t (retimed t g) places)
  unfolding candidate sweep_of sweep_records
  candidate_is tick h =
      let c = not (empty places) && not (at_end g) in
      rw (no_target_epoch g.slots places c (sweep_epoch g places), gone_removals g places c (sweep_epoch g places), h) refl

  in_time : AllFalse (table stage (sweep t))
  unfolding table goes_back removing
  in_time = (on_time t g, tt)

  effect_is : effect stage (sweep t) ≡ sweep_of stage places t
  unfolding effect sweep_effect
  effect_is = ap (λ (ps : List ℕ). sweep_of stage ps t) overdue_places_lem

  same_records : (tick : ℕ) → (sweep_of stage places t).records ≡ (sweep_of g places tick).records
  unfolding sweep_of sweep_epoch at_end removing retimed
  same_records tick = refl

  same_group : (tick u : ℕ) → retimed u (sweep_of stage places t).group ≡ retimed u (sweep_of g places tick).group
  unfolding sweep_of changed sweep_epoch removing retimed
  same_group tick u =
      let a = removed_alike u places stage g (removing_alike u t (retimed t g) places ∙ retimed_twice t u g) in
      λ i. record { epoch = sweep_epoch g places; target_epoch = g.target_epoch; tick = u; topics = g.topics; members = (a i).members; slots = (a i).slots }

  removal_found : (tick : ℕ) → empty places ≡ false → Found t (retimed t g) (sweep_of g places tick).records (sweep_of g places tick).group
  unfolding removing
  removal_found tick h = record {
    witness = removing t (retimed t g) places;
    found = candidate_is tick h;
    typed = tt;
    rows = in_time;
    records = ap (λ (e : Effect). e.records) effect_is ∙ same_records tick;
    group = λ u. ap (λ (e : Effect). retimed u e.group) effect_is ∙ same_group tick u;
  }

pub sweep_found : (t : ℕ) (g : Group) → Legible g → (tick : ℕ) → empty (sweep_effect g tick).records ≡ false
    → Found t (retimed t g) (sweep_effect g tick).records (sweep_effect g tick).group
unfolding sweep_effect overdue_places overdue
sweep_found t g v tick some' =
    removal_found t g (λ p m e. (v.timeouts p m e).0) (overdue g tick) (λ p. is_there (get_or g.members p none) tick (any (revoking p) g.slots))
    tick (some_gone g (overdue_places g tick) tick some')

-- ---- a leave is a sweep of its place

keep_above : (p n k : ℕ) → p < n → keep (λ q. eqb q p) (up_to n k) ≡ []
unfolding keep up_to
keep_above p n zero h = refl
keep_above p n (suc k) h = rw (ne_eqb n p (λ e. omega arith)) (keep_above p (suc n) k (omega arith))

keep_one : (p n k : ℕ) → n ≤ p → p < n + k → keep (λ q. eqb q p) (up_to n k) ≡ p ∷ []
unfolding keep up_to
keep_one p n zero h l = absurd (omega arith)
keep_one p n (suc k) h l = if_cases (λ (r : List ℕ). r ≡ p ∷ []) (eqb n p)
    (λ e. rw (eqb-true n p e, keep_above p (suc p) k (omega arith)) refl)
    (λ e. let other : n ≢ p = eqb-false n p e in keep_one p (suc n) k (omega arith) (omega arith))

module _ (g : Group) (p tick : ℕ) where
  leave_records_lem : (sweep_of g (p ∷ []) tick).records ≡ (leave_at g p tick).records
  unfolding sweep_of leave_at sweep_records leave_records removal_records sweep_epoch
  leave_records_lem = rw (append-nil (gone_records p (any (targeted p) g.slots))) refl

  leave_group : (u : ℕ) → retimed u (sweep_of g (p ∷ []) tick).group ≡ retimed u (leave_at g p tick).group
  unfolding sweep_of leave_at sweep_epoch
  leave_group u = refl

pub leave_found : (t : ℕ) (g : Group) → Legible g → (b : Request) → AllFalse (heartbeat_table g b leaves)
    → Found t (retimed t g) (leave_effect g b).records (leave_effect g b).group
unfolding leave_effect heartbeat_table vacant
leave_found t g v b rows =
    let p = place_of g b.id in
    let id = known_id g b.id (not_is_false (known g b.id) rows.1.0) in
    let here = (member_of g.members p b.id id).1 in
    let e = keep_one p 0 max_members (omega arith) (omega (arith, id_lt g.members p b.id id, v.places)) in
    let r = removal_found t g (λ q m h. (v.timeouts q m h).0) (λ q. eqb q p)
    (λ q h. ap (λ (x : ℕ). vacant (get_or g.members x none)) (eqb-true q p h) ∙ ap vacant here) b.tick (ap empty e) in
    found_as t (retimed t g) _ _ _ _ r (ap (λ (ps : List ℕ). (sweep_of g ps b.tick).records) e ∙ leave_records_lem g p b.tick)
    (λ u. ap (λ (ps : List ℕ). retimed u (sweep_of g ps b.tick).group) e ∙ leave_group g p b.tick u)
