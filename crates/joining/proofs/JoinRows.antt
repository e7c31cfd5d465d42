-- What a join comes to. The rows of its table, each law under the results of the rows before it; the place that a joiner takes; and the effect
-- that is carried out, whose records, group and answer are those of the values that the code works out. Assumes nothing.
use Rattle.std.specs.Prelude.{None, Some, if◌then◌else◌, is_some}
use Rattle.std.specs.Prelude as P
use Rattle.std.proofs.Common.{◌≡◌, ℕ, suc, ne_eqb, Bool, true, false, not, ◌&&◌, ◌||◌, List, [], ◌∷◌, map, length, get_or, set, refl, sym, ap, ◌∙◌, arith}
use Rattle.std.proofs.Math.Option.{none, some}
use Rattle.rules.specs.Basics.{any, find, default, given, empty}
use Rattle.rules.specs.Constants.{heartbeat_interval}
use Rattle.rules.specs.Group as G
use Rattle.rules.specs.Group.{is_member, known, place_of, vacant, lowest_free, targeted, nobody}
use Rattle.rules.specs.Event as E
use Rattle.rules.specs.Refusals.{joins, first_of, goes_back, zero_id, malformed, lacking, at_end, new_timeout, heartbeat_table}
use Rattle.rules.specs.Effects.{Effect, changed, vacated, metadata_of, join_place, joiner, join_records, join_at, join_effect, heartbeat_effect}
use Rattle.rules.specs.Step.{carry_out}
use Rattle.rules.specs.declared.Answer.TheVariants.{Assigned}
use Rattle.rules.specs.declared.Place.{Place}
use Rattle.rules.specs.declared.Refusal.TheVariants.{Clock, InvalidRequest, GroupMaxSizeReached, EpochEnd}
use Rattle.rules.proofs.Lists.{or_false, find_holds}
use Rattle.tables.specs.Advances.{owned_of}
use Rattle.tables.specs.View.{slots_in}
use Rattle.group.specs.Columns.{view_members, seat_at}
use Rattle.group.specs.Members.{joined_as}
use Rattle.group.specs.Searches.{Hit}
use Rattle.group.specs.View.{seated, view_seat, view}
use Rattle.group.specs.declared.Group.{Group}
use Rattle.group.specs.declared.Seat.{Seat}
use Rattle.group.proofs.Columns.{seat_is}
use Rattle.group.proofs.Finding.{found_used, found_same}
use Rattle.records.specs.Views.{view_member_metadata}
use Rattle.records.specs.declared.kinds.MemberMetadata.{MemberMetadata}
use Rattle.events.specs.declared.Request.{Request}
use Rattle.events.specs.Outcomes.{request_of, given_subscription, carried, step_as}
use Rattle.events.proofs.Carrying.{denied}
use Rattle.events.proofs.Lent.{group_changed}
use Rattle.joining.specs.Joining.{has_place, place_for, IsOf, metadata_in}

-- ---- the rows

-- row 42, the second part, by what a request gives
pub lacks : (given_topics : Bool) (topics : ℕ) (untimed given_list : Bool) (owned : List ℕ)
    → (((not given_topics || untimed) || not given_list) || not (P.nat_eq (length owned) 0))
    ≡ (not (given (given_subscription given_topics topics)) || (untimed || (not (given (owned_of given_list owned)) || not (empty (default [] (owned_of given_list owned))))))
lacks false topics t l owned = refl
lacks true topics true l owned = refl
lacks true topics false false owned = refl
lacks true topics false true [] = refl
lacks true topics false true (s ∷ owned) = ap not (ne_eqb (suc (length owned)) 0 (λ e. omega arith))

-- `has_place`, as the table says it
no_place : (k v : Bool) → (k || v) ≡ false → (not k && not v) ≡ true
no_place true v h = sym h
no_place false v h = ap not h

some_place : (k v : Bool) → (k || v) ≡ true → (not k && not v) ≡ false
some_place true v h = refl
some_place false v h = ap not h

module _ (g : G.Group) (b : E.Request) (buf l : List ℕ) where
  pub row_clock : goes_back g b.tick ≡ true → step_as joins g b buf l ≡ denied Clock g buf l
  unfolding step_as first_of carry_out
  row_clock h = rw h

  module _ (h : goes_back g b.tick ≡ false) where
    pub row_invalid : (malformed b || lacking b) ≡ true → step_as joins g b buf l ≡ denied InvalidRequest g buf l
    unfolding step_as first_of carry_out heartbeat_table
    row_invalid z = rw (h, z)

    module _ (z : (malformed b || lacking b) ≡ false) where
      pub row_full : has_place g.members b.id ≡ false → step_as joins g b buf l ≡ denied GroupMaxSizeReached g buf l
      unfolding step_as first_of carry_out heartbeat_table known
      row_full f = rw (h, z, no_place _ _ f)

      module _ (f : has_place g.members b.id ≡ true) where
        pub row_end : at_end g ≡ true → step_as joins g b buf l ≡ denied EpochEnd g buf l
        unfolding step_as first_of carry_out heartbeat_table known
        row_end e = rw (h, z, some_place _ _ f, e)

        pub join_step : at_end g ≡ false → step_as joins g b buf l ≡ carried g (join_at g (place_for g.members b.id) (any (is_member b.id) g.members) b) buf l
        unfolding step_as first_of carry_out heartbeat_table carried heartbeat_effect join_effect join_place known place_of lowest_free
        join_step e = rw (h, z, some_place _ _ f, e)

-- the ID of a join that no row 42 refuses
pub named_id : (b : E.Request) → (malformed b || lacking b) ≡ false → zero_id b.id ≡ false
unfolding malformed
named_id b h = (or_false (zero_id b.id) _ (or_false _ (lacking b) h).0).0

-- ---- the place

vacant_seat : (r : P.Option Seat) → vacant (view_seat r) ≡ true → r ≡ None
unfolding vacant
vacant_seat None h = refl
vacant_seat (Some s) h = cc

-- the seat at the place that is taken tells whether the ID is known, and is that of its member
pub taken : (ms id : List ℕ) {p : ℕ} → Hit (has_place (view_members ms) id) (place_for (view_members ms) id) p
    → (is_some (seat_at ms p) ≡ any (is_member id) (view_members ms)) × IsOf id (seat_at ms p)
taken ms id {p} h = go (any (is_member id) (view_members ms)) refl h
  where
    go : (k : Bool) → any (is_member id) (view_members ms) ≡ k → Hit (k || any vacant (view_members ms)) (if k then find (is_member id) (view_members ms) else find vacant (view_members ms)) p
        → (is_some (seat_at ms p) ≡ k) × IsOf id (seat_at ms p)
    go true e i =
        let own : Hit (any (is_member id) (view_members ms)) (find (is_member id) (view_members ms)) p = record { found = e; first = i.first; below = i.below } in
        rw (found_used ms id own) (refl, found_same ms id own)
    go false e i =
        let v : vacant (view_seat (seat_at ms p)) ≡ true = ap vacant (seat_is ms p ∙ ap (λ (q : ℕ). get_or (view_members ms) q none) (sym i.first)) ∙ find_holds vacant (view_members ms) none i.found in
        rw (vacant_seat (seat_at ms p) v) (refl, tt)

-- ---- carried out

-- e is the group epoch raised, m record 5, and `retargets` tells whether a known member loses a target
module _ (g : Group) (p : Place) (again : Bool) (b : Request) (owned : List ℕ) {e : ℕ} {m : MemberMetadata} {retargets : Bool}
    (he : e ≡ suc g.head.epoch) (hm : m ≡ metadata_in b p) (hr : retargets ≡ (again && any (targeted p.0) (slots_in g.tables))) where
  abbrev join : Effect
  join = join_at (view g) p.0 again (request_of b owned)

  pub join_records_lem : join_records retargets (view_member_metadata m) e ≡ join.records
  unfolding join_at metadata_of joiner view request_of new_timeout nobody view_member_metadata
  join_records_lem = λ i. join_records (hr i) (view_member_metadata (hm i)) (he i)

  pub join_answer : Assigned (record { epoch = e; interval = heartbeat_interval; count = 0 }) ≡ join.answer
  unfolding join_at view
  join_answer = ap (λ (x : ℕ). Assigned (record { epoch = x; interval = heartbeat_interval; count = 0 })) he

  joiner_is : {seat : Seat} → seat ≡ joined_as m.id e m.subscription m.timeout b.tick → seated seat ≡ joiner (view g) (request_of b owned)
  unfolding joiner view request_of new_timeout nobody
  joiner_is q = ap seated q ∙ (λ i. record { id = (hm i).id; epoch = he i; subscription = (hm i).subscription; timeout = (hm i).timeout; heard = b.tick; revoked_at = b.tick })

  pub join_group : {seat : Seat} (g' : Group) → seat ≡ joined_as m.id e m.subscription m.timeout b.tick → g'.head ≡ record { epoch = e; target_epoch = g.head.target_epoch; tick = b.tick } → g'.topics ≡ g.topics
      → view_members g'.members.cells ≡ set (view_members g.members.cells) p.0 (some (seated seat)) → slots_in g'.tables ≡ map (vacated p.0) (slots_in g.tables) → view g' ≡ join.group
  unfolding join_at view request_of
  join_group g' q h ts ms ss =
      group_changed g g' e b.tick h ts ms ss
      ∙ (λ i. changed (view g) (he i) b.tick (set (view_members g.members.cells) p.0 (some (joiner_is q i))) (map (vacated p.0) (slots_in g.tables)))
