-- The batch of a join: its record 5 says the request, and that E is the new G tells it from an ordinary heartbeat's.
use Prim.Native.Nat.{ℕ, suc}
use mathlib.Core.Path.{◌≡◌, refl, sym, ap, ◌∙◌}
use mathlib.Core.Bool.{Bool, true, false, not, ◌&&◌, ◌||◌}
use mathlib.Core.List.{List, map}
use mathlib.Core.Option.{Option, some}
use lib.ListN.{set}
use borrow.Author.Tests.{eq-eqb}
use Rattle.rules.specs.Basics.{any, given}
use Rattle.rules.specs.Group.{Group, Member, known, nobody, targeted}
use Rattle.rules.specs.Records.{MemberMetadata, parts_of}
use Rattle.rules.specs.Event.{Request, heartbeat}
use Rattle.rules.specs.Refusals.{bad_list, bad_timeout, heartbeat_table, is_slot_set, joins, kind_of, lacking, malformed, new_timeout, no_timeout, table, zero_id}
use Rattle.rules.specs.Effects.{changed, effect, heartbeat_effect, join_at, join_effect, join_place, join_records, joined_at, joiner, metadata_of, only_if, vacated}
use Rattle.rules.specs.Ledger.{gone}
use Rattle.rules.specs.Course.{Typed}
use Rattle.rules.specs.Batches.{candidate, entering, is_join, joining, retimed, retimed_member, tried}
use Rattle.rules.proofs.Lists.{or_false}
use Rattle.theorems.proofs.Accepting.{AllFalse}
use Rattle.theorems.proofs.Bounds.{joiner_in_range}
use Rattle.theorems.proofs.Emptying.{timeout_given_lem}
use Rattle.recovery.proofs.Ticks.{alike_members, end_retimed, free_retimed, full_retimed, known_retimed, members_twice, on_time, place_retimed, set_retimed}
use Rattle.recovery.proofs.Judging.{Found}

join_candidate : (t : ℕ) (g : Group) (m : MemberMetadata) (e : ℕ) (retargets : Bool)
    → candidate t g (join_records retargets m e) ≡ some (tried g (heartbeat (joining t m)))
unfolding candidate join_records joined_at only_if parts_of entering is_join gone
join_candidate t g m e true = rw (eq-eqb e e refl) refl
join_candidate t g m e false = rw (eq-eqb e e refl) refl

module _ (t : ℕ) (g : Group) (b : Request) where
  abbrev told : MemberMetadata
  told = metadata_of (join_place g b) (joiner g b)

  abbrev again : Request
  again = joining t told

  same_place : join_place (retimed t g) again ≡ join_place g b
  unfolding join_place joining metadata_of joiner
  same_place = rw (known_retimed t g b.id, place_retimed t g b.id, free_retimed t g) refl

  well_formed : malformed b || lacking b ≡ false → malformed again || lacking again ≡ false
  unfolding malformed lacking joining metadata_of joiner new_timeout bad_list is_slot_set no_timeout
  well_formed e =
      let m = or_false (malformed b) (lacking b) e in
      let z = or_false (zero_id b.id) _ m.0 in
      let range = (or_false (bad_timeout b.timeout) _ z.1).0 in
      let rest = (or_false (not (given b.subscription)) _ m.1).1 in
      let is = timeout_given_lem b.timeout nobody.timeout (or_false (no_timeout b.timeout) _ rest).0 in
      rw (z.0, ← is, range) refl

  join_rows : AllFalse (heartbeat_table g b joins) → AllFalse (table (retimed t g) (heartbeat again))
  unfolding table heartbeat_table kind_of joining metadata_of joiner
  join_rows rows =
      (on_time t g, (well_formed rows.0, (rw (known_retimed t g b.id, full_retimed t g) rows.1.0, (end_retimed t g ∙ rows.1.1.0, tt))))

  join_records_lem : (effect (retimed t g) (heartbeat again)).records ≡ (join_effect g b).records
  unfolding effect heartbeat_effect kind_of joining join_effect join_at metadata_of joiner new_timeout retimed
  join_records_lem = rw (same_place, known_retimed t g b.id) refl

  join_group : (u : ℕ) → retimed u (effect (retimed t g) (heartbeat again)).group ≡ retimed u (join_effect g b).group
  unfolding effect heartbeat_effect kind_of joining join_effect join_at metadata_of joiner new_timeout changed retimed retimed_member
  join_group u =
      let p = join_place g b in
      let joined = some (joiner (retimed t g) again) in
      rw same_place
      (alike_members u (changed (retimed t g) (suc g.epoch) t (set (map (retimed_member t) g.members) p joined) (map (vacated p) g.slots))
      (join_effect g b).group refl refl refl
      (set_retimed u (map (retimed_member t) g.members) p joined
      ∙ ap (λ (l : List (Option Member)). set l p (retimed_member u (some (joiner g b)))) (members_twice t u g.members)
      ∙ sym (set_retimed u g.members p (some (joiner g b))))
      refl)

  pub join_found : Typed (heartbeat b) → AllFalse (heartbeat_table g b joins) → Found t (retimed t g) (join_effect g b).records (join_effect g b).group
  unfolding join_effect join_at tried joining metadata_of joiner heartbeat_table
  join_found typed rows = record {
    witness = tried (retimed t g) (heartbeat again);
    found = join_candidate t (retimed t g) told (suc g.epoch) (known g b.id && any (targeted (join_place g b)) g.slots);
    typed = (typed.0, (joiner_in_range g b rows.0 typed.1).subscription);
    rows = join_rows rows;
    records = join_records_lem;
    group = join_group;
  }
