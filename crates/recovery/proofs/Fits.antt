-- What an accepted event writes is legal: its records are read back, each is of 32 bits and speaks of places that there are. And the candidate itself is
-- typed in 32 bits.
use Prim.Native.Nat.{ℕ, zero, suc, ◌+◌, ◌≤◌, ◌<◌}
use native.Mathlib.Omega.{arith}
use mathlib.Core.Path.{◌≡◌, refl, ap, ◌∙◌, subst}
use mathlib.Core.Bool.{Bool, true, false, ◌&&◌, true≢false, false≢true}
use mathlib.Core.List.{List, [], ◌∷◌, ◌++◌}
use mathlib.Core.Option.{Option, none, some}
use lib.IntN.{ℤ, pos, negsuc}
use lib.ListN.{length}
use lib.Dec.{eqb, ltb}
use borrow.Author.Tests.{eq-eqb, eqb-true, le-leb, lt-ltb, ltb-false}
use Rattle.rules.specs.Basics.{all, any, concat_map, default, keep, up_to}
use Rattle.rules.specs.Constants.{id_length, last_epoch, max_members, max_partitions, max_timeout, number_range, subscription_count, topic_count}
use Rattle.rules.specs.Group.{Group, SlotState, known, place_of, targeted}
use Rattle.rules.specs.Records.{CurrentAssignment, MemberMetadata, Record, TargetAssignment, TopicMetadata, current_gone, current_is, fits, group_epoch, member_gone, member_is, numbers_of, placed, places_of, target_epoch, target_is, topic_is}
use Rattle.rules.specs.Event.{Event, Request, heartbeat, install, sweep, topic}
use Rattle.rules.specs.Refusals.{Kind, bad_timeout, first_of, heartbeat_table, invalid, is_epoch, joins, kind_of, lacking, leaves, malformed, ordinary, sender_of, table}
use Rattle.rules.specs.Effects.{changed, current_after, current_of, effect, gone_records, group_epoch_after, heartbeat_effect, install_effect, install_records, join_at, join_effect, join_place, join_records, joined_at, joiner, leave_at, leave_effect, leave_records, member_after, metadata_of, no_target, only_if, ordinary_at, ordinary_records, overdue, overdue_places, removal_records, retargeted, sweep_effect, sweep_of, sweep_records, target_record, topic_effect, topic_records, with_topic}
use Rattle.rules.specs.Course.{Subscribing, Typed}
use Rattle.rules.specs.Batches.{Legible, is_signed, is_typed}
use Rattle.rules.proofs.Lists.{not_is_false, or_false}
use Rattle.theorems.proofs.Cases.{if_cases}
use Rattle.theorems.proofs.Accepting.{AllFalse, rows_false}
use Rattle.theorems.proofs.SingleHolder.{join_place_lem}
use Rattle.theorems.proofs.Bounds.{accepted_last, heartbeat_last, joiner_in_range, timeout_good}
use Rattle.theorems.proofs.Untouched.{good_topic}
use Rattle.theorems.proofs.Legible.{sender_in_range, sender_stays_in_range}
use Rattle.theorems.proofs.Readable.{accepted_read}
use Rattle.theorems.proofs.Sizes.{accepted_fits, known_place}
use Rattle.recovery.proofs.Judging.{Legal, Natural}

-- ---- one record

abbrev sound : Record → Bool
sound r = fits r && placed r

number_fits : (n : ℕ) → n ≤ last_epoch → ltb n number_range ≡ true
number_fits n h = lt-ltb n number_range (omega arith)

epoch_sound : (e : ℕ) → e ≤ last_epoch → sound (group_epoch e) ≡ true
unfolding fits placed numbers_of places_of
epoch_sound e h = rw (number_fits e h) refl

target_epoch_sound : (e : ℕ) → e ≤ last_epoch → sound (target_epoch e) ≡ true
unfolding fits placed numbers_of places_of
target_epoch_sound e h = rw (number_fits e h) refl

topic_sound : (t : TopicMetadata) → t.number < topic_count → t.count ≤ max_partitions → sound (topic_is t) ≡ true
unfolding fits placed numbers_of places_of
topic_sound t h k = rw (number_fits t.number (omega arith), number_fits t.count (omega arith)) refl

member_sound : (m : MemberMetadata) → m.place < max_members → m.timeout ≤ max_timeout → m.subscription < subscription_count → sound (member_is m) ≡ true
unfolding fits placed numbers_of places_of
member_sound m h k l =
    rw (
      number_fits m.place (omega arith),
      number_fits m.timeout (omega arith),
      number_fits m.subscription (omega arith),
      lt-ltb m.place max_members h,
    ) refl

member_gone_sound : (p : ℕ) → p < max_members → sound (member_gone p) ≡ true
unfolding fits placed numbers_of places_of
member_gone_sound p h = rw (number_fits p (omega arith), lt-ltb p max_members h) refl

current_gone_sound : (p : ℕ) → p < max_members → sound (current_gone p) ≡ true
unfolding fits placed numbers_of places_of
current_gone_sound p h = rw (number_fits p (omega arith), lt-ltb p max_members h) refl

target_sound : (t : TargetAssignment) → t.place < max_members → sound (target_is t) ≡ true
unfolding fits placed numbers_of places_of
target_sound t h = rw (number_fits t.place (omega arith), lt-ltb t.place max_members h) refl

current_sound : (c : CurrentAssignment) → c.place < max_members → c.epoch ≤ last_epoch → sound (current_is c) ≡ true
unfolding fits placed numbers_of places_of
current_sound c h k = rw (number_fits c.place (omega arith), number_fits c.epoch k, lt-ltb c.place max_members h) refl

-- ---- lists of records

abbrev Sound : List Record → Type 0
Sound [] = Unit {0}
Sound (r ∷ rs) = (sound r ≡ true) × Sound rs

all_sound : (rs : List Record) → Sound rs → all sound rs ≡ true
all_sound [] h = refl
all_sound (r ∷ rs) h = rw h.0 (all_sound rs h.1)

both : (a b : List Record) → Sound a → Sound b → Sound (a ++ b)
both [] b h k = k
both (r ∷ rs) b h k = (h.0, both rs b h.1 k)

only : (c : Bool) (r : Record) → sound r ≡ true → Sound (only_if c r)
unfolding only_if
only true r h = (h, tt)
only false r h = tt

join_sound : (retargets : Bool) (m : MemberMetadata) (e : ℕ) → m.place < max_members → m.timeout ≤ max_timeout → m.subscription < subscription_count
    → e ≤ last_epoch → Sound (join_records retargets m e)
unfolding join_records joined_at
join_sound retargets m e p t s l =
    both (only_if retargets (no_target m.place)) _ (only retargets (no_target m.place) (target_sound _ p))
    (member_sound m p t s, (epoch_sound e l, (current_sound (joined_at m.place e) p l, tt)))

gone_sound : (p : ℕ) (retargets : Bool) → p < max_members → Sound (gone_records p retargets)
unfolding gone_records
gone_sound p retargets h = (
  current_gone_sound p h,
  both (only_if retargets (no_target p)) (member_gone p ∷ []) (only retargets (no_target p) (target_sound _ h)) (member_gone_sound p h, tt),
)

removals_sound : (f : ℕ → Bool) (ss : List SlotState) (n k : ℕ) → n + k ≤ max_members → Sound (concat_map (removal_records ss) (keep f (up_to n k)))
unfolding keep up_to removal_records
removals_sound f ss n zero h = tt
removals_sound f ss n (suc k) h =
    let rest = removals_sound f ss (suc n) k (omega arith) in
    if_cases (λ ps. Sound (concat_map (removal_records ss) ps)) (f n)
    (λ _. both (gone_records n (any (targeted n) ss)) _ (gone_sound n (any (targeted n) ss) (omega arith)) rest) (λ _. rest)

targets_sound : (before after : List SlotState) (n k : ℕ) → n + k ≤ max_members → Sound (concat_map (target_record before after) (up_to n k))
unfolding up_to target_record
targets_sound before after n zero h = tt
targets_sound before after n (suc k) h =
    both (target_record before after n) _ (only _ _ (target_sound _ (omega arith))) (targets_sound before after (suc n) k (omega arith))

ordinary_sound : (updates : Bool) (m : MemberMetadata) (raises : Bool) (e : ℕ) (moves : Bool) (c : CurrentAssignment)
    → m.place < max_members → m.timeout ≤ max_timeout → m.subscription < subscription_count → e ≤ last_epoch → c.place < max_members → c.epoch ≤ last_epoch
    → Sound (ordinary_records updates m raises e moves c)
unfolding ordinary_records
ordinary_sound updates m raises e moves c p t s l q k =
    both (only_if updates (member_is m)) _ (only updates (member_is m) (member_sound m p t s))
    (both (only_if raises (group_epoch e)) _ (only raises (group_epoch e) (epoch_sound e l)) (only moves (current_is c) (current_sound c q k)))

-- ---- typed in 32 bits

signed_timeout : (z : ℤ) → bad_timeout z ≡ false → is_signed z ≡ true
unfolding bad_timeout is_signed
signed_timeout (pos n) e = let h = ltb-false max_timeout n (or_false (eqb n 0) (ltb max_timeout n) e).1 in le-leb n last_epoch (omega arith)
signed_timeout (negsuc zero) e = refl
signed_timeout (negsuc (suc n)) e = absurd (true≢false e)

test_subscription : (o : Option ℕ) → Subscribing o → ltb (default 0 o) subscription_count ≡ true
test_subscription none h = refl
test_subscription (some n) h = lt-ltb n subscription_count h

test_heartbeat : (b : Request) → Typed (heartbeat b) → is_signed b.epoch ≡ true → is_signed b.timeout ≡ true → is_typed (heartbeat b) ≡ true
unfolding is_typed
test_heartbeat b typed e t = rw (eq-eqb (length b.id) id_length typed.0, test_subscription b.subscription typed.1, e, t) refl

signed_epoch : (z : ℤ) (e : ℕ) → is_epoch z e ≡ true → e ≤ last_epoch → is_signed z ≡ true
unfolding is_epoch is_signed
signed_epoch (pos n) e q h = let same = eqb-true n e q in le-leb n last_epoch (omega arith)
signed_epoch (negsuc n) e q h = absurd (false≢true q)

signed_natural : (n : ℕ) → n ≤ last_epoch → is_signed (pos n) ≡ true
unfolding is_signed
signed_natural n h = le-leb n last_epoch h

-- ---- an accepted event

module _ (g : Group) (v : Legible g) where
  heartbeat_sound : (b : Request) → Typed (heartbeat b) → (k : Kind) → AllFalse (heartbeat_table g b k) → Sound (heartbeat_effect g b k).records
  unfolding heartbeat_effect join_effect join_at metadata_of leave_effect leave_at leave_records ordinary_at member_after current_after current_of heartbeat_table changed
  heartbeat_sound b typed joins rows =
      let r = joiner_in_range g b rows.0 typed.1 in
      join_sound _ (metadata_of (join_place g b) (joiner g b)) _
      (omega (arith, v.places, (join_place_lem g b rows.1.0).inside)) r.timeout r.subscription (heartbeat_last g v.last b joins rows)
  heartbeat_sound b typed leaves rows =
      both (gone_records (place_of g b.id) _) _
      (gone_sound (place_of g b.id) _ (known_place g b.id v.places (not_is_false (known g b.id) rows.1.0)))
      (only _ (group_epoch _) (epoch_sound _ (heartbeat_last g v.last b leaves rows)))
  heartbeat_sound b typed invalid rows = absurd (true≢false rows.0)
  heartbeat_sound b typed (ordinary e) rows =
      let r = sender_stays_in_range g v b e typed rows in
      let p = known_place g b.id v.places (not_is_false (known g b.id) rows.1.0) in
      ordinary_sound _ (metadata_of (place_of g b.id) (member_after g (sender_of g b) b)) _ (group_epoch_after g (sender_of g b) b) _
      (current_after g (sender_of g b) b) p r.timeout r.subscription (heartbeat_last g v.last b (ordinary e) rows) p (omega (arith, r.epoch, v.last))

  records_sound : (e : Event) → Typed e → AllFalse (table g e) → Sound (effect g e).records
  unfolding effect table sweep_effect sweep_of sweep_records overdue_places changed topic_effect topic_records with_topic install_effect install_records
  records_sound (heartbeat b) typed rows = heartbeat_sound b typed (kind_of b.epoch) rows.1
  records_sound (sweep tick) typed rows =
      both (concat_map (removal_records g.slots) (overdue_places g tick)) _ (removals_sound (overdue g tick) g.slots 0 max_members (omega arith))
      (only _ (group_epoch _) (epoch_sound _ (accepted_last g (sweep tick) v.last rows)))
  records_sound (topic t id n) typed rows =
      let good = good_topic g t n id rows.0 in
      both (only_if _ (topic_is _)) _ (only _ (topic_is _) (topic_sound (record { number = t; id = id; count = n }) good.number good.most))
      (only _ (group_epoch _) (epoch_sound _ (accepted_last g (topic t id n) v.last rows)))
  records_sound (install rule e entries) typed rows =
      both (concat_map (target_record g.slots (retargeted g.slots entries)) (up_to 0 max_members)) _
      (targets_sound g.slots (retargeted g.slots entries) 0 max_members (omega arith))
      (target_epoch_sound g.epoch v.last, tt)

  pub accepted_legal : (e : Event) → first_of (table g e) ≡ none → Typed e → Legal (effect g e).records
  accepted_legal e rows typed = record {
    back = accepted_read g e rows typed v.wide;
    fit = all_sound (effect g e).records (records_sound e typed (rows_false g e rows));
    short = (accepted_fits g e rows typed v).records;
  }

  heartbeat_typed : (b : Request) → Typed (heartbeat b) → (n : ℕ) → b.epoch ≡ pos n → AllFalse (heartbeat_table g b (kind_of (pos n)))
      → is_typed (heartbeat b) ≡ true
  unfolding kind_of heartbeat_table
  heartbeat_typed b typed zero q rows =
      test_heartbeat b typed (ap is_signed q ∙ signed_natural 0 (omega arith))
      (signed_timeout b.timeout (timeout_good b (or_false (malformed b) (lacking b) rows.0).0))
  heartbeat_typed b typed (suc n) q rows =
      let low = (sender_in_range g v b (not_is_false (known g b.id) rows.1.0)).epoch in
      let same = eqb-true (suc n) (sender_of g b).member.epoch (not_is_false (eqb (suc n) (sender_of g b).member.epoch) rows.1.1.0) in
      test_heartbeat b typed (ap is_signed q ∙ signed_natural (suc n) (omega (arith, v.last))) (signed_timeout b.timeout (timeout_good b rows.0))

  -- an accepted event that is no leave: of a leave the timeout may be any number
  pub accepted_typed : (e : Event) → Natural e → Typed e → AllFalse (table g e) → is_typed e ≡ true
  unfolding table is_typed
  accepted_typed (heartbeat b) (n, q) typed rows = heartbeat_typed b typed n q (subst (λ (z : ℤ). AllFalse (heartbeat_table g b (kind_of z))) q rows.1)
  accepted_typed (sweep tick) natural typed rows = refl
  accepted_typed (topic t id n) natural typed rows = eq-eqb (length id) id_length typed
  accepted_typed (install rule e entries) natural typed rows = signed_epoch e g.epoch (not_is_false (is_epoch e g.epoch) rows.1.0) v.last
