-- What accepted topics and installs leave, and what they leave alone; a topic with the count that it has changes nothing.
use Rattle.std.specs.Prelude.{if◌then◌else◌}
use Prim.Native.Nat.{ℕ, suc, ◌<◌, ◌≤◌}
use native.Mathlib.Nat.{zero-add}
use native.Mathlib.Omega.{arith}
use mathlib.Core.Path.{◌≡◌, refl, sym, ap, ◌∙◌}
use mathlib.Core.Logic.{◌≢◌, ◌⊎◌, inl, inr}
use mathlib.Core.Bool.{Bool, true, false, not, ◌&&◌, true≢false}
use mathlib.Core.List.{List}
use mathlib.Core.Option.{Option, none, some}
use lib.IntN.{ℤ}
use lib.ListN.{length, get_or, set, get_or-eq_default}
use lib.Seq.{get_or-set_other, get_or-set_same, set-get_or}
use lib.Dec.{eqb, leb, ltb}
use borrow.Author.Tests.{eq-eqb, eqb-false, eqb-true, leb-false, ltb-false, ltb-true, ne_eqb}
use Rattle.rules.specs.Basics.{any, first_with, same}
use Rattle.rules.specs.Constants.{max_partitions, no_place, slot_count, topic_count}
use Rattle.rules.specs.Group.{Group, Topic, exists, subscribes}
use Rattle.rules.specs.Records.{all_bytes}
use Rattle.rules.specs.Event.{install, topic}
use Rattle.rules.specs.Refusals.{allows, bad_entry, count_changes, first_bad, has_id, misplaced, table, topic_bad, topic_changes, topic_raises, zero_id}
use Rattle.rules.specs.Effects.{effect, install_effect, only_if, topic_effect, topic_epoch, topic_records, with_target, with_topic}
use Rattle.rules.specs.Step.{carry_out, overlay}
use Rattle.rules.specs.Accepted.{AcceptedInstall, AcceptedTopic, AfterInstall, AfterTopic, SameCount}
use Rattle.rules.proofs.Lists.{and_true, not_is_false, or_false, same_eq}
use Rattle.theorems.proofs.Cases.{by_cases}
use Rattle.theorems.proofs.Picks.{none_fails}
use Rattle.theorems.proofs.Accepting.{AllFalse, carried, no_row, after_accepted_lem}
use Rattle.theorems.proofs.Moves.{a_retargeted, M-retargeted, p_retargeted}

-- ---- topic

-- what row 1007 lets pass
pub record GoodTopic (g : Group) (t n : ℕ) (id : List ℕ) : Type 0 where
  pub number : t < topic_count
  pub least : 0 < n
  pub most : n ≤ max_partitions
  pub nonzero : zero_id id ≡ false
  pub others : any (has_id id) (set g.topics t none) ≡ false
  pub allowed : allows id n (get_or g.topics t none) ≡ true

pub good_topic : (g : Group) (t n : ℕ) (id : List ℕ) → topic_bad g t id n ≡ false → GoodTopic g t n id
unfolding topic_bad
good_topic g t n id e =
    let r₁ = or_false (leb topic_count t) _ e in
    let r₂ = or_false (eqb n 0) _ r₁.1 in
    let r₃ = or_false (ltb max_partitions n) _ r₂.1 in
    let r₄ = or_false (zero_id id) _ r₃.1 in
    let r₅ = or_false (any (has_id id) (set g.topics t none)) _ r₄.1 in
    record {
      number = leb-false topic_count t r₁.0;
      least = omega (arith, eqb-false n 0 r₂.0);
      most = ltb-false max_partitions n r₃.0;
      nonzero = r₄.0;
      others = r₅.0;
      allowed = not_is_false (allows id n (get_or g.topics t none)) r₅.1;
    }

-- a known topic has the ID
own_id : (o : Option Topic) (n : ℕ) (id : List ℕ) (k : Topic) → allows id n o ≡ true → o ≡ some k → k.id ≡ id
unfolding allows
own_id o n id k e h = same_eq k.id id (and_true (same k.id id) (leb k.count n) (rw h at e)).0

module _ (g : Group) (t n : ℕ) (id : List ℕ) where
  abbrev made : List (Option Topic)
  made = set g.topics t (some (record { id = id; count = n }))

  -- nothing changes where the topic has that count, and only there
  pub same_topic : allows id n (get_or g.topics t none) ≡ true → (k : Topic) → get_or g.topics t none ≡ some k → k.count ≡ n → made ≡ g.topics
  same_topic ok k h e =
      let own = own_id (get_or g.topics t none) n id k ok h in
      let known : get_or g.topics t none ≡ some (record { id = id; count = n }) = h ∙ (λ i. some (record { id = own i; count = e i })) in
      ap (set g.topics t) (sym known) ∙ set-get_or g.topics t none

  pub no_change : (k : Topic) → get_or g.topics t none ≡ some k → k.count ≡ n → topic_changes g t n ≡ false
  unfolding topic_changes count_changes
  no_change k h e = ap (count_changes n) h ∙ ap not (eq-eqb k.count n e)

  pub not_changed : topic_changes g t n ≡ false → (k : Topic) × (get_or g.topics t none ≡ some k) × (k.count ≡ n)
  unfolding topic_changes count_changes
  not_changed e = pick (get_or g.topics t none) e
    where
      pick : (o : Option Topic) → count_changes n o ≡ false → (k : Topic) × (o ≡ some k) × (k.count ≡ n)
      pick none q = absurd (true≢false q)
      pick (some k) q = (k, refl, eqb-true k.count n (not_is_false (eqb k.count n) q))

  topic_raises_lem : allows id n (get_or g.topics t none) ≡ true → made ≢ g.topics → any (subscribes t) g.members ≡ true → topic_epoch g t n ≡ suc g.epoch
  unfolding topic_epoch topic_raises
  topic_raises_lem ok changes anyone =
      by_cases (topic_changes g t n) (λ e. rw (e, anyone) refl) (λ e. let r = not_changed e in absurd (changes (same_topic ok r.0 r.1 r.2)))

  topic_keeps : t < length g.topics → (made ≡ g.topics) ⊎ (any (subscribes t) g.members ≡ false) → topic_epoch g t n ≡ g.epoch
  unfolding topic_epoch topic_raises
  topic_keeps inside (inl e) =
      let known = ap (λ (l : List (Option Topic)). get_or l t none) (sym e) ∙ get_or-set_same g.topics t (some (record { id = id; count = n })) none inside in
      ap (λ (c : Bool). if c && any (subscribes t) g.members then suc g.epoch else g.epoch) (no_change (record { id = id; count = n }) known refl)
  topic_keeps inside (inr e) = by_cases (topic_changes g t n) (λ q. rw (q, e) refl) (λ q. rw q refl)

pub accepted_topic : AcceptedTopic
unfolding table effect topic_effect with_topic
accepted_topic t n id = after_accepted_lem (topic t id n) (AfterTopic t n id) (λ g sized rows.
    let good = good_topic g t n id rows.0 in
    let inside : t < length g.topics = omega (arith, good.number, sized.topics) in
    record {
      made = get_or-set_same g.topics t (some (record { id = id; count = n })) none inside;
      others = λ u h. get_or-set_other g.topics t u _ none h;
      tick = refl;
      members = refl;
      slots = refl;
      target_epoch = refl;
      raises = topic_raises_lem g t n id good.allowed;
      keeps = topic_keeps g t n id inside;
    })

pub same_count : SameCount
unfolding carry_out effect topic_effect topic_records topic_raises topic_epoch with_topic only_if overlay all_bytes table
same_count g t n id k buffer list h e accepted =
    let good = good_topic g t n id (no_row g (topic t id n) buffer list accepted).0 in
    carried g (topic t id n) buffer list accepted ∙ rw (no_change g t n id k h e, same_topic g t n id good.allowed k h e) refl

-- ---- install

-- an entry for a place with no member is bad
vacant_bad : (rule : Bool) (g : Group) (s p : ℕ) → p ≢ no_place → get_or g.members p none ≡ none → bad_entry rule g s p ≡ true
unfolding bad_entry misplaced subscribes
vacant_bad rule g s p h n = by_cases (exists g s) (λ e. rw (ne_eqb p no_place h, e, n) refl) (λ e. rw (ne_eqb p no_place h, e) refl)

-- what rows 1006 let pass
pub record GoodTarget (rule : Bool) (g : Group) (entries : List ℕ) : Type 0 where
  pub long : length entries ≡ slot_count
  pub fine : (s : ℕ) → s < length entries → bad_entry rule g s (get_or entries s no_place) ≡ false

pub good_target : (rule : Bool) (g : Group) (epoch : ℤ) (entries : List ℕ) → AllFalse (table g (install rule epoch entries)) → GoodTarget rule g entries
unfolding table first_bad
good_target rule g epoch entries rows =
    let long = eqb-true (length entries) slot_count (not_is_false (eqb (length entries) slot_count) rows.0) in
    let past = ltb-false (first_with (bad_entry rule g) 0 entries) slot_count rows.1.1.1.0 in
    record { long = long; fine = λ s l. rw (zero-add s) at (none_fails (bad_entry rule g) 0 entries (omega (arith, long, past)) no_place s l) }

-- each entry names a place with a member, or none
module _ {rule : Bool} {g : Group} {entries : List ℕ} (good : GoodTarget rule g entries) where
  pub entry_occupied : (s p : ℕ) → p ≢ no_place → get_or entries s no_place ≡ p → get_or g.members p none ≢ none
  entry_occupied s p h e n = by_cases (ltb s (length entries))
      (λ l. true≢false (sym (vacant_bad rule g s p h n) ∙ ap (bad_entry rule g s) (sym e) ∙ good.fine s (ltb-true s (length entries) l)))
      (λ l. h (sym e ∙ get_or-eq_default entries no_place (ltb-false s (length entries) l)))

  pub entry_placed : (s : ℕ) → get_or entries s no_place ≢ no_place → get_or entries s no_place < length g.members
  entry_placed s h =
      let p = get_or entries s no_place in
      by_cases (ltb p (length g.members)) (ltb-true p (length g.members))
      (λ e. absurd (entry_occupied s p h refl (get_or-eq_default g.members none (ltb-false p (length g.members) e))))

pub accepted_install : AcceptedInstall
unfolding table effect install_effect with_target
accepted_install rule epoch entries = after_accepted_lem (install rule epoch entries) (AfterInstall entries) (λ g sized rows.
    record {
      targeted = λ p. M-retargeted p g.slots entries (sized.slots ∙ sym (good_target rule g epoch entries rows).long);
      assigned = λ p. a_retargeted p g.slots entries;
      revoking = λ p. p_retargeted p g.slots entries;
      tick = refl;
      members = refl;
      topics = refl;
      epoch = refl;
      target_epoch = refl;
    })
