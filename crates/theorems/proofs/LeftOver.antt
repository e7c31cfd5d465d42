-- Request 3, 'No slot left over': what an install accepted with the rule leaves; that the first bad slot of either sort is reported; and that what passes with
-- the rule passes without it, so that a journal is read as it was written.
use Rattle.std.specs.Prelude.{if◌then◌else◌}
use Prim.Native.Nat.{ℕ, ◌/◌, ◌%◌, ◌<◌}
use native.Mathlib.Nat.{zero-add}
use native.Mathlib.Omega.{arith}
use mathlib.Core.Path.{◌≡◌, refl, sym, ap, ◌∙◌}
use mathlib.Core.Bool.{Bool, true, false, not, ◌&&◌, true≢false, false≢true}
use mathlib.Core.List.{List, [], ◌∷◌}
use mathlib.Core.Option.{Option, none, some}
use lib.IntN.{ℤ}
use lib.ListN.{length, get_or, get_or-eq_default}
use lib.Dec.{eqb, ltb}
use borrow.Author.Tests.{eqb-true, le-ltb, ltb-false, ltb-true}
use Rattle.rules.specs.Basics.{any, first_with}
use Rattle.rules.specs.Constants.{max_partitions, no_place, no_slot, slot_count, topic_count}
use Rattle.rules.specs.Group.{Group, Member, below_count, exists, includes_topic, subscribes}
use Rattle.rules.specs.Event.{install, with_rule, without_rule}
use Rattle.rules.specs.Answers.{slot_number, slot_reported}
use Rattle.rules.specs.Refusals.{◌when◌, bad_entry, first_bad, first_of, left_over, misplaced, table}
use Rattle.rules.specs.Effects.{Effect, effect, install_effect, with_target}
use Rattle.rules.specs.Step.{carry_out, step, too_little_room, verdict}
use Rattle.rules.specs.Accepted.{AllOwned, FirstReported, NoneLeftOver, ReadWithoutRule}
use Rattle.rules.specs.declared.Answer.{Answer}
use Rattle.rules.specs.declared.Answer.TheVariants.{Assigned, Done, Left, Refused, Swept}
use Rattle.rules.specs.declared.Refusal.{Refusal}
use Rattle.rules.specs.declared.Refusal.TheVariants.{Already, BadTarget, Room, Stale}
use Rattle.rules.proofs.Lists.{and_true, not_is_false}
use Rattle.theorems.proofs.Cases.{by_cases}
use Rattle.theorems.proofs.Picks.{first_fails, first_later}
use Rattle.theorems.proofs.Refusing.{last_row}
use Rattle.theorems.proofs.Accepting.{AllFalse, after_accepted_lem, no_row, rows_none}
use Rattle.theorems.proofs.Moves.{target_retargeted, target_in}
use Rattle.theorems.proofs.Untouched.{good_target}

-- ---- one entry

module _ (g : Group) (s e : ℕ) where
  loosened : bad_entry with_rule g s e ≡ false → bad_entry without_rule g s e ≡ false
  unfolding bad_entry
  loosened h = pick (eqb e no_place) h
    where
      pick : (c : Bool) → (if c then true && left_over g s else misplaced g s e) ≡ false → (if c then false && left_over g s else misplaced g s e) ≡ false
      pick true q = refl
      pick false q = q

  -- of a slot that exists and is subscribed to, an entry that passes is a member that subscribes
  subscriber : exists g s ≡ true → any (subscribes (s / max_partitions)) g.members ≡ true → bad_entry with_rule g s e ≡ false
      → subscribes (s / max_partitions) (get_or g.members e none) ≡ true
  unfolding bad_entry left_over misplaced
  subscriber there wanted h = pick (eqb e no_place) h
    where
      pick : (c : Bool) → (if c then true && (exists g s && any (subscribes (s / max_partitions)) g.members) else not (exists g s && subscribes (s / max_partitions) (get_or g.members e none))) ≡ false
          → subscribes (s / max_partitions) (get_or g.members e none) ≡ true
      pick true q = absurd (true≢false (rw (there, wanted) at q))
      pick false q = (and_true (exists g s) _ (not_is_false (exists g s && subscribes (s / max_partitions) (get_or g.members e none)) q)).1

-- ---- an accepted install

-- beyond the topics no slot exists
inside : (g : Group) (s : ℕ) → length g.topics ≡ topic_count → exists g s ≡ true → s < slot_count
unfolding exists below_count
inside g s n e =
    by_cases (ltb s slot_count) (λ l. ltb-true s slot_count l)
    (λ l. let past : get_or g.topics (s / max_partitions) none ≡ none = get_or-eq_default g.topics none (omega (arith, n, ltb-false s slot_count l)) in
    absurd (false≢true (ap (below_count (s % max_partitions)) (sym past) ∙ e)))

member_of : (t : ℕ) (o : Option Member) → subscribes t o ≡ true → (m : Member) × (o ≡ some m) × (includes_topic t m.subscription ≡ true)
unfolding subscribes
member_of t none e = absurd (false≢true e)
member_of t (some m) e = (m, refl, e)

pub none_left_over : NoneLeftOver
unfolding table effect install_effect with_target exists target_in
none_left_over epoch entries = after_accepted_lem (install with_rule epoch entries) (λ before after. AllOwned after) (λ g sized rows s there wanted.
    let good = good_target with_rule g epoch entries rows in
    let fine = good.fine s (omega (arith, good.long, inside g s sized.topics there)) in
    let target = target_retargeted g.slots entries s (sized.slots ∙ sym good.long) in
    let m = member_of (s / max_partitions) _ (subscriber g s (get_or entries s no_place) there wanted fine) in
    record { owner = m.0; here = ap (λ (p : ℕ). get_or g.members p none) target ∙ m.1; subscribed = m.2 })

-- ---- the slot reported

abbrev slot_of : Answer → ℕ
slot_of (Assigned a) = no_slot
slot_of Left = no_slot
slot_of (Swept n) = no_slot
slot_of Done = no_slot
slot_of (Refused r) = slot_reported r

-- a slot is reported by the last row of an install before the room, or by the first, which reports none
reporting : (g : Group) (f : Effect) (buffer list : List ℕ) (a b c d e : Bool) (n s : ℕ) → s < slot_count → f.answer ≡ Done
    → slot_of (carry_out (first_of ((BadTarget (slot_number no_slot) when a) ∷ (Stale when b) ∷ (Already when c) ∷ (BadTarget (slot_number n) when d) ∷ (Room when e) ∷ [])) g f buffer list).answer ≡ s
    → (a ≡ false) × (n ≡ s)
unfolding first_of carry_out
reporting g f buffer list true b c d e n s l done h = absurd (omega arith)
reporting g f buffer list false true c d e n s l done h = absurd (omega arith)
reporting g f buffer list false false true d e n s l done h = absurd (omega arith)
reporting g f buffer list false false false true e n s l done h = (refl, h)
reporting g f buffer list false false false false true n s l done h = absurd (omega arith)
reporting g f buffer list false false false false false n s l done h = absurd (let k = ap slot_of (sym done) ∙ h in omega arith)

pub first_reported : FirstReported
unfolding step verdict table effect install_effect first_bad
first_reported g rule epoch entries buffer list s l h =
    let r = reporting g (effect g (install rule epoch entries)) buffer list _ _ _ _ _ (first_bad rule g entries) s l refl (ap slot_of h) in
    let long = eqb-true (length entries) slot_count (not_is_false (eqb (length entries) slot_count) r.0) in
    let f = first_fails (bad_entry rule g) 0 entries no_place s (omega (arith, long)) (r.1 ∙ sym (zero-add s)) in
    record {
      bad = rw (zero-add s) at f.0;
      before = λ n b. rw (zero-add n) at (f.1 n b);
    }

-- ---- without the rule

pub without_rule_lem : (g : Group) (epoch : ℤ) (entries : List ℕ) → AllFalse (table g (install with_rule epoch entries)) → AllFalse (table g (install without_rule epoch entries))
unfolding table first_bad
without_rule_lem g epoch entries rows =
    let later = first_later (bad_entry with_rule g) (bad_entry without_rule g) (loosened g) 0 entries in
    let past = ltb-false (first_with (bad_entry with_rule g) 0 entries) slot_count rows.1.1.1.0 in
    (rows.0, (rows.1.0, (rows.1.1.0, (le-ltb (first_with (bad_entry without_rule g) 0 entries) slot_count (omega (arith, later, past)), tt))))

pub read_without_rule : ReadWithoutRule
unfolding step verdict effect
read_without_rule g epoch entries buffer list accepted =
    let rows = no_row g (install with_rule epoch entries) buffer list accepted in
    let b = too_little_room (install_effect g entries) buffer list in
    ap (λ (v : Option Refusal). carry_out v g (install_effect g entries) buffer list)
    (last_row (table g (install without_rule epoch entries)) Room b (rows_none _ (without_rule_lem g epoch entries rows))
    ∙ sym (last_row (table g (install with_rule epoch entries)) Room b (rows_none _ rows)))
