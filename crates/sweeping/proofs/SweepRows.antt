-- What a sweep comes to, by its one row; and its effect, by the members that go: where there is none only the tick changes, and else G rises once.
use Rattle.std.specs.Prelude.{if◌then◌else◌, Option}
use Rattle.std.proofs.Common.{ℕ, ◌≤◌, arith, ◌≡◌, refl, sym, ap, ◌∙◌, Bool, true, false, not, ◌&&◌, List, [], ◌∷◌, ◌++◌, leb, length, le-ltb}
use mathlib.Core.List.{foldl}
use Rattle.std.specs.Bool.{then_some}
use Rattle.rules.specs.Basics.{empty}
use Rattle.rules.specs.Constants.{last_epoch}
use Rattle.rules.specs.Group as G
use Rattle.rules.specs.Group.{raised}
use Rattle.rules.specs.Records.{group_epoch, all_bytes}
use Rattle.rules.specs.Event.{sweep}
use Rattle.rules.specs.Refusals.{first_of, table, goes_back, at_end}
use Rattle.rules.specs.Effects.{effect, changed, only_if, remove, overdue_places, sweep_epoch, sweep_records, sweep_of, sweep_effect}
use Rattle.rules.specs.Step.{step, verdict, carry_out, too_little_room, overlay}
use Rattle.rules.specs.declared.Refusal.TheVariants.{Clock}
use Rattle.rules.specs.declared.Answer.TheVariants.{Swept}
use Rattle.tables.specs.View.{slots_in}
use Rattle.group.specs.View.{view}
use Rattle.group.specs.declared.Group.{Group}
use Rattle.records.specs.declared.batches.GoneBatch.{GoneBatch}
use Rattle.records.specs.declared.kinds.GroupEpoch.{GroupEpoch}
use Rattle.records.proofs.Batching.{optional_is}
use Rattle.events.specs.Outcomes.{took, carried}
use Rattle.events.proofs.Carrying.{denied}
use Rattle.events.proofs.Lent.{group_changed}
use Rattle.sweeping.specs.Leavers.{Leaving, sweep_batch, places_of, Removes}
use Rattle.sweeping.proofs.Leaving.{stored_are, places_are}

-- ---- the row

module _ (g : G.Group) (tick : ℕ) (b l : List ℕ) where
  pub row_clock : goes_back g tick ≡ true → step g (sweep tick) b l ≡ denied Clock g b l
  unfolding step verdict table first_of carry_out
  row_clock h = rw h

  pub sweep_step : goes_back g tick ≡ false → step g (sweep tick) b l ≡ carried g (sweep_of g (overdue_places g tick) tick) b l
  unfolding step verdict table first_of carry_out carried effect sweep_effect
  sweep_step h = rw h

-- ---- nobody goes

nobody : (g g' : G.Group) (tick : ℕ) (b l : List ℕ) (gone : List ℕ) → length gone ≡ 0 → g' ≡ changed g g.epoch tick g.members g.slots
    → took (record { answer = Swept 0; written = 0 }) g' b l ≡ carried g (sweep_of g gone tick) b l
unfolding took carried carry_out first_of too_little_room overlay sweep_of sweep_records sweep_epoch only_if all_bytes
nobody g g' tick b l [] n v = rw (le-ltb (length b) 0 (omega arith), le-ltb (length l) 0 (omega arith), v)
nobody g g' tick b l (p ∷ gone) n v = absurd (omega arith)

pub sweep_nobody : (g g' : Group) (tick : ℕ) (b l : List ℕ) (gone : List ℕ) → length gone ≡ 0 → g' ≡ record g { head = record g.head { tick = tick } }
    → took (record { answer = Swept 0; written = 0 }) (view g') b l ≡ carried (view g) (sweep_of (view g) gone tick) b l
unfolding view
sweep_nobody g g' tick b l gone n e =
    nobody (view g) (view g') tick b l gone n (group_changed g g' g.head.epoch tick (ap (λ (x : Group). x.head) e) (ap (λ (x : Group). x.topics) e) (λ i. (view (e i)).members) (λ i. (view (e i)).slots))

-- ---- some go

some_go : (gone : List ℕ) → 1 ≤ length gone → empty gone ≡ false
some_go [] h = absurd (omega arith)
some_go (p ∷ gone) h = refl

module _ (g : Group) (gone : List ℕ) (tick : ℕ) (n : 1 ≤ length gone) {e : ℕ} (he : e ≡ raised g.head.epoch) where
  epoch_is : e ≡ sweep_epoch (view g) gone
  unfolding sweep_epoch view
  epoch_is = he ∙ sym (ap (λ (x : Bool). if x then g.head.epoch else raised g.head.epoch) (some_go gone n))

  rises : {raises : Bool} → raises ≡ not (leb last_epoch g.head.epoch) → raises ≡ (not (empty gone) && not (at_end (view g)))
  unfolding at_end view
  rises hr = hr ∙ ap (λ (x : Bool). not x && not (leb last_epoch g.head.epoch)) (sym (some_go gone n))

  pub sweep_records_are : (l : List (Option GoneBatch)) (o : Option GroupEpoch) {raises : Bool} → Leaving (slots_in g.tables) gone l → raises ≡ not (leb last_epoch g.head.epoch)
      → o ≡ then_some raises (record { 0 = e }) → sweep_batch l o ≡ (sweep_of (view g) gone tick).records
  unfolding sweep_batch sweep_of sweep_records view
  sweep_records_are l o {raises} m hr q =
      let epoch : GroupEpoch = record { 0 = e } in
      λ i. (stored_are (slots_in g.tables) gone l m i ++ (optional_is (λ x. group_epoch x.0) raises epoch q ∙ (λ j. only_if (rises hr j) (group_epoch (epoch_is j)))) i)

  pub sweep_group : (l : List (Option GoneBatch)) (r g' : Group) → Leaving (slots_in g.tables) gone l → Removes (places_of l) g r
      → g' ≡ record r { head = record { epoch = e; target_epoch = r.head.target_epoch; tick = tick } } → view g' ≡ (sweep_of (view g) gone tick).group
  unfolding sweep_of view
  sweep_group l r g' m s q =
      let v : view r ≡ foldl remove (view g) gone = s.removed ∙ ap (foldl remove (view g)) (places_are (slots_in g.tables) gone l m) in
      let head = ap (λ (x : Group). x.head) q ∙ (λ i. record { epoch = e; target_epoch = (s.head i).target_epoch; tick = tick }) in
      group_changed g g' e tick head (ap (λ (x : Group). x.topics) q ∙ s.topics) ((λ i. (view (q i)).members) ∙ (λ i. (v i).members)) ((λ i. (view (q i)).slots) ∙ (λ i. (v i).slots))
      ∙ ap (λ (x : ℕ). changed (view g) x tick (foldl remove (view g) gone).members (foldl remove (view g) gone).slots) epoch_is
