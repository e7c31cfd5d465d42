-- What a heartbeat that leaves comes to, by the tests of its rows; and the effect's records and group, by what the code decides.
use Rattle.std.proofs.Common.{ℕ, ◌≡◌, ap, ◌∙◌, Bool, true, false, not, List, map, leb, set}
use mathlib.Core.Option.{none}
use Rattle.std.specs.Bool.{then_some}
use Rattle.rules.specs.Basics.{any}
use Rattle.rules.specs.Constants.{last_epoch}
use Rattle.rules.specs.Group.{Group, known, place_of, targeted, raised}
use Rattle.rules.specs.Event.{Request}
use Rattle.rules.specs.Refusals.{leaves, first_of, goes_back, zero_id, heartbeat_table, at_end}
use Rattle.rules.specs.Effects.{changed, vacated, remove, leave_records, leave_at, leave_effect, heartbeat_effect}
use Rattle.rules.specs.Step.{carry_out}
use Rattle.rules.specs.declared.Refusal.TheVariants.{Clock, InvalidRequest, UnknownMemberId}
use Rattle.tables.specs.View.{slots_in}
use Rattle.group.specs.Columns.{view_members}
use Rattle.group.specs.View.{view}
use Rattle.group.specs.declared.Group as D
use Rattle.records.specs.Storing.{leave_batch}
use Rattle.records.specs.declared.batches.LeaveBatch.{LeaveBatch}
use Rattle.records.proofs.Batching.{leave_is_records}
use Rattle.events.specs.Outcomes.{carried, step_as}
use Rattle.events.proofs.Carrying.{denied}
use Rattle.events.proofs.Lent.{group_changed}

-- ---- the rows

module _ (g : Group) (q : Request) (b l : List ℕ) where
  pub row_clock : goes_back g q.tick ≡ true → step_as leaves g q b l ≡ denied Clock g b l
  unfolding step_as first_of carry_out
  row_clock h = rw h

  module _ (h : goes_back g q.tick ≡ false) where
    pub row_zero : zero_id q.id ≡ true → step_as leaves g q b l ≡ denied InvalidRequest g b l
    unfolding step_as first_of carry_out heartbeat_table
    row_zero z = rw (h, z)

    module _ (z : zero_id q.id ≡ false) where
      pub row_unknown : known g q.id ≡ false → step_as leaves g q b l ≡ denied UnknownMemberId g b l
      unfolding step_as first_of carry_out heartbeat_table
      row_unknown k = rw (h, z, k)

      pub leave_step : known g q.id ≡ true → step_as leaves g q b l ≡ carried g (leave_at g (place_of g q.id) q.tick) b l
      unfolding step_as first_of carry_out heartbeat_table carried heartbeat_effect leave_effect
      leave_step k = rw (h, z, k)

-- ---- the effect

module _ (g : D.Group) (p tick : ℕ) {e : ℕ} (he : e ≡ raised g.head.epoch) where
  pub leave_records_are : (x : LeaveBatch) {raises : Bool} → x.gone.place.0 ≡ p → x.gone.retargets ≡ any (targeted p) (slots_in g.tables) → raises ≡ not (leb last_epoch g.head.epoch)
      → x.epoch ≡ then_some raises (record { 0 = e }) → leave_batch x ≡ (leave_at (view g) p tick).records
  unfolding leave_at view at_end
  leave_records_are x {raises} hp ht hr o = leave_is_records x raises (record { 0 = e }) o ∙ (λ i. leave_records (hp i) (ht i) (hr i) (he i))

  pub leave_group : (g' : D.Group) → g'.head ≡ record { epoch = e; target_epoch = g.head.target_epoch; tick = tick } → g'.topics ≡ g.topics
      → view_members g'.members.cells ≡ set (view_members g.members.cells) p none → slots_in g'.tables ≡ map (vacated p) (slots_in g.tables)
      → view g' ≡ (leave_at (view g) p tick).group
  unfolding leave_at remove view changed
  leave_group g' h k m s =
      group_changed g g' e tick h k m s
      ∙ ap (λ (n : ℕ). changed (view g) n tick (set (view_members g.members.cells) p none) (map (vacated p) (slots_in g.tables))) he
