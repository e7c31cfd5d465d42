-- The rows of an ordinary heartbeat by the tests that the code makes, one law for each row, in nested modules that carry the rows before it; and a plan
-- carried out, which is the effect that the rules give. Assumes nothing.
use Rattle.std.specs.Prelude.{if◌then◌else◌}
use Rattle.std.proofs.Common.{◌≡◌, ℕ, suc, Bool, true, false, ◌&&◌, ◌||◌, List, [], length, set, eqb, leb, refl, sym, ap, ◌∙◌}
use mathlib.Core.Bool.{or_assoc}
use Rattle.std.proofs.Math.Option.{some}
use Rattle.rules.specs.Basics.{any, default}
use Rattle.rules.specs.Constants.{last_epoch, heartbeat_interval}
use Rattle.rules.specs.Group as G
use Rattle.rules.specs.Group.{Group, known}
use Rattle.rules.specs.Event.{Request}
use Rattle.rules.specs.Refusals.{ordinary, first_of, heartbeat_table, goes_back, zero_id, bad_timeout, bad_list, malformed, not_held_by, resubscribes, at_end, sender_of}
use Rattle.rules.specs.Effects.{changed, current_after, current_of, group_epoch_after, heartbeat_effect, metadata_of, ordinary_at, ordinary_records}
use Rattle.rules.specs.Step.{carry_out}
use Rattle.rules.specs.declared.Answer.TheVariants.{Assigned}
use Rattle.rules.specs.declared.Refusal.{Refusal}
use Rattle.rules.specs.declared.Refusal.TheVariants.{Clock, InvalidRequest, UnknownMemberId, FencedMemberEpoch, EpochEnd}
use Rattle.records.specs.Storing.{ordinary_batch}
use Rattle.records.specs.Views.{view_member_metadata, view_current}
use Rattle.records.proofs.Batching.{ordinary_is_records}
use Rattle.group.proofs.Rows.{raised_if}
use Rattle.ordinary.specs.declared.plan.Plan.{Plan}
use Rattle.ordinary.specs.declared.plan.Sender.{Sender}
use Rattle.events.specs.Outcomes.{carried, step_as}
use Rattle.ordinary.specs.Plans.{PlanIs, epoch_by, metadata_in, current_in, batch_of, planned, ordinary_step, view_sender}
use Rattle.events.proofs.Carrying.{denied}

-- ---- the rows

in_parts : (b : Request) → malformed b ≡ ((zero_id b.id || bad_timeout b.timeout) || bad_list (default [] b.owned))
unfolding malformed
in_parts b = sym (or_assoc (zero_id b.id) (bad_timeout b.timeout) (bad_list (default [] b.owned)))

module _ (g : Group) (b : Request) (e : ℕ) (buffer list : List ℕ) where
  pub row_clock : goes_back g b.tick ≡ true → step_as (ordinary e) g b buffer list ≡ denied Clock g buffer list
  unfolding step_as first_of carry_out
  row_clock t = rw t

  module _ (t : goes_back g b.tick ≡ false) where
    pub row_malformed : malformed b ≡ true → step_as (ordinary e) g b buffer list ≡ denied InvalidRequest g buffer list
    unfolding step_as first_of carry_out heartbeat_table
    row_malformed m = rw (t, m)

    -- the row in two parts: the list comes last
    pub row_form : (zero_id b.id || bad_timeout b.timeout) ≡ true → step_as (ordinary e) g b buffer list ≡ denied InvalidRequest g buffer list
    row_form h = row_malformed (in_parts b ∙ ap (λ (x : Bool). x || bad_list (default [] b.owned)) h)

    module _ (h : (zero_id b.id || bad_timeout b.timeout) ≡ false) where
      by_list : malformed b ≡ bad_list (default [] b.owned)
      by_list = in_parts b ∙ ap (λ (x : Bool). x || bad_list (default [] b.owned)) h

      pub row_list : bad_list (default [] b.owned) ≡ true → step_as (ordinary e) g b buffer list ≡ denied InvalidRequest g buffer list
      row_list m = row_malformed (by_list ∙ m)

      -- of the rows after it, each with the list before it
      listed_first : {why : Refusal} → (bad_list (default [] b.owned) ≡ false → step_as (ordinary e) g b buffer list ≡ denied why g buffer list)
          → step_as (ordinary e) g b buffer list ≡ denied (if bad_list (default [] b.owned) then InvalidRequest else why) g buffer list
      listed_first {why} k = go (bad_list (default [] b.owned)) refl
        where
          go : (x : Bool) → bad_list (default [] b.owned) ≡ x → step_as (ordinary e) g b buffer list ≡ denied (if x then InvalidRequest else why) g buffer list
          go true m = row_list m
          go false m = k m

      pub row_unknown : known g b.id ≡ false → step_as (ordinary e) g b buffer list ≡ denied (if bad_list (default [] b.owned) then InvalidRequest else UnknownMemberId) g buffer list
      unfolding step_as first_of carry_out heartbeat_table
      row_unknown k = listed_first (λ m. rw (t, by_list ∙ m, k))

      module _ (k : known g b.id ≡ true) {s : G.Sender} (who : sender_of g b ≡ s) where
        pub row_fenced : eqb e s.member.epoch ≡ false → step_as (ordinary e) g b buffer list ≡ denied (if bad_list (default [] b.owned) then InvalidRequest else FencedMemberEpoch) g buffer list
        unfolding step_as first_of carry_out heartbeat_table
        row_fenced f = listed_first (λ m. rw (t, by_list ∙ m, k, ap (λ (x : G.Sender). eqb e x.member.epoch) who ∙ f))

        pub rows_passed : eqb e s.member.epoch ≡ true → bad_list (default [] b.owned) ≡ false → step_as (ordinary e) g b buffer list ≡ ordinary_step g s b buffer list
        unfolding step_as first_of carry_out heartbeat_table heartbeat_effect ordinary_step
        rows_passed f m = rw (t, by_list ∙ m, k, ap (λ (x : G.Sender). eqb e x.member.epoch) who ∙ f) (ap (λ (x : G.Sender). ordinary_step g x b buffer list) who)

-- the second row 42, of the sender s
module _ (g : Group) (s : G.Sender) (b : Request) (buffer list : List ℕ) where
  pub row_unheld : any (not_held_by g s.place) (default [] b.owned) ≡ true → ordinary_step g s b buffer list ≡ denied InvalidRequest g buffer list
  unfolding ordinary_step first_of carry_out
  row_unheld u = rw u

-- ---- the plan

module _ (g : Group) (s : Sender) (b : Request) (k : Plan) (i : PlanIs g s b k) where
  epoch_is : (k.raises && leb last_epoch g.epoch) ≡ false → epoch_by k g.epoch ≡ group_epoch_after g (view_sender s) b
  unfolding group_epoch_after
  epoch_is h = raised_if k.raises g.epoch h ∙ ap (λ (x : Bool). if x then suc g.epoch else g.epoch) i.raises_is

  records_are : (k.raises && leb last_epoch g.epoch) ≡ false → ordinary_batch (batch_of k s.place (epoch_by k g.epoch)) ≡ (ordinary_at g (view_sender s) b).records
  unfolding ordinary_at metadata_of current_after current_of view_member_metadata view_current
  records_are h =
      ordinary_is_records (batch_of k s.place (epoch_by k g.epoch)) k.updates (metadata_in s.place k.member) k.raises (record { 0 = epoch_by k g.epoch }) k.moves (current_in s.place k.member) refl refl refl
      ∙ (λ j. ordinary_records (i.updates_is j) (metadata_of s.place.0 (i.member_is j)) (i.raises_is j) (epoch_is h j) (i.moves_is j) (i.current_is j))

  pub planned_is : (k.raises && leb last_epoch g.epoch) ≡ false → planned g s.place b.tick k ≡ ordinary_at g (view_sender s) b
  unfolding planned ordinary_at current_of current_after view_current
  planned_is h = λ j. record {
    answer = Assigned (record { epoch = (i.current_is j).epoch; interval = heartbeat_interval; count = length (i.current_is j).assigned });
    group = changed g (epoch_is h j) b.tick (set g.members s.place.0 (some (i.member_is j))) (i.slots_are j);
    records = records_are h j;
    told = (i.current_is j).assigned;
  }

  ends : {x : Bool} → (k.raises && leb last_epoch g.epoch) ≡ x → (resubscribes (view_sender s).member b && at_end g) ≡ x
  unfolding at_end
  ends h = ap (λ (y : Bool). y && leb last_epoch g.epoch) (sym i.raises_is) ∙ h

  module _ (buffer list : List ℕ) (u : any (not_held_by g s.place.0) (default [] b.owned) ≡ false) where
    pub row_end : (k.raises && leb last_epoch g.epoch) ≡ true → ordinary_step g (view_sender s) b buffer list ≡ denied EpochEnd g buffer list
    unfolding ordinary_step first_of carry_out
    row_end h = rw (u, ends h)

    pub row_room : (k.raises && leb last_epoch g.epoch) ≡ false → ordinary_step g (view_sender s) b buffer list ≡ carried g (ordinary_at g (view_sender s) b) buffer list
    unfolding ordinary_step first_of carried
    row_room h = rw (u, ends h)
