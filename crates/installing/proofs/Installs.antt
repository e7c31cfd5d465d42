-- What an install comes to: its records, the rows of its table in their order, and its effect carried out. A step whose earlier rows do
-- not apply is refused by the next (`install_stale`, ..), and is carried out where none applies (`install_step`).
use Rattle.std.proofs.Common.{ℕ, zero, suc, ◌+◌, ◌≤◌, ◌<◌, arith, ◌≡◌, refl, sym, ap, ◌∙◌, Bool, true, false, not, List, [], ◌∷◌, ◌++◌, append-nil, ℤ, eqb, length, get_or, take, drop, take_at, lt-ltb, le-ltb}
use Rattle.rules.specs.Basics.{concat_map, same, up_to}
use Rattle.rules.specs.Constants.{max_members, slot_count, no_slot}
use Rattle.rules.specs.Group as G
use Rattle.rules.specs.Group.{SlotState}
use Rattle.rules.specs.Event.{install}
use Rattle.rules.specs.Records.{Record, all_bytes, bytes_of, target_is, target_epoch}
use Rattle.rules.specs.Answers.{slot_number}
use Rattle.rules.specs.Refusals.{table, first_of, is_epoch, first_bad}
use Rattle.rules.specs.Effects.{effect, only_if, target_record, install_records, with_target, retargeted, install_effect}
use Rattle.rules.specs.Step.{step, verdict, carry_out, overlay}
use Rattle.rules.specs.declared.Refusal.TheVariants.{BadTarget, Stale, Already}
use Rattle.numbers.specs.Buffer.{flat, Wrote}
use Rattle.records.proofs.Lists.{all_none, all_cons, all_append}
use Rattle.tables.specs.View.{view_lists, slots_in}
use Rattle.tables.proofs.Viewing.{view_retargeted}
use Rattle.group.specs.View.{view, topics_in}
use Rattle.group.specs.Columns.{view_members}
use Rattle.group.specs.declared.Group.{Group}
use Rattle.tables.specs.declared.Tables.{Tables}
use Rattle.events.specs.Outcomes.{carried}
use Rattle.events.proofs.Carrying.{denied}
use Rattle.events.proofs.Places.{places_from, places_next, bytes_at, bytes_next}
use Rattle.installing.specs.Targets.{unheld, target_of, record_at, marked_records, marked_install, Marked}
use Rattle.installing.proofs.Targets.{viewed}

-- ---- the records

-- what is stored place by place is told by what each place stores
same_places : (rs ss : ℕ → List Record) (n k : ℕ) → ((p : ℕ) → p < n + k → rs p ≡ ss p) → concat_map rs (up_to n k) ≡ concat_map ss (up_to n k)
unfolding up_to
same_places rs ss n zero e = refl
same_places rs ss n (suc k) e = rw (e n (omega arith), same_places rs ss (suc n) k (λ p q. e p (omega arith)))

install_marked : (marks : List Bool) (before after : List ℕ) (e : ℕ) → Marked marks before after → marked_install marks after e ≡ install_records (unheld before) (unheld after) e
unfolding marked_install install_records target_record target_of
install_marked marks before after e m = ap (λ (rs : List Record). rs ++ (target_epoch e ∷ []))
    (same_places (record_at marks after) (target_record (unheld before) (unheld after)) 0 max_members (λ p q. ap (λ (b : Bool). only_if b (target_of after p)) (m p (omega arith))))

module _ (marks : List Bool) (after : List ℕ) (e : ℕ) where
  abbrev pub install_parts : List (List ℕ)
  install_parts = all_bytes (marked_records marks after) ∷ bytes_of (target_epoch e) ∷ []

  pub install_parts_lem : all_bytes (marked_install marks after e) ≡ flat install_parts
  unfolding marked_install
  install_parts_lem = rw (all_append, all_cons, all_none)

module _ (marks : List Bool) (after : List ℕ) (i : ℕ) (h : i < max_members) where
  -- the record of a place comes first if it is marked
  pub marked_next : get_or marks i false ≡ true → bytes_at (record_at marks after) (places_from i) ≡ bytes_of (target_of after i) ++ bytes_at (record_at marks after) (places_from (i + 1))
  unfolding only_if
  marked_next e = bytes_next (record_at marks after) (places_next i h) ∙ rw (e, all_cons, all_none, append-nil)

  pub unmarked_next : get_or marks i false ≡ false → bytes_at (record_at marks after) (places_from i) ≡ bytes_at (record_at marks after) (places_from (i + 1))
  unfolding only_if
  unmarked_next e = bytes_next (record_at marks after) (places_next i h) ∙ rw (e, all_none)

-- what was written to the start of an array is its first part
pub wrote_part : {w b b' : List ℕ} {n : ℕ} → Wrote w b b' n → take n b' ≡ w
unfolding overlay
wrote_part {w} {b} {n = n} p = ap (take n) p.bytes ∙ take_at w (drop (length w) b) n (sym p.count)

-- ---- the rows

module _ (g : G.Group) (rule : Bool) (z : ℤ) (entries b l : List ℕ) where
  pub install_short : eqb (length entries) slot_count ≡ false → step g (install rule z entries) b l ≡ denied (BadTarget (slot_number no_slot)) g b l
  unfolding step verdict table first_of carry_out
  install_short h = rw h

  module _ (h : eqb (length entries) slot_count ≡ true) where
    pub install_stale : is_epoch z g.epoch ≡ false → step g (install rule z entries) b l ≡ denied Stale g b l
    unfolding step verdict table first_of carry_out
    install_stale q = rw (h, q)

    module _ (q : is_epoch z g.epoch ≡ true) where
      pub install_already : eqb g.target_epoch g.epoch ≡ true → step g (install rule z entries) b l ≡ denied Already g b l
      unfolding step verdict table first_of carry_out
      install_already r = rw (h, q, r)

      module _ (r : eqb g.target_epoch g.epoch ≡ false) where
        pub install_bad : {s : ℕ} → first_bad rule g entries ≡ s → s < slot_count → step g (install rule z entries) b l ≡ denied (BadTarget (slot_number s)) g b l
        unfolding step verdict table first_of carry_out
        install_bad {s} e k = rw (h, q, r, e, lt-ltb s slot_count k)

        pub install_step : slot_count ≤ first_bad rule g entries → step g (install rule z entries) b l ≡ carried g (install_effect g entries) b l
        unfolding step verdict table first_of carry_out carried effect
        install_step k = rw (h, q, r, le-ltb (first_bad rule g entries) slot_count k)

-- ---- carried out

-- a record 7 tells of no holder
records_viewed : (ts us hs : List ℕ) (ws : List Bool) (e : ℕ) → length hs ≡ length ts → length ws ≡ length ts → length us ≡ length ts
    → install_records (view_lists ts hs ws) (view_lists us hs ws) e ≡ install_records (unheld ts) (unheld us) e
unfolding install_records target_record
records_viewed ts us hs ws e k l m =
    λ i.
    concat_map (λ (p : ℕ). only_if (not (same (viewed p ts hs ws k l i) (viewed p us hs ws (k ∙ sym m) (l ∙ sym m) i))) (target_is (record { place = p; slots = viewed p us hs ws (k ∙ sym m) (l ∙ sym m) i }))) (up_to 0 max_members)
    ++ (target_epoch e ∷ [])

-- the target is linked and the places whose sets change are marked: the records of the tables' slots, retargeted
module _ (t : Tables) (entries : List ℕ) (n : length t.target ≡ slot_count) (n₁ : length t.holder ≡ slot_count) (n₂ : length t.waiting ≡ slot_count) (l : length entries ≡ slot_count) where
  pub install_told : {target : List ℕ} (marks : List Bool) (e : ℕ) → Marked marks t.target entries → target ≡ entries → marked_install marks target e ≡ install_records (slots_in t) (retargeted (slots_in t) entries) e
  install_told marks e m q =
      ap (λ (x : List ℕ). marked_install marks x e) q
      ∙ install_marked marks t.target entries e m
      ∙ sym (records_viewed t.target entries t.holder t.waiting e (n₁ ∙ sym n) (n₂ ∙ sym n) (l ∙ sym n))
      ∙ ap (λ (x : List SlotState). install_records (slots_in t) x e) (view_retargeted entries t.target t.holder t.waiting (l ∙ sym n))

-- the group with its slots retargeted, and the group epoch for a target epoch
pub install_group : (g g' : Group) (entries : List ℕ) → g'.head ≡ record { epoch = g.head.epoch; target_epoch = g.head.epoch; tick = g.head.tick } → g'.members ≡ g.members → g'.topics ≡ g.topics
    → slots_in g'.tables ≡ retargeted (slots_in g.tables) entries → view g' ≡ (install_effect (view g) entries).group
unfolding install_effect view with_target
install_group g g' entries h m k s = λ i. record {
  epoch = (h i).epoch;
  target_epoch = (h i).target_epoch;
  tick = (h i).tick;
  topics = topics_in (k i);
  members = view_members (m i).cells;
  slots = s i;
}
