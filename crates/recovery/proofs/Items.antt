-- One item of a history: either it stores nothing and the group stays, ticks aside, or its batch is read as the group after it.
use Prim.Native.Nat.{ℕ, ◌<◌}
use native.Mathlib.Omega.{arith}
use mathlib.Core.Path.{◌≡◌, refl, sym, ap, ◌∙◌}
use mathlib.Core.Bool.{true, false, true≢false, false≢true}
use mathlib.Core.List.{List, [], ◌∷◌, ◌++◌}
use mathlib.Core.Option.{some}
use lib.ListN.{length, take}
use Rattle.rules.specs.Basics.{empty}
use Rattle.rules.specs.Group.{Group}
use Rattle.rules.specs.Records.{Record, all_bytes, number}
use Rattle.rules.specs.Refusals.{table}
use Rattle.rules.specs.Effects.{effect}
use Rattle.rules.specs.Step.{Stepped, carry_out}
use Rattle.rules.specs.Reader.{read_all, read_records}
use Rattle.rules.specs.Course.{Call, Typed, stepped}
use Rattle.rules.specs.Batches.{Writes, retimed}
use Rattle.rules.specs.Readings.{Item, ItemTyped, happens, next_group, reads}
use Rattle.rules.specs.Journal.{entry, stored_by}
use Rattle.rules.specs.Theorems.{Reached}
use Rattle.theorems.proofs.Cases.{some_inj}
use Rattle.theorems.proofs.ReadBack.{overlaid}
use Rattle.theorems.proofs.Accepting.{rows_none, step_cases}
use Rattle.theorems.proofs.Legible.{legible_reached}
use Rattle.recovery.proofs.Ticks.{retimed_twice}
use Rattle.recovery.proofs.Fits.{accepted_legal}
use Rattle.recovery.proofs.Quiet.{quiet}

-- ---- the bytes of an item in the file

pub entry_none : (x : List ℕ) → empty x ≡ true → entry x ≡ []
unfolding entry
entry_none [] z = refl
entry_none (b ∷ bs) z = absurd (false≢true z)

pub entry_some : (x : List ℕ) → empty x ≡ false → (entry x ≡ number (length x) ++ x) × (0 < length x)
unfolding entry
entry_some [] z = absurd (true≢false z)
entry_some (b ∷ bs) z = (refl, omega arith)

-- ---- an event

nothing_read : (bytes : List ℕ) → empty bytes ≡ true → read_all bytes ≡ some []
unfolding read_all read_records
nothing_read [] z = refl
nothing_read (b ∷ bs) z = absurd (false≢true z)

no_records : (rs : List Record) → read_all (all_bytes rs) ≡ some rs → empty (all_bytes rs) ≡ true → empty rs ≡ true
no_records rs back z = ap empty (some_inj (sym back ∙ nothing_read (all_bytes rs) z))

abbrev stored_in : Stepped → List ℕ
stored_in s = take s.written s.buffer

-- these bytes are a batch for the group, and the event that writes them leaves the group `after`, ticks aside
pub record Stored (t : ℕ) (g : Group) (bytes : List ℕ) (after : Group) : Type 0 where
  pub writes : Writes (retimed t g) bytes
  pub leaves : retimed t (effect writes.group writes.event).group ≡ retimed t after

module _ (g : Group) (c : Call) (ok : Typed c.event) (t : ℕ) where
  call_unstored : Reached g → empty (stored_in (stepped g c)) ≡ true → retimed t (stepped g c).group ≡ retimed t g
  unfolding stepped carry_out
  call_unstored r =
      let v = legible_reached g r in
      let bytes = all_bytes (effect g c.event).records in
      step_cases g c.event c.buffer c.list (λ s. empty (stored_in s) ≡ true → retimed t s.group ≡ retimed t g) (λ _ _. refl)
      (λ _ rows z. quiet g v c.event rows
      (no_records _ (accepted_legal g v c.event (rows_none _ rows) ok).back (sym (ap empty (overlaid bytes c.buffer)) ∙ z)) t)

  call_stored : empty (stored_in (stepped g c)) ≡ false → Stored t g (stored_in (stepped g c)) (stepped g c).group
  unfolding stepped carry_out
  call_stored =
      let o = overlaid (all_bytes (effect g c.event).records) c.buffer in
      step_cases g c.event c.buffer c.list (λ s. empty (stored_in s) ≡ false → Stored t g (stored_in s) s.group)
      (λ _ z. absurd (true≢false z))
      (λ _ rows z. record {
        writes = record {
          group = g;
          alike = sym (retimed_twice t 0 g);
          event = c.event;
          typed = ok;
          accepted = rows_none (table g c.event) rows;
          writes = sym o;
          stored = z;
        };
        leaves = refl;
      })

-- ---- an item

module _ (t : ℕ) (g : Group) where
  pub item_unstored : Reached g → (i : Item) → ItemTyped i → empty (stored_by g i) ≡ true → retimed t (next_group g i) ≡ retimed t g
  unfolding next_group stored_by
  item_unstored r (happens c told) ok z = call_unstored g c ok t r z
  item_unstored r (reads s) ok z = retimed_twice s t g

  pub item_stored : (i : Item) → ItemTyped i → empty (stored_by g i) ≡ false → Stored t g (stored_by g i) (next_group g i)
  unfolding next_group stored_by
  item_stored (happens c told) ok z = call_stored g c ok t z
  item_stored (reads s) ok z = absurd (true≢false z)
