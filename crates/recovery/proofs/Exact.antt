-- A batch is refused exactly when no event would write it: every kind of event has its candidate, so what was written is read, and what is read was written
-- (Judging). Every group that a reader comes to is legible, so this holds of every batch of every file.
use Rattle.std.specs.Prelude.{if◌then◌else◌}
use Prim.Native.Nat.{ℕ}
use mathlib.Core.Path.{◌≡◌, refl, sym, ap, ◌∙◌, subst}
use mathlib.Core.Bool.{false, ◌&&◌, true≢false}
use mathlib.Core.List.{List, [], ◌∷◌}
use mathlib.Core.Option.{Option, none, some}
use lib.ListN.{length}
use lib.Dec.{ltb}
use Rattle.rules.specs.Basics.{all, case_of, empty}
use Rattle.rules.specs.Constants.{batch_limit}
use Rattle.rules.specs.Group.{Group}
use Rattle.rules.specs.Records.{Record, all_bytes, fits, placed}
use Rattle.rules.specs.Event.{Event, Request, heartbeat, install, sweep, topic}
use Rattle.rules.specs.Refusals.{Kind, first_of, heartbeat_table, invalid, joins, kind_of, leaves, ordinary, table}
use Rattle.rules.specs.Effects.{effect, heartbeat_effect}
use Rattle.rules.specs.Reader.{read_all}
use Rattle.rules.specs.Course.{Typed}
use Rattle.rules.specs.Batches.{Alike, Exact, JudgesExactly, Legible, SameBytesSameGroup, SoFar, Writes, candidate, judged, judged_by, nothing_read, one_more, read_batch, retimed}
use Rattle.theorems.proofs.Cases.{none_not, some_inj}
use Rattle.theorems.proofs.Accepting.{AllFalse, rows_false}
use Rattle.theorems.proofs.Legible.{legible_accepted, legible_alike, legible_fresh, legible_retimed}
use Rattle.recovery.proofs.Ticks.{alike_at, retimed_twice}
use Rattle.recovery.proofs.Judging.{Found, candidate_group, found_read, read_writes}
use Rattle.recovery.proofs.TopicBatch.{topic_found}
use Rattle.recovery.proofs.JoinBatch.{join_found}
use Rattle.recovery.proofs.OrdinaryBatch.{ordinary_found}
use Rattle.recovery.proofs.RemovalBatch.{leave_found, sweep_found}
use Rattle.recovery.proofs.InstallBatch.{install_found}
use Rattle.recovery.proofs.Fits.{accepted_legal, accepted_typed}

-- a group that is equal but for ticks reads the same
read_alike : (t : ℕ) (g h : Group) (bytes : List ℕ) → Alike h g → read_batch t g bytes ≡ read_batch t h bytes
unfolding read_batch judged_by
read_alike t g h bytes a =
    ap (λ (x : Group). if ltb batch_limit (length bytes) then none
    else case_of (read_all bytes) none (λ rs. if all (λ r. fits r && placed r) rs then judged t bytes (candidate t x rs) else none))
    (sym (alike_at t h g a))

-- ---- every kind has its candidate

some_records : (rs : List Record) → empty (all_bytes rs) ≡ false → empty rs ≡ false
unfolding all_bytes
some_records [] z = absurd (true≢false z)
some_records (r ∷ rs) z = refl

module _ (t : ℕ) (g : Group) (v : Legible g) where
  heartbeat_found : (b : Request) → Typed (heartbeat b) → (k : Kind) → kind_of b.epoch ≡ k → AllFalse (heartbeat_table g b k)
      → empty (heartbeat_effect g b k).records ≡ false → Found t (retimed t g) (heartbeat_effect g b k).records (heartbeat_effect g b k).group
  unfolding heartbeat_effect heartbeat_table
  heartbeat_found b typed joins kind rows filled = join_found t g b typed rows
  heartbeat_found b typed leaves kind rows filled = leave_found t g v b rows
  heartbeat_found b typed invalid kind rows filled = absurd (true≢false rows.0)
  heartbeat_found b typed (ordinary e) kind rows filled = ordinary_found t g v b e kind typed rows filled

  effect_found : (e : Event) → Typed e → AllFalse (table g e) → empty (effect g e).records ≡ false
      → Found t (retimed t g) (effect g e).records (effect g e).group
  unfolding effect table
  effect_found (heartbeat b) typed rows filled = heartbeat_found b typed (kind_of b.epoch) refl rows.1 filled
  effect_found (sweep tick) typed rows filled = sweep_found t g v tick filled
  effect_found (topic k id n) typed rows filled = topic_found t g k id n typed rows filled
  effect_found (install rule e entries) typed rows filled = install_found t g v rule e entries rows

  -- ---- both ways

  -- what an event wrote for this very group
  pub written_read : (e : Event) → first_of (table g e) ≡ none → Typed e → empty (all_bytes (effect g e).records) ≡ false
      → read_batch t g (all_bytes (effect g e).records) ≡ some (retimed t (effect g e).group)
  written_read e rows typed filled =
      let f = effect_found e typed (rows_false g e rows) (some_records (effect g e).records filled) in
      let w = f.witness in
      let of = candidate_group t (retimed t g) (effect g e).records w f.found in
      let legible = legible_alike g w.group (of.0 ∙ retimed_twice t 0 g) v in
      found_read t g (effect g e).records (effect g e).group (accepted_legal g v e rows typed) f
      (accepted_typed w.group legible w.event of.1 f.typed f.rows)

module _ (t : ℕ) (g : Group) (v : Legible g) (bytes : List ℕ) where
  pub writes_read : (w : Writes g bytes) → read_batch t g bytes ≡ some (retimed t (effect w.group w.event).group)
  writes_read w =
      let h = w.group in
      read_alike t g h bytes w.alike
      ∙ ap (read_batch t h) (sym w.writes)
      ∙ written_read t h (legible_alike g h w.alike v) w.event w.accepted w.typed (ap empty w.writes ∙ w.stored)

  pub exact : Exact t g bytes
  exact = record {
    accepted = λ h e. read_writes t g h bytes e;
    read = writes_read;
    refused = λ e w. none_not e (writes_read w);
    refuses = λ never. pick (read_batch t g bytes) refl never;
  }
    where
      pick : (o : Option Group) → read_batch t g bytes ≡ o → (Writes g bytes → ⊥) → read_batch t g bytes ≡ none
      pick none e never = e
      pick (some h) e never = absurd (never (read_writes t g h bytes e))

  pub read_legible : (h : Group) → read_batch t g bytes ≡ some h → Legible h
  read_legible h e =
      let w = read_writes t g h bytes e in
      let k = legible_alike g w.group w.alike v in
      subst Legible (some_inj (sym (writes_read w) ∙ e))
      (legible_retimed t (effect w.group w.event).group (legible_accepted w.group w.event w.accepted w.typed k))

-- ---- every batch of every file

pub so_far_legible : (t : ℕ) (g : Group) → SoFar t g → Legible g
so_far_legible t g nothing_read = legible_fresh t
so_far_legible t g (one_more {g = f} s bytes e) = read_legible t f (so_far_legible t f s) bytes g e

pub judges_exactly : JudgesExactly
judges_exactly t g s bytes = exact t g (so_far_legible t g s) bytes

pub same_bytes_same_group : SameBytesSameGroup
same_bytes_same_group t g s bytes v w = some_inj (sym (writes_read t g (so_far_legible t g s) bytes v) ∙ writes_read t g (so_far_legible t g s) bytes w)
