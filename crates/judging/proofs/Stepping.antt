-- An event that the code's own function ran, with a scratch buffer no shorter than the batch, is judged as the rules judge it. Records that do not fit the
-- buffer are longer than the batch, so not the same; and a refusal writes nothing, while a batch has bytes.
use Rattle.std.specs.Prelude.{if◌then◌else◌}
use Rattle.std.proofs.Common.{ℕ, ◌≤◌, ◌<◌, arith, ◌≡◌, refl, sym, ap, ◌∙◌, Bool, true, false, ◌&&◌, ◌||◌, true≢false, List, [], ◌∷◌, ◌++◌, ltb, length, drop, length-append, le-leb, le-ltb, ltb-true}
use Rattle.std.proofs.Math.Bool.{or-false}
use Rattle.std.proofs.Math.Option.{Option, none, some}
use Rattle.rules.specs.Basics.{empty, same}
use Rattle.rules.specs.Group.{Group}
use Rattle.rules.specs.Records.{all_bytes}
use Rattle.rules.specs.Event.{Event}
use Rattle.rules.specs.Refusals.{Row, ◌when◌, first_of, table}
use Rattle.rules.specs.Effects.{Effect, effect}
use Rattle.rules.specs.Step.{Stepped, carry_out, overlay, step, too_little_room, verdict}
use Rattle.rules.specs.Batches.{is_typed, judged, passes, retimed}
use Rattle.rules.specs.declared.Refusal.{Refusal}
use Rattle.rules.specs.declared.Refusal.TheVariants.{Room}
use Rattle.theorems.proofs.Cases.{no_some}
use Rattle.theorems.proofs.Refusing.{last_row}
use Rattle.theorems.proofs.Accepting.{AllFalse, rows_false}
use Rattle.theorems.proofs.ReadBack.{overlaid}
use Rattle.events.specs.declared.Outcome.{Outcome}
use Rattle.events.specs.Outcomes.{took}
use Rattle.judging.specs.Reads.{good_as, is_batch}
use Rattle.judging.proofs.Bytes.{not_same}

-- ---- the last row

first_refuses : (rows : List Row) (r x : Refusal) (b : Bool) → first_of rows ≡ some r → first_of (rows ++ (x when b) ∷ []) ≡ some r
unfolding first_of
first_refuses [] r x b e = absurd (no_some r e)
first_refuses ((y when true) ∷ rows) r x b e = e
first_refuses ((y when false) ∷ rows) r x b e = first_refuses rows r x b e

-- ---- what was stepped

-- the batch is what was written, and is then read as the group that was left
abbrev read_of : Stepped → List ℕ → Option Group
read_of s batch = good_as (is_batch s.buffer s.written batch) s.group

nothing_written : (g : Group) (buf batch : List ℕ) → empty batch ≡ false → good_as (is_batch buf 0 batch) g ≡ none
unfolding good_as is_batch
nothing_written g buf [] z = absurd (true≢false z)
nothing_written g buf (b ∷ batch) z = rw (le-leb 0 (length buf) (omega arith))

overlay_long : (a b : List ℕ) → length a ≤ length (overlay a b)
unfolding overlay
overlay_long a b = omega (arith, length-append a (drop (length a) b))

all_written : (f : Effect) (buf batch : List ℕ)
    → good_as (is_batch (overlay (all_bytes f.records) buf) (length (all_bytes f.records)) batch) f.group ≡ good_as (same (all_bytes f.records) batch)
    f.group
unfolding is_batch
all_written f buf batch =
    let w = all_bytes f.records in
    rw (le-leb (length w) (length (overlay w buf)) (overlay_long w buf), overlaid w buf)

longer : (f : Effect) (batch : List ℕ) → length batch < length (all_bytes f.records) → good_as (same (all_bytes f.records) batch) f.group ≡ none
unfolding good_as
longer f batch h = rw (not_same (all_bytes f.records) batch (λ e. let z : length (all_bytes f.records) ≡ length batch = ap length e in omega arith))

module _ (t : ℕ) (g : Group) (e : Event) (keeps : AllFalse (table g e) → retimed t (effect g e).group ≡ (effect g e).group)
    (typed : is_typed e ≡ true) (buf list batch : List ℕ) (stored : empty batch ≡ false) (short : length batch ≤ length buf)
    (told : length (effect g e).told ≤ length list) where
  abbrev f : Effect
  f = effect g e

  room : (x : Bool) → too_little_room f buf list ≡ x
      → read_of (carry_out (if x then some Room else none) g f buf list) batch ≡ good_as (same (all_bytes f.records) batch) f.group
  unfolding carry_out too_little_room
  room true q =
      let k : ltb (length buf) (length (all_bytes f.records)) || false ≡ true =
      ap (λ (b : Bool). ltb (length buf) (length (all_bytes f.records)) || b) (sym (le-ltb (length list) (length f.told) told)) ∙ q in
      nothing_written g buf batch stored
      ∙ sym (longer f batch (omega (arith, short, ltb-true (length buf) (length (all_bytes f.records)) (sym (or-false _) ∙ k))))
  room false q = all_written f buf batch

  by_table : (o : Option Refusal) → first_of (table g e) ≡ o
      → read_of (step g e buf list) batch ≡ (if passes o && same (all_bytes f.records) batch then some (retimed t f.group) else none)
  unfolding step verdict carry_out good_as
  by_table none p =
      ap (λ (v : Option Refusal). read_of (carry_out v g f buf list) batch) (last_row (table g e) Room (too_little_room f buf list) p)
      ∙ room (too_little_room f buf list) refl
      ∙ ap (λ (h : Group). if same (all_bytes f.records) batch then some h else none) (sym (keeps (rows_false g e p)))
  by_table (some r) p =
      ap (λ (v : Option Refusal). read_of (carry_out v g f buf list) batch) (first_refuses (table g e) r Room (too_little_room f buf list) p)
      ∙ nothing_written g buf batch stored

  -- what the code handed back, and what it left in the scratch buffer
  pub judges : (o : Outcome) (h : Group) (buf' list' : List ℕ) → took o h buf' list' ≡ step g e buf list
      → good_as (is_batch buf' o.written batch) h ≡ judged t batch (some (record { group = g; event = e }))
  unfolding took judged
  judges o h buf' list' q = ap (λ (s : Stepped). read_of s batch) q ∙ by_table (first_of (table g e)) refl ∙ sym (rw typed)

-- an event whose numbers do not fit was never accepted
pub untyped : (t : ℕ) (g : Group) (e : Event) (batch : List ℕ) → is_typed e ≡ false → none ≡ judged t batch (some (record { group = g; event = e }))
unfolding judged
untyped t g e batch h = rw h
