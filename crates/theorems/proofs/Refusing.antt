-- A refusal changes nothing, and 1003 is given exactly where its own row applies and none before it does: no effect's answer is a refusal, and no other row
-- says 1003.
use Rattle.std.specs.Prelude.{if◌then◌else◌}
use Prim.Native.Nat.{ℕ, ◌<◌}
use native.Mathlib.Omega.{arith}
use mathlib.Core.Path.{◌≡◌, refl, sym, ap, ◌∙◌}
use mathlib.Core.Logic.{◌⊎◌, ⊎_elim, inl, inr}
use mathlib.Core.Bool.{Bool, true, false, not, ◌&&◌, ◌||◌, false≢true}
use mathlib.Core.List.{List, [], ◌∷◌, ◌++◌}
use mathlib.Core.Option.{Option, none, some}
use lib.ListN.{length}
use lib.Dec.{eqb, ltb}
use borrow.Author.Tests.{eq-eqb, lt-ltb, ltb-true}
use Rattle.rules.specs.Group.{Group}
use Rattle.rules.specs.Records.{all_bytes}
use Rattle.rules.specs.Event.{Event, Request, heartbeat, install, sweep, topic}
use Rattle.rules.specs.Answers.{number_of}
use Rattle.rules.specs.Refusals.{Kind, Row, ◌when◌, first_of, heartbeat_table, invalid, joins, kind_of, leaves, ordinary, table}
use Rattle.rules.specs.Effects.{effect, heartbeat_effect, install_effect, join_at, join_effect, leave_at, leave_effect, sweep_effect, sweep_of, topic_effect, ordinary_at}
use Rattle.rules.specs.Step.{carry_out, step, too_little_room, verdict}
use Rattle.rules.specs.Theorems.{RefusalChangesNothing, RoomAlwaysThen, RoomOnlyThen}
use Rattle.rules.specs.declared.Refusal.{Refusal}
use Rattle.rules.specs.declared.Refusal.TheVariants.{Room}
use Rattle.rules.specs.declared.Answer.{Answer}
use Rattle.rules.specs.declared.Answer.TheVariants.{Refused}
use Rattle.rules.proofs.Lists.{and_true, or_true}
use Rattle.theorems.proofs.Cases.{no_some, some_inj}

-- ---- an effect's answer is no refusal

abbrev pub Accepts : Answer → Type 0
Accepts a = (r : Refusal) → a ≡ Refused r → ⊥

heartbeat_accepts : (g : Group) (b : Request) (k : Kind) → Accepts (heartbeat_effect g b k).answer
unfolding heartbeat_effect join_effect join_at leave_effect leave_at ordinary_at
heartbeat_accepts g b joins r e = let z : ◌≡◌ {A = ℕ} 0 1 = cc in omega arith
heartbeat_accepts g b leaves r e = let z : ◌≡◌ {A = ℕ} 0 1 = cc in omega arith
heartbeat_accepts g b invalid r e = let z : ◌≡◌ {A = ℕ} 0 1 = cc in omega arith
heartbeat_accepts g b (ordinary n) r e = let z : ◌≡◌ {A = ℕ} 0 1 = cc in omega arith

pub effect_accepts : (g : Group) (e : Event) → Accepts (effect g e).answer
unfolding effect sweep_effect sweep_of topic_effect install_effect
effect_accepts g (heartbeat b) r e = heartbeat_accepts g b (kind_of b.epoch) r e
effect_accepts g (sweep tick) r e = let z : ◌≡◌ {A = ℕ} 0 1 = cc in omega arith
effect_accepts g (topic t id n) r e = let z : ◌≡◌ {A = ℕ} 0 1 = cc in omega arith
effect_accepts g (install rule x entries) r e = let z : ◌≡◌ {A = ℕ} 0 1 = cc in omega arith

-- ---- a refusal changes nothing

pub refusal_changes_nothing : RefusalChangesNothing
unfolding step carry_out
refusal_changes_nothing g e buffer list r h = pick (verdict g e buffer list) h
  where
    pick : (v : Option Refusal) → (carry_out v g (effect g e) buffer list).answer ≡ Refused r
        → carry_out v g (effect g e) buffer list ≡ record { answer = Refused r; group = g; written = 0; buffer = buffer; list = list }
    pick none q = absurd (effect_accepts g e r q)
    pick (some s) q = λ i. record { answer = q i; group = g; written = 0; buffer = buffer; list = list }

-- ---- 1003 is given by its own row alone

-- no row says 1003
room_free : List Row → Bool
room_free [] = true
room_free ((r when b) ∷ rows) = not (eqb (number_of r) (number_of Room)) && room_free rows

heartbeat_rows : (g : Group) (b : Request) (k : Kind) → room_free (heartbeat_table g b k) ≡ true
unfolding room_free heartbeat_table
heartbeat_rows g b joins = refl
heartbeat_rows g b leaves = refl
heartbeat_rows g b invalid = refl
heartbeat_rows g b (ordinary n) = refl

table_rows : (g : Group) (e : Event) → room_free (table g e) ≡ true
unfolding room_free table
table_rows g (heartbeat b) = heartbeat_rows g b (kind_of b.epoch)
table_rows g (sweep tick) = refl
table_rows g (topic t id n) = refl
table_rows g (install rule x entries) = refl

-- 1003 comes from the row after the others, where none of them applies and its own test does
room_last : (rows : List Row) (test : Bool) → room_free rows ≡ true → first_of (rows ++ (Room when test) ∷ []) ≡ some Room → (first_of rows ≡ none) × (test ≡ true)
unfolding first_of room_free
room_last [] true h e = (refl, refl)
room_last [] false h e = let z : ◌≡◌ {A = ℕ} 0 1 = cc in absurd (omega arith)
room_last ((r when true) ∷ rows) test h e =
    let same' : eqb (number_of r) (number_of Room) ≡ true = eq-eqb (number_of r) (number_of Room) (ap number_of (some_inj e)) in
    absurd (false≢true (sym (ap not same') ∙ (and_true (not (eqb (number_of r) (number_of Room))) (room_free rows) h).0))
room_last ((r when false) ∷ rows) test h e = room_last rows test (and_true (not (eqb (number_of r) (number_of Room))) (room_free rows) h).1 e

-- where no row applies, the row after them decides
pub last_row : (rows : List Row) (r : Refusal) (test : Bool) → first_of rows ≡ none → first_of (rows ++ (r when test) ∷ []) ≡ (if test then some r else none)
unfolding first_of
last_row [] r test h = refl
last_row ((s when true) ∷ rows) r test h = absurd (no_some s (sym h))
last_row ((s when false) ∷ rows) r test h = last_row rows r test h

or_cases : (a b : Bool) → a || b ≡ true → (a ≡ true) ⊎ (b ≡ true)
or_cases true b e = inl refl
or_cases false b e = inr e

said_room : (g : Group) (e : Event) (buffer list : List ℕ) (v : Option Refusal) → (carry_out v g (effect g e) buffer list).answer ≡ Refused Room → v ≡ some Room
unfolding carry_out
said_room g e buffer list none q = absurd (effect_accepts g e Room q)
said_room g e buffer list (some r) q = cc

pub room_only_then : RoomOnlyThen
unfolding step verdict too_little_room
room_only_then g e buffer list h =
    let v = said_room g e buffer list (verdict g e buffer list) h in
    let k = room_last (table g e) (too_little_room (effect g e) buffer list) (table_rows g e) v in
    (k.0, ⊎_elim (λ x. inl (ltb-true _ _ x)) (λ x. inr (ltb-true _ _ x)) (or_cases (ltb (length buffer) (length (all_bytes (effect g e).records))) (ltb (length list) (length (effect g e).told)) k.1))

pub room_always_then : RoomAlwaysThen
unfolding step verdict too_little_room carry_out
room_always_then g e buffer list h short = rw (last_row (table g e) Room (too_little_room (effect g e) buffer list) h, tight short) refl
  where
    tight : (length buffer < length (all_bytes (effect g e).records)) ⊎ (length list < length (effect g e).told) → too_little_room (effect g e) buffer list ≡ true
    tight (inl x) = rw (lt-ltb (length buffer) (length (all_bytes (effect g e).records)) x) refl
    tight (inr x) = or_true (ltb (length buffer) (length (all_bytes (effect g e).records))) _ (lt-ltb (length list) (length (effect g e).told) x)
