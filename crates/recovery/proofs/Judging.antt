-- A batch that is read was written: its candidate is the witness (`read_writes`). And what a candidate owes so that a batch that was written is read (`Found`,
-- `found_read`): for an event e that is typed and accepted on a legible group g, and that writes some record,
--
--   Found t (retimed t g) (effect g e).records (effect g e).group
--
-- that is: a candidate is made from its records, at any tick t; it is typed, no row refuses it on the group so far with the tick of reading, it writes
-- the same records, and the group that it leaves is the same, ticks aside. That its numbers are of 32 bits follows (Fits).
-- The five kinds have it in TopicBatch, JoinBatch, OrdinaryBatch, RemovalBatch (leaves and sweeps) and InstallBatch.
use Rattle.std.specs.Prelude.{if◌then◌else◌}
use Prim.Native.Nat.{ℕ, zero, suc, ◌+◌, ◌≤◌}
use native.Mathlib.Nat.{add-zero, add-suc, suc-add}
use mathlib.Core.Path.{◌≡◌, refl, sym, ap, ◌∙◌}
use mathlib.Core.Bool.{Bool, true, false, ◌&&◌, false≢true}
use mathlib.Core.List.{List, [], ◌∷◌, map}
use mathlib.Core.Option.{Option, none, some}
use lib.IntN.{pos}
use lib.ListN.{length, get_or}
use lib.Dec.{eqb, ltb}
use borrow.Author.Tests.{eqb-true, le-ltb, ltb-true}
use Rattle.rules.specs.Basics.{all, any, case_of, default, empty, same}
use Rattle.rules.specs.Constants.{batch_limit, id_length, subscription_count}
use Rattle.rules.specs.Group.{Group, Member}
use Rattle.rules.specs.Records.{CurrentAssignment, MemberMetadata, Record, all_bytes, fits, placed}
use Rattle.rules.specs.Event.{Event, Request, heartbeat, install, sweep, topic}
use Rattle.rules.specs.Refusals.{first_of, table}
use Rattle.rules.specs.Effects.{effect}
use Rattle.rules.specs.Reader.{read_all, read_records}
use Rattle.rules.specs.Ledger.{gone}
use Rattle.rules.specs.Course.{Subscribing, Typed}
use Rattle.rules.specs.Batches.{Alike, Witness, Writes, beating, candidate, current_in, entering, epoch_in, heard_at, installing, is_join, is_signed, is_typed, joining, judged, judged_by, making, member_in, moving, passes, read_batch, removing, retimed, retimed_member, session_before, silent, target_epoch_in, topic_in, tried}
use Rattle.rules.specs.declared.Refusal.{Refusal}
use Rattle.rules.proofs.Lists.{and_true, same_eq, same_refl}
use Rattle.theorems.proofs.Cases.{if_cases, no_some}
use Rattle.theorems.proofs.Accepting.{AllFalse, rows_none}
use Rattle.recovery.proofs.Ticks.{alike_members, retimed_twice}

-- ---- typed, from its test

subscribing : (o : Option ℕ) → ltb (default 0 o) subscription_count ≡ true → Subscribing o
subscribing none e = tt
subscribing (some n) e = ltb-true n subscription_count e

typed_true : (e : Event) → is_typed e ≡ true → Typed e
unfolding is_typed
typed_true (heartbeat b) e =
    let h = and_true (eqb (length b.id) id_length) _ (and_true _ (is_signed b.epoch && is_signed b.timeout) e).0 in
    (eqb-true (length b.id) id_length h.0, subscribing b.subscription h.1)
typed_true (sweep tick) e = tt
typed_true (topic t id n) e = eqb-true (length id) id_length e
typed_true (install rule x entries) e = tt

-- ---- a candidate is of the group so far, ticks aside, and is no leave

-- neither a leave nor one of an invalid epoch
abbrev pub Natural : Event → Type 0
Natural (heartbeat b) = (n : ℕ) × (b.epoch ≡ pos n)
Natural (sweep tick) = Unit {0}
Natural (topic t id n) = Unit {0}
Natural (install rule e entries) = Unit {0}

abbrev OfGroup : Group → Option Witness → Type 0
OfGroup g none = Unit {0}
OfGroup g (some w) = Alike w.group g × Natural w.event

of_case : (g : Group) {A : Type 0} (o : Option A) (x : Option Witness) (f : A → Option Witness)
    → OfGroup g x → ((a : A) → OfGroup g (f a)) → OfGroup g (case_of o x f)
of_case g none x f h k = h
of_case g (some a) x f h k = k a

silent_retimed : (u t : ℕ) (ps : List ℕ) (n : ℕ) (ms : List (Option Member)) → map (retimed_member u) (silent t ps n ms) ≡ map (retimed_member u) ms
unfolding silent heard_at retimed_member
silent_retimed u t ps n [] = refl
silent_retimed u t ps n (m ∷ ms) = λ i. one i ∷ silent_retimed u t ps (suc n) ms i
  where
    heard : (o : Option Member) → retimed_member u (heard_at t o) ≡ retimed_member u o
    heard none = refl
    heard (some k) = refl

    one : retimed_member u (if any (eqb n) ps then heard_at t m else m) ≡ retimed_member u m
    one = if_cases (λ (o : Option Member). retimed_member u o ≡ retimed_member u m) (any (eqb n) ps) (λ _. heard m) (λ _. refl)

-- each member, as it stands at its place
pub at_silent : (t : ℕ) (ps : List ℕ) (n : ℕ) (ms : List (Option Member)) (p : ℕ)
    → get_or (silent t ps n ms) p none ≡ (if any (eqb (n + p)) ps then heard_at t (get_or ms p none) else get_or ms p none)
unfolding silent heard_at
at_silent t ps n [] p = if_cases (λ (o : Option Member). none ≡ o) (any (eqb (n + p)) ps) (λ _. refl) (λ _. refl)
at_silent t ps n (m ∷ ms) zero = rw (add-zero n) refl
at_silent t ps n (m ∷ ms) (suc p) = rw (add-suc n p, ← (suc-add n p)) (at_silent t ps (suc n) ms p)

-- the group that a removal is tried on
pub removing_alike : (u t : ℕ) (g : Group) (ps : List ℕ) → retimed u (removing t g ps).group ≡ retimed u g
unfolding removing
removing_alike u t g ps = alike_members u (removing t g ps).group g refl refl refl (silent_retimed u (session_before t) ps 0 g.members) refl

entering_natural : (t : ℕ) (g : Group) (rs : List Record) (m : MemberMetadata) → Natural (heartbeat (entering t g rs m))
unfolding entering joining beating
entering_natural t g rs m = if_cases (λ (b : Request). Natural (heartbeat b)) (is_join (epoch_in rs) (current_in rs)) (λ _. (_, refl)) (λ _. (_, refl))

moving_natural : (t : ℕ) (g : Group) (c : CurrentAssignment) → Natural (heartbeat (moving t g c))
unfolding moving beating
moving_natural t g c = (_, refl)

candidate_of : (t : ℕ) (g : Group) (rs : List Record) → OfGroup g (candidate t g rs)
unfolding candidate tried installing making removing
candidate_of t g rs =
    of_case g (target_epoch_in rs) _ _
    (if_cases (OfGroup g) (empty (gone rs))
    (λ _. of_case g (topic_in rs) _ _
    (of_case g (member_in rs) _ _ (of_case g (current_in rs) none _ tt (λ c. (refl, moving_natural t g c))) (λ m. (refl, entering_natural t g rs m)))
    (λ k. (refl, tt)))
    (λ _. (removing_alike 0 t g (gone rs), tt)))
    (λ n. (refl, tt))

pub candidate_group : (t : ℕ) (g : Group) (rs : List Record) (w : Witness) → candidate t g rs ≡ some w → Alike w.group g × Natural w.event
candidate_group t g rs w e = rw e at (candidate_of t g rs)

-- ---- what is read was written

pass : (o : Option Refusal) → passes o ≡ true → o ≡ none
pass none e = refl
pass (some r) e = absurd (false≢true e)

-- nothing is not a batch
pub nothing : (t : ℕ) (g : Group) → read_batch t g [] ≡ none
unfolding read_batch read_all read_records judged_by candidate judged gone
nothing t g = refl

filled : (t : ℕ) (g h : Group) (bytes : List ℕ) → read_batch t g bytes ≡ some h → empty bytes ≡ false
filled t g h [] e = absurd (no_some h (sym (nothing t g) ∙ e))
filled t g h (b ∷ bs) e = refl

module _ (t : ℕ) (g h : Group) (bytes : List ℕ) (some' : empty bytes ≡ false) where
  from_witness : (w : Witness) → Alike w.group g → (c : Bool)
      → is_typed w.event && (passes (first_of (table w.group w.event)) && same (all_bytes (effect w.group w.event).records) bytes) ≡ c
      → (if c then some (retimed t (effect w.group w.event).group) else none) ≡ some h → Writes g bytes
  from_witness w a true e q =
      let x = and_true (is_typed w.event) _ e in
      let y = and_true (passes (first_of (table w.group w.event))) _ x.1 in
      record {
        group = w.group;
        alike = a;
        event = w.event;
        typed = typed_true w.event x.0;
        accepted = pass (first_of (table w.group w.event)) y.0;
        writes = same_eq (all_bytes (effect w.group w.event).records) bytes y.1;
        stored = some';
      }
  from_witness w a false e q = absurd (no_some h q)

  from_judged : (o : Option Witness) → OfGroup (retimed t g) o → judged t bytes o ≡ some h → Writes g bytes
  unfolding judged
  from_judged none a e = absurd (no_some h e)
  from_judged (some w) a e = from_witness w (a.0 ∙ retimed_twice t 0 g) _ refl e

  from_records : (o : Option (List Record)) → case_of o none (judged_by t g bytes) ≡ some h → Writes g bytes
  unfolding judged_by
  from_records none e = absurd (no_some h e)
  from_records (some rs) e =
      if_cases (λ (o : Option Group). o ≡ some h → Writes g bytes) (all (λ r. fits r && placed r) rs)
      (λ _. from_judged (candidate t (retimed t g) rs) (candidate_of t (retimed t g) rs)) (λ _ q. absurd (no_some h q)) e

pub read_writes : (t : ℕ) (g h : Group) (bytes : List ℕ) → read_batch t g bytes ≡ some h → Writes g bytes
unfolding read_batch
read_writes t g h bytes e =
    if_cases (λ (o : Option Group). o ≡ some h → Writes g bytes) (ltb batch_limit (length bytes))
    (λ _ q. absurd (no_some h q)) (λ _. from_records t g h bytes (filled t g h bytes e) (read_all bytes)) e

-- ---- what was written is read

-- a candidate is found for these records; it is accepted, writes them, and leaves the group `after`, ticks aside
pub record Found (t : ℕ) (g : Group) (rs : List Record) (after : Group) : Type 0 where
  pub witness : Witness
  pub found : candidate t g rs ≡ some witness
  pub typed : Typed witness.event
  pub rows : AllFalse (table witness.group witness.event)
  pub records : (effect witness.group witness.event).records ≡ rs
  pub group : (u : ℕ) → retimed u (effect witness.group witness.event).group ≡ retimed u after

pub found_as : (t : ℕ) (g : Group) (rs rs' : List Record) (h h' : Group) → Found t g rs h → rs ≡ rs' → ((u : ℕ) → retimed u h ≡ retimed u h') → Found t g rs' h'
found_as t g rs rs' h h' f e a = record {
  witness = f.witness;
  found = ap (candidate t g) (sym e) ∙ f.found;
  typed = f.typed;
  rows = f.rows;
  records = f.records ∙ e;
  group = λ u. f.group u ∙ a u;
}

-- records that are read from their bytes, of 32 bits, with places that there are, and of no more bytes than a batch has
pub record Legal (rs : List Record) : Type 0 where
  pub back : read_all (all_bytes rs) ≡ some rs
  pub fit : all (λ r. fits r && placed r) rs ≡ true
  pub short : length (all_bytes rs) ≤ batch_limit

pub found_read : (t : ℕ) (g : Group) (rs : List Record) (after : Group) → Legal rs → (f : Found t (retimed t g) rs after) → is_typed f.witness.event ≡ true
    → read_batch t g (all_bytes rs) ≡ some (retimed t after)
unfolding read_batch judged_by judged
found_read t g rs after legal f typed =
    let w = f.witness in
    rw (
      le-ltb batch_limit (length (all_bytes rs)) legal.short,
      legal.back,
      legal.fit,
      f.found,
      typed,
      rows_none (table w.group w.event) f.rows,
      f.records,
      same_refl (all_bytes rs),
    )
    (ap some (f.group t))
