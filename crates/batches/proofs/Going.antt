-- A batch read record by record: its records are those taken so far and those that are left.
use Rattle.std.proofs.Common.{if◌then◌else◌, ◌≡◌, refl, sym, ap, ◌∙◌, Bool, true, false, ◌&&◌, List, [], ◌∷◌, ◌++◌, append-nil, append_assoc, ℕ, ◌≤◌, ◌<◌, length, drop}
use mathlib.Core.Option.{Option, none, some}
use Rattle.std.specs.Prelude as P
use Rattle.rules.specs.Basics.{all, case_of}
use Rattle.rules.specs.Records.{Record, fits, placed}
use Rattle.rules.specs.Reader.{joined, read_all}
use Rattle.reading.specs.Fitting.{read_fitting, read_fitting_all}
use Rattle.reading.proofs.Walking.{walk_ends, walk_goes, walk_stops}
use Rattle.reading.specs.Views.{view_record}
use Rattle.reading.specs.Walk.{rest, YieldsRecord}
use Rattle.reading.specs.declared.Record as Code
use Rattle.reading.specs.declared.batch.Records.{Records}
use Rattle.batches.specs.declared.Gathered.{Gathered}
use Rattle.batches.specs.Gathered.{kept, fitting, Says}
use Rattle.batches.specs.Adding.{Holds, Takes}
use Rattle.batches.proofs.More.{nothing}

-- ---- places, after numbers

abbrev whose : Option (List Record) → Option (List Record)
whose o = case_of o none (λ rs. if all placed rs then some rs else none)

both_pass : (rs : List Record) → all (λ r. fits r && placed r) rs ≡ (all fits rs && all placed rs)
both_pass [] = refl
both_pass (r ∷ rs) = go (fits r) (placed r) (both_pass rs)
  where
    go : (a b : Bool) → all (λ x. fits x && placed x) rs ≡ (all fits rs && all placed rs)
        → ((a && b) && all (λ x. fits x && placed x) rs) ≡ ((a && all fits rs) && (b && all placed rs))
    go false b e = refl
    go true true e = e
    go true false e = sym (never (all fits rs))
      where
        never : (x : Bool) → (x && false) ≡ false
        never true = refl
        never false = refl

fitting_is : (b : List ℕ) → fitting b ≡ whose (read_fitting_all b)
unfolding fitting kept read_fitting_all
fitting_is b = go (read_all b)
  where
    pick : (rs : List Record) (x y : Bool) → (if x && y then some rs else none) ≡ case_of (if x then some rs else none) none (λ us. if y then some us else none)
    pick rs true y = refl
    pick rs false y = refl

    test : (rs : List Record) (x : Bool)
        → case_of (if x then some rs else none) none (λ us. if all placed rs then some us else none) ≡ whose (if x then some rs else none)
    test rs true = refl
    test rs false = refl

    go : (o : Option (List Record))
        → case_of o none (λ rs. if all (λ r. fits r && placed r) rs then some rs else none) ≡ whose (case_of o none (λ rs. if all fits rs then some rs else none))
    go none = refl
    go (some rs) =
        ap (λ (x : Bool). if x then some rs else none) (both_pass rs) ∙ pick rs (all fits rs) (all placed rs) ∙ test rs (all fits rs)

whose_joined : (a : Record) (o : Option (List Record)) → whose (joined a o) ≡ (if placed a then joined a (whose o) else none)
unfolding joined
whose_joined a none = go (placed a)
  where
    go : (x : Bool) → none ≡ (if x then joined a none else none)
    go true = refl
    go false = refl
whose_joined a (some rs) = go (placed a) (all placed rs)
  where
    go : (x y : Bool) → (if x && y then some (a ∷ rs) else none) ≡ (if x then joined a (if y then some rs else none) else none)
    go true true = refl
    go true false = refl
    go false y = refl

-- ---- from a place on

module _ (s : List ℕ) (at : ℕ) where
  fit_goes : (a : Record) (b : List ℕ) → at < length s → read_fitting (drop at s) ≡ some (a, b)
      → fitting (drop at s) ≡ (if placed a then joined a (fitting b) else none)
  fit_goes a b l e =
      fitting_is (drop at s) ∙ ap whose (walk_goes s at a b l e) ∙ whose_joined a (read_fitting_all b)
      ∙ ap (λ (o : Option (List Record)). if placed a then joined a o else none) (sym (fitting_is b))

  fit_stops : at < length s → read_fitting (drop at s) ≡ none → fitting (drop at s) ≡ none
  fit_stops l e = fitting_is (drop at s) ∙ ap whose (walk_stops s at l e)

  fit_ends : length s ≤ at → fitting (drop at s) ≡ some []
  fit_ends l = fitting_is (drop at s) ∙ ap whose (walk_ends s at l)

-- ---- the records so far

abbrev pub after : List Record → Option (List Record) → Option (List Record)
after rs o = case_of o none (λ more. some (rs ++ more))

after_nothing : (o : Option (List Record)) → o ≡ after [] o
after_nothing none = refl
after_nothing (some rs) = refl

after_joined : (rs : List Record) (a : Record) (o : Option (List Record)) → after rs (joined a o) ≡ after (rs ++ a ∷ []) o
unfolding joined
after_joined rs a none = refl
after_joined rs a (some more) = ap some (sym (append_assoc rs (a ∷ []) more))

-- the records taken from the bytes s and those that the walk w has still to give
pub record Going (s : List ℕ) (w : Records) (r : Gathered) (t : List Bool) (e₀ e : List ℕ) : Type 0 where
  pub records : List Record
  pub read : fitting s ≡ after records (fitting (rest w))
  pub holds : Holds records r t e₀ e

pub going_begins : {s : List ℕ} {w : Records} {r : Gathered} {t : List Bool} {e : List ℕ} → rest w ≡ s → Holds [] r t e e → Going s w r t e e
going_begins {s} {w} b h = record { records = []; read = after_nothing (fitting s) ∙ ap (λ (l : List ℕ). after [] (fitting l)) (sym b); holds = h }

module _ {s : List ℕ} {w : Records} {r : Gathered} {t : List Bool} {e₀ e : List ℕ} (g : Going s w r t e₀ e) where
  -- what is left is no batch, and so nothing is
  stuck : fitting (rest w) ≡ none → fitting s ≡ none
  stuck e = g.read ∙ ap (after g.records) e

  pub going_cut : (o : P.Option Code.Record) (w' : Records) → YieldsRecord w (P.Some o) w' → o ≡ P.None → fitting s ≡ none
  going_cut P.None w' y n = stuck (fit_stops w.bytes.now w.at y.0 y.1)
  going_cut (P.Some a) w' y n = cc

  module _ (a : Code.Record) (w' : Records) (y : YieldsRecord w (P.Some (P.Some a)) w') where
    goes : (b : Bool) → placed (view_record a) ≡ b → fitting (rest w) ≡ (if b then joined (view_record a) (fitting (rest w')) else none)
    goes b p =
        fit_goes w.bytes.now w.at (view_record a) (rest w') y.0 y.1
        ∙ ap (λ (b : Bool). if b then joined (view_record a) (fitting (rest w')) else none) p

    lost : placed (view_record a) ≡ false → fitting s ≡ none
    lost p = stuck (goes false p)

    pub going_on : (r' : Gathered) (t' : List Bool) (e' : List ℕ) → Takes (view_record a) r (P.Some r') t t' e e' → Going s w' r' t' e₀ e'
    going_on r' t' e' k = record {
      records = g.records ++ view_record a ∷ [];
      read = g.read ∙ ap (after g.records) (goes true k.0) ∙ after_joined g.records (view_record a) (fitting (rest w'));
      holds = k.1 g.records e₀ g.holds;
    }

  pub going_lost : (o : P.Option Code.Record) (w' : Records) (a : Code.Record) → YieldsRecord w (P.Some o) w' → o ≡ P.Some a
      → placed (view_record a) ≡ false → fitting s ≡ none
  going_lost P.None w' a y e p = cc
  going_lost (P.Some b) w' a y e p = let same : b ≡ a = cc in lost b w' y (ap (λ r. placed (view_record r)) same ∙ p)

  pub going_ends : length w.bytes.now ≤ w.at → Says s r t e₀ e
  going_ends l =
      let h = g.holds in
      record {
        records = g.records;
        read = g.read ∙ ap (after g.records) (fit_ends w.bytes.now w.at l) ∙ ap some (append-nil g.records);
        epoch = h.epoch;
        topic = h.topic;
        member = h.member;
        any_gone = h.any_gone;
        marks = h.marks;
        target_epoch = h.target_epoch;
        current = h.current;
        targets = h.targets;
      }

-- what the steps of the loop come to
pub ruleset by_records = (nothing, going_begins, going_on)
