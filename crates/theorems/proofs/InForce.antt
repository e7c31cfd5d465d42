-- The target in force, while no record 3 was stored since its install: an event that does not raise G keeps it, and one that does stores a record 3, after
-- which none is in force.
use Rattle.std.specs.Prelude.{if◌then◌else◌}
use Prim.Native.Nat.{ℕ}
use mathlib.Core.Path.{◌≡◌, refl, sym, ap, ◌∙◌}
use mathlib.Core.Logic.{◌⊎◌, inl, inr}
use mathlib.Core.Bool.{Bool, true, false, false≢true}
use mathlib.Core.List.{List, [], ◌∷◌, ◌++◌, map}
use mathlib.Core.Option.{Option, none, some}
use lib.ListN.{length, get_or, set, take}
use lib.Dec.{eqb}
use borrow.Author.Tests.{eqb-true}
use Rattle.rules.specs.Basics.{any}
use Rattle.rules.specs.Constants.{no_place, slot_count}
use Rattle.rules.specs.Group.{Member, SlotState}
use Rattle.rules.specs.Records.{Record, all_bytes}
use Rattle.rules.specs.Effects.{retargeted, vacated}
use Rattle.rules.specs.Step.{overlay}
use Rattle.rules.specs.Ledger.{records_in}
use Rattle.rules.specs.Course.{Installed, is_epoch_record, unless_epoch}
use Rattle.rules.proofs.Lists.{or_true}
use Rattle.theorems.proofs.Cases.{by_cases, eq_cases, if_cases, no_some}
use Rattle.theorems.proofs.ReadBack.{AllProper, records_stored}
use Rattle.theorems.proofs.Moves.{at_vacated, target_retargeted, target_in}
use Rattle.theorems.proofs.SingleHolder.{id_none, id_other, id_in}

-- a slot's target is its entry, or none where the entry's place has no member any more
abbrev pub AsInstalled : List (Option Member) → ℕ → ℕ → Type 0
AsInstalled ms target entry = (target ≡ entry) ⊎ ((target ≡ no_place) × (id_in ms entry ≡ none))

pub record InForce (G T : ℕ) (ms : List (Option Member)) (ss : List SlotState) (i : Installed) : Type 0 where
  pub epoch : G ≡ i.epoch
  pub target : T ≡ i.epoch
  pub long : length i.entries ≡ slot_count
  pub at : (s : ℕ) → AsInstalled ms (target_in ss s) (get_or i.entries s no_place)

target_vacated : (p : ℕ) (ss : List SlotState) (s : ℕ) → target_in (map (vacated p) ss) s ≡ (if eqb (target_in ss s) p then no_place else target_in ss s)
unfolding target_in vacated
target_vacated p ss s = ap (λ (x : SlotState). x.target) (at_vacated p ss s)

none_stays : (ms : List (Option Member)) (p q : ℕ) → id_in ms q ≡ none → id_in (set ms p none) q ≡ none
none_stays ms p q e = eq_cases p q (λ f. ap (id_in (set ms p none)) (sym f) ∙ id_none ms p) (λ f. id_other ms p q none (λ k. f (sym k)) ∙ e)

pub in_force_remove : {G T : ℕ} {ms : List (Option Member)} {ss : List SlotState} {i : Installed} (p : ℕ) → InForce G T ms ss i → InForce G T (set ms p none) (map (vacated p) ss) i
in_force_remove {ms = ms} {ss = ss} {i = i} p a = record { epoch = a.epoch; target = a.target; long = a.long; at = λ s. rw (target_vacated p ss s) (move (target_in ss s) (get_or i.entries s no_place) (a.at s)) }
  where
    move : (t e : ℕ) → AsInstalled ms t e → AsInstalled (set ms p none) (if eqb t p then no_place else t) e
    move t e (inl q) = if_cases (λ u. AsInstalled (set ms p none) u e) (eqb t p) (λ f. inr (refl, ap (id_in (set ms p none)) (sym q ∙ eqb-true t p f) ∙ id_none ms p)) (λ _. inl q)
    move t e (inr q) = inr (if_cases (λ u. u ≡ no_place) (eqb t p) (λ _. refl) (λ _. q.0), none_stays ms p e q.1)

pub in_force_same : {G T : ℕ} {ms ms' : List (Option Member)} {ss ss' : List SlotState} {i : Installed} → ((q : ℕ) → id_in ms' q ≡ id_in ms q) → ((s : ℕ) → target_in ss' s ≡ target_in ss s)
    → InForce G T ms ss i → InForce G T ms' ss' i
in_force_same {i = i} f k a = record {
  epoch = a.epoch;
  target = a.target;
  long = a.long;
  at = λ s. rw (k s, f (get_or i.entries s no_place)) (a.at s);
}

pub in_force_install : (G : ℕ) (ms : List (Option Member)) (ss : List SlotState) (es : List ℕ) → length ss ≡ slot_count → length es ≡ slot_count
    → InForce G G ms (retargeted ss es) (record { epoch = G; entries = es })
in_force_install G ms ss es e f = record { epoch = refl; target = refl; long = f; at = λ s. inl (target_retargeted ss es s (e ∙ sym f)) }

-- ---- a stored record 3 is found

pub any_append : (f : Record → Bool) (a b : List Record) → any f b ≡ true → any f (a ++ b) ≡ true
any_append f [] b e = e
any_append f (x ∷ xs) b e = or_true (f x) (any f (xs ++ b)) (any_append f xs b e)

pub any_first : (f : Record → Bool) (a b : List Record) → any f a ≡ true → any f (a ++ b) ≡ true
any_first f [] b e = absurd (false≢true e)
any_first f (x ∷ xs) b e = by_cases (f x) (λ q. rw q refl) (λ q. rw q (any_first f xs b (rw q at e)))

lost : (c : Option Installed) (rs : List Record) (buffer : List ℕ) (i : Installed) → AllProper rs → any is_epoch_record rs ≡ true
    → unless_epoch c (take (length (all_bytes rs)) (overlay (all_bytes rs) buffer)) ≡ some i → ⊥
unfolding unless_epoch
lost c rs buffer i h e q =
    let k : (if any is_epoch_record rs then none else c) ≡ some i = rw (records_stored rs h buffer) at q in
    no_some i (rw e at k)

unless_some : (c : Option Installed) (stored : List ℕ) (i : Installed) → unless_epoch c stored ≡ some i → c ≡ some i
unfolding unless_epoch
unless_some c stored i = if_cases (λ o. o ≡ some i → c ≡ some i) (any is_epoch_record (records_in stored)) (λ _ e. absurd (no_some i e)) (λ _ e. e)

-- an event that stores a record 3 exactly where it raises G leaves no target in force there, and else what was
pub lost_or_kept : {A : Type 0} (c : Option Installed) (rs : List Record) (buffer : List ℕ) (i : Installed) (raises : Bool) → AllProper rs → (raises ≡ true → any is_epoch_record rs ≡ true)
    → (raises ≡ false → c ≡ some i → A) → unless_epoch c (take (length (all_bytes rs)) (overlay (all_bytes rs) buffer)) ≡ some i → A
lost_or_kept c rs buffer i raises proper stores kept q = by_cases raises (λ e. absurd (lost c rs buffer i proper (stores e) q)) (λ e. kept e (unless_some c _ i q))
