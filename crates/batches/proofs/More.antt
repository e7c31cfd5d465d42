-- One record more: what is said by the records so far and by the next one.
use Rattle.std.proofs.Common.{◌≡◌, refl, sym, ap, ◌∙◌, Bool, true, false, not, ◌&&◌, ◌||◌, List, [], ◌∷◌, ◌++◌, append-nil, append_assoc, ℕ, ◌<◌, arith, length, get_or, set, replicate, get_or-set_same, get_or-set_other, eqb, ltb, eq-eqb, ne_eqb, lt-ltb, le-ltb, OkIff, Result}
use mathlib.Core.Bool.{or-false, or-true}
use mathlib.Core.List.{foldl, foldl-append}
use mathlib.Core.Option.{Option, none, some}
use native.Mathlib.Decide.{ℕ_discrete}
use lib.ListN.{get_or-replicate}
use Rattle.std.specs.Prelude as P
use Rattle.std.specs.Option.{option_or}
use Rattle.std.specs.Result.{result_ok}
use Rattle.rules.specs.Basics.{any, concat_map, empty, first_some, given, or_else, to_list}
use Rattle.rules.specs.Constants.{max_members}
use Rattle.rules.specs.declared.Place.{Place}
use Rattle.rules.specs.declared.NoPlace.{NoPlace}
use Rattle.rules.specs.Records.{Record, CurrentAssignment, TargetAssignment, parts_of, placed, target_is, current_gone}
use Rattle.rules.specs.Ledger.{gone}
use Rattle.rules.specs.Batches.{current_in, targets_in, laid_over}
use Rattle.batches.specs.declared.Gathered.{Gathered}
use Rattle.batches.specs.Gathered.{maybe, standing}
use Rattle.batches.specs.Adding.{Adds, Holds, Takes}
use Rattle.batches.proofs.Lists.{any_append}
use Rattle.batches.proofs.Places.{place_of, no_place_of}

-- ---- what is added

pub or_none : {A : Type 0} (o : Option A) → or_else o none ≡ o
or_none none = refl
or_none (some a) = refl

-- the first of a kind counts
pub first_counts : {A B : Type 0} (f : A → B) (o : P.Option A) (a : A) → maybe f (option_or o (P.Some a)) ≡ or_else (maybe f o) (some (f a))
first_counts f P.None a = refl
first_counts f (P.Some b) a = refl

pub ruleset adding = (or_none, or-false, or-true, first_counts)

-- ---- records 7, and 8 of a member that is gone

pub adds_target : (t : TargetAssignment) (r : Gathered) → Adds (target_is t) r r
unfolding parts_of standing
adds_target t r = record { epoch = rw or_none; topic = rw or_none; member = rw or_none; any_gone = rw or-false; target_epoch = rw or_none; current = rw or_none }

pub adds_current_gone : (p : ℕ) (r : Gathered) → Adds (current_gone p) r r
unfolding parts_of standing
adds_current_gone p r = record { epoch = rw or_none; topic = rw or_none; member = rw or_none; any_gone = rw or-false; target_epoch = rw or_none; current = rw or_none }

-- ---- no record

pub nothing : (entries : List ℕ)
    → Holds [] (record { epoch = P.None; topic = P.None; member = P.None; any_gone = false; target_epoch = P.None; current = P.None })
    (replicate max_members false) entries entries
unfolding gone standing targets_in
nothing entries = record {
  epoch = refl;
  topic = refl;
  member = refl;
  any_gone = refl;
  marks = λ p h. get_or-replicate max_members p false false h;
  target_epoch = refl;
  current = refl;
  targets = refl;
}

-- ---- lists with one element more

or_assoc : {A : Type 0} (o p q : Option A) → or_else (or_else o p) q ≡ or_else o (or_else p q)
or_assoc none p q = refl
or_assoc (some a) p q = refl

first_last : {A : Type 0} (f : Record → Option A) (rs : List Record) (a : Record) → first_some f (rs ++ a ∷ []) ≡ or_else (first_some f rs) (f a)
first_last f [] a = or_none (f a)
first_last f (r ∷ rs) a = ap (or_else (f r)) (first_last f rs a) ∙ sym (or_assoc (f r) (first_some f rs) (f a))

concat_last : {A : Type 0} (f : Record → Option A) (rs : List Record) (a : Record)
    → concat_map (λ r. to_list (f r)) (rs ++ a ∷ []) ≡ concat_map (λ r. to_list (f r)) rs ++ to_list (f a)
concat_last f [] a = append-nil (to_list (f a))
concat_last f (r ∷ rs) a =
    ap (λ l. to_list (f r) ++ l) (concat_last f rs a) ∙ sym (append_assoc (to_list (f r)) (concat_map (λ r. to_list (f r)) rs) (to_list (f a)))

empty_append : {A : Type 0} (l : List A) (o : Option A) → not (empty (l ++ to_list o)) ≡ (not (empty l) || given o)
empty_append [] none = refl
empty_append [] (some a) = refl
empty_append (x ∷ l) o = refl

standing_or : (o p : Option CurrentAssignment) → standing (or_else o p) ≡ or_else (standing o) (standing p)
unfolding standing
standing_or none p = refl
standing_or (some c) p = refl

-- ---- what the records say, with one more

-- the table marks the place of a record that says that it is gone
pub record MarksOne (t t' : List Bool) (o : Option ℕ) : Type 0 where
  pub is : (p : ℕ) → p < max_members → get_or t' p false ≡ (get_or t p false || any (eqb p) (to_list o))

pub holds_more : {rs : List Record} {r r' : Gathered} {t t' : List Bool} {e₀ e e' : List ℕ} (a : Record)
    → Adds a r r' → MarksOne t t' (parts_of a).member_gone → e' ≡ foldl laid_over e (to_list (parts_of a).target)
    → Holds rs r t e₀ e → Holds (rs ++ a ∷ []) r' t' e₀ e'
unfolding gone targets_in
holds_more {rs} {r} {r'} {t} {t'} {e₀} {e} {e'} a d m l h = record {
  epoch = d.epoch ∙ ap (λ o. or_else o (parts_of a).epoch) h.epoch ∙ sym (first_last (λ x. (parts_of x).epoch) rs a);
  topic = d.topic ∙ ap (λ o. or_else o (parts_of a).topic) h.topic ∙ sym (first_last (λ x. (parts_of x).topic) rs a);
  member = d.member ∙ ap (λ o. or_else o (parts_of a).member) h.member ∙ sym (first_last (λ x. (parts_of x).member) rs a);
  any_gone = d.any_gone ∙ ap (λ b. b || given (parts_of a).member_gone) h.any_gone
      ∙ sym (ap (λ l. not (empty l)) goes ∙ empty_append (gone rs) (parts_of a).member_gone);
  marks = λ p k. m.is p k ∙ ap (λ b. b || any (eqb p) (to_list (parts_of a).member_gone)) (h.marks p k)
      ∙ sym (ap (any (eqb p)) goes ∙ any_append (eqb p) (gone rs) (to_list (parts_of a).member_gone));
  target_epoch = d.target_epoch ∙ ap (λ o. or_else o (parts_of a).target_epoch) h.target_epoch ∙ sym (first_last (λ x. (parts_of x).target_epoch) rs a);
  current = d.current ∙ ap (λ o. or_else o (standing (parts_of a).current)) h.current
      ∙ sym (ap standing (first_last (λ x. (parts_of x).current) rs a) ∙ standing_or (current_in rs) (parts_of a).current);
  targets = l ∙ ap (λ x. foldl laid_over x (to_list (parts_of a).target)) h.targets
      ∙ sym (ap (foldl laid_over e₀) (concat_last (λ x. (parts_of x).target) rs a) ∙ foldl-append laid_over e₀ (targets_in rs) (to_list (parts_of a).target));
}
  where
    goes : gone (rs ++ a ∷ []) ≡ gone rs ++ to_list (parts_of a).member_gone
    goes = concat_last (λ x. (parts_of x).member_gone) rs a

-- ---- one record taken

pub marks_none : {t : List Bool} → MarksOne t t none
marks_none {t} = record { is = λ p h. sym (or-false (get_or t p false)) }

pub marks_some : {t : List Bool} (p q : ℕ) → q ≡ p → q < length t → MarksOne t (set t q true) (some p)
marks_some {t} p q e l = record { is = λ k h. go k (ℕ_discrete k q) }
  where
    go : (k : ℕ) → Dec (k ≡ q) → get_or (set t q true) k false ≡ (get_or t k false || (eqb k p || false))
    go k (yes f) = rw (eq-eqb k p (f ∙ e), or-true (get_or t k false)) (ap (λ (n : ℕ). get_or (set t q true) n false) f ∙ get_or-set_same t q true false l)
    go k (no f) = rw (ne_eqb k p (λ (h : k ≡ p). f (h ∙ sym e)), or-false (get_or t k false)) (get_or-set_other t q k true false f)

-- a place, as it is found
pub record There (p q : ℕ) : Type 0 where
  pub placed : (ltb p max_members && true) ≡ true
  pub same : q ≡ p
  pub below : q < max_members

pub there : (p : ℕ) (r : Result Place NoPlace) (q : Place) → OkIff r (p < max_members) (record { 0 = p }) → P.Some q ≡ result_ok r → There p q.0
there p r q h e =
    let at = place_of p r h q e in
    record { placed = rw (lt-ltb p max_members at.1); same = at.0; below = omega (arith, at) }

pub nowhere : (p : ℕ) (r : Result Place NoPlace) → OkIff r (p < max_members) (record { 0 = p }) → P.None ≡ result_ok r → (ltb p max_members && true) ≡ false
nowhere p r h e = rw (le-ltb p max_members (no_place_of p r h e))

module _ {r r' : Gathered} {t t' : List Bool} {e e' : List ℕ} where
  pub taken : (a : Record) → placed a ≡ true → Adds a r r' → MarksOne t t' (parts_of a).member_gone
      → e' ≡ foldl laid_over e (to_list (parts_of a).target) → Takes a r (P.Some r') t t' e e'
  taken a p d m l = (p, λ rs e₀. holds_more a d m l)
