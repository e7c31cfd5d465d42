-- From batch to batch: one turn of the rules' reading, with the fuel that is left put aside.
use Rattle.std.proofs.Common.{ℕ, suc, ◌+◌, ◌-◌, ◌≤◌, ◌<◌, ◌≡◌, refl, sym, ap, ◌∙◌, subst, Bool, true, false, not, List, length, take, drop, Result, Ok, Err, arith, length-drop}
use Rattle.std.proofs.Math.Option.{none, some}
use Rattle.rules.specs.Constants.{batch_limit}
use Rattle.rules.specs.Group.{Group, fresh}
use Rattle.rules.specs.Batches.{read_batch}
use Rattle.rules.proofs.Lists.{not_is_false, not_is_true}
use Rattle.rules.specs.Journal.{Reading, after_batch, heading, read_batches, read_heading, read_journal, refused_at}
use Rattle.recovery.proofs.Lengths.{fuel_any}
use Rattle.frames.specs.Forms.{ExtentAt, Extends, damage_of, extended, headed}
use Rattle.frames.specs.declared.NoHeading.{NoHeading}
use Rattle.frames.specs.declared.NoHeading.TheVariants as H
use Rattle.frames.specs.declared.NoBatch.{NoBatch}
use Rattle.group.specs.declared.Group as Code
use Rattle.group.specs.View.{view}
use Rattle.judging.specs.Reads.{Reads, good_as}
use Rattle.journal.specs.Readings.{verdict_as}

-- the reading from a place on
abbrev pub from : ℕ → ℕ → Group → List ℕ → Reading
from t at g s = read_batches (suc (length (drop at s))) t at g (drop at s)

module _ {s : List ℕ} {at : ℕ} {r : Result (ℕ × ℕ) NoBatch} (a : ExtentAt s at r) (t : ℕ) (g : Group) where
  abbrev more : Group → List ℕ → Reading
  more h rest = read_batches (length (drop at s)) t (at + (length (drop at s) - length rest)) h rest

  -- what stands at the place decides
  pub turns : (x : Result (ℕ × ℕ) NoBatch) → r ≡ x → from t at g s ≡ extended x s t at g more
  unfolding read_batches
  turns x e = sym (a.is t g more) ∙ ap (λ (y : Result (ℕ × ℕ) NoBatch). extended y s t at g more) e

  module _ {first end : ℕ} (e : r ≡ Ok (first, end)) where
    pub placed : (at < first) × (first ≤ end) × (end ≤ length s) × (end ≤ first + batch_limit)
    placed = subst (λ (x : Result (ℕ × ℕ) NoBatch). Extends at (length s) x) e a.within

    refuses : read_batch t g (take (end - first) (drop first s)) ≡ none → from t at g s ≡ record { group = g; verdict = refused_at at }
    unfolding after_batch
    refuses q = turns (Ok (first, end)) e ∙ rw q

    goes_on : (h : Group) → read_batch t g (take (end - first) (drop first s)) ≡ some h → from t at g s ≡ from t end h s
    unfolding after_batch
    goes_on h q =
        let p = placed in
        let n : length (drop at s) ≡ length s - at = length-drop at s in
        let m : length (drop end s) ≡ length s - end = length-drop end s in
        let k : at + (length (drop at s) - length (drop end s)) ≡ end = omega (arith, p.0, p.1, p.2) in
        turns (Ok (first, end)) e ∙ rw (q, k) (fuel_any (length (drop at s)) t end h (drop end s) (omega (arith, p.0, p.1, p.2)))

-- ---- a batch that was read

module _ {s : List ℕ} {at t : ℕ} {r : Result (ℕ × ℕ) NoBatch} {first end : ℕ} (a : ExtentAt s at r) (e : r ≡ Ok (first, end)) (good : Bool) (g h : Code.Group)
    (p : Reads good g h t (take (end - first) (drop first s))) where
  pub batch_bad : not good ≡ true → from t at (view g) s ≡ record { group = view h; verdict = refused_at at }
  unfolding good_as
  batch_bad q =
      let bad = not_is_true good q in
      refuses a t (view g) e (sym p.reads ∙ rw bad) ∙ ap (λ (x : Code.Group). record { group = view x; verdict = refused_at at }) (sym (p.keeps bad))

  pub batch_good : not good ≡ false → from t at (view g) s ≡ from t end (view h) s
  unfolding good_as
  batch_good q = goes_on a t (view g) e (view h) (sym p.reads ∙ rw (not_is_false good q))

-- ---- the heading

pub opened : (s : List ℕ) (t : ℕ) (r : Result (Unit {0}) NoHeading) → ((t : ℕ) (more : List ℕ → Reading) → headed r s t more ≡ read_heading heading s t more)
    → (x : Result (Unit {0}) NoHeading) → r ≡ x → headed x s t (λ rest. read_batches (suc (length rest)) t (length heading) (fresh t) rest) ≡ read_journal t s
unfolding read_journal
opened s t r h x e = ap (λ (y : Result (Unit {0}) NoHeading). headed y s t more) (sym e) ∙ h t more
  where
    more : List ℕ → Reading
    more rest = read_batches (suc (length rest)) t (length heading) (fresh t) rest

pub unheaded : (s : List ℕ) (t : ℕ) (r : Result (Unit {0}) NoHeading) → ((t : ℕ) (more : List ℕ → Reading) → headed r s t more ≡ read_heading heading s t more)
    → (why : NoHeading) → r ≡ Err why → record { group = fresh t; verdict = verdict_as (Err (damage_of why)) } ≡ read_journal t s
unheaded s t r h H.Wrong e = opened s t r h (Err H.Wrong) e
unheaded s t r h H.Cut e = opened s t r h (Err H.Cut) e
