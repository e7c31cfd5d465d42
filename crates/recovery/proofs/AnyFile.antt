-- What holds of files that we did not write: another heading is refused, a part of the heading is torn, and the group is one that batches come to.
use Prim.Native.Nat.{ℕ, zero, suc, ◌+◌, ◌-◌}
use native.Mathlib.Omega.{arith}
use mathlib.Core.Path.{◌≡◌, refl, sym}
use mathlib.Core.List.{List, [], ◌∷◌}
use mathlib.Core.Option.{Option, none, some}
use lib.ListN.{length, drop, take}
use lib.Dec.{eqb, ltb}
use borrow.Author.Tests.{ne_eqb}
use Rattle.rules.specs.Group.{Group, fresh}
use Rattle.rules.specs.Batches.{SoFar, nothing_read, one_more, read_batch}
use Rattle.rules.specs.Journal.{LengthRead, Reading, ReadsHeading, ReadsSoFar, RefusesHeading, after_batch, after_length, bad_length, batch_of, cut_length, heading, no_length, read_batches, read_heading, read_journal, read_length}
use Rattle.theorems.proofs.Cases.{if_cases}

-- ---- the heading

pub refuses_heading : RefusesHeading
unfolding read_journal read_heading heading
refuses_heading t zero b rest h other = rw (ne_eqb 0x47 b (λ e. other (sym e))) refl
refuses_heading t (suc zero) b rest h other = rw (ne_eqb 0x52 b (λ e. other (sym e))) refl
refuses_heading t (suc (suc zero)) b rest h other = rw (ne_eqb 0x4A b (λ e. other (sym e))) refl
refuses_heading t (suc (suc (suc zero))) b rest h other = rw (ne_eqb 0x31 b (λ e. other (sym e))) refl
refuses_heading t (suc (suc (suc (suc n)))) b rest h other = absurd (omega arith)

pub reads_heading : ReadsHeading
unfolding read_journal read_heading heading
reads_heading t zero h = refl
reads_heading t (suc zero) h = refl
reads_heading t (suc (suc zero)) h = refl
reads_heading t (suc (suc (suc zero))) h = refl
reads_heading t (suc (suc (suc (suc n)))) h = absurd (omega arith)

-- ---- the group

module _ (t at : ℕ) (g : Group) (s : SoFar t g) where
  batch_so_far : (more : Group → Reading) → ((h : Group) → SoFar t h → SoFar t (more h).group) → (bytes : List ℕ) (o : Option Group) → read_batch t g bytes ≡ o
      → SoFar t (after_batch o at g more).group
  unfolding after_batch
  batch_so_far more kept bytes none e = s
  batch_so_far more kept bytes (some h) e = kept h (one_more s bytes e)

  length_so_far : (more : Group → List ℕ → Reading) → ((h : Group) (rest : List ℕ) → SoFar t h → SoFar t (more h rest).group) → (l : LengthRead)
      → SoFar t (after_length l t at g more).group
  unfolding after_length
  length_so_far more kept no_length = s
  length_so_far more kept cut_length = s
  length_so_far more kept bad_length = s
  length_so_far more kept (batch_of n bytes) =
      if_cases (λ (r : Reading). SoFar t r.group) (ltb (length bytes) n) (λ _. s)
      (λ _. batch_so_far (λ h. more h (drop n bytes)) (λ h k. kept h (drop n bytes) k) (take n bytes) (read_batch t g (take n bytes)) refl)

batches_so_far : (fuel t at : ℕ) (g : Group) (bytes : List ℕ) → SoFar t g → SoFar t (read_batches fuel t at g bytes).group
unfolding read_batches
batches_so_far zero t at g bytes s = s
batches_so_far (suc fuel) t at g bytes s =
    length_so_far t at g s (λ h rest. read_batches fuel t (at + (length bytes - length rest)) h rest)
    (λ h rest k. batches_so_far fuel t (at + (length bytes - length rest)) h rest k) (read_length bytes)

heading_so_far : (hs bytes : List ℕ) (t : ℕ) (more : List ℕ → Reading) → ((rest : List ℕ) → SoFar t (more rest).group)
    → SoFar t (read_heading hs bytes t more).group
unfolding read_heading
heading_so_far [] bytes t more kept = kept bytes
heading_so_far (h ∷ hs) [] t more kept = nothing_read
heading_so_far (h ∷ hs) (b ∷ bs) t more kept =
    if_cases (λ (r : Reading). SoFar t r.group) (eqb h b) (λ _. heading_so_far hs bs t more kept) (λ _. nothing_read)

pub reads_so_far : ReadsSoFar
unfolding read_journal
reads_so_far t bytes =
    heading_so_far heading bytes t (λ rest. read_batches (suc (length rest)) t (length heading) (fresh t) rest)
    (λ rest. batches_so_far (suc (length rest)) t (length heading) (fresh t) rest nothing_read)
