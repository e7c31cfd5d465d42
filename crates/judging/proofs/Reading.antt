-- Reading a batch: it is no batch, or its records are gathered and their candidate is judged.
use Rattle.std.proofs.Common.{ℕ, ◌≤◌, ◌<◌, ◌≡◌, refl, sym, ap, ◌∙◌, Bool, true, false, ◌&&◌, true≢false, eqb, List, [], ◌∷◌, arith, length, eq-eqb, eqb-true, le-ltb, lt-ltb}
use Rattle.std.proofs.Math.Option.{Option, none, some}
use Rattle.rules.specs.Basics.{all, case_of, empty}
use Rattle.rules.specs.Constants.{batch_limit}
use Rattle.rules.specs.Group.{Group}
use Rattle.rules.specs.Records.{Record, fits, placed}
use Rattle.rules.specs.Reader.{read_all}
use Rattle.rules.specs.Batches.{candidate, judged, judged_by, read_batch, retimed}
use Rattle.theorems.proofs.Cases.{by_cases}
use Rattle.recovery.proofs.Judging.{nothing}
use Rattle.batches.specs.Gathered.{fitting, kept}
use Rattle.judging.specs.Reads.{Fair}

module _ (t : ℕ) (g : Group) (bytes : List ℕ) where
  pub nothing_read : length bytes ≡ 0 → none ≡ read_batch t g bytes
  nothing_read n = sym (pick bytes n)
    where
      pick : (l : List ℕ) → length l ≡ 0 → read_batch t g l ≡ none
      pick [] e = nothing t g
      pick (b ∷ l) e = absurd (omega (arith, e))

  pub too_long : batch_limit < length bytes → none ≡ read_batch t g bytes
  unfolding read_batch
  too_long h = rw (lt-ltb batch_limit (length bytes) h)

  by_records : (o : Option (List Record))
      → case_of o none (judged_by t g bytes) ≡ case_of (case_of o none kept) none (λ rs. judged t bytes (candidate t (retimed t g) rs))
  unfolding judged_by kept
  by_records none = refl
  by_records (some rs) = by_cases (all (λ r. fits r && placed r) rs) (λ e. rw e refl) (λ e. rw e refl)

  module _ (short : length bytes ≤ batch_limit) where
    read_is : read_batch t g bytes ≡ case_of (fitting bytes) none (λ rs. judged t bytes (candidate t (retimed t g) rs))
    unfolding read_batch fitting
    read_is = rw (le-ltb batch_limit (length bytes) short) (by_records (read_all bytes))

    pub none_read : fitting bytes ≡ none → none ≡ read_batch t g bytes
    none_read e = sym (read_is ∙ ap (λ (o : Option (List Record)). case_of o none (λ rs. judged t bytes (candidate t (retimed t g) rs))) e)

    pub records_read : (rs : List Record) → fitting bytes ≡ some rs → judged t bytes (candidate t (retimed t g) rs) ≡ read_batch t g bytes
    records_read rs e = sym (read_is ∙ ap (λ (o : Option (List Record)). case_of o none (λ rs. judged t bytes (candidate t (retimed t g) rs))) e)

pub none_left : (n : ℕ) {b : Bool} → b ≡ eqb n 0 → b ≡ true → n ≡ 0
none_left n e t = eqb-true n 0 (sym e ∙ t)

pub some_left : (n : ℕ) {b : Bool} → b ≡ eqb n 0 → b ≡ false → n ≡ 0 → ⊥
some_left n e f z = true≢false (sym (eq-eqb n 0 z) ∙ sym e ∙ f)

pub fair : (bytes : List ℕ) → (length bytes ≡ 0 → ⊥) → length bytes ≤ batch_limit → Fair bytes
fair bytes n h = record { stored = pick bytes n; short = h }
  where
    pick : (l : List ℕ) → (length l ≡ 0 → ⊥) → empty l ≡ false
    pick [] k = absurd (k refl)
    pick (b ∷ l) k = refl
