-- Any file is judged as 02 says: the reader stops where no good batch begins, and what it has come to is the group of the good file before.
use Prim.Native.Nat.{ℕ, zero, suc, ◌+◌, ◌-◌, ◌/◌, ◌%◌, ◌≤◌, ◌<◌}
use native.Mathlib.Omega.{arith}
use mathlib.Core.Path.{◌≡◌, refl, sym, ap, ◌∙◌, subst}
use mathlib.Core.Logic.{◌⊎◌, inl, inr}
use mathlib.Core.Bool.{false}
use mathlib.Core.List.{List, [], ◌∷◌, ◌++◌, append_assoc, append-nil}
use mathlib.Core.Option.{Option, none, some}
use lib.ListN.{length, take, drop, replicate, length-append, length-drop, length-replicate, length-take, take-append-drop}
use lib.Seq.{drop-append_seam, take-append_seam}
use lib.Dec.{ltb}
use borrow.Author.Tests.{ltb-false, ltb-true}
use Rattle.rules.specs.Basics.{empty}
use Rattle.rules.specs.Group.{Group, fresh}
use Rattle.rules.specs.Records.{number}
use Rattle.rules.specs.Effects.{effect}
use Rattle.rules.specs.Batches.{Legible, read_batch, retimed}
use Rattle.rules.specs.Journal.{Reading, after_batch, after_length, batch_of, entry, heading, read_batches, read_journal, read_length, refused_at, torn_from}
use Rattle.rules.specs.Files.{BadBatch, BadLength, Bytes, CutBatch, GoodFile, IsLength, Judged, JudgesFiles, heading_alone, one_batch_more}
use Rattle.rules.proofs.Number.{number_pos}
use Rattle.theorems.proofs.Cases.{if_cases, some_inj}
use Rattle.theorems.proofs.Legible.{legible_fresh}
use Rattle.recovery.proofs.Lengths.{number_two}
use Rattle.recovery.proofs.Items.{entry_some}
use Rattle.recovery.proofs.Exact.{exact, read_legible}
use Rattle.recovery.proofs.Beginnings.{heading_cases, length_cases}

-- ---- bytes

bytes_drop : (n : ℕ) (bs : List ℕ) → Bytes bs → Bytes (drop n bs)
bytes_drop zero bs h = h
bytes_drop (suc n) [] h = tt
bytes_drop (suc n) (b ∷ bs) h = bytes_drop n bs h.1

bytes_after : (bs cs : List ℕ) → Bytes (bs ++ cs) → Bytes cs
bytes_after bs cs h = subst Bytes (drop-append_seam bs cs) (bytes_drop (length bs) (bs ++ cs) h)

filled : (bs : List ℕ) → 0 < length bs → empty bs ≡ false
filled [] h = absurd (omega arith)
filled (b ∷ bs) h = refl

-- ---- a batch

entry_sized : (x : List ℕ) (n : ℕ) → IsLength n → length x ≡ n → entry x ≡ number n ++ x
entry_sized x n l e = (entry_some x (filled x (omega (arith, l.0)))).0 ∙ ap (λ (k : ℕ). number k ++ x) e

sized : (x : List ℕ) (n : ℕ) → IsLength n → length x ≡ n → IsLength (length x)
sized x n l e = subst IsLength (sym e) l

-- of a length the first of two bytes
cut_length_lem : (b : ℕ) → 128 ≤ b → b < 256 → CutBatch (b ∷ [])
cut_length_lem b h l =
    let x : List ℕ = replicate b 0 in
    let long : length x ≡ b = length-replicate b 0 in
    let is : IsLength b = (omega arith, omega arith) in
    let low : b % 128 + 128 ≡ b = omega arith in
    let high : b / 128 ≡ 1 = omega arith in
    record {
      begun = refl;
      batch = x;
      sized = sized x b is long;
      inside = record {
        more = 1 ∷ x;
        short = refl;
        go_on = sym (entry_sized x b is long ∙ ap (λ (y : List ℕ). y ++ x) (number_two b h is.1 ∙ (λ i. low i ∷ high i ∷ [])));
      };
    }

-- a length, and less than it says
cut_batch : (n : ℕ) (rest : List ℕ) → IsLength n → length rest < n → (bytes : List ℕ) → bytes ≡ number n ++ rest → CutBatch bytes
cut_batch n rest l h bytes e =
    let pad : List ℕ = replicate (n - length rest) 0 in
    let short : length pad ≡ n - length rest = length-replicate (n - length rest) 0 in
    let long : length (rest ++ pad) ≡ n = omega (arith, length-append rest pad, short) in
    record {
      begun = filled bytes (omega (arith, ap length e, length-append (number n) rest, number_pos n));
      batch = rest ++ pad;
      sized = sized (rest ++ pad) n l long;
      inside = record {
        more = pad;
        short = filled pad (omega (arith, short));
        go_on = ap (λ (y : List ℕ). y ++ pad) e ∙ append_assoc (number n) rest pad ∙ sym (entry_sized (rest ++ pad) n l long);
      };
    }

-- ---- the file

module _ (t : ℕ) (all : List ℕ) where
  abbrev Sound : Reading → Type 0
  Sound r = Judged t all r.group r.verdict

  -- the reader has come to an offset, with a good file behind it
  record Before (at : ℕ) (g : Group) (bytes : List ℕ) : Type 0 where
    file : List ℕ
    good : GoodFile t file g
    legible : Legible g
    far : length file ≡ at
    split : file ++ bytes ≡ all
    plain : Bytes bytes

  module _ (at : ℕ) (g : Group) (bytes : List ℕ) (v : Before at g bytes) where
    good_file : GoodFile t (take at all) g
    good_file = subst (λ (l : List ℕ). GoodFile t l g) (sym (take-append_seam v.file bytes) ∙ (λ i. take (v.far i) (v.split i))) v.good

    there : bytes ≡ drop at all
    there = sym (drop-append_seam v.file bytes) ∙ (λ i. drop (v.far i) (v.split i))

    ends : bytes ≡ [] → GoodFile t all g
    ends e = subst (λ (l : List ℕ). GoodFile t l g) (sym (append-nil v.file) ∙ ap (λ (l : List ℕ). v.file ++ l) (sym e) ∙ v.split) v.good

    refused : BadLength bytes ⊎ BadBatch g bytes → Sound (record { group = g; verdict = refused_at at })
    refused bad = inr (good_file, subst (λ (l : List ℕ). BadLength l ⊎ BadBatch g l) there bad)

    torn : CutBatch bytes → Sound (record { group = g; verdict = torn_from at })
    torn cut = inr (good_file, subst CutBatch there cut)

    module _ (x rest : List ℕ) (l : IsLength (length x)) (e : bytes ≡ entry x ++ rest) where
      -- a good batch, and the file goes on after it
      onward : (h : Group) → read_batch t g x ≡ some h → Before (at + (length bytes - length rest)) h rest
      onward h q =
          let w = (exact t g v.legible x).accepted h q in
          let is : retimed t (effect w.group w.event).group ≡ h = some_inj (sym ((exact t g v.legible x).read w) ∙ q) in
          record {
            file = v.file ++ entry x;
            good = subst (GoodFile t (v.file ++ entry x)) is (one_batch_more v.good x w);
            legible = read_legible t g v.legible x h q;
            far = omega (arith, length-append v.file (entry x), v.far, ap length e, length-append (entry x) rest);
            split = append_assoc v.file (entry x) rest ∙ ap (λ (y : List ℕ). v.file ++ y) (sym e) ∙ v.split;
            plain = bytes_after (entry x) rest (subst Bytes e v.plain);
          }

      judged_batch : (more : Group → Reading) → ((h : Group) → read_batch t g x ≡ some h → Sound (more h)) → (o : Option Group) → read_batch t g x ≡ o
          → Sound (after_batch o at g more)
      unfolding after_batch
      judged_batch more next none q = refused (inr (record { batch = x; sized = l; rest = rest; begin = e; unwritten = (exact t g v.legible x).refused q }))
      judged_batch more next (some h) q = next h q

    -- the length is right
    judged_sized : (more : Group → List ℕ → Reading)
        → ((h : Group) (rest : List ℕ) → length rest < length bytes → Before (at + (length bytes - length rest)) h rest → Sound (more h rest))
        → (n : ℕ) (rest : List ℕ) → IsLength n → bytes ≡ number n ++ rest → Sound (after_length (batch_of n rest) t at g more)
    unfolding after_length
    judged_sized more next n rest l e =
        if_cases Sound (ltb (length rest) n) (λ s. torn (cut_batch n rest l (ltb-true (length rest) n s) bytes e)) (λ s.
        let x = take n rest in
        let left = drop n rest in
        let whole : n ≤ length rest = ltb-false (length rest) n s in
        let long : length x ≡ n = omega (arith, length-take n rest) in
        let is = sized x n l long in
        let d : bytes ≡ entry x ++ left =
        e ∙ ap (λ (y : List ℕ). number n ++ y) (sym (take-append-drop n rest))
        ∙ sym (ap (λ (y : List ℕ). y ++ left) (entry_sized x n l long) ∙ append_assoc (number n) x left) in
        let less : length left < length bytes = omega (arith, ap length e, length-append (number n) rest, length-drop n rest, number_pos n) in
        judged_batch x left is d (λ h. more h left) (λ h q. next h left less (onward x left is d h q)) (read_batch t g x) refl)

    judged_length : (more : Group → List ℕ → Reading)
        → ((h : Group) (rest : List ℕ) → length rest < length bytes → Before (at + (length bytes - length rest)) h rest → Sound (more h rest))
        → Sound (after_length (read_length bytes) t at g more)
    unfolding after_length
    judged_length more next =
        length_cases (λ k. Sound (after_length k t at g more)) bytes v.plain ends
        (λ b h l e. torn (subst CutBatch (sym e) (cut_length_lem b h l))) (λ bad. refused (inl bad)) (judged_sized more next)

  judged : (fuel at : ℕ) (g : Group) (bytes : List ℕ) → Before at g bytes → length bytes < fuel → Sound (read_batches fuel t at g bytes)
  unfolding read_batches
  judged zero at g bytes v h = absurd (omega arith)
  judged (suc fuel) at g bytes v h =
      judged_length at g bytes v (λ k rest. read_batches fuel t (at + (length bytes - length rest)) k rest)
      (λ k rest l w. judged fuel (at + (length bytes - length rest)) k rest w (omega arith))

pub judges_files : JudgesFiles
unfolding read_journal
judges_files t bytes ok =
    heading_cases t (λ rest. read_batches (suc (length rest)) t (length heading) (fresh t) rest) (Sound t bytes) heading bytes
    (λ rest e. judged t bytes (suc (length rest)) (length heading) (fresh t) rest
    (record { file = heading; good = heading_alone; legible = legible_fresh t; far = refl; split = sym e; plain = bytes_after heading rest (subst Bytes e ok) })
    (omega arith))
    (λ cut. inl (refl, refl, cut))
    (λ other. inl (refl, refl, other))
