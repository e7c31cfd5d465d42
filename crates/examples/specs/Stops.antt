-- Request 1 of 02 by computation: where a reading stops, and with which verdict.
use Rattle.std.specs.Prelude.{ℕ, ◌≡◌, refl, List, [], ◌∷◌, ◌++◌, map}
use Rattle.rules.specs.Journal.{Verdict, refused_at, torn_from, whole}
use Rattle.examples.specs.Recovering.{head, p1, put, reads}

pub record Stop : Type 0 where
  pub bytes : List ℕ
  pub verdict : Verdict

abbrev at : List ℕ → Verdict → Stop
at bytes verdict = record { bytes = bytes; verdict = verdict }

-- each is read with this verdict
abbrev pub Stops : List Stop → Type 0
Stops cases = map (λ c. (reads c.bytes).verdict) cases ≡ map (λ c. c.verdict) cases

pub headings : Stops (
    at [] (torn_from 0)  -- an empty file
    ∷ at (0x47 ∷ 0x52 ∷ []) (torn_from 0)  -- 'inside a heading right so far'
    ∷ at (0x47 ∷ 0x53 ∷ []) (refused_at 0)  -- 'another heading, at 0'
    ∷ at (0x47 ∷ 0x52 ∷ 0x4A ∷ 0x32 ∷ []) (refused_at 0)
    ∷ at head whole
    ∷ [])
unfolding reads
headings = refl

pub lengths : Stops (
    at (head ++ 0x00 ∷ []) (refused_at 4)  -- 'a length of 0'
    ∷ at (head ++ 0x80 ∷ []) (torn_from 4)  -- cut
    ∷ at (head ++ 0x80 ∷ 0x00 ∷ []) (refused_at 4)  -- 'not in fewest bytes'
    ∷ at (head ++ 0x93 ∷ 0x00 ∷ p1) (refused_at 4)
    ∷ at (head ++ 0x81 ∷ 0x80 ∷ []) (refused_at 4)  -- 'unfinished after two bytes'
    ∷ at (head ++ 0x80 ∷ 0x20 ∷ []) (torn_from 4)  -- 4,096 bytes are to come
    ∷ at (head ++ 0x81 ∷ 0x20 ∷ []) (refused_at 4)  -- 'above 4,096'
    ∷ [])
unfolding reads
lengths = refl

-- a batch that is not all there is not judged; one that is there is refused 'with the offset of its length'
pub batches_cut_and_refused : Stops (
    at (head ++ 0x02 ∷ 0xFF ∷ []) (torn_from 4)
    ∷ at (head ++ 0x02 ∷ 0xFF ∷ 0xFF ∷ []) (refused_at 4)
    ∷ at (head ++ put 19 p1 (0x02 ∷ 0xFF ∷ [])) (torn_from 24)
    ∷ at (head ++ put 19 p1 (0x02 ∷ 0xFF ∷ 0xFF ∷ [])) (refused_at 24)
    ∷ [])
unfolding reads
batches_cut_and_refused = refl
