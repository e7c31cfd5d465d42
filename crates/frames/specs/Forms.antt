-- What the functions on a file's form answer, and what they leave in a lent buffer.
use Rattle.std.specs.Prelude.{ℕ, Result, Ok, Err, ◌+◌, ◌-◌, ◌≤◌, ◌<◌, ◌≡◌, List, [], length, take, drop, ltb, if◌then◌else◌}
use Rattle.rules.specs.Constants.{batch_limit}
use Rattle.rules.specs.Group.{Group, fresh}
use Rattle.rules.specs.Journal as J
use Rattle.rules.specs.Batches.{read_batch}
use Rattle.frames.specs.declared.NoHeading.{NoHeading}
use Rattle.frames.specs.declared.NoHeading.TheVariants as H
use Rattle.frames.specs.declared.NoBatch.{NoBatch}
use Rattle.frames.specs.declared.NoBatch.TheVariants as X
use Rattle.frames.specs.declared.Damage.{Damage}
use Rattle.frames.specs.declared.Damage.TheVariants as D

-- what is written to a buffer: these bytes, or none where they don't fit
unfoldable pub if_room : List ℕ → List ℕ → List ℕ
if_room w buffer = if ltb (length buffer) (length w) then [] else w

-- what is stored of an event: of more bytes of records than any event writes, nothing
unfoldable pub framed : List ℕ → List ℕ
framed records = if ltb batch_limit (length records) then [] else J.entry records

-- what a reading makes of a heading
abbrev pub headed : Result (Unit {0}) NoHeading → List ℕ → ℕ → (List ℕ → J.Reading) → J.Reading
headed (Ok found) s t more = more (drop (length J.heading) s)
headed (Err H.Wrong) s t more = record { group = fresh t; verdict = J.refused_at 0 }
headed (Err H.Cut) s t more = record { group = fresh t; verdict = J.torn_from 0 }

-- what is wrong with a file that has no heading
abbrev pub damage_of : NoHeading → Damage
damage_of H.Wrong = D.RefusedAt 0
damage_of H.Cut = D.TornFrom 0

-- a length, and the place after it
abbrev pub length_as : Result (ℕ × ℕ) NoBatch → List ℕ → J.LengthRead
length_as (Ok found) s = J.batch_of found.0 (drop found.1 s)
length_as (Err X.End) s = J.no_length
length_as (Err X.Torn) s = J.cut_length
length_as (Err X.Bad) s = J.bad_length

-- the place after the length is past its own and one of the bytes or their end; a batch is no longer than any that is written
abbrev pub Ahead : ℕ → ℕ → Result (ℕ × ℕ) NoBatch → Type 0
Ahead at end (Ok found) = (at < found.1) × (found.1 ≤ end) × (found.0 ≤ batch_limit)
Ahead at end (Err why) = Unit {0}

pub record LengthAt (s : List ℕ) (at : ℕ) (spec : J.LengthRead) (r : Result (ℕ × ℕ) NoBatch) : Type 0 where
  pub is : length_as r s ≡ spec
  pub ahead : Ahead at (length s) r

-- what a reading makes of what stands where a length would: a batch from its first byte to the place after it, or none
abbrev pub extended : Result (ℕ × ℕ) NoBatch → List ℕ → ℕ → ℕ → Group → (Group → List ℕ → J.Reading) → J.Reading
extended (Ok found) s t at g more = J.after_batch (read_batch t g (take (found.1 - found.0) (drop found.0 s))) at g (λ h. more h (drop found.1 s))
extended (Err X.End) s t at g more = record { group = g; verdict = J.whole }
extended (Err X.Torn) s t at g more = record { group = g; verdict = J.torn_from at }
extended (Err X.Bad) s t at g more = record { group = g; verdict = J.refused_at at }

abbrev pub Extends : ℕ → ℕ → Result (ℕ × ℕ) NoBatch → Type 0
Extends at stop (Ok found) = (at < found.0) × (found.0 ≤ found.1) × (found.1 ≤ stop) × (found.1 ≤ found.0 + batch_limit)
Extends at stop (Err why) = Unit {0}

pub record ExtentAt (s : List ℕ) (at : ℕ) (r : Result (ℕ × ℕ) NoBatch) : Type 0 where
  pub is : (t : ℕ) (g : Group) (more : Group → List ℕ → J.Reading) → extended r s t at g more ≡ J.after_length (J.read_length (drop at s)) t at g more
  pub within : Extends at (length s) r

-- 'of a cut one the torn tail is handed back'
abbrev pub tail_of : Result (Unit {0}) Damage → List ℕ → List ℕ
tail_of (Ok whole) s = []
tail_of (Err (D.TornFrom at)) s = drop at s
tail_of (Err (D.RefusedAt at)) s = []
