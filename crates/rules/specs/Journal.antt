-- The journal file (request 1 of 02): what is stored of a history, and what reading a file gives. Words in quotes are 02's.
use Rattle.std.specs.Prelude.{ℕ, zero, suc, ◌+◌, ◌-◌, ◌*◌, ◌<◌, ◌≡◌, ◌||◌, List, [], ◌∷◌, ◌++◌, length, get_or, take, drop, eqb, ltb, leb, if◌then◌else◌}
use Rattle.std.proofs.Math.Option.{Option, none, some}
use Rattle.rules.specs.Constants.{batch_limit}
use Rattle.rules.specs.Group.{Group, fresh}
use Rattle.rules.specs.Records.{number}
use Rattle.rules.specs.Course.{stepped}
use Rattle.rules.specs.Batches.{SoFar, read_batch, retimed}
use Rattle.rules.specs.Readings.{Item, ItemsTyped, group_after, happens, next_group, reads}

-- ---- the file

-- 'the fixed bytes `GRJ1`'
unfoldable pub heading : List ℕ
heading = 0x47 ∷ 0x52 ∷ 0x4A ∷ 0x31 ∷ []

-- the bytes of an event's records; a reading writes none
unfoldable pub stored_by : Group → Item → List ℕ
stored_by g (happens t told) = take (stepped g t).written (stepped g t).buffer
stored_by g (reads t) = []

-- 'for each event that wrote records their total length as a number in groups of seven bits, and the records'
unfoldable pub entry : List ℕ → List ℕ
entry [] = []
entry (b ∷ bs) = number (length (b ∷ bs)) ++ b ∷ bs

unfoldable pub batches : Group → List Item → List ℕ
batches g [] = []
batches g (i ∷ is) = entry (stored_by g i) ++ batches (next_group g i) is

unfoldable pub journal : Group → List Item → List ℕ
journal g is = heading ++ batches g is

-- ---- reading a length

pub data LengthRead : Type 0 where
  no_length : LengthRead  -- no byte is left
  cut_length : LengthRead  -- the file ends inside the length
  bad_length : LengthRead
  batch_of : ℕ → List ℕ → LengthRead  -- the length, and the bytes after it

-- 'a length of 0, above 4,096, unfinished after two bytes or not in fewest bytes is refused as soon as read'
unfoldable pub second_group : ℕ → List ℕ → LengthRead
second_group low [] = cut_length
second_group low (b ∷ bs) = if leb 128 b || (eqb b 0 || ltb batch_limit (b * 128 + low)) then bad_length else batch_of (b * 128 + low) bs

unfoldable pub read_length : List ℕ → LengthRead
read_length [] = no_length
read_length (b ∷ bs) = if ltb b 128 then (if eqb b 0 then bad_length else batch_of b bs) else second_group (b - 128) bs

-- ---- reading a file

-- a file is whole, or refused at an offset, or cut: then 'the torn tail', from an offset to the end, 'is handed back as a part of the caller's bytes'
pub data Verdict : Type 0 where
  whole : Verdict
  refused_at : ℕ → Verdict
  torn_from : ℕ → Verdict

-- 'Refused or cut at any byte .., a file gives the group after the last good batch'
pub record Reading : Type 0 where
  pub group : Group
  pub verdict : Verdict

-- a batch that is there is judged: 'refused, with the offset of its length', or good
unfoldable pub after_batch : Option Group → ℕ → Group → (Group → Reading) → Reading
after_batch none at g more = record { group = g; verdict = refused_at at }
after_batch (some h) at g more = more h

unfoldable pub after_length : LengthRead → ℕ → ℕ → Group → (Group → List ℕ → Reading) → Reading
after_length no_length t at g more = record { group = g; verdict = whole }
after_length cut_length t at g more = record { group = g; verdict = torn_from at }
after_length bad_length t at g more = record { group = g; verdict = refused_at at }
after_length (batch_of n bytes) t at g more =
    if ltb (length bytes) n then record { group = g; verdict = torn_from at }
    else after_batch (read_batch t g (take n bytes)) at g (λ h. more h (drop n bytes))

-- the bytes from offset `at` on, with the group so far; `fuel` is more than their number
unfoldable pub read_batches : ℕ → ℕ → ℕ → Group → List ℕ → Reading
read_batches zero t at g bytes = record { group = g; verdict = torn_from at }
read_batches (suc fuel) t at g bytes = after_length (read_length bytes) t at g (λ h rest. read_batches fuel t (at + (length bytes - length rest)) h rest)

-- 'and so is another heading, at 0'; 'inside a heading right so far: a fresh group, all of it tail'
unfoldable pub read_heading : List ℕ → List ℕ → ℕ → (List ℕ → Reading) → Reading
read_heading [] bytes t more = more bytes
read_heading (h ∷ hs) [] t more = record { group = fresh t; verdict = torn_from 0 }
read_heading (h ∷ hs) (b ∷ bs) t more = if eqb h b then read_heading hs bs t more else record { group = fresh t; verdict = refused_at 0 }

unfoldable pub read_journal : ℕ → List ℕ → Reading
read_journal t bytes = read_heading heading bytes t (λ rest. read_batches (suc (length rest)) t (length heading) (fresh t) rest)

-- ---- what is claimed of the file

-- 'each event whose batch and all before it in the file are stored (or that wrote none after only such ones)', n bytes of the batches being there
unfoldable pub counted : ℕ → Group → List Item → List Item
counted n g [] = []
counted n g (i ∷ is) =
    if leb (length (entry (stored_by g i))) n then i ∷ counted (n - length (entry (stored_by g i))) (next_group g i) is else []

-- good up to offset e of n bytes
unfoldable pub ends_at : ℕ → ℕ → Verdict
ends_at e n = if eqb e n then whole else torn_from e

-- a file as we wrote it, cut at any byte after its heading, gives the group after the events that count, and its torn tail is all after them
abbrev pub ReadsCut : Type 0
ReadsCut =
    (s t : ℕ) (is : List Item) → ItemsTyped is → (n : ℕ)
    → read_journal t (heading ++ take n (batches (fresh s) is))
    ≡ record {
      group = retimed t (group_after (fresh s) (counted n (fresh s) is));
      verdict = ends_at (length (journal (fresh s) (counted n (fresh s) is))) (length (heading ++ take n (batches (fresh s) is)));
    }

-- the file without its torn tail is the journal of the events that count, so that what is stored next goes on with that
abbrev pub KeepsCounted : Type 0
KeepsCounted =
    (s : ℕ) (is : List Item) → ItemsTyped is → (n : ℕ)
    → take (length (journal (fresh s) (counted n (fresh s) is))) (heading ++ take n (batches (fresh s) is)) ≡ journal (fresh s) (counted n (fresh s) is)

-- cut inside the heading: 'a fresh group, all of it tail'
abbrev pub ReadsHeading : Type 0
ReadsHeading = (t n : ℕ) → n < length heading → read_journal t (take n heading) ≡ record { group = fresh t; verdict = torn_from 0 }

-- a byte that is not the heading's, with whatever after it: refused 'at 0'
abbrev pub RefusesHeading : Type 0
RefusesHeading =
    (t n b : ℕ) (rest : List ℕ) → n < length heading → (b ≡ get_or heading n 0 → ⊥)
    → read_journal t (take n heading ++ b ∷ rest) ≡ record { group = fresh t; verdict = refused_at 0 }

-- after all that we wrote the reader goes on, with the group that wrote it, whatever follows
abbrev pub ReadsOn : Type 0
ReadsOn =
    (s t : ℕ) (is : List Item) → ItemsTyped is → (more : List ℕ)
    → read_journal t (journal (fresh s) is ++ more)
    ≡ read_batches (suc (length more)) t (length (journal (fresh s) is)) (retimed t (group_after (fresh s) is)) more

-- 'Reading it gives the group that wrote it, but every last-heard tick, the tick P was set and the last tick become the tick of reading'
abbrev pub ReadsWhole : Type 0
ReadsWhole =
    (s t : ℕ) (is : List Item) → ItemsTyped is
    → read_journal t (journal (fresh s) is) ≡ record { group = retimed t (group_after (fresh s) is); verdict = whole }

-- of any bytes: the group is one that batches come to, each of which some event writes for the group so far
abbrev pub ReadsSoFar : Type 0
ReadsSoFar = (t : ℕ) (bytes : List ℕ) → SoFar t (read_journal t bytes).group

-- of any file: once there is more fuel than bytes, more changes nothing
abbrev pub FuelEnough : Type 0
FuelEnough = (fuel t at : ℕ) (g : Group) (bytes : List ℕ) → length bytes < fuel → read_batches (suc fuel) t at g bytes ≡ read_batches fuel t at g bytes
