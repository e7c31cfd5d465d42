-- Any file, ours or not (request 1 of 02): which are good, and what a refusal or a cut says of the bytes. Words in quotes are 02's.
-- Nothing here reads: these are the words that the reader of Journal is held to.
use Rattle.std.specs.Prelude.{ℕ, suc, ◌≤◌, ◌<◌, ◌≡◌, ◌⊎◌, false, List, [], ◌∷◌, ◌++◌, length, take, drop}
use Rattle.rules.specs.Basics.{empty}
use Rattle.rules.specs.Constants.{batch_limit}
use Rattle.rules.specs.Group.{Group, fresh}
use Rattle.rules.specs.Records.{number}
use Rattle.rules.specs.Effects.{effect}
use Rattle.rules.specs.Batches.{Writes, retimed}
use Rattle.rules.specs.Readings.{Item, ItemsTyped, group_after}
use Rattle.rules.specs.Journal.{Verdict, entry, heading, journal, read_batches, read_journal, refused_at, torn_from, whole}

abbrev pub Bytes : List ℕ → Type 0
Bytes [] = Unit {0}
Bytes (b ∷ bs) = (b < 256) × Bytes bs

-- a good file, and the group that it gives at tick t: the heading, then batches with their lengths, each of which some event writes for the group so far
pub data GoodFile (t : ℕ) : List ℕ → Group → Type 0 where
  heading_alone : GoodFile t heading (fresh t)
  one_batch_more : {file : List ℕ} {g : Group} → GoodFile t file g → (bytes : List ℕ) (w : Writes g bytes)
      → GoodFile t (file ++ entry bytes) (retimed t (effect w.group w.event).group)

-- ---- where a file stops being good

-- 'refused as soon as read': however the bytes go on, they do not begin so
abbrev pub NeverBegin : List ℕ → List ℕ → Type 0
NeverBegin bytes start = (more rest : List ℕ) → bytes ++ more ≡ start ++ rest → ⊥

-- cut: more bytes were to come
pub record EndInside (bytes all : List ℕ) : Type 0 where
  pub more : List ℕ
  pub short : empty more ≡ false
  pub go_on : bytes ++ more ≡ all

abbrev pub IsLength : ℕ → Type 0
IsLength n = (0 < n) × (n ≤ batch_limit)

-- 'a length of 0, above 4,096, unfinished after two bytes or not in fewest bytes': no right length, in fewest bytes
abbrev pub BadLength : List ℕ → Type 0
BadLength bytes = (n : ℕ) → IsLength n → NeverBegin bytes (number n)

-- 'A whole batch is refused .. exactly when no event would write it for the group so far'
pub record BadBatch (g : Group) (bytes : List ℕ) : Type 0 where
  pub batch : List ℕ
  pub sized : IsLength (length batch)
  pub rest : List ℕ
  pub begin : bytes ≡ entry batch ++ rest
  pub unwritten : Writes g batch → ⊥

-- the file ends inside a batch or its length
pub record CutBatch (bytes : List ℕ) : Type 0 where
  pub begun : empty bytes ≡ false
  pub batch : List ℕ
  pub sized : IsLength (length batch)
  pub inside : EndInside bytes (entry batch)

-- ---- what is claimed of any file

-- 'refused, with the offset of its length', 'and so is another heading, at 0'; 'Refused or cut at any byte (inside a heading right so far: a fresh group, all
-- of it tail), a file gives the group after the last good batch'
abbrev pub Judged : ℕ → List ℕ → Group → Verdict → Type 0
Judged t bytes g whole = GoodFile t bytes g
Judged t bytes g (refused_at n) =
    ((g ≡ fresh t) × (n ≡ 0) × NeverBegin bytes heading)
    ⊎ (GoodFile t (take n bytes) g × (BadLength (drop n bytes) ⊎ BadBatch g (drop n bytes)))
Judged t bytes g (torn_from n) =
    ((g ≡ fresh t) × (n ≡ 0) × EndInside bytes heading)
    ⊎ (GoodFile t (take n bytes) g × CutBatch (drop n bytes))

abbrev pub JudgesFiles : Type 0
JudgesFiles = (t : ℕ) (bytes : List ℕ) → Bytes bytes → Judged t bytes (read_journal t bytes).group (read_journal t bytes).verdict

-- and a good file is read as its group, and on from there, whatever follows
abbrev pub ReadsGood : Type 0
ReadsGood =
    (t : ℕ) (file : List ℕ) (g : Group) → GoodFile t file g → (more : List ℕ)
    → read_journal t (file ++ more) ≡ read_batches (suc (length more)) t (length file) g more

-- 'Reading it gives the group that wrote it': our files are good
abbrev pub JournalsGood : Type 0
JournalsGood = (s t : ℕ) (is : List Item) → ItemsTyped is → GoodFile t (journal (fresh s) is) (retimed t (group_after (fresh s) is))
