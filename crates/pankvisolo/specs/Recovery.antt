-- What the functions that read a journal hand a host.
use Rattle.std.specs.Prelude.{ℕ, ◌≡◌, List, Result, Ok, Err, length}
use Rattle.rules.specs.Journal.{Verdict, read_journal, refused_at, torn_from, whole}
use Rattle.frames.specs.Forms.{ExtentAt}
use Rattle.frames.specs.declared.NoBatch.{NoBatch}
use Rattle.frames.specs.declared.NoBatch.TheVariants as Found
use Rattle.group.specs.declared.Group.{Group}
use Rattle.group.specs.View.{view}
use Rattle.pankvisolo.specs.declared.Extent.{Extent}
use Rattle.pankvisolo.specs.declared.Reading.{Reading}

-- the number of a verdict
abbrev pub verdict_number : Verdict → ℕ
verdict_number whole = 0
verdict_number (torn_from at) = 1
verdict_number (refused_at at) = 2

-- where the good part of a file of n bytes ends
abbrev pub good_end : Verdict → ℕ → ℕ
good_end whole n = n
good_end (torn_from at) n = at
good_end (refused_at at) n = at

-- a reading at tick t: the group that it left, and what it says of the file
pub record Recovers (t : ℕ) (bytes : List ℕ) (g : Group) (r : Reading) : Type 0 where
  pub group : view g ≡ (read_journal t bytes).group
  pub verdict : r.verdict ≡ verdict_number (read_journal t bytes).verdict
  pub end : r.end ≡ good_end (read_journal t bytes).verdict (length bytes)

-- ---- batch by batch

-- the numbers of what stands at a place
abbrev pub numbers_of : ℕ → Result (ℕ × ℕ) NoBatch → Extent
numbers_of at (Ok found) = record { verdict = 3; start = found.0; end = found.1 }
numbers_of at (Err Found.End) = record { verdict = 0; start = at; end = at }
numbers_of at (Err Found.Torn) = record { verdict = 1; start = at; end = at }
numbers_of at (Err Found.Bad) = record { verdict = 2; start = at; end = at }

-- what stands at a place of the bytes, where a length would
pub record Stands (bytes : List ℕ) (at : ℕ) (r : Extent) : Type 0 where
  pub extent : Result (ℕ × ℕ) NoBatch
  pub there : ExtentAt bytes at extent
  pub told : r ≡ numbers_of at extent
