-- The brokers of a group, one after another, and their file, as request 1 of 02 tells it: what each has after a failover is what demand 3's history says.
use Rattle.std.specs.Prelude.{ℕ, ◌-◌, ◌≡◌, Bool, false, List, [], ◌∷◌, ◌++◌, length, take, drop, if◌then◌else◌}
use Rattle.std.proofs.Math.Option.{some}
use Rattle.rules.specs.Group.{Group, fresh}
use Rattle.rules.specs.Course.{Call, HeldByOne, Installed, Typed, stepped}
use Rattle.rules.specs.Rounds.{Settled}
use Rattle.rules.specs.Batches.{JudgesExactly, SameBytesSameGroup}
use Rattle.rules.specs.Readings.{AllRegularOver, Item, NoneLost, Passage, RoundOver, SingleHolderOver, ThreeRoundsOver, group_after, happens, passage_after, reads, started}
use Rattle.rules.specs.Journal.{FuelEnough, KeepsCounted, ReadsCut, ReadsHeading, ReadsOn, ReadsSoFar, ReadsWhole, RefusesHeading, Verdict, counted, entry, heading, journal, read_journal, refused_at, stored_by, torn_from, whole}
use Rattle.rules.specs.Files.{JournalsGood, JudgesFiles, ReadsGood}

pub data Life : Type 0 where
  born : ℕ → Life  -- a fresh group made at a tick, and a file that is its heading
  acts : Life → Call → Bool → Life  -- an event comes, its batch goes to the file, and its answer goes out or not
  fails : Life → ℕ → ℕ → Life  -- the broker fails; of the file this many bytes are found, and the next broker reads them at a tick

-- ---- what a broker has: its group and its file

pub record State : Type 0 where
  pub group : Group
  pub file : List ℕ

unfoldable pub acted : State → Call → Bool → State
acted s t told = record { group = (stepped s.group t).group; file = s.file ++ entry (stored_by s.group (happens t told)) }

-- 'we cut a torn tail off before we store again'
unfoldable pub cut_off : Verdict → List ℕ → List ℕ
cut_off whole bytes = bytes
cut_off (refused_at n) bytes = take n bytes  -- never: the file is as we wrote it
cut_off (torn_from n) bytes = take n bytes

-- where no heading is left, one is stored
unfoldable pub headed : List ℕ → List ℕ
headed [] = heading
headed (b ∷ bs) = b ∷ bs

-- 'a reading finds a beginning of the file as we wrote it, cut at any byte'
unfoldable pub failed : State → ℕ → ℕ → State
failed s n t = record {
  group = (read_journal t (take n s.file)).group;
  file = headed (cut_off (read_journal t (take n s.file)).verdict (take n s.file));
}

unfoldable pub state_of : Life → State
state_of (born s) = record { group = fresh s; file = heading }
state_of (acts l t told) = acted (state_of l) t told
state_of (fails l n t) = failed (state_of l) n t

-- ---- demand 3's history of it

unfoldable pub born_at : Life → ℕ
born_at (born s) = s
born_at (acts l t told) = born_at l
born_at (fails l n t) = born_at l

-- of a history the events that count when n bytes of its file are found
unfoldable pub counted_in : ℕ → Life → List Item → List Item
counted_in n l is = counted (n - length heading) (fresh (born_at l)) is

-- 'Demand 3's history goes on over the reading: it counts each event whose batch and all before it in the file are stored (or that wrote none after only such ones)'
unfoldable pub history_of : Life → List Item
history_of (born s) = []
history_of (acts l t told) = history_of l ++ happens t told ∷ []
history_of (fails l n t) = counted_in n l (history_of l) ++ reads t ∷ []

unfoldable pub passage_of : Life → List Item → Passage
passage_of l is = passage_after (started (fresh (born_at l))) is

abbrev pub TypedLife : Life → Type 0
TypedLife (born s) = Unit {0}
TypedLife (acts l t told) = Typed t.event × TypedLife l
TypedLife (fails l n t) = TypedLife l

-- 'We send an answer only once its batch and all before it are stored', 'with no stored batch lost': no answer went out of an event that does not count
abbrev pub Unanswered : List Item → Type 0
Unanswered [] = Unit {0}
Unanswered (happens t told ∷ is) = (told ≡ false) × Unanswered is
Unanswered (reads t ∷ is) = Unanswered is

abbrev pub Honest : Life → Type 0
Honest (born s) = Unit {0}
Honest (acts l t told) = Honest l
Honest (fails l n t) = Unanswered (drop (length (counted_in n l (history_of l))) (history_of l)) × Honest l

abbrev pub only_told : Bool → Call → List Call
only_told told t = if told then t ∷ [] else []

-- the events whose answer went out, of a life and of a history
unfoldable pub answered_in : Life → List Call
answered_in (born s) = []
answered_in (acts l t told) = answered_in l ++ only_told told t
answered_in (fails l n t) = answered_in l

unfoldable pub told_in : List Item → List Call
told_in [] = []
told_in (happens t told ∷ is) = only_told told t ++ told_in is
told_in (reads t ∷ is) = told_in is

-- ---- what is claimed

-- so every event whose answer went out counts: the history misses nothing that was told
abbrev pub AnswersCount : Type 0
AnswersCount = (l : Life) → Honest l → told_in (history_of l) ≡ answered_in l

-- the group that a broker has is that after the events that count and the readings, and its file is their journal
pub record Continues (l : Life) : Type 0 where
  pub group : (state_of l).group ≡ group_after (fresh (born_at l)) (history_of l)
  pub file : (state_of l).file ≡ journal (fresh (born_at l)) (history_of l)

-- DEMAND 3, first half, for the brokers of a group
abbrev pub SingleHolderAcross : Type 0
SingleHolderAcross = (l : Life) → TypedLife l → Honest l → HeldByOne (passage_of l (history_of l)).course.history.ledger

-- DEMAND 3, second half, for the brokers of a group: where the history ends in three rounds, the broker's own group has come to the target
abbrev pub ThreeRoundsAcross : Type 0
ThreeRoundsAcross =
    (l : Life) → TypedLife l → Honest l
    → (before first second third : List Item) → history_of l ≡ before ++ (first ++ (second ++ third))
    → NoneLost (passage_of l before)
    → (i : Installed) → (passage_of l before).course.history.in_force ≡ some i
    → AllRegularOver (passage_of l before) (first ++ (second ++ third))
    → RoundOver (passage_of l before).course.history first
    → RoundOver (passage_of l before).course.history second
    → RoundOver (passage_of l before).course.history third
    → (p : ℕ) (id : List ℕ) → (passage_of l before).course.history.ledger.name p ≡ some id
    → Settled (record { group = (state_of l).group; history = (passage_of l (history_of l)).course.history }) i p id

-- ---- all that is claimed for request 1; the proofs are in crates/recovery/proofs

pub record JournalTheorems : Type 0 where
  pub judges_exactly : JudgesExactly
  pub same_bytes_same_group : SameBytesSameGroup
  pub reads_cut : ReadsCut
  pub keeps_counted : KeepsCounted
  pub reads_heading : ReadsHeading
  pub refuses_heading : RefusesHeading
  pub reads_on : ReadsOn
  pub reads_whole : ReadsWhole
  pub reads_so_far : ReadsSoFar
  pub judges_files : JudgesFiles
  pub reads_good : ReadsGood
  pub journals_good : JournalsGood
  pub fuel_enough : FuelEnough
  pub single_holder : (t : ℕ) → SingleHolderOver (fresh t)
  pub three_rounds : (t : ℕ) → ThreeRoundsOver (fresh t)
  pub answers_count : AnswersCount
  pub continues : (l : Life) → TypedLife l → Continues l
  pub single_holder_across : SingleHolderAcross
  pub three_rounds_across : ThreeRoundsAcross
