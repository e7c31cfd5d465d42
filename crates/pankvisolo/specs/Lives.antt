-- The brokers of a group that run on this library, one after another, with their file. What each has is what the rules say of such a life, so that demand 3 for the
-- brokers of a group (rules/specs/Brokers), over readings and lost answers, is demand 3 of the library.
use Rattle.std.specs.Prelude.{ℕ, ◌≡◌, Bool, List, ◌++◌, take}
use Rattle.rules.specs.Group as G
use Rattle.rules.specs.Journal.{entry, heading}
use Rattle.rules.specs.Brokers.{Life, acts, born, fails, headed, state_of}
use Rattle.group.specs.declared.Group.{Group}
use Rattle.group.specs.View.{view}
use Rattle.pankvisolo.specs.declared.Reading.{Reading}
use Rattle.pankvisolo.specs.Replies.{Serves}
use Rattle.pankvisolo.specs.Recovery.{Recovers}
use Rattle.pankvisolo.specs.Runs.{Exchange}

-- a group and a file that brokers have come to
pub data Hosted : Group → List ℕ → Life → Type 0 where
  -- a fresh group, and a file that is its heading
  made : (s : ℕ) (g : Group) → view g ≡ G.fresh s → Hosted g heading (born s)
  -- an event was served, and its batch went to the file; its answer went out or not
  served : {g : Group} {file : List ℕ} {l : Life} → Hosted g file l → (x : Exchange) (told : Bool)
      → Serves x.call.event g x.group x.reply x.call.buffer x.buffer x.call.list x.list
      → Hosted x.group (file ++ entry (take x.reply.written x.buffer)) (acts l x.call told)
  -- a broker failed; the next one found n bytes of the file, read them, and cut off what lies behind the good part
  recovered : {g : Group} {file : List ℕ} {l : Life} → Hosted g file l → (n t : ℕ) (h : Group) (r : Reading)
      → Recovers t (take n file) h r
      → Hosted h (headed (take r.end (take n file))) (fails l n t)

-- group and file are those of the life
pub record Follows (g : Group) (file : List ℕ) (l : Life) : Type 0 where
  pub group : view g ≡ (state_of l).group
  pub same : file ≡ (state_of l).file

unfoldable pub LibraryContinues : Type 0
LibraryContinues = (g : Group) (file : List ℕ) (l : Life) → Hosted g file l → Follows g file l
