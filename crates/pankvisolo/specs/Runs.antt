-- Demand 3 of the library's functions: a run is a list of exchanges as a host has them, with replies of plain numbers. What the host knows is what
-- the coordinator's runs know, with the answers that the numbers stand for.
use Rattle.std.specs.Prelude.{ℕ, List, [], ◌∷◌, ◌++◌, map}
use Rattle.rules.specs.Course.{AllTyped, Call, HeldByOne}
use Rattle.group.specs.declared.Group.{Group}
use Rattle.coordinator.specs.Runs as C
use Rattle.coordinator.specs.Runs.{SettledBy, begun, calls_of, course_after}
use Rattle.pankvisolo.specs.declared.Reply.{Reply}
use Rattle.pankvisolo.specs.Replies.{Serves, said_by}
use Rattle.pankvisolo.specs.Decoding.{answer_to}

-- an event with what was lent to it, the reply, and what the group, the buffer and the list then were
pub record Exchange : Type 0 where
  pub call : Call
  pub reply : Reply
  pub group : Group
  pub buffer : List ℕ
  pub list : List ℕ

-- each event was given to the function for it, with the group as the one before left it: what every contract of the crate says
abbrev pub Run : Group → List Exchange → Type 0
Run g [] = Unit {0}
Run g (x ∷ xs) = Serves x.call.event g x.group x.reply x.call.buffer x.buffer x.call.list x.list × Run x.group xs

-- the exchange with its answer read off the numbers
abbrev pub decoded : Exchange → C.Exchange
decoded x = record {
  call = x.call;
  outcome = record { answer = answer_to x.call.event (said_by x.reply); written = x.reply.written };
  group = x.group;
  buffer = x.buffer;
  list = x.list;
}

-- DEMAND 3, first half, of the library: after every run from this group no slot is in the sets of two IDs
unfoldable pub LibrarySingleHolder : Group → Type 0
LibrarySingleHolder start = (xs : List Exchange) → Run start xs → AllTyped (calls_of (map decoded xs)) → HeldByOne (course_after (begun start) (map decoded xs)).history.ledger

-- DEMAND 3, second half, of the library: after every run from this group, and three rounds for the target then in force, each member is settled
unfoldable pub LibrarySettles : Group → Type 0
LibrarySettles start =
    (before first second third : List Exchange)
    → Run start (before ++ (first ++ (second ++ third)))
    → SettledBy start (map decoded before) (map decoded first) (map decoded second) (map decoded third)
