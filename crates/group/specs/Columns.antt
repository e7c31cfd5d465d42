-- The members in nine columns, an entry of each for each place. A place whose four words of an ID are zero has no member: no ID is all zero.
use Rattle.std.specs.Prelude.{◌≡◌, ℕ, zero, suc, ◌+◌, ◌*◌, ◌%◌, ◌<◌, not, ◌&&◌, List, [], ◌∷◌, map, length, replicate, ◌==◌, nat_lt, slice_index, slice_set, if◌then◌else◌}
use Rattle.std.specs.Prelude as P
use Rattle.std.proofs.Math.Option.{Option, none, some}
use Rattle.rules.specs.Basics.{up_to}
use Rattle.rules.specs.Constants.{max_members, id_length, subscription_count}
use Rattle.rules.specs.Group as G
use Rattle.search.specs.Places.{matches, id_of}
use Rattle.search.specs.declared.Words.{Words}
use Rattle.group.specs.declared.Seat.{Seat}
pub use Rattle.search.specs.Places.{column_count, cell_count}

-- every entry is a word of 32 bits
abbrev pub Fits : List ℕ → Type 0
Fits ms = (k : ℕ) → k < length ms → slice_index ms k < 4294967296

-- where column c of place k stands
abbrev pub cell_of : ℕ → ℕ → ℕ
cell_of zero k = k
cell_of (suc c) k = k + suc c * max_members

abbrev pub cell : List ℕ → ℕ → ℕ → ℕ
cell ms c k = slice_index ms (cell_of c k)

-- the four words of an ID that a place has
abbrev pub words_at : List ℕ → ℕ → Words
words_at ms k = record { a = cell ms 0 k; b = cell ms 1 k; c = cell ms 2 k; d = cell ms 3 k }

-- the member that nine numbers stand for, of which the first four are the ID's words
unfoldable pub member_of : ℕ → ℕ → ℕ → ℕ → ℕ → ℕ → ℕ → ℕ → ℕ → Option G.Member
member_of a b c d epoch subscription timeout heard revoked =
    if a == 0 && (b == 0 && (c == 0 && d == 0)) then none
    else some (record { id = id_of a b c d; epoch = epoch; subscription = subscription % subscription_count; timeout = timeout; heard = heard; revoked_at = revoked })

unfoldable pub view_place : List ℕ → ℕ → Option G.Member
view_place ms k = member_of (cell ms 0 k) (cell ms 1 k) (cell ms 2 k) (cell ms 3 k) (cell ms 4 k) (cell ms 5 k) (cell ms 6 k) (cell ms 7 k) (cell ms 8 k)

unfoldable pub view_members : List ℕ → List (Option G.Member)
view_members ms = map (view_place ms) (up_to 0 max_members)

-- ---- a seat: what is gathered from the columns at a place, and put back

-- nobody's numbers
abbrev pub no_numbers : Seat
no_numbers = record { id = replicate id_length 0; epoch = 0; subscription = 0; timeout = 0; heard = 0; revoked_at = 0 }

-- the numbers at a place, whether a member is there or not; past the last place nobody's
unfoldable pub numbers_at : List ℕ → ℕ → Seat
numbers_at ms k = if nat_lt k max_members then record {
  id = id_of (cell ms 0 k) (cell ms 1 k) (cell ms 2 k) (cell ms 3 k);
  epoch = cell ms 4 k;
  subscription = cell ms 5 k % subscription_count;
  timeout = cell ms 6 k;
  heard = cell ms 7 k;
  revoked_at = cell ms 8 k;
} else no_numbers

-- the seat at a place, where a member is there
unfoldable pub seat_at : List ℕ → ℕ → P.Option Seat
seat_at ms k = if nat_lt k max_members && not (matches ms 0 0 0 0 k) then P.Some (numbers_at ms k) else P.None

-- columns of place k from column c on, set one after another
abbrev pub put_all : List ℕ → ℕ → ℕ → List ℕ → List ℕ
put_all ms k c [] = ms
put_all ms k c (v ∷ vs) = put_all (slice_set ms (cell_of c k) v) k (suc c) vs

-- the nine entries of a place that has the words of an ID and the numbers of a seat
abbrev pub cells_of : ℕ → ℕ → ℕ → ℕ → Seat → List ℕ
cells_of a b c d s = a ∷ b ∷ c ∷ d ∷ s.epoch ∷ s.subscription ∷ s.timeout ∷ s.heard ∷ s.revoked_at ∷ []

-- the nine entries of a place set; past the last place nothing is
unfoldable pub put_at : List ℕ → ℕ → List ℕ → List ℕ
put_at ms k vs = if nat_lt k max_members then put_all ms k 0 vs else ms

-- nobody is at the place any more, and its nine entries are zero
pub record Vacated (ms : List ℕ) (p : ℕ) (ms' : List ℕ) : Type 0 where
  pub cells : ms' ≡ put_at ms p (cells_of 0 0 0 0 no_numbers)
  pub members : view_members ms' ≡ slice_set (view_members ms) p none
