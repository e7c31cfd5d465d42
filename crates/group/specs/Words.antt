-- Four bytes of an ID as a word, the lowest first.
use Rattle.std.specs.Prelude.{ℕ, ◌+◌, ◌*◌, Bool, ◌&&◌, List, ◌==◌, slice_index}

unfoldable pub word_at : ℕ → List ℕ → ℕ
word_at k l = slice_index l k + 256 * slice_index l (k + 1) + 65536 * slice_index l (k + 2) + 16777216 * slice_index l (k + 3)

-- no member has such words: no ID is all zero
abbrev pub all_zero : ℕ → ℕ → ℕ → ℕ → Bool
all_zero a b c d = a == 0 && (b == 0 && (c == 0 && d == 0))
