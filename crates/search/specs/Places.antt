-- IDs as four words, in four columns that lie one after another and have an entry for each place.
use Rattle.std.specs.Prelude.{ℕ, ◌+◌, ◌-◌, ◌*◌, ◌/◌, ◌%◌, ◌≤◌, ◌<◌, ◌≡◌, Bool, true, false, Option, None, Some, ◌&&◌, List, [], ◌∷◌, eqb, get_or}
use Rattle.rules.specs.Constants.{max_members}
use Rattle.slots.specs.Set.{bit}

-- with the columns of what else a member has
abbrev pub column_count : ℕ
column_count = 9

abbrev pub cell_count : ℕ
cell_count = column_count * max_members

-- the words of the ID at place k are a, b, c and d
unfoldable pub matches : List ℕ → ℕ → ℕ → ℕ → ℕ → ℕ → Bool
matches ids a b c d k = eqb (get_or ids k 0) a && (eqb (get_or ids (k + max_members) 0) b && (eqb (get_or ids (k + 2 * max_members) 0) c && eqb (get_or ids (k + 3 * max_members) 0) d))

-- r is the first place that matches, and the place after the last where none does
pub record First (f : ℕ → Bool) (r : ℕ) : Type 0 where
  pub most : r ≤ max_members
  pub before : (k : ℕ) → k < r → f k ≡ false
  pub there : r < max_members → f r ≡ true

-- the same, as the answer of a search
abbrev pub FirstPlace : (ℕ → Bool) → Option ℕ → Type 0
FirstPlace f None = First f max_members
FirstPlace f (Some k) = (k < max_members) × First f k

-- how many places are tried at a time
abbrev pub step : ℕ
step = 16

-- r is the first place that matches, of the step that begins at `from`
abbrev pub FirstIn : (ℕ → Bool) → ℕ → Option ℕ → Type 0
FirstIn f from None = (k : ℕ) → from ≤ k → k < from + step → f k ≡ false
FirstIn f from (Some r) = (from ≤ r) × (r < from + step) × ((k : ℕ) → from ≤ k → k < r → f k ≡ false) × (f r ≡ true)

-- ---- places in words of 64 bits

-- so many words, and so many places in each
abbrev pub place_words : ℕ
place_words = (max_members + 63) / 64

abbrev pub word_places : ℕ
word_places = max_members / place_words

-- the ones of a word are those of its places, from `from` on, that pass
pub record Marks (f : ℕ → Bool) (from word : ℕ) : Type 0 where
  pub here : (i : ℕ) → i < word_places → bit word i ≡ f (from + i)
  pub past : (i : ℕ) → word_places ≤ i → bit word i ≡ false

-- ---- an ID of sixteen bytes as four words: the first column has the sum of the words, which stands for the first of them

abbrev pub word_bytes : ℕ → List ℕ → List ℕ
word_bytes w l = w % 256 ∷ w / 256 % 256 ∷ w / 256 / 256 % 256 ∷ w / 256 / 256 / 256 ∷ l

unfoldable pub first_word : ℕ → ℕ → ℕ → ℕ → ℕ
first_word m b c d = (m + 12884901888 - (b + c + d)) % 4294967296

unfoldable pub id_of : ℕ → ℕ → ℕ → ℕ → List ℕ
id_of m b c d = word_bytes (first_word m b c d) (word_bytes b (word_bytes c (word_bytes d [])))
