-- Sets of slots. A set is kept as words of 64 bits: slot s is bit s % 64 of word s / 64.
use Rattle.std.specs.Prelude.{◌≡◌, Bool, true, false, List, ℕ, ◌/◌, ◌%◌, ◌^◌, eqb, get_or}
use Rattle.rules.specs.Basics.{keep, up_to}
use Rattle.rules.specs.Constants.{slot_count}

-- a set has so many words
abbrev pub word_count : ℕ
word_count = 16

-- bit i of the word w
abbrev pub bit : ℕ → ℕ → Bool
bit w i = eqb (w / 2 ^ i % 2) 1

-- slot s is in the set
abbrev pub has : List ℕ → ℕ → Bool
has ws s = bit (get_or ws (s / 64) 0) (s % 64)

-- those of the n numbers from b on that f picks, in rising order
abbrev pub select : (ℕ → Bool) → ℕ → ℕ → List ℕ
select f b n = keep f (up_to b n)

-- the slots of the set, in rising order
unfoldable pub slots_of : List ℕ → List ℕ
slots_of ws = select (has ws) 0 slot_count

-- r tells whether the set has no slot
abbrev pub TellsEmpty : List ℕ → Bool → Type 0
TellsEmpty ws r = (r ≡ true → (s : ℕ) → has ws s ≡ false) × (r ≡ false → (s : ℕ) × (has ws s ≡ true))

-- r tells whether each slot of a is in b
abbrev pub TellsSubset : List ℕ → List ℕ → Bool → Type 0
TellsSubset a b r =
    (r ≡ true → (s : ℕ) → has a s ≡ true → has b s ≡ true) × (r ≡ false → (s : ℕ) × (has a s ≡ true) × (has b s ≡ false))
