-- Fields of records that are numbers.
use Rattle.std.specs.Prelude.{List, [], ◌∷◌, ℕ}
use Rattle.rules.specs.Basics.{concat_map}
use Rattle.rules.specs.Records.{number}

-- numbers, one after another
unfoldable pub numbers : List ℕ → List ℕ
numbers xs = concat_map number xs

-- the front of record 7, '7: place, set', a set being 'its size' and then its slots
unfoldable pub target_front : ℕ → ℕ → List ℕ
target_front place size = numbers (7 ∷ place ∷ size ∷ [])
