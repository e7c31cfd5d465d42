-- The slots that a walk over a set has still to give.
use Rattle.std.specs.Prelude.{List, ◌++◌, ℕ, ◌+◌, ◌-◌, ◌*◌, ◌%◌}
use Rattle.slots.specs.Set.{select, bit, has, word_count}
use Rattle.slots.specs.declared.walking.Slots.{Slots}

-- the slots that the bits of the word w stand for, if it is word i of a set
abbrev pub slots_in : ℕ → ℕ → List ℕ
slots_in w i = select (λ s. bit w (s % 64)) (i * 64) 64

-- the slots of the set, from those of word i on
abbrev pub slots_from : List ℕ → ℕ → List ℕ
slots_from ws i = select (has ws) (i * 64) ((word_count - i) * 64)

-- those of what is left of a word, and then those of the words after it
unfoldable pub rest : Slots → List ℕ
rest w = slots_in w.left w.word ++ slots_from w.set.words (w.word + 1)
