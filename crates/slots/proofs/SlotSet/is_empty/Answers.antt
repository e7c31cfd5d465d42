-- The set has no slot where each word is zero.
use Rattle.std.proofs.Common.{◌≡◌, length, get_or, Fits, w64, rules}
use Rattle.slots.proofs.Next.{tells_empty}
use Rattle.slots.specs.Set.{word_count}
use Rattle.slots.proofs.SlotSet.is_empty.Goals as goal

pub returns : goal.returns
returns c =
    let ws = c.args.self.words in
    let n : length ws ≡ word_count = search rules in
    tells_empty ws n (λ k. let f : Fits w64 (get_or ws k 0) = search rules in f.fits) c.eq.result c.eq.ensures
