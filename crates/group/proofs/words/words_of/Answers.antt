-- The words are those of the bytes, and the first is their sum.
use Rattle.std.proofs.Common.{◌≡◌, ℕ, ◌+◌, ◌%◌, ◌<◌, length, get_or, refl, ap, w8, Fits, rules}
use Rattle.rules.specs.Constants.{id_length}
use Rattle.group.proofs.Spelling.{summed}
use Rattle.group.proofs.words.words_of.Goals as goal

pub returns : goal.returns
returns c =
    let id = c.args.id in
    let n : length id ≡ id_length = search rules in
    let f : (k : ℕ) → k < id_length → get_or id k 0 < 256 = λ k q. let g : Fits w8 (get_or id k 0) = search rules in g.fits in
    summed id n f c.word-b.ensures c.word-c.ensures c.word-d.ensures (ap (λ (w : ℕ). (w + c.word-b.result) % 4294967296) c.word-w.ensures) refl refl
