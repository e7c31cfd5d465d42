-- The lowest one of the first word that has any is the lowest free place (`lowest_free_lem`).
use Rattle.std.proofs.Common.{◌≡◌, ◌+◌, ◌*◌, subst, arith, w64, Fits, rules}
use Rattle.search.specs.Places.{word_places, matches}
use Rattle.search.proofs.Freeing.{none_free, lowest_free_lem}
use Rattle.search.proofs.Placing.{NoneBelow}
use Rattle.search.proofs.free.find.Goals as goal

pub returns-then-word-ne0 : goal.returns-then-word-ne0
returns-then-word-ne0 c =
    let l = c.loop-part in
    let w = c.free_places-word.result in
    let f : Fits w64 w = search rules in
    lowest_free_lem _ (l.part * word_places) w c.free_places-word.ensures l.invariant f.fits (omega (arith, c.if-word-ne0.true)) (omega arith)

pub loop-part-preserved : goal.loop-part-preserved
loop-part-preserved c =
    let l = c.loop-part in
    let from = l.part * word_places in
    let n : from + word_places ≡ (l.part + 1) * word_places = omega arith in
    subst (NoneBelow (matches c.args.ids.now 0 0 0 0)) n (none_free _ from _ c.free_places-word.ensures l.invariant (search rules))
