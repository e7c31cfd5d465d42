-- At each entry, what was found is whether some entry that was passed is p.
use Rattle.std.proofs.Common.{◌≡◌, ℕ, Bool, ◌||◌, List, eqb, refl, sym, ap, ◌∙◌, rules, tests}
use Rattle.std.proofs.iter.Yields.{fronts}
use Rattle.std.proofs.lemmas.Fn.{fold_over, slice_gives}
use Rattle.std.proofs.lemmas.List.Recursion.{or_push}
use Rattle.rules.specs.Basics.{any}
use Rattle.tables.specs.Places.{is_place}
use Rattle.tables.proofs.testing.names.Goals as goal

pub returns : goal.returns
returns c =
    let p = c.args.p.0 in
    fold_over fronts (λ y. y.now) _ (λ (seen : List ℕ) (found : Bool). found ≡ any (is_place p) seen) _ (λ seen found e after f' q k.
    let by_call : after ≡ (found || eqb e.now p) = search (rules, tests) in
    (by_call ∙ ap (λ (b : Bool). b || eqb e.now p) q ∙ sym (or_push (any (is_place p)) (is_place p) refl (λ _ _. refl) seen e.now), search (rules, tests)))
    c.iter.result _ _ _ (slice_gives c.iter.result) refl c.fold.ensures.ran ∙ ap (any (is_place p)) c.iter.ensures.rest
