-- Byte by byte.
use Rattle.std.proofs.Common.{eqb, ◌∙◌, rules, tests}
use Rattle.std.proofs.lemmas.Iterator.{YieldsList-from_slice}
use Rattle.std.proofs.lemmas.Iterator.Search.{all_from_yields_List}
use Rattle.rules.specs.Refusals.{zero_id}
use Rattle.group.proofs.Bytes.{all_is}
use Rattle.group.proofs.ids.is_zero.Goals as goal

pub returns : goal.returns
unfolding zero_id
returns c =
    all_from_yields_List (λ b. eqb b 0) _ _ _ c.all.ensures.ran (YieldsList-from_slice c.args.id cc) (λ x b q k. search (rules, tests))
    ∙ all_is (λ b. eqb b 0) c.args.id
