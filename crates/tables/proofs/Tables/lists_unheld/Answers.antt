use Rattle.std.proofs.Common.{◌∙◌, rules, tests}
use Rattle.std.proofs.lemmas.Iterator.{YieldsList-from_slice}
use Rattle.std.proofs.lemmas.Iterator.Search.{any_from_yields_List}
use Rattle.tables.proofs.Lists.{any_is}
use Rattle.tables.proofs.Telling.{unheld, unheld_told}
use Rattle.tables.proofs.Tables.lists_unheld.Goals as goal

pub returns : goal.returns
returns c =
    let a = c.args in
    let t = a.self.now in
    any_from_yields_List (unheld a.p.0 t.holder) _ _ _ c.any.ensures.ran (YieldsList-from_slice a.list.now cc) (λ x b q k. search (rules, tests))
    ∙ any_is (unheld a.p.0 t.holder) a.list.now ∙ unheld_told a.p.0 t.target t.holder t.waiting (search rules) (search rules) (search rules) a.list.now
