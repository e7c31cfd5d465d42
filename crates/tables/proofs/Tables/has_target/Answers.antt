use Rattle.std.proofs.Common.{◌∙◌, rules}
use Rattle.tables.proofs.Telling.{target_told}
use Rattle.tables.proofs.Tables.has_target.Goals as goal

pub returns : goal.returns
returns c =
    let a = c.args in
    let t = a.self.now in
    c.names.ensures ∙ target_told a.p.0 t.target t.holder t.waiting (search rules) (search rules)
