use Rattle.std.proofs.Common.{◌∙◌, rules}
use Rattle.tables.proofs.Telling.{holder_told}
use Rattle.tables.proofs.Tables.is_holder.Goals as goal

pub returns : goal.returns
returns c =
    let a = c.args in
    let t = a.self.now in
    c.names.ensures ∙ holder_told a.p.0 t.target t.holder t.waiting (search rules) (search rules)
