use Rattle.std.proofs.Common.{◌≡◌, length, sym, ◌∙◌, rules}
use Rattle.rules.specs.Constants.{slot_count}
use Rattle.numbers.proofs.Writing.{filled}
use Rattle.tables.proofs.Viewing.{view_retargeted}
use Rattle.installing.proofs.replace.Goals as goal

pub returns-clause-slots : goal.returns-clause-slots
returns-clause-slots c =
    let t = c.args.tables.now in
    let n : length t.target ≡ slot_count = search rules in
    rw (filled c.put_all.ensures (c.told-target ∙ sym n)) (view_retargeted c.args.target.now t.target t.holder t.waiting (c.told-target ∙ sym n))
