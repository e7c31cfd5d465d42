use Rattle.std.proofs.Common.{rules, ◌≡◌, length}
use Rattle.rules.specs.Constants.{slot_count}
use Rattle.tables.proofs.Viewing.{view_fresh}
use Rattle.tables.proofs.Tables.clear.Goals as goal

pub returns : goal.returns
returns c =
    let t = c.args.self.now in
    let n : length t.target ≡ slot_count = search rules in
    let h : length t.holder ≡ slot_count = search rules in
    let w : length t.waiting ≡ slot_count = search rules in
    rw (c.fill.ensures.after (λ y e. e), c.fill-2.ensures.after (λ y e. e), c.fill-3.ensures.after (λ y e. e), n, h, w) view_fresh
