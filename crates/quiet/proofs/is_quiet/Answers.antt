-- Where all three tests are passed (`Matching`).
use Rattle.std.proofs.Common.{length, sym, ◌∙◌, eqb-true}
use Rattle.tables.proofs.Viewing.{slots_length}
use Rattle.quiet.proofs.Matching.{quiet}
use Rattle.quiet.proofs.is_quiet.Goals as goal

pub returns-then-all_settled-clause-quiet : goal.returns-then-all_settled-clause-quiet
returns-then-all_settled-clause-quiet c e =
    quiet c.args.tables.now c.args.p.0 c.count.ensures.whole _ (sym c.is_slot_set.ensures ∙ c.if-not-is_slot_set.false)
    (c.all_settled.ensures c.if-all_settled.true) (sym c.count.ensures.counts ∙ eqb-true c.count.result (length c.args.list.now) e)

pub returns-then-all_settled-clause-whole : goal.returns-then-all_settled-clause-whole
returns-then-all_settled-clause-whole c e = slots_length c.args.tables.now c.count.ensures.whole
