use Rattle.std.proofs.Common.{sym, ◌∙◌}
use Rattle.rules.specs.Journal.{heading}
use Rattle.frames.proofs.Opening.{opening_right, opening_cut, opening_wrong}
use Rattle.frames.proofs.headings.read_heading.Goals as goal

pub returns-then-starts_with : goal.returns-then-starts_with
unfolding heading
returns-then-starts_with c t more = sym (opening_right t more heading c.args.s.now (sym c.starts_with.ensures.value ∙ c.if-starts_with.true))

pub returns-then-starts_with-2 : goal.returns-then-starts_with-2
unfolding heading
returns-then-starts_with-2 c t more =
    sym (opening_cut t more heading c.args.s.now (sym c.starts_with.ensures.value ∙ c.if-starts_with.false)
    (sym c.starts_with-2.ensures.value ∙ c.if-starts_with-2.true))

pub returns : goal.returns
unfolding heading
returns c t more =
    sym (opening_wrong t more heading c.args.s.now (sym c.starts_with.ensures.value ∙ c.if-starts_with.false)
    (sym c.starts_with-2.ensures.value ∙ c.if-starts_with-2.false))
