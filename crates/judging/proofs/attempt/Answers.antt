-- What was copied first is put back last, if the candidate did not write the batch.
use Rattle.std.proofs.Common.{sym, ap, refl, true≢false, ◌∙◌}
use Rattle.tables.specs.declared.Tables.{Tables}
use Rattle.judging.proofs.Candidates.{was_bad, was_good}
use Rattle.judging.proofs.attempt.Goals as goal

pub returns-then-is_batch : goal.returns-then-is_batch
returns-then-is_batch c = record {
  judges =
      λ bytes s fair. was_good _ c.args.group.now _ _ c.args.tick _ s.records c.retime.ensures.0
      (λ still. c.run_candidate-ran.ensures bytes _ s (ap (λ (t : Tables). t.target) (sym c.retime.ensures.2)) still _ fair)
      (sym c.is_batch.ensures ∙ c.if-is_batch.true);
  keeps = λ e. absurd (true≢false e);
}

pub returns : goal.returns
returns c = record {
  judges =
      λ bytes s fair. was_bad _ c.args.group.now _ _ c.args.tick _ s.records c.retime.ensures.0
      (λ still. c.run_candidate-ran.ensures bytes _ s (ap (λ (t : Tables). t.target) (sym c.retime.ensures.2)) still _ fair) _
      (sym c.is_batch.ensures ∙ c.if-is_batch.false);
  keeps = λ e. refl;
}
