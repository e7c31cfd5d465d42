use Rattle.std.proofs.Common.{suc, length, drop, ap, Err, ◌∙◌}
use Rattle.std.proofs.lemmas.Result.{err_from_is_err_and}
use Rattle.rules.specs.Group.{Group}
use Rattle.rules.specs.Journal.{heading, read_batches}
use Rattle.recovery.proofs.All.{journal_theorems}
use Rattle.journal.specs.Readings.{reading_as, verdict_as}
use Rattle.journal.proofs.Going.{opened, unheaded}
use Rattle.journal.proofs.read.Goals as goal

pub returns-in_err-read_heading : goal.returns-in_err-read_heading
unfolding reading_as
returns-in_err-read_heading c =
    let a = c.args in
    let p = err_from_is_err_and c.from_residual.result c.from_residual.ensures.1 in (
      (λ i. record { group = c.renew.ensures i; verdict = verdict_as ((p.1 ∙ ap Err p.2) i) })
          ∙ unheaded a.bytes.now a.tick _ c.read_heading.ensures _ c.in_err-read_heading.was,
      journal_theorems,
    )

pub returns : goal.returns
unfolding heading
returns c =
    let a = c.args in
    let rest = drop (length heading) a.bytes.now in (
      c.read_batches.ensures
          ∙ ap (λ (g : Group). read_batches (suc (length rest)) a.tick (length heading) g rest) c.renew.ensures
          ∙ opened a.bytes.now a.tick _ c.read_heading.ensures _ c.in_ok-read_heading.was,
      journal_theorems,
    )
