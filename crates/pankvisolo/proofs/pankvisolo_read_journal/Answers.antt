use Rattle.std.proofs.Common.{ap, length, ◌∙◌}
use Rattle.rules.specs.Journal.{Reading}
use Rattle.journal.specs.Readings.{reading_as}
use Rattle.pankvisolo.specs.Recovery.{good_end, verdict_number}
use Rattle.pankvisolo.proofs.Continuing.{library_continues}
use Rattle.pankvisolo.proofs.pankvisolo_read_journal.Goals as goal

pub returns : goal.returns
unfolding reading_as
returns c =
    let read = c.read.ensures in
    let told = c.reading.ensures in
    let bytes = c.args.bytes.now in (
      record {
        group = ap (λ (r : Reading). r.group) read.0;
        verdict = told.0 ∙ ap (λ (r : Reading). verdict_number r.verdict) read.0;
        end = told.1 ∙ ap (λ (r : Reading). good_end r.verdict (length bytes)) read.0;
      },
      read.1,
      library_continues,
    )
