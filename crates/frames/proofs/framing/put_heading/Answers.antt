use Rattle.rules.specs.Journal.{heading}
use Rattle.frames.proofs.Entries.{no_room, room}
use Rattle.frames.proofs.framing.put_heading.Goals as goal

pub returns-then-journal-lt-HEADING_LENGTH : goal.returns-then-journal-lt-HEADING_LENGTH
unfolding heading
returns-then-journal-lt-HEADING_LENGTH c = no_room heading _ c.if-journal-lt-HEADING_LENGTH.true

pub returns : goal.returns
unfolding heading
returns c = room heading _ c.if-journal-lt-HEADING_LENGTH.false _ _ c.put_all.ensures
