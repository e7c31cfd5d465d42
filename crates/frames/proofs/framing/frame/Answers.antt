use Rattle.frames.proofs.Entries.{entry_length, framed_empty, framed_is, framed_large, no_room, nothing_stored, room}
use Rattle.std.proofs.Common.{arith}
use Rattle.frames.proofs.framing.frame.Goals as goal

pub returns-then-n-gt-BATCH_LIMIT : goal.returns-then-n-gt-BATCH_LIMIT
returns-then-n-gt-BATCH_LIMIT c = let a = c.args in rw (framed_large a.records.now (omega arith)) (nothing_stored a.journal.now)

pub returns-then-n-eq0 : goal.returns-then-n-eq0
returns-then-n-eq0 c = let a = c.args in rw (framed_empty a.records.now c.if-n-eq0.true) (nothing_stored a.journal.now)

pub returns-then-journal-size : goal.returns-then-journal-size
returns-then-journal-size c =
    let a = c.args in
    rw (framed_is a.records.now (omega arith))
    (no_room _ a.journal.now (omega (arith, entry_length a.records.now (omega arith), c.number_len.ensures.0)))

pub put_entry-requires : goal.put_entry-requires
put_entry-requires c =
    let a = c.args in
    (omega arith, omega arith, omega (arith, entry_length a.records.now (omega arith), c.number_len.ensures.0))

pub returns : goal.returns
returns c =
    let a = c.args in
    let p = c.put_entry in
    rw (framed_is a.records.now (omega arith))
    (room _ a.journal.now (omega (arith, entry_length a.records.now (omega arith), c.number_len.ensures.0)) p.new.buf p.result p.ensures)
