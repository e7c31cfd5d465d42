use Rattle.std.proofs.Common.{[], ◌∷◌, arith}
use Rattle.rules.specs.Journal.{entry}
use Rattle.numbers.proofs.Writing.{Writing, in_range_lem, part_over, room, to_go₁}
use Rattle.frames.proofs.Entries.{number_fits, at_records, entry_written}
use Rattle.frames.proofs.framing.put_entry.Goals.{After-put_number-at}
use Rattle.frames.proofs.framing.put_entry.Goals as goal

-- the number is written, and the records are to come
written : (c : After-put_number-at) → let a = c.args in Writing (entry a.records.now) a.buf.now c.put_number-at.new.buf c.put_number-at.result (a.records.now ∷ [])
written c = let q = c.requires in at_records c.args.records.now c.args.buf.now q.0 q.2 c.put_number-at.ensures

pub put_number-at-requires : goal.put_number-at-requires
put_number-at-requires c = let q = c.requires in number_fits c.args.records.now c.args.buf.now q.0 q.2

pub slice_bounds-put_all-count : goal.slice_bounds-put_all-count
slice_bounds-put_all-count c = in_range_lem (written (goal.at.slice_bounds-put_all-count c).After-put_number-at)

pub slice_bounds-put_all-start : goal.slice_bounds-put_all-start
slice_bounds-put_all-start c = in_range_lem (written (goal.at.slice_bounds-put_all-start c).After-put_number-at)

pub put_all-requires : goal.put_all-requires
put_all-requires c = room (written (goal.at.put_all-requires c).After-put_number-at)

pub overflow_add-result : goal.overflow_add-result
overflow_add-result c = let s = written (goal.at.overflow_add-result c).After-put_number-at in omega (arith, to_go₁ s, s.fits, c.put_all.ensures.count)

pub returns : goal.returns
returns c =
    let q = c.requires in
    entry_written c.args.records.now c.args.buf.now q.0 q.2 c.put_number-at.ensures (part_over _ _ _ _ _ c.put_all.ensures)
