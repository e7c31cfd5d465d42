use Rattle.pankvisolo.proofs.pankvisolo_next_batch.Goals as goal

pub returns : goal.returns
returns c = record { extent = c.read_extent.result; there = c.read_extent.ensures; told = c.extent.ensures }
