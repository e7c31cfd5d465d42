use Rattle.records.proofs.Joining.{wrote_byte}
use Rattle.records.proofs.U8Encode.put.Goals as goal

pub returns : goal.returns
returns c = wrote_byte c.args.self c.args.buf.now c.requires
