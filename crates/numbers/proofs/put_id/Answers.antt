-- `numbers::put_id` meets its contract: the ID takes the place of the first 16 bytes.
use Rattle.std.proofs.Common.{rules, ◌≡◌, length}
use Rattle.rules.specs.Constants.{id_length}
use Rattle.rules.specs.Step.{overlay}
use Rattle.numbers.proofs.put_id.Goals as goal

pub returns : goal.returns
unfolding overlay
returns c = let size : id_length ≡ length c.args.id = search rules in record { count = size; bytes = cc }
