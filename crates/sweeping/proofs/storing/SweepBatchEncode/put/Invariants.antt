-- What is stored of the entries from the index on is to come (`Writing`), and then the epoch.
use Rattle.std.proofs.Common.{[], ◌∷◌, drop}
use Rattle.rules.specs.Records.{all_bytes}
use Rattle.numbers.proofs.Writing.{Writing}
use Rattle.sweeping.specs.Leavers.{sweep_batch}
use Rattle.sweeping.proofs.Leaving.{bytes_in, epoch_in}
use Rattle.sweeping.proofs.storing.SweepBatchEncode.put.Given as goal

abbrev pub invariant-loop-leaver : goal.invariant-loop-leaver
invariant-loop-leaver l =
    let going = l.fn.self.going in
    let epoch = l.fn.self.epoch in
    Writing (all_bytes (sweep_batch going epoch)) l.initial.buf l.buf l.at (bytes_in (drop l.leaver-index going) ∷ epoch_in epoch ∷ [])
