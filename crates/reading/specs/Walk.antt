-- The records of a batch, one after another.
use Rattle.std.specs.Prelude.{ℕ, ◌≤◌, ◌<◌, ◌≡◌, List, length, drop, Option, None, Some}
use Rattle.std.proofs.Math.Option.{none, some}
use Rattle.reading.specs.Fitting.{read_fitting}
use Rattle.reading.specs.Views.{view_record}
use Rattle.reading.specs.declared.Record.{Record}
use Rattle.reading.specs.declared.batch.Records.{Records}

-- the bytes that a walk has still to read
abbrev pub rest : Records → List ℕ
rest w = drop w.at w.bytes.now

-- a walk gives the first record of the rest, and goes on after it; or nothing, where the rest begins with none; or is over, where there is no rest
abbrev pub YieldsRecord : Records → Option (Option Record) → Records → Type 0
YieldsRecord w None w' = length w.bytes.now ≤ w.at
YieldsRecord w (Some None) w' = (w.at < length w.bytes.now) × (read_fitting (rest w) ≡ none)
YieldsRecord w (Some (Some r)) w' = (w.at < length w.bytes.now) × (read_fitting (rest w) ≡ some (view_record r, rest w'))
