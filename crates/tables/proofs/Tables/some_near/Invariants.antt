-- What was found, or nothing that was passed, is near p.
use Rattle.std.proofs.Common.{◌≡◌, ◌+◌, false}
use Rattle.tables.specs.Places.{NoneNear}
use Rattle.tables.proofs.Tables.some_near.Given as goal

abbrev pub invariant-loop-i : goal.invariant-loop-i
invariant-loop-i l = l.some ≡ false → NoneNear l.p.0 l.self l.from (l.from + l.i)
