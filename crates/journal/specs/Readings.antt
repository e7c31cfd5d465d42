-- What the reader of a journal is promised to give.
use Rattle.std.specs.Prelude.{Result, Ok, Err}
use Rattle.rules.specs.Journal as J
use Rattle.group.specs.declared.Group.{Group}
use Rattle.group.specs.View.{view}
use Rattle.frames.specs.declared.Damage.{Damage}
use Rattle.frames.specs.declared.Damage.TheVariants as Told

abbrev pub verdict_as : Result (Unit {0}) Damage → J.Verdict
verdict_as (Ok whole) = J.whole
verdict_as (Err (Told.RefusedAt n)) = J.refused_at n
verdict_as (Err (Told.TornFrom n)) = J.torn_from n

-- a verdict, and the group that was left
unfoldable pub reading_as : Result (Unit {0}) Damage → Group → J.Reading
reading_as v g = record { group = view g; verdict = verdict_as v }
