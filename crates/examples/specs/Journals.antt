-- Request 1 of 02 by computation: the journal of 01's worked example, written and read back.
use Rattle.std.specs.Prelude.{◌≡◌, refl, [], ◌∷◌}
use Rattle.rules.specs.Journal.{whole}
use Rattle.examples.specs.Rows.{aa, bb, group, in_a, worker}
use Rattle.examples.specs.WorkedExample.{cases}
use Rattle.examples.specs.Recovering.{file, journal_of, reads, tick}

-- what is stored of P1 to P12
pub written : journal_of cases ≡ file
unfolding journal_of cases
written = refl

-- the group after P11, but 'every last-heard tick, the tick P was set and the last tick become the tick of reading'
pub morning : reads file
    ≡ record { group = group 2 2 tick (worker aa 2 tick tick ∷ worker bb 2 tick tick ∷ []) (in_a 0 0 ∷ in_a 0 0 ∷ in_a 1 1 ∷ []); verdict = whole }
unfolding reads
morning = refl
