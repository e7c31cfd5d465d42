-- The timeout is the one there was, or another, if that fits.
use Rattle.judging.proofs.Beating.{gives_cast, gives_own}
use Rattle.judging.proofs.asking.Beat.given_timeout.Goals as goal

pub returns-then-self : goal.returns-then-self
returns-then-self c = gives_own _ _ c.if-self.true

pub returns : goal.returns
returns c = rw c.ok.ensures.value (gives_cast _ _ c.if-self.false _ c.try_from.ensures)
