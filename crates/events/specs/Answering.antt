-- The plain numbers of an answer, as the rules' record of them.
use Rattle.rules.specs.Answers as A
use Rattle.events.specs.declared.answers.Said.{Said}

abbrev pub view_said : Said → A.Said
view_said s = record { number = s.number; epoch = s.epoch; interval = s.interval; count = s.count; slot = s.slot }
