-- A step as a host sees it: the numbers of its answer, the group, and what was written.
use Rattle.std.specs.Prelude.{ℕ, ◌≡◌, List}
use Rattle.rules.specs.Group as G
use Rattle.rules.specs.Answers.{Said, said}
use Rattle.rules.specs.Event.{Event}
use Rattle.rules.specs.Step.{Stepped, step}
use Rattle.group.specs.declared.Group.{Group}
use Rattle.group.specs.View.{view}
use Rattle.events.specs.declared.Outcome.{Outcome}
use Rattle.pankvisolo.specs.declared.Reply.{Reply}

pub record Report : Type 0 where
  pub said : Said
  pub group : G.Group
  pub written : ℕ
  pub buffer : List ℕ
  pub list : List ℕ

-- 01's numbers of a step's answer, and the rest of the step
unfoldable pub report_of : Stepped → Report
report_of s = record { said = said s.answer; group = s.group; written = s.written; buffer = s.buffer; list = s.list }

-- the numbers of a reply
abbrev pub said_by : Reply → Said
said_by r = record { number = r.number; epoch = r.epoch; interval = r.interval; count = r.count; slot = r.slot }

-- a reply has the numbers of an outcome
abbrev pub Tells : Outcome → Reply → Type 0
Tells o r = (said_by r ≡ said o.answer) × (r.written ≡ o.written)

-- what the function handed back, with the group, the buffer and the list as they then are
unfoldable pub replied : Reply → Group → List ℕ → List ℕ → Report
replied r g buffer list = record { said = said_by r; group = view g; written = r.written; buffer = buffer; list = list }

-- a call of the library for an event: what was g, records and list before it is g', records' and list' after it
pub record Serves (event : Event) (g g' : Group) (r : Reply) (records records' list list' : List ℕ) : Type 0 where
  -- the numbers of the reply, the group, every byte and every entry are those of the rules' step
  pub steps : replied r g' records' list' ≡ report_of (step (view g) event records list)
  -- 'Every refusal changes nothing anywhere': where the number is not 0, every byte of the group is as it was
  pub keeps : (r.number ≡ 0 → ⊥) → g' ≡ g
