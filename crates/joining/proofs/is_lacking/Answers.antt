-- What is lacking is told by what was given, field by field. The timeout is handed on as it came.
use Rattle.std.proofs.Common.{ap, ◌∙◌, rules, w32, SFits, to_z-of_z}
use Rattle.rules.specs.Refusals.{lacking, no_timeout}
use Rattle.events.specs.Outcomes.{request_of}
use Rattle.joining.proofs.JoinRows.{lacks}
use Rattle.joining.proofs.is_lacking.Goals as goal

pub returns : goal.returns
unfolding lacking request_of
returns c =
    let f : SFits w32 c.args.b.timeout = search rules in
    rw (c.has_no_timeout.ensures ∙ ap no_timeout (to_z-of_z f), c.is_empty.ensures) (lacks c.args.b.has_subscription c.args.b.subscription (no_timeout c.args.b.timeout) c.args.b.has_list c.args.owned.now)
