use Rattle.std.proofs.Common.{◌≡◌, None, Some, refl, rules}
use Rattle.command_line.specs.declared.command.Command.TheVariants.{Make, Trial}
use Rattle.bsss_cli.specs.Make.{make}
use Rattle.bsss_cli.specs.Trial.{trial}
use Rattle.bsss_cli.proofs.OutcomeLemmas.{Ran-refusal, Ran-unread}
use Rattle.bsss_cli.proofs.top_call.run_command.Goals as goal

pub returns-in-None : goal.returns-in-None
returns-in-None g c =
    let command : c.args.command ≡ None = search rules in
    rw command (Ran-refusal _ refl c.say.ensures)

pub returns-in-Some-Trial : goal.returns-in-Some-Trial
returns-in-Some-Trial g c =
    let t = c.in-Some-Trial in
    let command : c.args.command ≡ Some (Trial t.seed t.points t.settings) = search rules in
    rw command (Ran-unread (trial t.seed t.points t.settings) _ refl (c.run_trial.ensures _))

pub returns-in-Some-Make : goal.returns-in-Some-Make
returns-in-Some-Make g c =
    let command : c.args.command ≡ Some (Make c.in-Some-Make.seed c.in-Some-Make.points) = search rules in
    rw command (Ran-unread (make c.in-Some-Make.seed c.in-Some-Make.points) _ refl (c.run_make.ensures _))
