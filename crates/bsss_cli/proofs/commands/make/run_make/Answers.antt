use Rattle.std.proofs.Common.{◌≡◌, refl, ap, rules}
use Rattle.siting_definitions.specs.InstanceText.{instance_text}
use Rattle.siting_definitions.specs.Instance.{Instance}
use Rattle.case_maker.specs.Made.{made}
use Rattle.bsss_cli.specs.Make.{make}
use Rattle.bsss_cli.proofs.OutcomeLemmas.{Ended-says, Ended-no_memory}
use Rattle.bsss_cli.proofs.commands.make.run_make.Goals as goal

pub returns-in-Ok : goal.returns-in-Ok
returns-in-Ok g c told =
    let is : c.in-Ok.instance ≡ made c.args.seed c.args.points = search rules in
    Ended-says (make c.args.seed c.args.points) told refl (refl, ap (λ (i : Instance). instance_text i) is) c.say_made.ensures

pub returns-in-Err : goal.returns-in-Err
returns-in-Err g c told = Ended-no_memory _ (make c.args.seed c.args.points) told _ refl
