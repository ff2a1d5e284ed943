use Rattle.std.proofs.Common.{ap, ◌∙◌}
use Rattle.cert_checker.specs.Checking.{checking}
use Rattle.cert_checker.proofs.ValidLemmas.{valid-accepted}
use Rattle.search_answer.specs.Ending.{answer_of}
use Rattle.bsss_cli.proofs.commands.trial.check_answer.Goals as goal

pub check_accepted-requires : goal.check_accepted-requires
check_accepted-requires c =
    ap checking c.in-Ok.ensures
    ∙ valid-accepted (answer_of c.args.head.now c.args.nodes.now) c.requires
