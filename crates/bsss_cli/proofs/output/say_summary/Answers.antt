use Rattle.std.proofs.Common.{◌≡◌, rules}
use Rattle.bsss_cli.specs.Status.{status_of, reported}
use Rattle.bsss_cli.proofs.OutcomeLemmas.{Says-as}
use Rattle.bsss_cli.proofs.output.say_summary.Goals as goal

pub returns : goal.returns
returns g c =
    let reports : c.report.result ≡ reported c.put_summary.result (status_of c.args.head.now.word) = search rules in
    Says-as (status_of c.args.head.now.word) c.put_summary.result reports c.put_summary.ensures
