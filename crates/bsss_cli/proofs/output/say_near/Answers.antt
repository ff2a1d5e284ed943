use Rattle.std.proofs.Common.{FitsSigned, w64}
use Rattle.std.proofs.lemmas.Int.{to_z-of_z}
use Rattle.bsss_cli.proofs.OutcomeLemmas.{Says-as}
use Rattle.bsss_cli.proofs.output.say_near.Goals as goal

pub returns : goal.returns
returns g c =
    let fits : FitsSigned w64 c.args.cost = c.ranges.cost in
    let wrote = simp to_z-of_z at c.put_near.ensures in
    Says-as _ c.put_near.result c.report.ensures wrote
