use Rattle.std.proofs.Common.{rules, FitsSigned, w64}
use Rattle.std.proofs.lemmas.Int.{to_z-of_z}
use Rattle.port_io.proofs.PutLemmas.{Wrote-finish}
use Rattle.port_io.proofs.tests.write_line.Goals as goal

pub returns : goal.returns
returns g c =
    let fits : FitsSigned w64 c.args.number = c.ranges.number in
    Wrote-finish c.new-out.ensures.stage (simp to_z-of_z at c.in_ok-put_pieces.ensures.put) c.finish.ensures (search rules)
