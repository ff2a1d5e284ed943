use Rattle.std.proofs.Common.{refl}
use Rattle.port_io.proofs.PutLemmas.{PutOn-then, PutOn-stop}
use Rattle.bsss_cli.proofs.output.write_counts.Goals as goal

pub returns-in_err-write_count : goal.returns-in_err-write_count
returns-in_err-write_count g c =
    PutOn-stop _ refl c.from_residual.ensures.0 c.in_err-write_count.ensures

pub returns-in_err-write_count-2 : goal.returns-in_err-write_count-2
returns-in_err-write_count-2 g c =
    PutOn-then c.in_ok-write_count.ensures
    (PutOn-stop _ refl c.from_residual-in_err-write_count-2.ensures.0
    c.in_err-write_count-2.ensures)

pub returns : goal.returns
returns g c =
    PutOn-then c.in_ok-write_count.ensures
    (PutOn-then c.in_ok-write_count-2.ensures c.put.ensures)
