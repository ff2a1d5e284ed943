use Rattle.std.proofs.Common.{refl}
use Rattle.port_io.proofs.PutLemmas.{PutOn-then, PutOn-stop}
use Rattle.bsss_cli.proofs.TrialLemmas.{summary-parts}
use Rattle.bsss_cli.proofs.output.write_summary.Goals as goal

pub returns-in_err-write_trial : goal.returns-in_err-write_trial
returns-in_err-write_trial g c =
    rw (summary-parts c.args.seed c.args.points c.args.head.now c.args.nodes, ← c.head.view_is)
    (PutOn-stop _ refl c.from_residual.ensures.0 c.in_err-write_trial.ensures)

pub returns-in_err-write_best : goal.returns-in_err-write_best
returns-in_err-write_best g c =
    rw (summary-parts c.args.seed c.args.points c.args.head.now c.args.nodes, ← c.head.view_is)
    (PutOn-then c.in_ok-write_trial.ensures
    (PutOn-stop _ refl c.from_residual-in_err-write_best.ensures.0 c.in_err-write_best.ensures))

pub returns-in_err-write_bound : goal.returns-in_err-write_bound
returns-in_err-write_bound g c =
    rw (summary-parts c.args.seed c.args.points c.args.head.now c.args.nodes, ← c.head.view_is)
    (PutOn-then c.in_ok-write_trial.ensures
    (PutOn-then c.in_ok-write_best.ensures
    (PutOn-stop _ refl c.from_residual-in_err-write_bound.ensures.0 c.in_err-write_bound.ensures)))

pub returns : goal.returns
returns g c =
    rw (summary-parts c.args.seed c.args.points c.args.head.now c.args.nodes, ← c.head.view_is)
    (PutOn-then c.in_ok-write_trial.ensures
    (PutOn-then c.in_ok-write_best.ensures
    (PutOn-then c.in_ok-write_bound.ensures c.write_counts.ensures)))
