use Rattle.bsss_cli.proofs.commands.solve.job_of.Goals as goal

pub gap_of-gap-requires-clause-opening : goal.gap_of-gap-requires-clause-opening
gap_of-gap-requires-clause-opening c = rw c.copy_of.ensures c.opening-start.ensures.small
