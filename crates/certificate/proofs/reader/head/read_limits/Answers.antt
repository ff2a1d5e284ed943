use Rattle.std.proofs.Common.{rules, FitsSigned}
use Rattle.std.specs.Int.{w64}
use Rattle.std.proofs.lemmas.Int.{to_z-of_z}
use Rattle.certificate.proofs.HeadParts.{no_gap, no_budget, no_pool, limits_read}
use Rattle.certificate.proofs.reader.head.read_limits.Goals as goal

pub returns-in_err-gap : goal.returns-in_err-gap
returns-in_err-gap g c = no_gap _ _ c.in_err-gap.field-0.0 _ (c.in_err-gap.ensures.reads, c.from_residual.ensures.1)

pub returns-in_err-budget : goal.returns-in_err-budget
returns-in_err-budget g c = no_budget _ _ _ c.in_ok-gap.gap c.in_err-budget.field-0.0 _ c.in_ok-gap.ensures.reads (c.in_err-budget.ensures.reads, c.from_residual-in_err-budget.ensures.1)

pub returns-in_err-pool : goal.returns-in_err-pool
returns-in_err-pool g c =
    no_pool _ _ _ _ c.in_ok-gap.gap c.in_ok-budget.budget c.in_err-pool.field-0.0 _ c.in_ok-gap.ensures.reads c.in_ok-budget.ensures.reads (c.in_err-pool.ensures.reads, c.from_residual-in_err-pool.ensures.1)

pub returns : goal.returns
returns g c =
    let gap : FitsSigned w64 c.in_ok-gap.gap = search rules in
    let budget : FitsSigned w64 c.in_ok-budget.budget = search rules in
    let pool : FitsSigned w64 c.in_ok-pool.pool = search rules in
    simp to_z-of_z (limits_read _ _ _ _ c.in_ok-gap.gap c.in_ok-budget.budget c.in_ok-pool.pool c.in_ok-gap.ensures.reads c.in_ok-budget.ensures.reads c.in_ok-pool.ensures.reads)
