use Rattle.std.proofs.Common.{rules, FitsSigned}
use Rattle.std.specs.Int.{w64}
use Rattle.std.proofs.lemmas.Int.{to_z-of_z}
use Rattle.certificate.proofs.HeadParts.{no_bound, no_word, no_open, no_leases, outcome_read}
use Rattle.certificate.proofs.reader.head.read_outcome.Goals as goal

pub returns-in_err-bound : goal.returns-in_err-bound
returns-in_err-bound g c = no_bound _ _ c.in_err-bound.field-0.0 _ (c.in_err-bound.ensures, c.from_residual.ensures.1)

pub returns-in_err-word : goal.returns-in_err-word
returns-in_err-word g c = no_word _ _ c.in_ok-bound.bound c.in_ok-bound.ensures _ c.in_err-word.field-0.0 _ (c.in_err-word.ensures, c.from_residual-in_err-word.ensures.1)

pub returns-in_err-open_count : goal.returns-in_err-open_count
returns-in_err-open_count g c =
    no_open _ _ c.in_ok-bound.bound c.in_ok-bound.ensures _ c.in_ok-word.word c.in_ok-word.ensures _ c.in_err-open_count.field-0.0 _ (c.in_err-open_count.ensures.reads, c.from_residual-in_err-open_count.ensures.1)

pub returns-in_err-leases : goal.returns-in_err-leases
returns-in_err-leases g c =
    no_leases _ _ c.in_ok-bound.bound c.in_ok-bound.ensures _ c.in_ok-word.word c.in_ok-word.ensures _ c.in_ok-open_count.open_count c.in_ok-open_count.ensures.reads _ c.in_err-leases.field-0.0 _ (c.in_err-leases.ensures.reads, c.from_residual-in_err-leases.ensures.1)

pub returns : goal.returns
returns g c =
    let opened : FitsSigned w64 c.in_ok-open_count.open_count = search rules in
    let leases : FitsSigned w64 c.in_ok-leases.leases = search rules in
    simp to_z-of_z
    (outcome_read _ _ c.in_ok-bound.bound c.in_ok-bound.ensures _ c.in_ok-word.word c.in_ok-word.ensures _ c.in_ok-open_count.open_count c.in_ok-open_count.ensures.reads _ c.in_ok-leases.leases c.in_ok-leases.ensures.reads)
