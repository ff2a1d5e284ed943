use Rattle.certificate.proofs.HeadParts.{no_limits, no_best, no_outcome, no_root, lines_read}
use Rattle.certificate.proofs.reader.head.read_lines_after.Goals as goal

pub returns-in_err-limits : goal.returns-in_err-limits
returns-in_err-limits g c = no_limits c.args.instance _ _ c.in_err-limits.field-0.0 _ (c.in_err-limits.ensures, c.from_residual.ensures.1)

pub returns-in_err-priced : goal.returns-in_err-priced
returns-in_err-priced g c = no_best c.args.instance _ _ c.in_ok-limits.limits c.in_ok-limits.ensures _ c.in_err-priced.field-0.0 _ (c.in_err-priced.ensures, c.from_residual-in_err-priced.ensures.1)

pub returns-in_err-outcome : goal.returns-in_err-outcome
returns-in_err-outcome g c =
    no_outcome c.args.instance _ _ c.in_ok-limits.limits c.in_ok-limits.ensures _ c.in_ok-priced.priced c.in_ok-priced.ensures _ c.in_err-outcome.field-0.0 _ (c.in_err-outcome.ensures, c.from_residual-in_err-outcome.ensures.1)

pub returns-in_err-read_root : goal.returns-in_err-read_root
returns-in_err-read_root g c =
    no_root c.args.instance _ _ c.in_ok-limits.limits c.in_ok-limits.ensures _ c.in_ok-priced.priced c.in_ok-priced.ensures _ c.in_ok-outcome.outcome c.in_ok-outcome.ensures _ c.in_err-read_root.field-0.0 _
    (rw c.root.ensures at c.in_err-read_root.ensures, c.from_residual-in_err-read_root.ensures.1)

pub returns : goal.returns
returns g c =
    rw c.head_of.ensures
    (lines_read c.args.instance _ _ c.in_ok-limits.limits c.in_ok-limits.ensures _ c.in_ok-priced.priced c.in_ok-priced.ensures _ c.in_ok-outcome.outcome c.in_ok-outcome.ensures _ c.in_ok-read_root.field-0
    (rw c.root.ensures at c.in_ok-read_root.ensures))
