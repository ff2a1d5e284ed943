use Rattle.std.proofs.Common.{sym, ◌∙◌}
use Rattle.cover_check.proofs.VerdictLemmas.{tells_triangle}
use Rattle.cover_check.proofs.checking.check.Goals as goal

pub returns-in-Some : goal.returns-in-Some
returns-in-Some c =
    tells_triangle c.args.cover.now c.in-Some.fault
    (c.in_ok-edges_cancel.ensures.0 c.if-not-branch.false)
    (sym c.in_ok-fault.ensures ∙ c.in-Some.is)
