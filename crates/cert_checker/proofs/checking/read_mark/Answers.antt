use Rattle.cert_checker.proofs.FaultLemmas.{can_step}
use Rattle.cert_checker.proofs.checking.read_mark.Goals as goal

pub step-requires : goal.step-requires
step-requires c =
    rw c.is_split.ensures.value (can_step c.args.head.now c.args.walk.now c.in-Some.square c.args.mark c.args.line (cc) (cc))
