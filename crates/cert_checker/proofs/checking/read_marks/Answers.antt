use Rattle.std.proofs.Common.{[], ◌∷◌, ◌∙◌, refl, arith, ap}
use Rattle.siting_definitions.specs.Square.{Square}
use Rattle.siting_definitions.specs.Sites.{root_of}
use Rattle.siting_definitions.specs.Answer.{Head}
use Rattle.cert_checker.proofs.StepLemmas.{halfway_begins, halfway_more, halfway_fault, halfway_last_fault, halfway_ends, halfway_fails, halfway_over, more-within, none-within}
use Rattle.cert_checker.proofs.checking.read_marks.Goals as goal

pub loop-init : goal.loop-init
loop-init g c = record {
  same = refl;
  few = none-within c.new-tally.result c.new-tally.ensures;
  read = halfway_begins _ _ _ _ (c.begin-walk.ensures ∙ ap (λ (s : Square). s ∷ []) (c.root.ensures ∙ ap (λ (h : Head). root_of h.instance) c.head.view_is)) c.new-tally.ensures;
}

pub returns-in_err-mark-clause-reads : goal.returns-in_err-mark-clause-reads
returns-in_err-mark-clause-reads g c =
    halfway_fails _ _ _ _ _ _ _ c.in_err-mark.field-0.0 c.loop.invariant.read c.in_err-mark.ensures.read _ c.from_residual.ensures.1

pub returns-in_err-read_mark-in-Node-clause-reads :
    goal.returns-in_err-read_mark-in-Node-clause-reads
returns-in_err-read_mark-in-Node-clause-reads g c =
    halfway_fault _ _ _ _ _ _ _ c.in-Node.mark c.loop.invariant.read (rw c.in-Node.is at c.in_ok-mark.ensures.read) _ c.line.ensures _ c.in_err-read_mark-in-Node.ensures.fault _ c.from_residual-in_err-read_mark-in-Node.ensures.1

pub returns-in_err-read_end-in-End-clause-reads : goal.returns-in_err-read_end-in-End-clause-reads
returns-in_err-read_end-in-End-clause-reads g c =
    halfway_last_fault _ _ _ _ _ _ _ c.loop.invariant.read (rw c.in-End.is at c.in_ok-mark.ensures.read) _ c.line-in-End.ensures _ c.in_err-read_end-in-End.ensures _ c.from_residual-in_err-read_end-in-End.ensures.1

pub returns-in-End-clause-reads : goal.returns-in-End-clause-reads
returns-in-End-clause-reads g c =
    halfway_ends _ _ _ _ _ _ _ c.loop.invariant.read (rw c.in-End.is at c.in_ok-mark.ensures.read) _ c.line-in-End.ensures c.in_ok-read_end-in-End.ensures

-- each turn read a line
pub returns-clause-reads : goal.returns-clause-reads
returns-clause-reads g c = absurd (halfway_over _ _ _ _ _ _ c.loop.invariant.read (omega (arith, c.loop-test.false)))

pub loop-preserved : goal.loop-preserved
loop-preserved g c = record {
  same = cc;
  few = more-within _ _ _ _ c.in_ok-read_mark-in-Node.ensures.tally c.loop.invariant.few;
  read = halfway_more _ _ _ _ _ _ _ c.in-Node.mark c.loop.invariant.read (rw c.in-Node.is at c.in_ok-mark.ensures.read) _ c.line.ensures c.in_ok-read_mark-in-Node.ensures.fault _ _ c.in_ok-read_mark-in-Node.ensures.walk c.in_ok-read_mark-in-Node.ensures.tally;
}
