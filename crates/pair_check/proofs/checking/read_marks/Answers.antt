use Rattle.std.proofs.Common.{◌≡◌, ◌+◌, ◌<◌, ◌^◌, [], ◌∷◌, ◌∙◌, length, refl, ap, arith}
use Rattle.siting_definitions.specs.Square.{Square}
use Rattle.siting_definitions.specs.Sites.{root_of}
use Rattle.siting_definitions.specs.Marks.{tally_of}
use Rattle.siting_definitions.specs.Answer.{Head}
use Rattle.certificate.specs.declared.reader.Item.TheVariants.{End as EndItem, Node as NodeItem}
use Rattle.certificate.specs.ReaderView.{line_of}
use Rattle.answer_model.specs.Tally.{tally_sum}
use Rattle.cert_checker.proofs.StepLemmas.{more-within, none-within}
use Rattle.pair_check.specs.Batches.{tally_with}
use Rattle.pair_check.proofs.BatchLemmas.{halfway_begins, halfway_ends, halfway_fault, halfway_more, halfway_over, halfway_stops, next_line, tally-empty, within-small}
use Rattle.pair_check.proofs.checking.read_marks.Goals as goal

pub loop-init : goal.loop-init
loop-init g c =
    let b = c.begin-batch.result in
    let none : length b.nodes.items ≡ 0 = ap length c.begin-batch.ensures.nodes in
    record {
      same = refl;
      short = omega (arith, none, b.nodes.ok.0);
      line = omega (arith, none, b.nodes.ok.0, c.line.ensures, c.begin-batch.ensures.above);
      fits = omega (arith, none, b.nodes.ok.0, c.line.type_inv, c.begin-batch.ensures.above);
      few = none-within (tally_with b) (tally-empty b (tally_of []) c.begin-batch.ensures.nodes c.begin-batch.ensures.tally);
      read = halfway_begins _ _ _ _ _ _ c.begin-batch.ensures.nodes (c.begin-batch.ensures.walk ∙ ap (λ (s : Square). s ∷ []) (c.root.ensures ∙ ap (λ (h : Head). root_of h.instance) c.head.view_is)) c.begin-batch.ensures.tally;
    }

pub take-requires-clause-line : goal.take-requires-clause-line
take-requires-clause-line g c κs within =
    let read = rw c.in-Ok-Node.field-0-is at c.in-Ok-Node.ensures.read in
    let next : line_of c.next.new.self ≡ line_of c.loop.reader + 1 = next_line _ _ (NodeItem c.in-Ok-Node.mark) read in
    omega (arith, next, c.line-line.ensures, c.loop.invariant.line)

pub take-requires-clause-small : goal.take-requires-clause-small
take-requires-clause-small g c κs within =
    let few : c.loop.counter + 1 < 2 ^ 40 = omega (arith, c.loop-test.true) in
    within-small _ (c.loop.counter + 1) (more-within (tally_with c.loop.batch) (tally_sum (tally_with c.loop.batch) (tally_of (c.in-Ok-Node.mark ∷ []))) c.in-Ok-Node.mark c.loop.counter refl c.loop.invariant.few) few

pub returns-in-Some-clause-reads : goal.returns-in-Some-clause-reads
returns-in-Some-clause-reads g c =
    halfway_fault _ _ _ _ _ _ _ _ _ c.loop.invariant.read (omega (arith, c.loop.invariant.short, c.loop.batch.nodes.ok.0)) (NodeItem c.in-Ok-Node.mark) (rw c.in-Ok-Node.field-0-is at c.in-Ok-Node.ensures.read) _ c.line-line.ensures c.in-Some.fault c.in-Some.ensures.says

pub returns-in-Ok-clause-reads : goal.returns-in-Ok-clause-reads
returns-in-Ok-clause-reads g c =
    halfway_ends _ _ _ _ _ _ _ _ _ c.loop.invariant.read (rw c.in-Ok-End.field-0-is at c.in-Ok-End.ensures.read) _ c.line-in-Ok-End.ensures c.in-Ok.tally c.in-Ok.ensures

pub returns-in-Err-close-clause-reads : goal.returns-in-Err-close-clause-reads
returns-in-Err-close-clause-reads g c =
    halfway_fault _ _ _ _ _ _ _ _ _ c.loop.invariant.read (omega (arith, c.loop.invariant.short, c.loop.batch.nodes.ok.0)) EndItem (rw c.in-Ok-End.field-0-is at c.in-Ok-End.ensures.read) _ c.line-in-Ok-End.ensures c.in-Err-close.fault c.in-Err-close.ensures

pub returns-in-Err-clause-reads : goal.returns-in-Err-clause-reads
returns-in-Err-clause-reads g c =
    halfway_stops _ _ _ _ _ _ _ _ _ c.loop.invariant.read (omega (arith, c.loop.invariant.short, c.loop.batch.nodes.ok.0)) c.in-Err.error c.in-Err.ensures.read c.settle-fault.result c.settle-fault.ensures.fault c.fault_or.result c.fault_or.ensures

-- each turn read a line
pub returns-clause-reads : goal.returns-clause-reads
returns-clause-reads g c = absurd (halfway_over _ _ _ _ _ _ _ _ c.loop.invariant.read (omega (arith, c.loop-test.false)))

pub loop-preserved : goal.loop-preserved
loop-preserved g c =
    let k = c.take.new.self in
    let line : c.line-line.result ≡ k.above + k.nodes.len = c.in_default.ensures.line refl in
    record {
      same = cc;
      short = c.in_default.ensures.few refl;
      line = omega (arith, line, c.line-line.ensures);
      fits = omega (arith, line, c.line-line.type_inv);
      few = more-within _ _ _ _ (c.in_default.ensures.tally refl) c.loop.invariant.few;
      read = halfway_more _ _ _ _ _ _ _ _ _ c.loop.invariant.read c.in-Ok-Node.mark (rw c.in-Ok-Node.field-0-is at c.in-Ok-Node.ensures.read) _ c.line-line.ensures k.above k.nodes.items k.walk k.tally c.in_default.ensures.says (c.in_default.ensures.grows refl);
    }
