use Rattle.std.proofs.Common.{◌≡◌, ◌+◌, ◌∙◌, ◌∷◌, [], length, inl, inr, sym, ap, subst, arith}
use Rattle.std.proofs.lemmas.List.{length-append}
use Rattle.answer_model.specs.Tally.{AreSmall}
use Rattle.certificate.specs.declared.reader.Item.TheVariants.{Node as NodeItem}
use Rattle.pair_check.specs.Batches.{batch_says_with}
use Rattle.pair_check.proofs.BatchLemmas.{line_added, settled, tally-added, tally-empty}
use Rattle.pair_check.proofs.batch.Batch.take.Goals as goal

pub settle-requires-else-add-clause-small : goal.settle-requires-else-add-clause-small
settle-requires-else-add-clause-small g c κs within =
    subst AreSmall (sym (tally-added c.args.self.now c.add.new.self c.in-Some.square c.args.mark c.add.ensures.nodes c.add.ensures.tally)) c.requires.small

pub returns-then-add-clause-says : goal.returns-then-add-clause-says
returns-then-add-clause-says g c =
    let at : c.args.line ≡ c.args.self.now.above + length c.args.self.now.nodes.items + 1 = omega (arith, c.requires.line, c.args.self.now.nodes.ok.0) in
    line_added c.args.head.now c.args.self.now c.add.new.self c.in-Some.square c.args.mark c.args.line (sym c.in-Some.ensures) at c.add.ensures.nodes c.add.ensures.above c.add.ensures.tally c.add.ensures.walk

pub returns-then-add-clause-tally : goal.returns-then-add-clause-tally
returns-then-add-clause-tally g c =
    λ _. tally-added c.args.self.now c.add.new.self c.in-Some.square c.args.mark c.add.ensures.nodes c.add.ensures.tally

pub returns-else-add-clause-says : goal.returns-else-add-clause-says
returns-else-add-clause-says g c =
    let h = c.args.head.now in
    let b = c.add.new.self in
    let k = c.settle-else-add.new.self in
    let at : c.args.line ≡ c.args.self.now.above + length c.args.self.now.nodes.items + 1 = omega (arith, c.requires.line, c.args.self.now.nodes.ok.0) in
    settled h b.above k.above c.args.line b.nodes.items k.nodes.items b.walk k.walk b.tally k.tally (batch_says_with h c.args.self.now (NodeItem c.args.mark)) c.settle-else-add.result
    c.settle-else-add.ensures.fault c.settle-else-add.ensures.tally c.settle-else-add.ensures.empty c.settle-else-add.ensures.walk
    (line_added h c.args.self.now b c.in-Some.square c.args.mark c.args.line (sym c.in-Some.ensures) at c.add.ensures.nodes c.add.ensures.above c.add.ensures.tally c.add.ensures.walk)

pub returns-else-add-clause-tally : goal.returns-else-add-clause-tally
returns-else-add-clause-tally g c =
    λ none.
    tally-empty c.settle-else-add.new.self _ (c.settle-else-add.ensures.empty none) (c.settle-else-add.ensures.tally none)
    ∙ tally-added c.args.self.now c.add.new.self c.in-Some.square c.args.mark c.add.ensures.nodes c.add.ensures.tally

pub returns-then-add-clause-grows : goal.returns-then-add-clause-grows
returns-then-add-clause-grows g c =
    λ _. inl (ap length c.add.ensures.nodes ∙ length-append c.args.self.now.nodes.items (record { square = c.in-Some.square; mark = c.args.mark } ∷ []))

pub returns-else-add-clause-grows : goal.returns-else-add-clause-grows
returns-else-add-clause-grows g c = λ none. inr (c.settle-else-add.ensures.empty none)
