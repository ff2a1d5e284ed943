use Rattle.std.proofs.Common.{rules, ◌≡◌, true, refl, subst}
use Rattle.convex_region.proofs.TurnLemmas.{AllLeft-more, no_dent, turns_of}
use Rattle.convex_region.proofs.turns.is_convex.Goals as goal

pub loop-i-preserved : goal.loop-i-preserved
loop-i-preserved c = AllLeft-more c.args.vertices.now c.loop-i.i c.loop-i.auto.i c.loop-i.invariant (search rules)

pub returns : goal.returns
returns c = (λ _. no_dent c.args.vertices.now c.loop-i.i c.loop-i-test.false c.loop-i.invariant, λ _. refl)

pub returns-then-not-turns_left : goal.returns-then-not-turns_left
returns-then-not-turns_left c =
    let turns = turns_of c.args.vertices.now c.loop-i.i c.loop-i.auto.i c.loop-i-test.true in
    (λ test. absurd (search rules), λ none. subst (λ b. b ≡ true) c.if-not-turns_left.true (c.turns_left.ensures.1 (turns none)))
