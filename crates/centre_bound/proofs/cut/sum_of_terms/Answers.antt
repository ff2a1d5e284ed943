use Rattle.std.proofs.Common.{pos, refl, arith}
use Rattle.std.proofs.lemmas.Grind.{common_steps}
use Rattle.centre_bound.specs.Terms.{term_at, slope_of}
use Rattle.centre_bound.proofs.SumLemmas.{sum-more}
use Rattle.centre_bound.proofs.Computed.{small-mono, joined_small, small_in_all}
use Rattle.centre_bound.proofs.cut.sum_of_terms.Goals as goal

pub loop-point-init : goal.loop-point-init
loop-point-init c = record {
  at_centre = refl;
  right = refl;
  upper = refl;
  small = record { at_centre = omega arith; right = omega arith; upper = omega arith };
}

pub add_terms-sum-requires-clause-a : goal.add_terms-sum-requires-clause-a
add_terms-sum-requires-clause-a c =
    small_in_all c.args.points.now c.loop-point.point-index c.loop-point.sum c.requires.weight c.loop-point.invariant.small

pub add_terms-sum-requires-clause-b : goal.add_terms-sum-requires-clause-b
add_terms-sum-requires-clause-b c =
    small-mono c.term_of.result c.point-item.result.w (pos 16000000) c.term_of.ensures.weight c.term_of.ensures.small

pub loop-point-preserved : goal.loop-point-preserved
loop-point-preserved c =
    let points = c.args.points.now in
    let i = c.loop-point.point-index in
    let point = c.point-item.result in
    record {
      at_centre = sum-more (term_at c.args.square c.args.centre) points i point _ _ _ c.loop-point-test.true c.point-item.is c.loop-point.invariant.at_centre c.term_of.ensures.at_centre c.add_terms-sum.ensures.at_centre;
      right = sum-more (λ d. (slope_of c.args.square d).x) points i point _ _ _ c.loop-point-test.true c.point-item.is c.loop-point.invariant.right c.term_of.ensures.right c.add_terms-sum.ensures.right;
      upper = sum-more (λ d. (slope_of c.args.square d).y) points i point _ _ _ c.loop-point-test.true c.point-item.is c.loop-point.invariant.upper c.term_of.ensures.upper c.add_terms-sum.ensures.upper;
      small = joined_small points i point c.loop-point.sum c.term_of.result c.add_terms-sum.result c.loop-point-test.true c.point-item.is c.loop-point.invariant.small c.term_of.ensures.small c.add_terms-sum.ensures.at_centre c.add_terms-sum.ensures.right c.add_terms-sum.ensures.upper;
    }

pub returns-clause-at_centre : goal.returns-clause-at_centre
returns-clause-at_centre c = let k = c.loop-point.invariant.at_centre in grind (arith, common_steps)

pub returns-clause-right : goal.returns-clause-right
returns-clause-right c = let k = c.loop-point.invariant.right in grind (arith, common_steps)

pub returns-clause-upper : goal.returns-clause-upper
returns-clause-upper c = let k = c.loop-point.invariant.upper in grind (arith, common_steps)

pub returns-clause-small : goal.returns-clause-small
returns-clause-small c =
    small_in_all c.args.points.now c.loop-point.point-index c.loop-point.sum c.requires.weight c.loop-point.invariant.small
